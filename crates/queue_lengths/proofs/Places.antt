-- The places of the queues of an input: one for each, none twice.
use Rattle.std.proofs.Common.{◌≡◌, ℕ, ◌^◌, ◌<◌, ◌==◌, Bool, true, false, refl, sym, ap, subst, arith, if◌then◌else◌}
use Rattle.std.proofs.lemmas.Bool.{eqb-true}
use Rattle.std.proofs.lemmas.Nat.Bits.{bit_at-pow_same}
use Rattle.rotating_pick.specs.PortSets.{Has, HasSeveral}
use Rattle.rotating_pick.specs.declared.limits.TheConstants.{LEVELS, MAX_PORTS}
use Rattle.rotating_pick.proofs.Bits.{Has-lt}
use Rattle.card_core.specs.declared.plan.Planned.{Planned}
use Rattle.card_core.specs.Plans.{Queue, OfOutput, OfLevel, IsPlanned, queue_for, queue_of, last_port, no_packet}
use Rattle.card_core.proofs.Arriving.{queue-unicast, queue-multicast}
use Rattle.queue_lengths.specs.Lengths.{IsQueue, place_of, count_of}

pub place-inside : (ports : ℕ) (q : Queue) → IsQueue ports q → place_of ports q < count_of ports
place-inside ports (OfOutput j level) is = let inside = is.0 in let below = is.1 in omega arith
place-inside ports (OfLevel level) is = omega arith

pub place-same : (ports : ℕ) (q r : Queue) → IsQueue ports q → IsQueue ports r → place_of ports q ≡ place_of ports r → q ≡ r
place-same ports (OfOutput j l) (OfOutput k m) is other same =
    let a = is.1 in
    let b = other.1 in
    let output : j ≡ k = omega arith in
    let level : l ≡ m = omega arith in
    cc
place-same ports (OfOutput j l) (OfLevel m) is other same = let inside = is.0 in let below = is.1 in absurd (omega arith)
place-same ports (OfLevel l) (OfOutput k m) is other same = let inside = other.0 in let below = other.1 in absurd (omega arith)
place-same ports (OfLevel l) (OfLevel m) is other same = let level : l ≡ m = omega arith in ap OfLevel level

-- ---- the queue of a packet is one of the switch
queue_if : (ports j level : ℕ) (b : Bool) → (b ≡ true → j < ports) → level < LEVELS → IsQueue ports (if b then OfOutput j level else OfLevel level)
queue_if ports j level true inside below = (inside refl, below)
queue_if ports j level false inside below = below

pub IsQueue-packet : (ports bytes : ℕ) (p : Planned) → IsPlanned ports bytes p → IsQueue ports (queue_of p)
IsQueue-packet ports bytes p planned =
    let port = last_port MAX_PORTS p.fan in
    queue_if ports port p.level (p.fan == 2 ^ port)
    (λ one.
    let is : p.fan ≡ 2 ^ port = eqb-true p.fan (2 ^ port) one in
    Has-lt ports p.fan port planned.fan (subst (λ fan. Has fan port) (sym is) (bit_at-pow_same port)))
    planned.level

-- ---- the place of a packet's queue
fanned : ℕ → ℕ → Planned
fanned fan level = record no_packet { fan = fan; level = level }

pub queue_unicast : (fan level j : ℕ) → fan ≡ 2 ^ j → j < 64 → queue_for fan level ≡ OfOutput j level
unfolding fanned
queue_unicast fan level j is inside = queue-unicast (fanned fan level) j is inside

pub queue_multicast : (fan level : ℕ) → HasSeveral fan → queue_for fan level ≡ OfLevel level
unfolding fanned
queue_multicast fan level several = queue-multicast (fanned fan level) several

-- ---- lengths by their places
