-- With the greatest depth nothing is dropped: all packets of a plan have no more cells.
use Rattle.std.proofs.Common.{◌≡◌, ◌∙◌, ℕ, zero, suc, ◌+◌, ◌<◌, ◌≤◌, ◌&&◌, not, nat_lt, ◌==◌, Bool, true, false, List, [], ◌∷◌, length, Option, Some}
use Rattle.std.proofs.Common.{slice_get, slice_index_or, sym, ap, refl, arith, inl, inr, if◌then◌else◌, length-append}
use Rattle.std.specs.Prelude.{count_ones, sum_by}
use Rattle.std.proofs.lemmas.Bool.{cases_lt, le-ltb, eq-eqb}
use Rattle.std.proofs.lemmas.List.{get_or-map, length-map}
use Rattle.std.proofs.lemmas.List.Sums.{sum_by-cons, sum_by-le-sum_by, get_or-le-sum_by}
use Rattle.std.proofs.lemmas.Nat.{zero_from_ones}
use Rattle.std.proofs.lemmas.Option.{same_Some}
use Rattle.std.proofs.Math.Nat.{mul-le-mul_left}
use Rattle.voq_banks.specs.declared.limits.TheConstants.{MAX_DEPTH}
use Rattle.slot_match.specs.declared.matching.Served.{Served}
use Rattle.voq_banks.specs.CellQueues.{cells_with_fan}
use Rattle.card_core.specs.declared.plan.Planned.{Planned}
use Rattle.card_core.specs.Plans.{Plan as CardPlan, Queue, IsGoodPlan, is_queue, queue_of, size_of, arriving}
use Rattle.card_core.specs.Queues.{before, is_routed, is_admitted, enters, cells_admitted}
use Rattle.card_core.proofs.Admitting.{entered-is}
use Rattle.card_core.proofs.Passing.{arriving-there}
use Rattle.eslip_rounds.specs.Schedulers.{Scheduler}
use Rattle.switch_plan.specs.Totals.{most_for, work_of, total_work}
use Rattle.switch_plan.specs.GoodPlans.{SwitchPlan, IsGood, IsBurst, packets_in}
use Rattle.run_laws.specs.Runs.{ports_of, card_at, no_plan, parts_under}
use Rattle.run_laws.proofs.Base.{good-card}
use Rattle.queue_measures.specs.Sizing.{DropsNothing}
use Rattle.queue_lengths.proofs.Lengths.{cells_count}
use Rattle.queue_measures.proofs.Rooms.{HasRooms}
use Rattle.queue_measures.proofs.SameCards.{drops_none}

-- ---- the work of a packet
-- a packet that goes anywhere brings each of its cells to an output
pub routed_work : (p : Planned) → is_routed p ≡ true → size_of p ≤ work_of p
routed_work p routed = elim (cases_lt 0 (count_ones p.fan)) [
  | inl some ↦ let more = mul-le-mul_left (size_of p) some in omega (arith, more)
  | inr none ↦
      let nowhere : p.fan ≡ 0 = zero_from_ones p.fan (omega arith) in
      let zero' : p.fan == 0 ≡ true = eq-eqb p.fan 0 nowhere in
      let goes : not (p.fan == 0) ≡ true = routed in
      let wrong : not true ≡ true = rw zero' at goes in
      absurd (cc)
]

some_if : (early routed mine fit : Bool) (size work : ℕ) → (routed ≡ true → size ≤ work) → (if early && (routed && mine && fit) then size else 0) ≤ work
some_if true true true true size work few = few refl
some_if true true true false size work few = omega arith
some_if true true false fit size work few = omega arith
some_if true false mine fit size work few = omega arith
some_if false routed mine fit size work few = omega arith

late_none : (early enters : Bool) (size : ℕ) → early ≡ false → ◌≡◌ {A = ℕ} (if early && enters then size else 0) 0
late_none true enters size late = absurd (cc)
late_none false enters size late = refl

-- one of the terms has room for more, so the sum has
sum_with_room : {A : Type 0} (f g : A → ℕ) (more k : ℕ) (xs : List A) (x : A) → slice_get xs k ≡ Some x
    → ((y : A) → f y ≤ g y) → f x + more ≤ g x → sum_by f xs + more ≤ sum_by g xs
sum_with_room f g more k [] x there few room = absurd (cc)
sum_with_room f g more zero (y ∷ xs) x there few room =
    let is : y ≡ x = same_Some y x there in
    let f_is : f y ≡ f x = ap f is in
    let g_is : g y ≡ g x = ap g is in
    let rest = sum_by-le-sum_by f g xs few in
    omega (arith, sum_by-cons f y xs, sum_by-cons g y xs, rest, room, f_is, g_is)
sum_with_room f g more (suc k) (y ∷ xs) x there few room =
    let rest = sum_with_room f g more k xs x there few room in
    let first = few y in
    omega (arith, sum_by-cons f y xs, sum_by-cons g y xs, rest, first)

-- ---- of a card
module _ (plan : CardPlan) (served : List (Option Served)) (t : ℕ) where
  -- the cells of a packet that arrives before slot t and enters the queue
  abbrev entered_of : Queue → Planned → ℕ
  entered_of q packet = if nat_lt packet.arrival t && enters plan q served packet then size_of packet else 0

  count_if : (b : Bool) (k size fan : ℕ) → length (if b then cells_with_fan k size fan else []) ≡ (if b then size else 0)
  count_if true k size fan = cells_count k size fan
  count_if false k size fan = refl

  entered_count : (q : Queue) (k : ℕ) (packets : List Planned) → length (cells_admitted plan q served t k packets) ≡ sum_by (entered_of q) packets
  entered_count q k [] = refl
  entered_count q k (p ∷ packets) =
      let test = nat_lt p.arrival t && enters plan q served p in
      let here = if test then cells_with_fan k (size_of p) p.fan else [] in
      length-append here (cells_admitted plan q served t (k + 1) packets)
      ∙ ap (λ n. n + length (cells_admitted plan q served t (k + 1) packets)) (count_if test k (size_of p) p.fan)
      ∙ ap (λ n. entered_of q p + n) (entered_count q (k + 1) packets)
      ∙ sym (sum_by-cons (entered_of q) p packets)

  entered_few : (q : Queue) (p : Planned) → entered_of q p ≤ work_of p
  entered_few q p =
      some_if (nat_lt p.arrival t) (is_routed p) (is_queue q (queue_of p)) (is_admitted plan served p.arrival p) (size_of p) (work_of p) (routed_work p)

  -- what entered a queue before a slot, with the packet that arrives in it, is no more than all packets bring
  pub room_by_work : IsGoodPlan plan → (k : ℕ) (p : Planned) (q : Queue) → arriving plan t ≡ Some (k, p) → is_routed p ≡ true
      → length (before plan q served t).entered + size_of p ≤ sum_by work_of plan.packets
  room_by_work good k p q arrives routed =
      let found = arriving-there 0 plan.packets t k p arrives in
      let now : p.arrival ≡ t = found.3 in
      let own = routed_work p routed in
      let none : entered_of q p ≡ 0 = late_none (nat_lt p.arrival t) (enters plan q served p) (size_of p) (le-ltb p.arrival t (omega arith)) in
      let sum = sum_with_room (entered_of q) work_of (size_of p) found.0 plan.packets p found.2 (entered_few q) (omega (arith, own, none)) in
      let count = ap length (entered-is plan q served good t) ∙ entered_count q 0 plan.packets in
      omega (arith, sum, count)

-- ---- of a plan
most_all : (n : ℕ) → most_for n ≤ MAX_DEPTH
most_all n = by (nat_lt 32 n)
  where
    by : (b : Bool) → (if b then 65536 else 131072) ≤ MAX_DEPTH
    by true = omega arith
    by false = omega arith

pub card_work : (plan : SwitchPlan) (i : ℕ) → i < ports_of plan → sum_by work_of (card_at plan i).packets ≤ total_work (packets_in plan)
card_work plan i inside =
    let packets : slice_index_or (packets_in plan) i [] ≡ (card_at plan i).packets =
    get_or-map (λ (card : CardPlan). card.packets) plan.cards i no_plan [] inside in
    let count : i < length (packets_in plan) = omega (arith, inside, length-map plan.cards (λ (card : CardPlan). card.packets)) in
    let part = get_or-le-sum_by (sum_by work_of) (packets_in plan) i [] count in
    let same = ap (sum_by work_of) packets in
    omega (arith, part, same)

-- with room for the cells of all packets in each queue nothing is dropped
pub DropsNothing-room : (scheduler : Scheduler) (plan : SwitchPlan) (slots : ℕ) → IsGood plan → total_work (packets_in plan) ≤ plan.depth
    → DropsNothing scheduler plan slots
DropsNothing-room scheduler plan slots good enough i inside =
    let card = card_at plan i in
    let parts = parts_under scheduler plan i slots in
    let is = good-card plan good i inside in
    let depth = is.depth in
    let rooms : HasRooms card.depth card parts slots = record {
      room = λ t k p below arrives routed.
          let room = room_by_work card parts t is.good k p (queue_of p) arrives routed in
          let few = card_work plan i inside in
          omega (arith, room, few, depth, enough);
    } in
    drops_none card card.depth parts slots rooms rooms

-- so it is with the greatest depth where the plan is of a burst
pub DropsNothing-greatest : (scheduler : Scheduler) (plan : SwitchPlan) (slots : ℕ) → IsGood plan → IsBurst plan → plan.depth ≡ MAX_DEPTH
    → DropsNothing scheduler plan slots
DropsNothing-greatest scheduler plan slots good burst greatest =
    let cells = burst.cells in
    let most = most_all (length plan.cards) in
    DropsNothing-room scheduler plan slots good (omega (arith, cells, most, greatest))
