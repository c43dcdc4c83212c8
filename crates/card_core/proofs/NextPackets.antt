-- Which packet of a plan is next, whether it arrives in a slot, and whether more arrive later.
use Rattle.std.proofs.Common.{◌≡◌, ◌≢◌, ◌∙◌, ℕ, zero, suc, ◌+◌, ◌<◌, ◌≤◌, ◌==◌, nat_lt, Bool, false, List, [], ◌∷◌, length, Option, Some, None}
use Rattle.std.proofs.Common.{slice_get, get_or, refl, sym, ap, arith, inl, inr, if◌then◌else◌}
use Rattle.std.specs.List.{list_any}
use Rattle.std.proofs.lemmas.Bool.{cases_eq, cases_lt, eq-eqb, ne_eqb, lt-ltb, le-ltb}
use Rattle.std.proofs.lemmas.Option.{same_Some, slice_get-get_or, slice_get_within}
use Rattle.std.proofs.lemmas.Map.Keys.{any_passes_from_place}
use Rattle.card_core.specs.declared.plan.Planned.{Planned}
use Rattle.card_core.specs.Plans.{Plan, IsGoodPlan, arriving, arriving_from, no_packet}
use Rattle.card_core.specs.States.{IsNext}
use Rattle.card_core.specs.StateSteps.{next_in, arriving_if}

-- ---- a packet that was looked at
-- one that was found is the one that was looked at, and arrives in the slot
found-if : (slot : ℕ) (seen packet : Planned) → (if seen.arrival == slot then Some seen else None) ≡ Some packet → (seen ≡ packet) × (seen.arrival ≡ slot)
found-if slot seen packet is = elim (cases_eq seen.arrival slot) [
  | inl now ↦ let found = rw (eq-eqb seen.arrival slot now) at is in (same_Some seen packet found, now)
  | inr other ↦ let none = rw (ne_eqb seen.arrival slot other) at is in absurd (cc)
]

found-in : (slot : ℕ) (there : Option Planned) (packet : Planned) → arriving_if slot there ≡ Some packet → (there ≡ Some packet) × (packet.arrival ≡ slot)
found-in slot None packet is = absurd (cc)
found-in slot (Some seen) packet is =
    let (same, now) = found-if slot seen packet is in
    (ap Some same, ap (λ (one : Planned). one.arrival) (sym same) ∙ now)

-- where none was found, the one that is there arrives in another slot
none-in : (slot : ℕ) (there : Option Planned) (packet : Planned) → arriving_if slot there ≡ None → there ≡ Some packet → packet.arrival ≢ slot
none-in slot None packet is at now = absurd (cc)
none-in slot (Some seen) packet is at now =
    let here : seen.arrival ≡ slot = ap (λ (one : Planned). one.arrival) (same_Some seen packet at) ∙ now in
    let found = rw (eq-eqb seen.arrival slot here) at is in
    absurd (cc)

-- ---- among all packets
-- the first of some packets that arrives in slot t is the one that is found there
arriving-found : (first : ℕ) (packets : List Planned) (place t : ℕ) (packet : Planned) → slice_get packets place ≡ Some packet → packet.arrival ≡ t
    → ((other : ℕ) (earlier : Planned) → slice_get packets other ≡ Some earlier → other < place → earlier.arrival ≢ t)
    → arriving_from first packets t ≡ Some (first + place, packet)
arriving-found first [] place t packet there now before = absurd (cc)
arriving-found first (head ∷ packets) zero t packet there now before =
    let same = same_Some head packet there in
    let at : head.arrival ≡ t = ap (λ (one : Planned). one.arrival) same ∙ now in
    let number : first ≡ first + 0 = omega arith in
    rw (eq-eqb head.arrival t at, same) (ap (λ n. Some (n, packet)) number)
arriving-found first (head ∷ packets) (suc place) t packet there now before =
    let differs = before 0 head refl (omega arith) in
    let further = arriving-found (first + 1) packets place t packet there now (λ other earlier at less. before (suc other) earlier at (omega arith)) in
    let number : first + 1 + place ≡ first + suc place = omega arith in
    rw (ne_eqb head.arrival t differs) (further ∙ ap (λ n. Some (n, packet)) number)

-- where none of them arrives in slot t, none is found
arriving-none : (first : ℕ) (packets : List Planned) (t : ℕ) → ((place : ℕ) (packet : Planned) → slice_get packets place ≡ Some packet → packet.arrival ≢ t)
    → arriving_from first packets t ≡ None
arriving-none first [] t never = refl
arriving-none first (head ∷ packets) t never =
    rw (ne_eqb head.arrival t (never 0 head refl)) (arriving-none (first + 1) packets t (λ place packet at. never (suc place) packet at))

module _ (plan : Plan) (good : IsGoodPlan plan) (t next : ℕ) (is : IsNext plan.packets t next) where
  -- where the next one comes later, so do those behind it
  later_on : ((packet : Planned) → slice_get plan.packets next ≡ Some packet → packet.arrival ≢ t)
      → (place : ℕ) (packet : Planned) → slice_get plan.packets place ≡ Some packet → next ≤ place → t + 1 ≤ packet.arrival
  later_on first place packet there behind = elim (cases_eq place next) [
    | inl same ↦
        let other = first packet (sym (ap (slice_get plan.packets) same) ∙ there) in
        let low = is.after place packet there behind in
        omega arith
    | inr further ↦
        let inside = slice_get_within plan.packets place packet there in
        let at = slice_get-get_or plan.packets next packet (omega arith) in
        let up = good.rising next place (get_or plan.packets next packet) packet at there (omega arith) in
        let low = is.after next (get_or plan.packets next packet) at (omega arith) in
        omega arith
  ]

  -- none arrives in slot t, and the next one stays next
  pub next-none : next_in plan.packets next t ≡ None → IsNext plan.packets (t + 1) next × (arriving plan t ≡ None)
  next-none none =
      let later = later_on (λ packet there. none-in t (slice_get plan.packets next) packet none there) in (
        record { within = is.within; before = λ place packet there less. omega (arith, is.before place packet there less); after = later },
        arriving-none 0 plan.packets t (λ place packet there now. elim (cases_lt place next) [
          | inl less ↦ omega (arith, is.before place packet there less)
          | inr behind ↦ omega (arith, later place packet there behind)
        ]),
      )

  -- the packet that was found is the next one, and arrives in slot t
  pub next-there : (packet : Planned) → next_in plan.packets next t ≡ Some packet → (slice_get plan.packets next ≡ Some packet) × (packet.arrival ≡ t)
  next-there packet one = found-in t (slice_get plan.packets next) packet one

  -- it is the packet of slot t, and the one behind it is the next one then
  pub next-one : (packet : Planned) → next_in plan.packets next t ≡ Some packet
      → IsNext plan.packets (t + 1) (next + 1) × (arriving plan t ≡ Some (next, packet))
  next-one packet one =
      let (there, now) = next-there packet one in
      let number : 0 + next ≡ next = omega arith in (
        record {
          within = omega (arith, slice_get_within plan.packets next packet there);
          before = λ place earlier at less. elim (cases_eq place next) [
            | inl same ↦
                let mine = ap (λ (it : Planned). it.arrival) (same_Some earlier packet (sym at ∙ ap (slice_get plan.packets) same ∙ there)) in
                omega arith
            | inr other ↦ omega (arith, is.before place earlier at (omega arith))
          ];
          after = λ place later at behind. let up = good.rising next place packet later there at (omega arith) in omega arith;
        },
        arriving-found 0 plan.packets next t packet there now
            (λ place earlier at less same. let low = is.before place earlier at less in absurd (omega arith))
            ∙ ap (λ n. Some (n, packet)) number,
      )

-- ---- whether more arrive

-- where each fails, none passes
any_none : (test : Planned → Bool) (packets : List Planned) → ((place : ℕ) (packet : Planned) → slice_get packets place ≡ Some packet → test packet ≡ false)
    → list_any test packets ≡ false
any_none test [] never = refl
any_none test (head ∷ packets) never = rw (never 0 head refl) (any_none test packets (λ place packet there. never (suc place) packet there))

-- a packet arrives after slot t exactly where one is next after it
pub more_is : (packets : List Planned) (t next : ℕ) → IsNext packets (t + 1) next
    → nat_lt next (length packets) ≡ list_any (λ packet. nat_lt t packet.arrival) packets
more_is packets t next is = elim (cases_lt next (length packets)) [
  | inl less ↦
      let packet = get_or packets next no_packet in
      let there = slice_get-get_or packets next no_packet less in
      let late = is.after next packet there (omega arith) in
      let found = any_passes_from_place (λ one. nat_lt t one.arrival) packets next packet there (lt-ltb t packet.arrival (omega arith)) in
      lt-ltb next (length packets) less ∙ sym found
  | inr above ↦
      let none = any_none (λ one. nat_lt t one.arrival) packets (λ place packet there.
      let early = is.before place packet there (omega (arith, slice_get_within packets place packet there)) in
      le-ltb t packet.arrival (omega arith)) in
      le-ltb next (length packets) above ∙ sym none
]
