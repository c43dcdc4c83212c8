-- Slots of a schedule, each of which asks for the pair of the slot where so much has left: what has left before each of them.
use Rattle.std.proofs.Common.{◌≡◌, ℕ, zero, suc, ◌+◌, ◌%◌, ◌<◌, ◌≤◌, ◌∙◌, ◌++◌, List, [], ◌∷◌, Some, All, length, refl, sym, ap, subst, inl, inr, arith}
use Rattle.std.proofs.Common.{take, drop}
use Rattle.std.specs.Prelude.{slice_get}
use Rattle.std.specs.List.{sum_by}
use Rattle.std.proofs.lemmas.List.{take_more}
use Rattle.std.proofs.lemmas.List.Sums.{sum_by-append, sum_by-cons}
use Rattle.std.proofs.lemmas.Option.{slice_get_within, get_or_from_slice_get, same_Some}
use Rattle.std.proofs.Math.Nat.{mod-eq_of_lt}
use Rattle.std_lemmas.proofs.Lists.{at_place}
use Rattle.slot_match.specs.Rows.{AreWithin}
use Rattle.slot_match.specs.Matches.{fed_of}
use Rattle.pointer_state.specs.Places.{Places, ArePointing}
use Rattle.eslip_rounds.specs.Slots.{Moving, IsSlotBy}
use Rattle.eslip_rounds.specs.Schedules.{DecidedSlot, IsScheduleBy}
use Rattle.service_bound.specs.Windows.{places_after}
use Rattle.scheduler_laws.specs.FedSlots.{taken_by, gone}
use Rattle.scheduler_laws.specs.Growth.{cycle}
use Rattle.scheduler_laws.proofs.GrowingTurns.{input_at, output_at, leaving, leaves_pair}
use Rattle.scheduler_laws.proofs.OneSlot.{AskFor, MovePairs, one_leaves, none_leaves}
use Rattle.scheduler_laws.proofs.Pointers.{AreTurned, pair, pointed, turned_after}
use Rattle.scheduler_laws.proofs.Queues.{has_left, left_next}

-- the slots from slot k on are a schedule from the pointers after those before it
schedule_from : (Moves : Moving) (n rounds k t : ℕ) (places : Places) (slots : List DecidedSlot) → IsScheduleBy Moves n rounds t places slots
    → IsScheduleBy Moves n rounds (t + k) (places_after places (take k slots)) (drop k slots)
schedule_from Moves n rounds zero t places slots schedule =
    let now : t ≡ t + 0 = omega arith in subst (λ u. IsScheduleBy Moves n rounds u places slots) now schedule
schedule_from Moves n rounds (suc k) t places [] schedule = tt
schedule_from Moves n rounds (suc k) t places (slot ∷ slots) schedule =
    let now : t + 1 + k ≡ t + suc k = omega arith in
    subst (λ u. IsScheduleBy Moves n rounds u (places_after slot.decision.places (take k slots)) (drop k slots)) now
    (schedule_from Moves n rounds k (t + 1) slot.decision.places slots schedule.1)

-- of which slot k is the first
drop_from : (slots : List DecidedSlot) (k : ℕ) (slot : DecidedSlot) → slice_get slots k ≡ Some slot → drop k slots ≡ slot ∷ drop (suc k) slots
drop_from [] k slot there = absurd (let none = slice_get_within [] k slot there in omega arith)
drop_from (first ∷ slots) zero slot there = ap (λ x. x ∷ slots) (same_Some first slot there)
drop_from (first ∷ slots) (suc k) slot there = drop_from slots k slot there

-- the pointers after a last slot are those that it left
places_last : (slots : List DecidedSlot) (places : Places) (slot : DecidedSlot) → places_after places (slots ++ slot ∷ []) ≡ slot.decision.places
places_last [] places slot = refl
places_last (first ∷ slots) places slot = places_last slots first.decision.places slot

-- the first slots and one more
take_next : (slots : List DecidedSlot) (k : ℕ) (slot : DecidedSlot) → slice_get slots k ≡ Some slot → take (k + 1) slots ≡ take k slots ++ slot ∷ []
take_next slots k slot there =
    take_more slots k slot (slice_get_within slots k slot there) ∙ ap (λ x. take k slots ++ x ∷ []) (get_or_from_slice_get slots k slot slot there)

gone_next : (slots : List DecidedSlot) (k i j : ℕ) (slot : DecidedSlot) → slice_get slots k ≡ Some slot
    → gone slots i j (k + 1) ≡ gone slots i j k + taken_by i (fed_of slot.decision.matched j)
gone_next slots k i j slot there =
    let taken : DecidedSlot → ℕ = λ x. taken_by i (fed_of x.decision.matched j) in
    let one = sum_by-cons taken slot [] in
    ap (sum_by taken) (take_next slots k slot there) ∙ (sum_by-append taken (take k slots) (slot ∷ [])
    ∙ ap (λ x. sum_by taken (take k slots) + x) (one ∙ omega arith))

-- Before slot k the pointers are where they are to be, and what has left each queue is what was to leave.
pub record AreGoing (n : ℕ) (places : Places) (slots : List DecidedSlot) (k : ℕ) : Type 0 where
  pub turned : AreTurned n (k % cycle n) (places_after places (take k slots))
  pub left : (i j : ℕ) → i < n → j < n → gone slots i j k ≡ has_left n i j k

-- the pair of slot k asks, beside queue (0, 0)
abbrev pub AskInTurn : ℕ → ℕ → DecidedSlot → Type 0
AskInTurn n k slot = AskFor n (input_at n (k % cycle n)) (output_at n (k % cycle n)) slot.rows

-- it does so in each slot before which all is where it is to be
abbrev pub KeepAsking : ℕ → Places → List DecidedSlot → Type 0
KeepAsking n places slots = (k : ℕ) (slot : DecidedSlot) → slice_get slots k ≡ Some slot → AreGoing n places slots k → AskInTurn n k slot

module _ (Moves : Moving) (pairs : MovePairs Moves) (n rounds : ℕ) (places : Places) (slots : List DecidedSlot) (more : 1 < n)
    (pointing : ArePointing n 0 places) (some : 0 < rounds) (schedule : IsScheduleBy Moves n rounds 0 places slots)
    (within : All (λ slot. AreWithin n slot.rows) slots) where
  going_first : AreGoing n places slots 0
  going_first =
      let now : 0 ≡ 0 % cycle n = sym (mod-eq_of_lt (omega arith)) in
      let turned : AreTurned n 0 places = record { pointing = pointing; low = λ one below. absurd (omega arith); high = λ above. absurd (omega arith) } in
      record { turned = subst (λ s. AreTurned n s places) now turned; left = λ i j i_in j_in. refl }

  module _ (k : ℕ) (slot : DecidedSlot) (there : slice_get slots k ≡ Some slot) (going : AreGoing n places slots k) (asks : AskInTurn n k slot) where
    abbrev before_it : Places
    before_it = places_after places (take k slots)

    here : IsSlotBy Moves n rounds k slot.rows (places_after places (take k slots)) slot.decision
    here =
        let now : 0 + k ≡ k = omega arith in
        let from = subst (IsScheduleBy Moves n rounds (0 + k) before_it) (drop_from slots k slot there)
        (schedule_from Moves n rounds k 0 places slots schedule) in
        subst (λ u. IsSlotBy Moves n rounds u slot.rows before_it slot.decision) now from.0

    inside : AreWithin n slot.rows
    inside =
        subst (λ x. AreWithin n x.rows) (get_or_from_slice_get slots k slot slot there) (within k slot (slice_get_within slots k slot there))

    taken : (i j : ℕ) → i < n → j < n → taken_by i (fed_of slot.decision.matched j) ≡ leaving n i j k
    taken i j i_in j_in =
        let a : ℕ = input_at n (k % cycle n) in
        let b : ℕ = output_at n (k % cycle n) in
        let at = pointed Moves pairs n rounds k before_it slot more some going.turned inside asks here in
        elim (leaves_pair n k a b i j i_in j_in (pair Moves pairs n rounds k before_it slot more some going.turned inside asks here)) [
          | inl it ↦
              ap (λ x. taken_by x (fed_of slot.decision.matched j)) it.0
              ∙ (ap (λ y. taken_by a (fed_of slot.decision.matched y)) it.1
              ∙ (one_leaves Moves pairs n rounds k a b before_it slot some at inside asks here ∙ sym it.2))
          | inr off ↦ none_leaves Moves pairs n rounds k a b before_it slot some at inside asks here i j i_in off.0 ∙ sym off.1
        ]

    going_next : AreGoing n places slots (k + 1)
    going_next =
        let after : places_after places (take (k + 1) slots) ≡ slot.decision.places =
        ap (places_after places) (take_next slots k slot there) ∙ places_last (take k slots) places slot in
        let turned = turned_after Moves pairs n rounds k before_it slot more some going.turned inside asks here in
        record {
          turned = subst (AreTurned n ((k + 1) % cycle n)) (sym after) turned;
          left = λ i j i_in j_in.
              let before = going.left i j i_in j_in in
              let now = taken i j i_in j_in in
              let next = gone_next slots k i j slot there in
              let whole = left_next n i j k in
              omega arith;
        }

  -- so it is before every slot, and after the last
  pub going_on : KeepAsking n places slots → (k : ℕ) → k ≤ length slots → AreGoing n places slots k
  going_on asking zero long = going_first
  going_on asking (suc k) long =
      let before = going_on asking k (omega arith) in
      let (slot, there) = at_place slots k (omega arith) in
      let next : k + 1 ≡ suc k = omega arith in
      subst (AreGoing n places slots) next (going_next k slot there before (asking k slot there before))
