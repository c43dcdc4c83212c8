-- The inputs of a switch before slot 0 ask for nothing.
use Rattle.std.proofs.Common.{◌≡◌, ◌∙◌, ℕ, suc, ◌<◌, Bool, true, false, List, [], ◌∷◌, map, length, replicate, Some, refl, sym, ap, arith}
use Rattle.std.specs.Prelude.{slice_get}
use Rattle.rotating_pick.specs.declared.limits.TheConstants.{LEVELS}
use Rattle.rotating_pick.proofs.Bits.{zero-no_members}
use Rattle.slot_match.specs.Rows.{empty_row}
use Rattle.slot_match.specs.Parts.{set_of}
use Rattle.slot_match.proofs.Sets.{Has-set_of}
use Rattle.voq_banks.specs.Queues.{queue_at as uni_at}
use Rattle.multicast_queue.specs.FanQueues.{queue_at as fan_at}
use Rattle.card_core.specs.Plans.{OfLevel}
use Rattle.card_core.specs.StateSteps.{has_names}
use Rattle.card_core.proofs.Remaining.{remaining-nothing}
use Rattle.descriptor_runs.specs.InputSteps.{InputValue, HasServed, row_in}

module _ (input : InputValue) (new : HasServed input [] false) where
  unis_none : (l : ℕ) → l < LEVELS → set_of input.banks.ports (λ j. has_names (uni_at input.banks j l)) ≡ 0
  unis_none l below =
      let test : ℕ → Bool = λ j. has_names (uni_at input.banks j l) in
      let queues = new.queues in
      zero-no_members (set_of input.banks.ports test) (λ j has.
      let named = (Has-set_of input.banks.ports test j).0 has in
      let ports = queues.ports in
      let inside = named.0 in
      let none = ap has_names (queues.unis j l (omega arith) below) in
      let both : true ≡ false = sym named.1 ∙ none in
      absurd (cc))

  rests_none : (l : ℕ) → l < LEVELS → (fan_at input.fans l).rest ≡ 0
  rests_none l below = new.queues.rests l below ∙ zero-no_members _ (λ j has. remaining-nothing (OfLevel l) [] j has)

  pub new-row : row_in input ≡ empty_row
  new-row =
      let best = unis_none 0 (omega arith) in
      let second = unis_none 1 (omega arith) in
      let third = unis_none 2 (omega arith) in
      let worst = unis_none 3 (omega arith) in
      let rest = rests_none 0 (omega arith) in
      let rest_second = rests_none 1 (omega arith) in
      let rest_third = rests_none 2 (omega arith) in
      let rest_worst = rests_none 3 (omega arith) in
      λ x. record {
        uni = best x ∷ second x ∷ third x ∷ worst x ∷ [];
        multi = rest x ∷ rest_second x ∷ rest_third x ∷ rest_worst x ∷ [];
      }

-- the rows of them all
pub new-rows : (inputs : List InputValue) → ((i : ℕ) (input : InputValue) → slice_get inputs i ≡ Some input → HasServed input [] false)
    → replicate (length inputs) empty_row ≡ map row_in inputs
new-rows [] each = refl
new-rows (input ∷ inputs) each =
    ap (λ rows. empty_row ∷ rows) (new-rows inputs (λ i x at. each (suc i) x at))
    ∙ ap (λ row. row ∷ map row_in inputs) (sym (new-row input (each 0 input refl)))
