-- Pointers that iSLIP has moved, of which the refused ones are then held, are moved as by FIRM.
use Rattle.std.proofs.Common.{◌≡◌, ℕ, ◌∙◌, List, Option}
use Rattle.slot_match.specs.declared.rows.Row.{Row}
use Rattle.slot_match.specs.declared.matching.Fed.{Fed}
use Rattle.pointer_state.specs.Places.{Places, AreAtPorts}
use Rattle.eslip_rounds.proofs.FirstRounds.{AreAccepted, served_unrefused}
use Rattle.firm_rounds.specs.Slots.{AreMovedByFirm}
use Rattle.firm_rounds.specs.SlotSteps.{AreMovedThenHeld}

module _ (n t : ℕ) (rows : List Row) (before : Places) (at_ports : AreAtPorts before) (ports : before.ports ≡ n) (first_match matched : List (Option Fed)) where
  -- the two steps give what the rules say: an output that the first round matched was refused by nobody
  pub AreMovedByFirm-steps : AreAccepted n t rows before first_match → (after : Places) → AreMovedThenHeld n t rows first_match matched before after
      → AreMovedByFirm n t rows first_match matched before after
  AreMovedByFirm-steps accepted after steps =
      let first = steps.as_first in
      let held = steps.held in
      record {
        ports = held.ports ∙ first.ports;
        granted = λ i j level served.
            held.stays j level (λ x. served_unrefused n t rows before at_ports ports first_match accepted i x j level served) ∙ first.granted i j level served;
        held = held.held;
        grant_stays = λ j level unserved unrefused. held.stays j level unrefused ∙ first.grant_stays j level unserved;
        accepted = λ i j level served. held.accepts i level ∙ first.accepted i j level served;
        accept_stays = λ i level none. held.accepts i level ∙ first.accept_stays i level none;
        passed = λ i level head done. held.shared level ∙ first.passed i level head done;
        shared_stays = λ level none. held.shared level ∙ first.shared_stays level none;
      }
