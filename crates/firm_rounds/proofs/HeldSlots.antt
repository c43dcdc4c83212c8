-- A slot of iSLIP, of which the refused outputs are then held, is a slot of FIRM.
use Rattle.std.proofs.Common.{◌≡◌, ℕ, ◌∙◌, List, Option, sym, subst}
use Rattle.slot_match.specs.declared.rows.Row.{Row}
use Rattle.slot_match.specs.declared.matching.Fed.{Fed}
use Rattle.pointer_state.specs.Places.{Places, AreAtPorts}
use Rattle.islip_rounds.specs.declared.numbers.RoundsUsed.{RoundsUsed}
use Rattle.eslip_rounds.specs.declared.refusals.Refused.{Refused}
use Rattle.eslip_rounds.specs.Slots.{Decision, AreMoved, IsSlotBy, IsRefused}
use Rattle.eslip_rounds.specs.Refusals.{Tells, AreRefused, AreToldWithin}
use Rattle.eslip_rounds.specs.Decisions.{decision_of}
use Rattle.eslip_rounds.specs.Calls.{CanDecide, IsDecidedBy}
use Rattle.eslip_rounds.proofs.FirstRounds.{AreAccepted-round}
use Rattle.eslip_rounds.proofs.Refusing.{AreToldWithin-refused}
use Rattle.service_bound.proofs.LaterRounds.{first_of, BeginsWith-slot}
use Rattle.firm_rounds.specs.Slots.{AreMovedByFirm}
use Rattle.firm_rounds.specs.SlotSteps.{AreHeld}
use Rattle.firm_rounds.specs.Decisions.{firm_decision}
use Rattle.firm_rounds.proofs.Holding.{AreHeld-along}
use Rattle.firm_rounds.proofs.InSteps.{AreMovedByFirm-steps}
use Rattle.firm_rounds.proofs.Computed.{firm_decision-only}

module _ (n rounds t : ℕ) (rows : List Row) (before : Places) (out : List (Option Fed)) (can : CanDecide n rounds rows before out)
    (matched : List (Option Fed)) (numbers : RoundsUsed) (moved : Places) (refused : Refused)
    (first : IsDecidedBy AreMoved decision_of n rounds t rows before (record { matched = matched; numbers = numbers; places = moved }))
    (are : AreRefused n t rows before refused) where
  -- what is refused is of the switch
  pub told_within : AreToldWithin moved.ports refused
  told_within =
      let ports : moved.ports ≡ n = first.slot.moved.ports ∙ can.pointers in
      subst (λ k. AreToldWithin k refused) (sym ports) (AreToldWithin-refused n t rows before refused are)

  pub IsDecidedBy-held : (after : Places) → AreAtPorts before → AreHeld (Tells refused) moved after → AreAtPorts after
      → IsDecidedBy AreMovedByFirm firm_decision n rounds t rows before (record { matched = matched; numbers = numbers; places = after })
  IsDecidedBy-held after at_ports held after_at_ports =
      let slot = first.slot in
      let first_match = first_of n slot.steps in
      let begins = BeginsWith-slot n t rows before AreMoved rounds _ can.rounds_some slot in
      let made : Decision = record { matched = matched; numbers = numbers; places = after } in
      let firm : IsSlotBy AreMovedByFirm n rounds t rows before made = record {
        steps = slot.steps;
        count = slot.count;
        chain = slot.chain;
        result = slot.result;
        numbered = slot.numbered;
        moved = AreMovedByFirm-steps n t rows before at_ports can.pointers first_match matched
            (AreAccepted-round n t rows before first_match begins.opening) after (record {
              moved = moved;
              as_first = slot.moved;
              held = AreHeld-along (Tells refused) (IsRefused n t rows before) moved after are held;
            });
      } in
      record {
        slot = firm;
        decision = firm_decision-only n t rows before can.within at_ports can.pointers rounds made after_at_ports firm;
        whole = first.whole;
        at_ports = after_at_ports;
        unused = first.unused;
        enough = first.enough;
      }
