-- A slot of iSLIP, of which the refused outputs are then passed, is a slot of round-robin matching.
use Rattle.std.proofs.Common.{◌≡◌, ℕ, ◌<◌, ◌∙◌, List, inl, inr}
use Rattle.rotating_pick.specs.declared.kinds.Kind.TheVariants.{Uni}
use Rattle.slot_match.specs.declared.rows.Row.{Row}
use Rattle.slot_match.specs.Rows.{AreWithin}
use Rattle.slot_match.proofs.Pairs.{Serves-decides}
use Rattle.pointer_state.specs.Places.{Places, AreAtPorts}
use Rattle.eslip_rounds.specs.declared.refusals.Refused.{Refused}
use Rattle.eslip_rounds.specs.Slots.{Decision, AreMoved, IsSlotBy, IsRefused}
use Rattle.eslip_rounds.specs.Refusals.{Tells, AreRefused}
use Rattle.eslip_rounds.specs.Decisions.{decision_of}
use Rattle.eslip_rounds.specs.Calls.{IsDecidedBy}
use Rattle.eslip_rounds.proofs.FirstRounds.{AreAccepted-round, served_unrefused}
use Rattle.service_bound.proofs.LaterRounds.{first_of, BeginsWith-slot}
use Rattle.rrm_rounds.specs.Slots.{AreMovedByRrm}
use Rattle.rrm_rounds.specs.SlotSteps.{AreBeyond}
use Rattle.rrm_rounds.specs.Decisions.{rrm_decision}
use Rattle.rrm_rounds.proofs.Passing.{AreBeyond-along}
use Rattle.rrm_rounds.proofs.Computed.{rrm_decision-only}

-- pointers that iSLIP has moved, of which the refused ones then pass their inputs
pub record HavePassed (n rounds t : ℕ) (rows : List Row) (before moved after : Places) : Type 0 where
  pub some : 0 < rounds
  pub within : AreWithin n rows
  pub ports : before.ports ≡ n
  pub at_ports : AreAtPorts before
  pub refused : Refused
  pub are : AreRefused n t rows before refused
  pub beyond : AreBeyond n (Tells refused) moved after
  pub after_at_ports : AreAtPorts after

-- the slot with these pointers
abbrev pub with_places : Decision → Places → Decision
with_places d after = record { matched = d.matched; numbers = d.numbers; places = after }

pub IsDecidedBy-passed : (n rounds t : ℕ) (rows : List Row) (before : Places) (d : Decision) (after : Places)
    → IsDecidedBy AreMoved decision_of n rounds t rows before d → HavePassed n rounds t rows before d.places after
    → IsDecidedBy AreMovedByRrm rrm_decision n rounds t rows before (with_places d after)
IsDecidedBy-passed n rounds t rows before d after first passed =
    let slot = first.slot in
    let as_first = slot.moved in
    let beyond = AreBeyond-along n (Tells passed.refused) (IsRefused n t rows before) d.places after passed.are passed.beyond in
    let first_match = first_of n slot.steps in
    let round = (BeginsWith-slot n t rows before AreMoved rounds d passed.some slot).opening in
    let accepts = AreAccepted-round n t rows before first_match round in
    let rrm : IsSlotBy AreMovedByRrm n rounds t rows before (with_places d after) = record {
      steps = slot.steps;
      count = slot.count;
      chain = slot.chain;
      result = slot.result;
      numbered = slot.numbered;
      moved = record {
        ports = beyond.ports ∙ as_first.ports;
        granted = λ i j level granted. elim (Serves-decides first_match i j level Uni) [
          | inl served ↦
              beyond.stays j level (λ x. served_unrefused n t rows before passed.at_ports passed.ports first_match accepts i x j level served)
              ∙ as_first.granted i j level served
          | inr none ↦ beyond.passed i j level (granted, λ taken. none ((round.pairs i j level Uni).1 (inr taken)))
        ];
        grant_stays = λ j level nobody.
            beyond.stays j level (λ i refused. nobody i refused.0)
            ∙ as_first.grant_stays j level (λ i served. let taken = accepts i j level Uni served in nobody i taken.taken.member);
        accepted = λ i j level served. beyond.accepts i level ∙ as_first.accepted i j level served;
        accept_stays = λ i level none. beyond.accepts i level ∙ as_first.accept_stays i level none;
        passed = λ i level head done. beyond.shared level ∙ as_first.passed i level head done;
        shared_stays = λ level none. beyond.shared level ∙ as_first.shared_stays level none;
      };
    } in
    record {
      slot = rrm;
      decision = rrm_decision-only n t rows before passed.within passed.at_ports passed.ports rounds (with_places d after) passed.after_at_ports rrm;
      whole = first.whole;
      at_ports = passed.after_at_ports;
      unused = first.unused;
      enough = first.enough;
    }
