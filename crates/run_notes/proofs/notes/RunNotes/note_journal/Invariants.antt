use Rattle.std.proofs.Common.{◌≡◌, ℕ}
use Rattle.eslip_rounds.specs.Decisions.{decision_of}
use Rattle.switch_plan.specs.GoodPlans.{SwitchPlan}
use Rattle.run_laws.specs.Ends.{IsLength}
use Rattle.run_laws.specs.Runs.{run_journal}
use Rattle.run_notes.specs.NotingSteps.{HasNoted}
use Rattle.run_notes.proofs.notes.RunNotes.note_journal.Given as goal

abbrev pub invariant-loop-slot : goal.invariant-loop-slot
invariant-loop-slot l = record {
  wanted : l.self.wanted ≡ l.fn.self.wanted;
  noted : (plan : SwitchPlan) (slots : ℕ) → IsLength plan slots → l.journal.slots ≡ run_journal plan slots → HasNoted decision_of plan l.fn.self 0
      → HasNoted decision_of plan l.self l.slot;
}
