use Rattle.std.proofs.Common.{map, ◌∙◌, ap}
use Rattle.switch_plan.specs.GoodPlans.{switch_plan_of}
use Rattle.eslip_rounds.specs.Decisions.{decision_of}
use Rattle.run_laws.specs.Outcomes.{messages_under}
use Rattle.switch_run.specs.MakingSteps.{line_of_card}
use Rattle.switch_run.proofs.BoardRuns.{have_messages, left_at_board}
use Rattle.switch_run.proofs.Cutting.{cut_outputs}
use Rattle.switch_run.proofs.runs.run_at_board.Goals as goal

pub note_journal-requires : goal.note_journal-requires
note_journal-requires g c =
    let is = c.in_ok-outputs.ensures.run in
    (switch_plan_of c.args.plan, is.slots, is.ends, is.journal, c.requires.noted)

pub output_captures-requires : goal.output_captures-requires
output_captures-requires g c = cut_outputs (switch_plan_of c.args.plan) c.in_ok-outputs.field-0 c.requires.good c.in_ok-outputs.ensures.run

pub returns-clause-run : goal.returns-clause-run
returns-clause-run g c =
    let plan = switch_plan_of c.args.plan in
    let run = c.in_ok-outputs.field-0 in
    let is = c.in_ok-outputs.ensures.run in
    let captures = c.in_ok-captures.ensures (λ j. messages_under decision_of plan j is.slots) (have_messages plan run is) in
    let lines = c.in_ok-lines.ensures ∙ ap (map line_of_card) c.deref.ensures.value in
    let left = left_at_board plan run is c.in_ok-captures.captures c.in_ok-lines.lines c.requires.good captures lines in
    (is.slots, left, c.in_ok-note_journal.ensures.noted plan is.slots is.ends is.journal c.requires.noted)
