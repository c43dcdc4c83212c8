use Rattle.std.proofs.Common.{◌∙◌, ℕ, ◌+◌, ◌^◌, ◌<◌, ◌≤◌, List, length, ap, sym, subst}
use Rattle.std.specs.List.{sum_by}
use Rattle.slot_report.specs.declared.summary.OutLine.{OutLine}
use Rattle.run_laws.specs.Runs.{ports_of}
use Rattle.run_laws.specs.Crossings.{cells_under}
use Rattle.run_laws.specs.Outcomes.{messages_under}
use Rattle.slot_records.specs.Slots.{AddsNothing}
use Rattle.descriptor_runs.specs.InputSteps.{InputValue}
use Rattle.descriptor_runs.proofs.RunEnd.{dropped_fits, admitted_fits, packets_fit, cells_fit, captures_are, these_lines, summary_is}
use Rattle.descriptor_runs.proofs.ends.finish.Goals as goal

pub dropped_in-dropped-requires : goal.dropped_in-dropped-requires
dropped_in-dropped-requires c =
    let (scheduler, plan, scheduling, good, countable, ends, within, told, is) = c.requires in
    subst (λ (inputs : List InputValue). sum_by (λ (input : InputValue). input.dropped) inputs < 2 ^ 32) (sym c.as_slice.ensures)
    (dropped_fits scheduler scheduling plan good countable c.args.slots ends c.args.switch is)

pub admitted_in-forwarded-requires : goal.admitted_in-forwarded-requires
admitted_in-forwarded-requires c =
    let (scheduler, plan, scheduling, good, countable, ends, within, told, is) = c.requires in
    subst (λ (inputs : List InputValue). sum_by (λ (input : InputValue). input.admitted) inputs < 2 ^ 32) (sym c.as_slice-2.ensures)
    (admitted_fits scheduler scheduling plan good countable c.args.slots ends c.args.switch is)

pub packets_in-requires : goal.packets_in-requires
packets_in-requires c =
    let (scheduler, plan, scheduling, good, countable, ends, within, told, is) = c.requires in
    let slots = c.args.slots in
    subst (λ (lines : List OutLine). sum_by (λ (line : OutLine). line.packets) lines < 2 ^ 32) (sym c.deref.ensures.value)
    (packets_fit scheduler scheduling plan good countable slots ends c.args.switch is c.in_ok-captures.lines.items c.in_ok-captures.ensures.lines
    (λ j below. c.runs_leave_nothing.ensures.ends scheduler plan slots j scheduling good ends below)
    (λ j. c.slots_add_one_cell.ensures.messages scheduler plan j slots))

pub cells_in-requires : goal.cells_in-requires
cells_in-requires c =
    let (scheduler, plan, scheduling, good, countable, ends, within, told, is) = c.requires in
    let slots = c.args.slots in
    subst (λ (lines : List OutLine). sum_by (λ (line : OutLine). line.cells) lines < 2 ^ 32) (sym c.deref-2.ensures.value)
    (cells_fit scheduler scheduling plan good countable slots ends c.args.switch is c.in_ok-captures.lines.items c.in_ok-captures.ensures.lines
    (λ j below. c.runs_leave_nothing.ensures.ends scheduler plan slots j scheduling good ends below)
    (λ j. c.slots_add_one_cell.ensures.messages scheduler plan j slots))

pub returns : goal.returns
returns c = λ captures scheduler plan scheduling good countable ends within told is keeps.
    let slots = c.args.slots in
    let switch = c.args.switch in
    let lines = c.in_ok-captures.lines.items in
    let nothing : (j : ℕ) → j < ports_of plan → AddsNothing scheduler plan j slots (slots + 1) =
    λ j below. c.runs_leave_nothing.ensures.ends scheduler plan slots j scheduling good ends below in
    let fewer : (j : ℕ) → length (messages_under scheduler plan j slots) ≤ length (cells_under scheduler plan j slots) =
    λ j. c.slots_add_one_cell.ensures.messages scheduler plan j slots in
    record {
      ends = ends;
      within = within;
      captures = c.in_ok-captures.ensures.captures ∙ captures_are scheduler plan slots switch.outputs.items is.outputs nothing captures keeps;
      lines = these_lines scheduler scheduling plan good countable slots ends switch is lines c.in_ok-captures.ensures.lines nothing fewer;
      summary = summary_is scheduler scheduling plan good countable slots ends switch is lines c.in_ok-captures.ensures.lines nothing fewer
          c.args.numbers.now told c.ports-ports.result c.dropped_in-dropped.result c.admitted_in-forwarded.result c.packets_in.result c.cells_in.result
          c.longest_of-longest.result c.ports-ports.ensures.value
          (c.dropped_in-dropped.ensures ∙ ap (sum_by (λ (input : InputValue). input.dropped)) c.as_slice.ensures)
          (c.admitted_in-forwarded.ensures ∙ ap (sum_by (λ (input : InputValue). input.admitted)) c.as_slice-2.ensures)
          (c.packets_in.ensures ∙ ap (sum_by (λ (line : OutLine). line.packets)) c.deref.ensures.value)
          (c.cells_in.ensures ∙ ap (sum_by (λ (line : OutLine). line.cells)) c.deref-2.ensures.value)
          c.longest_of-longest.ensures;
    }
