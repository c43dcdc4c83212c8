use Rattle.std.proofs.Common.{◌≡◌, List, length, IfOk, string_bytes, ap, subst, ◌∙◌, arith}
use Rattle.std.proofs.lemmas.List.FromFn.{length-map-range_with_len}
use Rattle.slot_report.specs.Lines.{lines_text}
use Rattle.output_queued.specs.declared.line.RefLine.{RefLine}
use Rattle.output_queued.specs.Lines.{line_of, lines_of}
use Rattle.output_queued.specs.NotingSteps.{cards_in}
use Rattle.output_queued.specs.Texts.{reference_lines}
use Rattle.reference_run.specs.RunLines.{run_lines_under, run_matches_under}
use Rattle.run_notes.proofs.Noting.{lines_of_run}
use Rattle.run_notes.proofs.reference.text_of.Goals as goal

pub reference_text-requires : goal.reference_text-requires
reference_text-requires c =
    let (matches, noted) = c.noted_slots.ensures in
    let reference = c.args.reference.now in
    let count = ap length (c.deref.ensures.value ∙ c.in_ok-lines.ensures matches noted)
    ∙ length-map-range_with_len (line_of (cards_in reference) matches) 0 reference.ports in
    omega (arith, noted.noted.switch.size)

pub returns : goal.returns
unfolding run_lines_under
returns c = λ scheduler plan slots good noted.
    let reference = c.args.reference.now in
    let matches = run_matches_under scheduler plan slots in
    let lines : c.deref.result.now ≡ lines_of plan.cards matches = c.deref.ensures.value ∙ c.in_ok-lines.ensures matches noted.noted
    ∙ lines_of_run scheduler plan slots reference good noted in
    subst (λ (all : List RefLine). IfOk c.reference_text.result (λ text. string_bytes text ≡ lines_text (reference_lines all))) lines c.reference_text.ensures
