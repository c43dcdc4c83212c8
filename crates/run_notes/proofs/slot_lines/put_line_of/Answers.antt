use Rattle.std.proofs.Common.{◌++◌, ◌∙◌, option_map, string_bytes, ap, sym, subst}
use Rattle.std.proofs.lemmas.Result.{on_ok_weaker}
use Rattle.slot_report.specs.Lines.{line_text, lines_text}
use Rattle.slot_report.specs.Texts.{journal_line, map_with_place, slot_line}
use Rattle.run_laws.specs.Runs.{journal_under}
use Rattle.run_notes.specs.NotingSteps.{AreLinesOf, IsKept}
use Rattle.run_notes.proofs.Noting.{lines_more, line_of_slot}
use Rattle.run_notes.proofs.slot_lines.put_line_of.Goals as goal

pub returns-in-Some : goal.returns-in-Some
returns-in-Some c = λ scheduler plan is_wanted posts kept is.
    let t = c.args.slot in
    let before = subst (λ lines. IsKept is_wanted (AreLinesOf scheduler plan t) (option_map string_bytes lines)) c.in-Some.is kept in
    let matched = c.args.matched.now in
    on_ok_weaker c.put_slot_line.result
    (λ new. record {
      there = before.there;
      holds = new ∙ ap (λ s. s ++ line_text (slot_line t c.args.numbers matched)) before.holds
          ∙ ap (λ line. lines_text (map_with_place journal_line (journal_under scheduler plan t)) ++ line_text line)
          (line_of_slot scheduler plan t posts matched c.args.numbers is)
          ∙ sym (lines_more scheduler plan t);
    })
    c.put_slot_line.ensures
