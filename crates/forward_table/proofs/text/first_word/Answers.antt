use Rattle.std.proofs.Common.{◌≡◌, None, Some, drop, position, sym, ap, ◌∙◌}
use Rattle.std.proofs.lemmas.List.{take_rest}
use Rattle.forward_table.specs.Text.{is_blank}
use Rattle.forward_table.proofs.Splitting.{no_words, word_at, last_word_at}
use Rattle.forward_table.proofs.text.first_word.Goals as goal

pub returns-in_err-start : goal.returns-in_err-start
returns-in_err-start c = rw c.from_residual.ensures (no_words c.args.line.now (sym c.place_of_word.ensures ∙ c.in_err-start.was))

pub returns-in-Some : goal.returns-in-Some
returns-in-Some c =
    let line = c.args.line.now in
    let start = c.in_ok-start.start in
    let at : position is_blank (drop start line) ≡ Some c.in-Some.end = ap (position is_blank) (sym (take_rest line start)) ∙ sym c.in-Some.ensures in
    simp take_rest (word_at line start c.in-Some.end (sym c.in_ok-start.ensures) at)

pub returns-in-None : goal.returns-in-None
returns-in-None c =
    let line = c.args.line.now in
    let start = c.in_ok-start.start in
    let at : position is_blank (drop start line) ≡ None = ap (position is_blank) (sym (take_rest line start)) ∙ sym c.in-None.ensures in
    simp take_rest (last_word_at line start (sym c.in_ok-start.ensures) at)
