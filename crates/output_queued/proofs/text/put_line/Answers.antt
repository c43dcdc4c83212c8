use Rattle.std.proofs.Common.{◌≡◌, ◌∙◌, List, ◌++◌, ℕ, ap, append_assoc, string_bytes}
use Rattle.std.specs.Prelude.{codes, decimal}
use Rattle.std.proofs.lemmas.Result.{on_ok_weaker}
use Rattle.std_lemmas.proofs.Appending.{appended}
use Rattle.slot_report.specs.Lines.{line_text}
use Rattle.output_queued.specs.declared.line.RefLine.{RefLine}
use Rattle.output_queued.specs.Texts.{reference_line}
use Rattle.output_queued.proofs.text.put_line.Goals as goal

joined : (old : List ℕ) (output : ℕ) (line : RefLine)
    → ((((((((((old ++ codes "reference ") ++ decimal output) ++ codes " ends ") ++ decimal line.ends) ++ codes " runs ") ++ decimal line.runs)
    ++ codes " lead ") ++ decimal line.lead) ++ codes " extra ") ++ decimal line.extra) ++ codes "\n" ≡ old ++ line_text (reference_line output line)
unfolding line_text reference_line
joined old output line = simp append_assoc

pub returns : goal.returns
returns c =
    let line = c.args.line in
    on_ok_weaker c.push_str.result
    (λ end.
    end
    ∙ ap (λ s. s ++ codes "\n") (c.in_ok-put_number-5.ensures
    ∙ ap (λ s. (s ++ codes " extra ") ++ decimal line.extra) (c.in_ok-put_number-4.ensures
    ∙ ap (λ s. (s ++ codes " lead ") ++ decimal line.lead) (c.in_ok-put_number-3.ensures
    ∙ ap (λ s. (s ++ codes " runs ") ++ decimal line.runs) (c.in_ok-put_number-2.ensures
    ∙ ap (λ s. (s ++ codes " ends ") ++ decimal line.ends) c.in_ok-put_number.ensures))))
    ∙ joined (string_bytes c.args.text.now) c.args.output line)
    (appended c.push_str.result (string_bytes c.put_number-5.new.text) (codes "\n") (string_bytes c.push_str.new.self) c.push_str.ensures.bytes)
