use Rattle.std.proofs.Common.{◌≡◌, ◌∙◌, List, ◌++◌, ℕ, ap, append_assoc, string_bytes}
use Rattle.std.specs.Prelude.{codes, decimal}
use Rattle.std.proofs.lemmas.Result.{on_ok_weaker}
use Rattle.std_lemmas.proofs.Appending.{appended}
use Rattle.slot_report.specs.Lines.{line_text}
use Rattle.queue_measures.specs.Lines.{deepest_line}
use Rattle.queue_measures.proofs.text.put_deepest.Goals as goal

joined : (old : List ℕ) (most : ℕ) → ((old ++ codes "deepest ") ++ decimal most) ++ codes "\n" ≡ old ++ line_text (deepest_line most)
unfolding line_text
joined old most = simp append_assoc

pub returns : goal.returns
returns c =
    on_ok_weaker c.push_str.result
    (λ end. end ∙ ap (λ s. s ++ codes "\n") c.in_ok-put_number.ensures ∙ joined (string_bytes c.args.text.now) c.args.most)
    (appended c.push_str.result (string_bytes c.put_number.new.text) (codes "\n") (string_bytes c.push_str.new.self) c.push_str.ensures.bytes)
