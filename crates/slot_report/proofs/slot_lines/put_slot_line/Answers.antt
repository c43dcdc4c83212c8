use Rattle.std.proofs.Common.{[], ◌∷◌, ◌++◌, string_bytes}
use Rattle.std.proofs.lemmas.Result.{on_ok_weaker}
use Rattle.std.specs.Prelude.{codes, decimal}
use Rattle.std_lemmas.proofs.Appending.{appended}
use Rattle.slot_report.specs.Texts.{pairs_of, slot_line}
use Rattle.slot_report.proofs.Appending.{more_words, whole_line}
use Rattle.slot_report.proofs.slot_lines.put_slot_line.Goals as goal

pub returns : goal.returns
unfolding slot_line
returns c =
    let old = string_bytes c.args.text.now in
    let named = string_bytes c.push_str.new.self in
    let mid = string_bytes c.put_words.new.text in
    let whole = string_bytes c.put_pairs.new.text in
    let new = string_bytes c.push_str-2.new.self in
    let words = decimal c.args.slot ∷ codes "used" ∷ decimal c.args.numbers.used ∷ codes "first" ∷ decimal c.args.numbers.first ∷ [] in
    let pairs = pairs_of c.args.matched.now in
    on_ok_weaker c.push_str-2.result
    (λ end. whole_line old named whole new (codes "slot") (words ++ pairs) c.in_ok-push_str.ensures.bytes
    (more_words named mid whole words pairs c.in_ok-put_words.ensures c.in_ok-put_pairs.ensures) end)
    (appended c.push_str-2.result whole (codes "\n") new c.push_str-2.ensures.bytes)
