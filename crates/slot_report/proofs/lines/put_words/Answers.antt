use Rattle.std.proofs.Common.{◌∙◌, ◌++◌, ap, arith, string_bytes}
use Rattle.std.proofs.lemmas.List.Folds.{flat_map-map}
use Rattle.slot_report.specs.PieceSteps.{after_space, word_text}
use Rattle.slot_report.proofs.lines.put_words.Goals as goal
use Rattle.std.proofs.Common.{sym}
use Rattle.std_lemmas.proofs.Appending.{both, one_more, all_of}

pub loop-word-preserved : goal.loop-word-preserved
loop-word-preserved c = one_more (λ word. after_space (word_text word)) c.args.words.now c.loop-word.word-index _ (string_bytes c.args.text.now)
    (string_bytes c.loop-word.text) _ c.loop-word-test.true c.loop-word.invariant
    (both (string_bytes c.loop-word.text) _ _ _ _ c.in_ok-push_str.ensures.bytes c.in_ok-put_word.ensures)

pub returns : goal.returns
returns c = all_of (λ word. after_space (word_text word)) c.args.words.now c.loop-word.word-index (string_bytes c.args.text.now)
    (string_bytes c.loop-word.text) (omega arith) c.loop-word.invariant
    ∙ ap (λ s. string_bytes c.args.text.now ++ s) (sym (flat_map-map after_space word_text c.args.words.now))
