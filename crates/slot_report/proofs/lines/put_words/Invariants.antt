use Rattle.std.proofs.Common.{◌≡◌, ◌++◌, take, string_bytes}
use Rattle.std.specs.List.{flat_map}
use Rattle.slot_report.specs.PieceSteps.{after_space, word_text}
use Rattle.slot_report.proofs.lines.put_words.Given as goal

abbrev pub invariant-loop-word : goal.invariant-loop-word
invariant-loop-word l = string_bytes l.text ≡ string_bytes l.fn.text ++ flat_map (λ word. after_space (word_text word)) (take l.word-index l.words)
