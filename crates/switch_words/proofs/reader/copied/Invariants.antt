use Rattle.std.proofs.Common.{◌≡◌, map, take, string_bytes}
use Rattle.switch_words.proofs.reader.copied.Given as goal

abbrev pub invariant-loop-name : goal.invariant-loop-name
invariant-loop-name l = map string_bytes l.texts.items ≡ map (λ name. name.now) (take l.name-index l.names)
