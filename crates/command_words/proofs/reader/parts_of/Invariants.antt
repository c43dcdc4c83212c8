use Rattle.std.proofs.Common.{◌≡◌, drop, map, string_bytes}
use Rattle.command_words.specs.Reading.{parts_after, parts_of}
use Rattle.command_words.proofs.reader.parts_of.Given as goal

abbrev pub invariant-loop-word : goal.invariant-loop-word
invariant-loop-word l = parts_after l.names l.reader (map string_bytes (drop l.word-index l.words)) ≡ parts_of l.names (map string_bytes l.words)
