use Rattle.std.proofs.Common.{◌≡◌, ◌++◌, take}
use Rattle.std.specs.List.{flat_map}
use Rattle.journal_check.specs.Texts.{set_text}
use Rattle.journal_check.proofs.bytes.put_sets.Given as goal

abbrev pub invariant-loop-set : goal.invariant-loop-set
invariant-loop-set l = l.text.items ≡ l.initial.text.items ++ flat_map set_text (take l.set-index l.sets)
