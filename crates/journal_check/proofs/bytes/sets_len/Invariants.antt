use Rattle.std.proofs.Common.{◌≡◌, ◌≤◌, ◌*◌, length, take}
use Rattle.std.specs.List.{flat_map}
use Rattle.journal_check.specs.Texts.{set_text}
use Rattle.journal_check.proofs.bytes.sets_len.Given as goal

abbrev pub invariant-loop-set : goal.invariant-loop-set
invariant-loop-set l = (l.len ≡ length (flat_map set_text (take l.set-index l.sets))) × (l.len ≤ 8 * l.set-index)
