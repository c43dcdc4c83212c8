use Rattle.std.proofs.Common.{◌≡◌, ◌++◌, length, take}
use Rattle.std.specs.List.{flat_map}
use Rattle.journal_check.specs.Texts.{slot_text, file_slot, header_text}
use Rattle.journal_check.proofs.bytes.journal_bytes.Given as goal

abbrev pub invariant-loop-slot : goal.invariant-loop-slot
invariant-loop-slot l = l.text.items ≡ header_text l.journal.setup.ports l.journal.setup.rounds (length l.journal.slots)
    ++ flat_map (λ slot. slot_text (file_slot slot)) (take l.slot l.journal.slots)
