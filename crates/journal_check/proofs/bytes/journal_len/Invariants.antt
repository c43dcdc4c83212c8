use Rattle.std.proofs.Common.{◌≡◌, ◌≤◌, ◌<◌, ◌+◌, ◌*◌, ℕ, All, length, take, get_or}
use Rattle.std.specs.List.{flat_map}
use Rattle.crossbar.specs.declared.cards.Post.{Post as CardPost}
use Rattle.slot_histories.specs.Answers.{JournalSlot}
use Rattle.journal_check.specs.Texts.{slot_text, file_slot, HasLevels}
use Rattle.journal_check.proofs.bytes.journal_len.Given as goal

abbrev pub invariant-loop-slot : goal.invariant-loop-slot
invariant-loop-slot l =
    (l.len ≡ 12 + length (flat_map (λ slot. slot_text (file_slot slot)) (take l.slot l.journal.slots))) × (l.len ≤ 12 + 4352 * l.slot)
    × ((k : ℕ) (d : JournalSlot) → k < l.slot → All (λ (post : CardPost). HasLevels post.row) (get_or l.journal.slots k d).posts)
