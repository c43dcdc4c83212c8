use Rattle.std.proofs.Common.{◌<◌, All, length, arith}
use Rattle.crossbar.specs.declared.cards.Post.{Post as CardPost}
use Rattle.slot_histories.specs.Answers.{JournalSlot}
use Rattle.board_state.specs.Boards.{no_slot}
use Rattle.journal_check.specs.Texts.{HasLevels}
use Rattle.journal_check.proofs.Written.{first_more, slots_longer, file_long, levels_of}
use Rattle.journal_check.proofs.bytes.journal_len.Goals as goal

pub loop-slot-preserved : goal.loop-slot-preserved
loop-slot-preserved c =
    let inv = c.loop-slot.invariant in
    let slots = c.args.journal.now.slots in
    let i = c.loop-slot.slot in
    let below : i < length slots = omega (arith, c.loop-slot-test.true, c.slots-slot-end.ensures) in
    let longer = slots_longer slots i c.loop-slot.len below inv.0 in
    let posts = rw c.posts.ensures.posts at c.posts_len.ensures.value in
    let outputs = rw c.decided.ensures.matched at c.outputs_len.ensures.value in (
      omega (arith, longer, posts, outputs),
      omega (
        arith,
        inv.1,
        c.posts.ensures.ports,
        c.legal.ensures.setup.ports_few,
        c.posts_len.ensures.few,
        c.outputs_len.ensures.few,
      ),
      first_more (λ (slot : JournalSlot). All (λ (post : CardPost). HasLevels post.row) slot.posts) slots i no_slot below
          (rw c.posts.ensures.posts at c.posts_len.ensures.levels) inv.2,
    )

pub returns-clause-value : goal.returns-clause-value
returns-clause-value c = file_long c.args.journal.now c.loop-slot.slot c.loop-slot.len
    (omega (arith, c.loop-slot-test.false, c.loop-slot.auto.slot-end, c.slots-slot-end.ensures)) c.loop-slot.invariant.0

pub returns-clause-levels : goal.returns-clause-levels
returns-clause-levels c =
    levels_of c.args.journal.now c.loop-slot.slot
    (omega (arith, c.loop-slot-test.false, c.loop-slot.auto.slot-end, c.slots-slot-end.ensures)) c.loop-slot.invariant.2
