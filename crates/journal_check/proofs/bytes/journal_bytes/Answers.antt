use Rattle.std.proofs.Common.{arith, length}
use Rattle.journal_check.specs.Texts.{header_text}
use Rattle.journal_check.proofs.Written.{slots_grown, file_spelled}
use Rattle.journal_check.proofs.bytes.journal_bytes.Goals as goal

pub put_header-requires-clause-ports : goal.put_header-requires-clause-ports
put_header-requires-clause-ports c = omega (arith, c.ports.ensures, c.legal.ensures.setup.ports_few)

pub put_header-requires-clause-rounds : goal.put_header-requires-clause-rounds
put_header-requires-clause-rounds c = omega (arith, c.rounds.ensures, c.legal.ensures.setup.rounds_few)

pub loop-slot-preserved : goal.loop-slot-preserved
loop-slot-preserved c =
    let journal = c.args.journal.now in
    let posts = rw c.posts.ensures.posts at c.in_ok-put_posts.ensures in
    let outputs = rw c.decided.ensures.matched at c.in_ok-put_outputs.ensures in
    slots_grown journal.slots c.loop-slot.slot (header_text journal.setup.ports journal.setup.rounds (length journal.slots)) c.loop-slot.text.items
    c.put_outputs.new.text.items (omega (arith, c.loop-slot-test.true, c.slots-slot-end.ensures)) c.loop-slot.invariant (rw posts at outputs)

pub returns : goal.returns
returns c = file_spelled c.args.journal.now c.loop-slot.slot c.loop-slot.text.items
    (omega (arith, c.loop-slot-test.false, c.loop-slot.auto.slot-end, c.slots-slot-end.ensures)) c.loop-slot.invariant
