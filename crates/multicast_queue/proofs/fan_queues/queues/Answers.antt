use Rattle.std.proofs.Common.{sym}
use Rattle.multicast_queue.proofs.Levels.{four_are}
use Rattle.multicast_queue.proofs.fan_queues.queues.Goals as goal

pub returns : goal.returns
returns c =
    rw (c.in_ok-make.ensures, c.in_ok-make-2.ensures, c.in_ok-make-3.ensures, c.in_ok-make-4.ensures)
    (sym (four_are c.args.depth c.args.room.now c.told-room))
