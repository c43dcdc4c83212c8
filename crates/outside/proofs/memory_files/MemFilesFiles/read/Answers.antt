use Rattle.std.proofs.Common.{Some, ap}
use Rattle.outside.proofs.memory_files.MemFilesFiles.read.Goals as goal

pub returns-then-fails_next-clause-seen : goal.returns-then-fails_next-clause-seen
returns-then-fails_next-clause-seen c held =
    rw (← c.self.view_is) (ap Some (c.count_fault.ensures.contents c.self.inside.out.items c.self.inside.err.items))

pub returns-in-None-clause-seen : goal.returns-in-None-clause-seen
returns-in-None-clause-seen c held =
    rw (← c.self.view_is) (ap Some (c.count_fault-in-None.ensures.contents c.self.inside.out.items c.self.inside.err.items))
