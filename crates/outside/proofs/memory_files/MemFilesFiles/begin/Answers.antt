use Rattle.std.proofs.Common.{Some, ap, ◌∙◌, refl}
use Rattle.outside.specs.MemoryFiles.{contents_among}
use Rattle.outside.proofs.Storing.{begun_contents, begin_counted}
use Rattle.outside.proofs.memory_files.MemFilesFiles.begin.Goals as goal

pub returns-then-fails_next-clause-seen : goal.returns-then-fails_next-clause-seen
returns-then-fails_next-clause-seen c held =
    rw (← c.self.view_is) (ap Some (c.count_fault.ensures.contents c.self.inside.out.items c.self.inside.err.items))

pub returns-in-Ok-clause-seen : goal.returns-in-Ok-clause-seen
returns-in-Ok-clause-seen c held =
    let m = c.self.inside in
    rw (← c.self.view_is) (ap Some
    (begun_contents c.args.name.now m.files.items c.begin_file.new.files.items _ m.out.items m.err.items c.in-Ok.ensures.ok.1 refl refl))

pub returns-in-Err-clause-seen : goal.returns-in-Err-clause-seen
returns-in-Err-clause-seen c held =
    let m = c.self.inside in
    rw (← c.self.view_is)
    (ap Some (c.count_fault-in-Err.ensures.contents m.out.items m.err.items ∙ ap (λ fs. contents_among fs m.out.items m.err.items) c.in-Err.ensures.err))

pub returns-in-Err-clause-counts : goal.returns-in-Err-clause-counts
returns-in-Err-clause-counts c p =
    let m = c.self.inside in
    rw (← c.self.view_is, ← c.in-Err.ensures.err)
    (begin_counted c.args.name.now c.begin_file.new.files.items c.count_fault-in-Err.new.files.items m.elsewhere c.count_fault-in-Err.new.elsewhere
    m.out.items m.err.items c.count_fault-in-Err.ensures p)
