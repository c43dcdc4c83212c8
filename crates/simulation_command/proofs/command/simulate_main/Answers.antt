use Rattle.std.proofs.Common.{map, string_bytes}
use Rattle.simulation_command.proofs.Theorem.{done_theorem, stopped_theorem}
use Rattle.simulation_command.proofs.command.simulate_main.Goals as goal

pub returns-in-Ok : goal.returns-in-Ok
returns-in-Ok g c d = done_theorem _ c.in-Ok.ensures.never_fall c.in-Ok.ensures.no_fault (c.in-Ok.ensures.done d)

pub returns-in-Err : goal.returns-in-Err
returns-in-Err g c d =
    let see = g.F.Files.seen d in
    let counts = g.F.Files.faults in
    rw c.status.ensures (stopped_theorem (map string_bytes c.args.words.now) (see c.args.files.now) (see c.tell.new.files) (see c.print_fault.new.files)
    (counts c.args.files.now) (counts c.tell.new.files) (counts c.print_fault.new.files) c.in-Err.ensures.never_fall c.print_fault.ensures.never_fall
    c.in-Err.fault (c.in-Err.ensures.stops d) (c.print_fault.ensures.line d))
