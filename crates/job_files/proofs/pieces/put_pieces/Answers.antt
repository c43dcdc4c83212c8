use Rattle.outside.proofs.Alike.{alike_begin_file}
use Rattle.outside.proofs.Putting.{begun_put}
use Rattle.job_files.proofs.pieces.put_pieces.Goals as goal

pub returns-clause-seen : goal.returns-clause-seen
returns-clause-seen g c d =
    let counts = g.F.Files.faults in
    begun_put c.append_pieces.result (record { name = c.args.name.now; bytes = g.P.Pieces.left c.args.pieces.now }) (counts c.args.files.now)
    (counts c.begin.new.self) (counts c.append_pieces.new.files) _ _
    c.in_ok-begin.ensures.never_fall (rw (c.in_ok-begin.ensures.seen d) at (c.append_pieces.ensures.seen d))

pub returns-clause-own : goal.returns-clause-own
returns-clause-own g c named d e alike =
    c.append_pieces.ensures.own named d e (rw (c.in_ok-begin.ensures.seen d, c.in_ok-begin.ensures.seen e)
    (alike_begin_file named c.args.name.now (g.F.Files.seen d c.args.files.now) (g.F.Files.seen e c.args.files.now) alike))
