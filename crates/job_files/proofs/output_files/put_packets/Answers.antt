use Rattle.std.specs.Prelude.{string_bytes}
use Rattle.outside.specs.WholeFiles.{NamedBytes}
use Rattle.job_files.proofs.Putting.{stops_alone}
use Rattle.job_files.proofs.output_files.put_packets.Goals as goal

pub returns-in-Some-clause-err : goal.returns-in-Some-clause-err
returns-in-Some-clause-err g c d =
    let see = g.F.Files.seen d in
    let counts = g.F.Files.faults in
    let file : NamedBytes = record { name = string_bytes c.in-Some.file.name; bytes = g.P.Pieces.left c.in-Some.file.pieces } in
    let was = c.args.files.now in
    let now = c.put_pieces.new.files in
    rw c.in-Some.is
    (stops_alone c.put_pieces.result file (counts was) (counts now) (see was) (see now)
    (rw c.as_str.ensures.value at (c.put_pieces.ensures.seen d)))
