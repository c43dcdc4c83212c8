use Rattle.std.proofs.lemmas.Result.{err_from_is_err_and}
use Rattle.job_files.specs.FileSteps.{reads_words}
use Rattle.job_files.proofs.StoppingReads.{StopsReading-since}
use Rattle.job_files.proofs.inputs.read_inputs.Goals as goal

pub returns-in_err-captures-clause-stops : goal.returns-in_err-captures-clause-stops
returns-in_err-captures-clause-stops g c d =
    let counts = g.F.Files.faults in
    let failed = err_from_is_err_and c.from_residual-in_err-captures.result c.from_residual-in_err-captures.ensures.1 in
    rw (failed.1, failed.2)
    (StopsReading-since (reads_words c.args.reads.now) (g.F.Files.seen d c.read_captures.new.files) (counts c.args.files.now)
    (counts c.read_input.new.files) (counts c.read_captures.new.files) c.in_err-captures.field-0.0 c.in_ok-table.ensures.never_fall
    (c.in_err-captures.ensures.stops d))

pub returns-in_err-table-clause-stops : goal.returns-in_err-table-clause-stops
returns-in_err-table-clause-stops g c d =
    let failed = err_from_is_err_and c.from_residual-in_err-table.result c.from_residual-in_err-table.ensures.1 in
    rw (failed.1, failed.2) (c.in_err-table.ensures.stops d)

pub returns-in_err-captures-clause-own : goal.returns-in_err-captures-clause-own
returns-in_err-captures-clause-own g c named all d e alike =
    c.in_err-captures.ensures.own named all.1 d e (c.in_ok-table.ensures.own named all.0 d e alike)

pub returns-in_err-table-clause-own : goal.returns-in_err-table-clause-own
returns-in_err-table-clause-own g c named all d e alike = c.in_err-table.ensures.own named all.0 d e alike

pub returns-clause-own : goal.returns-clause-own
returns-clause-own g c named all d e alike =
    c.in_ok-captures.ensures.own named all.1 d e (c.in_ok-table.ensures.own named all.0 d e alike)
