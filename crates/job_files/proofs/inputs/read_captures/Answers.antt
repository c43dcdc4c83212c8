use Rattle.std.proofs.Common.{◌<◌, [], length, string_bytes, ap, arith, ◌∙◌}
use Rattle.std.specs.Prelude.{is_ok}
use Rattle.std.proofs.lemmas.List.{length-map}
use Rattle.std.proofs.lemmas.Result.{err_from_is_err_and}
use Rattle.outside.proofs.Staying.{IfSome-Stays, Stays-trans}
use Rattle.job_files.specs.Inputs.{EarlierFit}
use Rattle.job_files.specs.FileSteps.{reads_words}
use Rattle.job_files.specs.declared.inputs.InputFile.TheVariants.{Capture}
use Rattle.job_files.proofs.InputFiles.{CapturesRead-Stays, bytes_pushed, captures_more, earlier_more}
use Rattle.job_files.proofs.StoppingReads.{StopsReading-since}
use Rattle.job_files.proofs.inputs.read_captures.Goals as goal

pub returns-in_err-capture-clause-stops : goal.returns-in_err-capture-clause-stops
returns-in_err-capture-clause-stops g c d =
    let counts = g.F.Files.faults in
    let failed = err_from_is_err_and c.from_residual.result c.from_residual.ensures.1 in
    rw (failed.1, failed.2)
    (StopsReading-since (reads_words c.args.reads.now) (g.F.Files.seen d c.read_input.new.files) (counts c.args.files.now) (counts c.loop-port.files)
    (counts c.read_input.new.files) c.in_err-capture.field-0.0 c.loop-port.invariant.never_fall (c.in_err-capture.ensures.stops d))

pub returns-in_err-capture-clause-own : goal.returns-in_err-capture-clause-own
returns-in_err-capture-clause-own g c named all d e alike =
    let inputs = (reads_words c.args.reads.now).inputs in
    let within : c.loop-port.port < length inputs = omega (arith, length-map c.args.reads.now.inputs.now string_bytes, c.loop-port-test.true) in
    c.in_err-capture.ensures.own named (all c.loop-port.port [] within) d e (c.loop-port.invariant.own named all d e alike)

pub loop-port-preserved : goal.loop-port-preserved
loop-port-preserved g c =
    let words = reads_words c.args.reads.now in
    let within : c.loop-port.port < length words.inputs = omega (arith, length-map c.args.reads.now.inputs.now string_bytes, c.loop-port-test.true) in
    let see = g.F.Files.seen in
    let pushed = bytes_pushed c.push.result c.push.new.self c.loop-port.captures c.in_ok-capture.capture c.push.ensures.items
    (ap is_ok c.in_ok-push.was) in
    record {
      seen = λ d. Stays-trans (see d c.args.files.now) (see d c.loop-port.files) (see d c.read_input.new.files) (c.loop-port.invariant.seen d)
          (c.in_ok-capture.ensures.seen d);
      own = λ named all d e alike. c.in_ok-capture.ensures.own named (all c.loop-port.port [] within) d e (c.loop-port.invariant.own named all d e alike);
      no_fault = λ p. c.in_ok-capture.ensures.no_fault p ∙ c.loop-port.invariant.no_fault p;
      never_fall = λ p. omega (arith, c.loop-port.invariant.never_fall p, c.in_ok-capture.ensures.never_fall p);
      room = omega (arith, c.read_input.auto.buf, c.loop-port.invariant.room);
      earlier = λ d. earlier_more words (see d c.read_input.new.files) c.loop-port.port c.in_ok-capture.capture.items within
          (IfSome-Stays (see d c.loop-port.files) (see d c.read_input.new.files) (EarlierFit words (Capture c.loop-port.port))
          (c.in_ok-capture.ensures.seen d) (c.loop-port.invariant.earlier d))
          (c.in_ok-capture.ensures.bytes d) c.in_ok-capture.ensures.fits;
      read = λ d. rw pushed (captures_more words (see d c.read_input.new.files) c.loop-port.port _ c.in_ok-capture.capture.items within
          (CapturesRead-Stays words.long _ (see d c.loop-port.files) (see d c.read_input.new.files) _ (c.in_ok-capture.ensures.seen d)
          (c.loop-port.invariant.read d))
          (c.in_ok-capture.ensures.bytes d) c.in_ok-capture.ensures.fits);
    }
