use Rattle.std.proofs.Common.{arith, sym, ◌∙◌}
use Rattle.outside.proofs.Counting.{last_calls}
use Rattle.outside.proofs.Putting.{StopsAt-wider}
use Rattle.job_files.proofs.Putting.{put_more, put_to, went_well}
use Rattle.job_files.proofs.output_files.put_all.Goals as goal

pub returns-then-is_err-clause-err : goal.returns-then-is_err-clause-err
returns-then-is_err-clause-err g c d =
    let counts = g.F.Files.faults in
    let was = counts c.args.files.now in
    let mid = counts c.loop-place.files in
    let now = counts c.put_file.new.files in
    StopsAt-wider _ was now (last_calls was mid now c.loop-place.invariant.never_fall) _ _
    (put_to c.args.output_files.now c.put_file.result mid now _ _
    (record {
      place = c.loop-place.place;
      file = c.index-output_files-place.result;
      mid = _;
      within = c.loop-place-test.true;
      file_is = c.index-output_files-place.is;
      before = c.loop-place.invariant.seen d;
      puts = c.put_file.ensures.seen d;
    }) (sym c.is_err.ensures.value ∙ c.if-is_err.true))

pub returns-then-is_err-clause-own : goal.returns-then-is_err-clause-own
returns-then-is_err-clause-own g c named d e alike = c.put_file.ensures.own named d e (c.loop-place.invariant.own named d e alike)

pub loop-place-preserved : goal.loop-place-preserved
loop-place-preserved g c = record {
  seen = λ d. put_more c.args.output_files.now c.put_file.result _ _ _ _
      (record {
        place = c.loop-place.place;
        file = c.index-output_files-place.result;
        mid = _;
        within = c.loop-place-test.true;
        file_is = c.index-output_files-place.is;
        before = c.loop-place.invariant.seen d;
        puts = c.put_file.ensures.seen d;
      }) (sym c.is_err.ensures.value ∙ c.if-is_err.false);
  own = λ named d e alike. c.put_file.ensures.own named d e (c.loop-place.invariant.own named d e alike);
  no_fault = λ p. went_well c.put_file.result (sym c.is_err.ensures.value ∙ c.if-is_err.false) c.put_file.ensures.no_fault p
      ∙ c.loop-place.invariant.no_fault p;
  never_fall = λ p. omega (arith, c.loop-place.invariant.never_fall p, c.put_file.ensures.never_fall p);
}
