use Rattle.std.proofs.Common.{take, drop, ap, ◌∙◌, arith}
use Rattle.std.specs.Prelude.{option_map}
use Rattle.std.proofs.lemmas.List.{length-drop, take_rest}
use Rattle.std.proofs.lemmas.Result.{err_from_is_err_and}
use Rattle.outside.specs.Contents.{append_file}
use Rattle.outside.specs.Faults.{WriteOf}
use Rattle.outside.proofs.Alike.{alike_append_file}
use Rattle.outside.proofs.Counting.{NeverFall-Rose}
use Rattle.outside.proofs.Effects.{is_begun-append_file, write_more}
use Rattle.outside.proofs.whole_file.append_all.Goals as goal

pub returns-in_err-at-clause-seen : goal.returns-in_err-at-clause-seen
returns-in_err-at-clause-seen g c d =
    let failed = err_from_is_err_and c.from_residual.result c.from_residual.ensures.1 in
    rw failed.1 (
      NeverFall-Rose (g.F.Files.faults c.args.files.now) (g.F.Files.faults c.loop-at.files) (g.F.Files.faults c.write.new.self)
          (WriteOf c.args.name.now) c.loop-at.invariant.never_fall c.in_err-at.ensures.cause,
      (c.loop-at.at, c.in_err-at.ensures.seen d ∙ c.loop-at.invariant.seen d),
    )

pub returns-in_err-at-clause-own : goal.returns-in_err-at-clause-own
returns-in_err-at-clause-own g c named d e alike =
    rw (c.in_err-at.ensures.seen d, c.in_err-at.ensures.seen e) (c.loop-at.invariant.own named d e alike)

pub loop-at-preserved : goal.loop-at-preserved
loop-at-preserved g c = record {
  seen = λ d. (rw take_rest at (c.in_ok-at.ensures.seen d))
      ∙ ap (option_map (append_file c.args.name.now (take c.in_ok-at.field-0 (drop c.loop-at.at c.args.bytes.now)))) (c.loop-at.invariant.seen d)
      ∙ write_more c.args.name.now c.args.bytes.now c.loop-at.at c.in_ok-at.field-0 _;
  own = λ named d e alike. rw (c.in_ok-at.ensures.seen d, c.in_ok-at.ensures.seen e)
      (alike_append_file named c.args.name.now _ (g.F.Files.seen d c.loop-at.files) (g.F.Files.seen e c.loop-at.files)
      (c.loop-at.invariant.own named d e alike));
  no_fault = λ p. c.in_ok-at.ensures.no_fault p ∙ c.loop-at.invariant.no_fault p;
  never_fall = λ p. omega (arith, c.loop-at.invariant.never_fall p, c.in_ok-at.ensures.never_fall p);
  within = omega (arith, rw take_rest at c.in_ok-at.ensures.room, length-drop c.loop-at.at c.args.bytes.now, c.loop-at.invariant.within);
  begun = λ d. rw (c.in_ok-at.ensures.seen d)
      (is_begun-append_file c.args.name.now _ c.args.name.now (g.F.Files.seen d c.loop-at.files) (c.loop-at.invariant.begun d));
}
