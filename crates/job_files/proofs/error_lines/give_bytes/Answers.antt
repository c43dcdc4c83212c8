use Rattle.std.proofs.Common.{take, drop, ap, sym, ◌∙◌, arith}
use Rattle.std.specs.Prelude.{option_map}
use Rattle.std.proofs.lemmas.List.{length-drop, take-append-drop, take_rest}
use Rattle.std.proofs.lemmas.Result.{err_from_is_err_and}
use Rattle.outside.specs.Contents.{append_err}
use Rattle.outside.proofs.Alike.{alike_append_err}
use Rattle.outside.proofs.Effects.{err_more}
use Rattle.job_files.proofs.error_lines.give_bytes.Goals as goal

pub returns-in_err-at-clause-seen : goal.returns-in_err-at-clause-seen
returns-in_err-at-clause-seen g c d =
    let failed = err_from_is_err_and c.from_residual.result c.from_residual.ensures.1 in
    rw failed.1 (
      take c.loop-at.at c.args.bytes.now,
      drop c.loop-at.at c.args.bytes.now,
      sym (take-append-drop c.loop-at.at c.args.bytes.now),
      c.in_err-at.ensures.seen d
          ∙ c.loop-at.invariant.seen d,
    )

pub returns-in_err-at-clause-own : goal.returns-in_err-at-clause-own
returns-in_err-at-clause-own g c named d e alike =
    rw (c.in_err-at.ensures.seen d, c.in_err-at.ensures.seen e) (c.loop-at.invariant.own named d e alike)

pub loop-at-preserved : goal.loop-at-preserved
loop-at-preserved g c = record {
  seen = λ d. (rw take_rest at (c.in_ok-at.ensures.seen d))
      ∙ ap (option_map (append_err (take c.in_ok-at.field-0 (drop c.loop-at.at c.args.bytes.now)))) (c.loop-at.invariant.seen d)
      ∙ err_more c.args.bytes.now c.loop-at.at c.in_ok-at.field-0 _;
  own = λ named d e alike. rw (c.in_ok-at.ensures.seen d, c.in_ok-at.ensures.seen e)
      (alike_append_err named _ (g.F.Files.seen d c.loop-at.files) (g.F.Files.seen e c.loop-at.files) (c.loop-at.invariant.own named d e alike));
  no_fault = λ p. c.in_ok-at.ensures.no_fault p ∙ c.loop-at.invariant.no_fault p;
  never_fall = λ p. omega (arith, c.loop-at.invariant.never_fall p, c.in_ok-at.ensures.never_fall p);
  within = omega (arith, rw take_rest at c.in_ok-at.ensures.room, length-drop c.loop-at.at c.args.bytes.now, c.loop-at.invariant.within);
}
