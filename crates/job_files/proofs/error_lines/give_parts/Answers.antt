use Rattle.std.proofs.Common.{arith, sym, ◌∙◌}
use Rattle.outside.specs.Faults.{ToErr}
use Rattle.outside.proofs.Counting.{le-Rose}
use Rattle.job_files.proofs.Printing.{given_more, given_to}
use Rattle.job_files.proofs.Putting.{went_wrong}
use Rattle.job_files.proofs.error_lines.give_parts.Goals as goal

pub returns-then-is_err : goal.returns-then-is_err
returns-then-is_err g c = record {
  line = λ d.
      let refused = sym c.is_err.ensures.value ∙ c.if-is_err.true in
      given_to c.args.parts.now c.give_part.result _ _
      (record {
        place = c.loop-part.part-index;
        part = _;
        mid = _;
        within = c.loop-part-test.true;
        before = c.loop-part.invariant.seen d;
        gives = c.give_part.ensures.seen d;
      }) _ _ refused
      (le-Rose _ _ _ (c.loop-part.invariant.never_fall ToErr) (went_wrong c.give_part.result refused c.give_part.ensures.cause));
  own = λ named d e alike. c.give_part.ensures.own named d e (c.loop-part.invariant.own named d e alike);
  no_others = λ p other. c.give_part.ensures.no_others p other ∙ c.loop-part.invariant.no_others p other;
  never_fall = λ p. omega (arith, c.loop-part.invariant.never_fall p, c.give_part.ensures.never_fall p);
}

pub loop-part-preserved : goal.loop-part-preserved
loop-part-preserved g c = record {
  seen = λ d. given_more c.args.parts.now c.give_part.result _ _
      (record {
        place = c.loop-part.part-index;
        part = _;
        mid = _;
        within = c.loop-part-test.true;
        before = c.loop-part.invariant.seen d;
        gives = c.give_part.ensures.seen d;
      }) (sym c.is_err.ensures.value ∙ c.if-is_err.false);
  own = λ named d e alike. c.give_part.ensures.own named d e (c.loop-part.invariant.own named d e alike);
  no_others = λ p other. c.give_part.ensures.no_others p other ∙ c.loop-part.invariant.no_others p other;
  never_fall = λ p. omega (arith, c.loop-part.invariant.never_fall p, c.give_part.ensures.never_fall p);
}
