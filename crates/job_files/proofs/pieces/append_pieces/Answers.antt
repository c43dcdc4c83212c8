use Rattle.std.proofs.Common.{◌+◌, ◌++◌, ◌∙◌, [], take, length, refl, sym, ap, arith}
use Rattle.std.specs.Prelude.{option_map}
use Rattle.std.proofs.lemmas.Result.{err_from_is_err_and}
use Rattle.outside.specs.Contents.{append_file}
use Rattle.outside.specs.Faults.{WriteOf}
use Rattle.outside.proofs.Alike.{alike_append_file}
use Rattle.outside.proofs.Counting.{NeverFall-Rose}
use Rattle.outside.proofs.Effects.{is_begun-append_file}
use Rattle.job_files.proofs.Piecewise.{appended-more, appended-none, first-part, nothing-left, rest, rest-first, rest-fits, written-all, written-end}
use Rattle.job_files.proofs.Piecewise.{written-more, written-next}
use Rattle.job_files.proofs.pieces.append_pieces.Goals as goal

pub loop-at-init : goal.loop-at-init
loop-at-init g c =
    let left = g.P.Pieces.left in
    let next = c.put-end in
    record {
      done = [];
      seen = λ d. sym (appended-none c.args.name.now (g.F.Files.seen d c.args.files.now));
      own = λ named d e alike. alike;
      text = rest-first next.new.buf (left c.args.pieces.now) (left next.new.self) next.result next.ensures.text;
      last = λ over. nothing-left next.new.buf (left c.args.pieces.now) (left next.new.self) next.result next.ensures.text (next.ensures.end.0)
          (omega (arith, over));
      no_fault = λ p. refl;
      never_fall = λ p. omega arith;
      begun = c.requires.begun;
      before = omega arith;
      within = omega (arith, next.ensures.room, next.auto.buf);
      long = next.auto.buf;
    }

pub loop-at-preserved : goal.loop-at-preserved
loop-at-preserved g c =
    let was = c.loop-at.invariant in
    let see = g.F.Files.seen in
    let left = g.P.Pieces.left in
    let k = c.in_ok-at.field-0 in
    let piece = rest c.loop-at.buf c.loop-at.at c.loop-at.end in
    let fits = rest-fits c.loop-at.buf c.loop-at.at k c.loop-at.end was.before c.in_ok-at.ensures.room in
    record {
      done = was.done ++ take k piece;
      seen = λ d. appended-more c.args.name.now was.done (take k piece) (see d c.args.files.now) (see d c.loop-at.files) (see d c.write.new.self)
          (c.in_ok-at.ensures.seen d) (was.seen d);
      own = λ named d e alike. rw (c.in_ok-at.ensures.seen d, c.in_ok-at.ensures.seen e)
          (alike_append_file named c.args.name.now _ (see d c.loop-at.files) (see e c.loop-at.files) (was.own named d e alike));
      text = written-more (left c.args.pieces.now) was.done c.loop-at.buf (left c.loop-at.pieces) c.loop-at.at k c.loop-at.end fits was.text;
      last = λ over. absurd (c.if-at-end.false (omega (arith, over, fits)));
      no_fault = λ p. c.in_ok-at.ensures.no_fault p ∙ was.no_fault p;
      never_fall = λ p. omega (arith, was.never_fall p, c.in_ok-at.ensures.never_fall p);
      begun = λ d. rw (c.in_ok-at.ensures.seen d) (is_begun-append_file c.args.name.now _ c.args.name.now (see d c.loop-at.files) (was.begun d));
      before = fits;
      within = was.within;
      long = was.long;
    }

pub loop-at-preserved-then-at-end : goal.loop-at-preserved-then-at-end
loop-at-preserved-then-at-end g c =
    let was = c.loop-at.invariant in
    let see = g.F.Files.seen in
    let left = g.P.Pieces.left in
    let k = c.in_ok-at.field-0 in
    let piece = rest c.loop-at.buf c.loop-at.at c.loop-at.end in
    let fits = rest-fits c.loop-at.buf c.loop-at.at k c.loop-at.end was.before c.in_ok-at.ensures.room in
    let next = c.put-end-then-at-end in
    let text = left c.args.pieces.now in
    let all = written-all text (was.done ++ take k piece) c.loop-at.buf (left c.loop-at.pieces) (c.loop-at.at + k) c.loop-at.end
    (omega (arith, c.if-at-end.true))
    (written-more text was.done c.loop-at.buf (left c.loop-at.pieces) c.loop-at.at k c.loop-at.end fits was.text) in
    record {
      done = was.done ++ take k piece;
      seen = λ d. appended-more c.args.name.now was.done (take k piece) (see d c.args.files.now) (see d c.loop-at.files) (see d c.write.new.self)
          (c.in_ok-at.ensures.seen d) (was.seen d);
      own = λ named d e alike. rw (c.in_ok-at.ensures.seen d, c.in_ok-at.ensures.seen e)
          (alike_append_file named c.args.name.now _ (see d c.loop-at.files) (see e c.loop-at.files) (was.own named d e alike));
      text = written-next text (was.done ++ take k piece) (left c.loop-at.pieces) next.new.buf (left next.new.self) next.result all next.ensures.text;
      last = λ over. nothing-left next.new.buf (left c.loop-at.pieces) (left next.new.self) next.result next.ensures.text next.ensures.end.0
          (omega (arith, over));
      no_fault = λ p. c.in_ok-at.ensures.no_fault p ∙ was.no_fault p;
      never_fall = λ p. omega (arith, was.never_fall p, c.in_ok-at.ensures.never_fall p);
      begun = λ d. rw (c.in_ok-at.ensures.seen d) (is_begun-append_file c.args.name.now _ c.args.name.now (see d c.loop-at.files) (was.begun d));
      before = omega arith;
      within = omega (arith, next.ensures.room, next.auto.buf);
      long = next.auto.buf ∙ was.long;
    }

pub returns-in_err-at-clause-seen : goal.returns-in_err-at-clause-seen
returns-in_err-at-clause-seen g c d =
    let was = c.loop-at.invariant in
    let was_seen = g.F.Files.seen d c.args.files.now in
    let failed = err_from_is_err_and c.from_residual.result c.from_residual.ensures.1 in
    rw failed.1 (
      NeverFall-Rose (g.F.Files.faults c.args.files.now) (g.F.Files.faults c.loop-at.files) (g.F.Files.faults c.write.new.self)
          (WriteOf c.args.name.now) was.never_fall c.in_err-at.ensures.cause,
      (
        length was.done,
        c.in_err-at.ensures.seen d ∙ was.seen d ∙ ap (λ xs. option_map (append_file c.args.name.now xs) was_seen) (first-part was.done _ _ was.text),
      ),
    )

pub returns-in_err-at-clause-own : goal.returns-in_err-at-clause-own
returns-in_err-at-clause-own g c named d e alike =
    rw (c.in_err-at.ensures.seen d, c.in_err-at.ensures.seen e) (c.loop-at.invariant.own named d e alike)

pub returns-clause-seen : goal.returns-clause-seen
returns-clause-seen g c d =
    let was = c.loop-at.invariant in
    let left = g.P.Pieces.left in
    let text = left c.args.pieces.now in
    let all = written-all text was.done c.loop-at.buf (left c.loop-at.pieces) c.loop-at.at c.loop-at.end (omega arith) was.text in
    was.seen d ∙ ap (λ xs. option_map (append_file c.args.name.now xs) (g.F.Files.seen d c.args.files.now))
    (written-end text was.done (left c.loop-at.pieces) all (was.last (omega arith)))
