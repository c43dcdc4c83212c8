use Rattle.std.proofs.Common.{◌≡◌, ◌<◌, ◌∙◌, ℕ, length, ap, sym, inl, inr, arith, rules}
use Rattle.std.proofs.lemmas.Bool.{cases_eq}
use Rattle.std.proofs.lemmas.List.{get_or_default}
use Rattle.slot_match.specs.Matches.{fed_of}
use Rattle.scheduler_c.specs.Feeds.{no_feed, feed_from, matched_from}
use Rattle.scheduler_c.proofs.Pairs.{fed_of-matched_from}
use Rattle.scheduler_c.proofs.queue_sets.take_served.Goals as goal

pub loop-output-preserved : goal.loop-output-preserved
loop-output-preserved c =
    let feeds = c.args.feeds.now in
    let output = c.loop-output.output in
    let now = c.loop-output.invariant.taken in
    let one = c.take_output.ensures in
    let count = c.requires.feeds.count in
    let inside : output < length feeds = omega (arith, c.loop-output-test.true) in
    let words = fed_of-matched_from feeds output ∙ ap feed_from (get_or_default feeds output no_feed _ inside) in
    let read = λ (j : ℕ) (same : j ≡ output). ap (fed_of (matched_from feeds)) same ∙ words in
    record {
      count = search rules;
      taken = λ place j place_in. (
        λ has.
            let a = (one place j place_in).0 has in
            let b = (now place j place_in).0 a.0 in (
              b.0,
              λ j_in serves. elim (cases_eq j output) [ inl same ↦ a.1 same (sym (read j same) ∙ serves) | inr apart ↦ b.1 (omega arith) serves ],
            ),
        λ both.
            let before = (now place j place_in).1 (both.0, λ j_in serves. both.1 (omega arith) serves) in
            (one place j place_in).1 (before, λ same feed. both.1 (omega arith) (read j same ∙ feed)),
      );
    }
