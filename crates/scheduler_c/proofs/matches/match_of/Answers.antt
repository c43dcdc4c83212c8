use Rattle.std.proofs.Common.{◌≡◌, ℕ, ◌<◌, ◌∙◌, Some, length, ap, arith, refl, sym, subst, slice_index_or}
use Rattle.std.proofs.lemmas.Bool.{false≢true}
use Rattle.std.proofs.lemmas.List.{get_or_default}
use Rattle.slot_match.specs.Matches.{IsMatch}
use Rattle.scheduler_c.specs.Feeds.{matched_from, no_feed, feed_from}
use Rattle.scheduler_c.specs.Matches.{IsReadyFor}
use Rattle.scheduler_c.proofs.Pairs.{ready-in_match, fed_of-matched_from, matched_from-made}
use Rattle.scheduler_c.proofs.matches.match_of.Goals as goal

pub returns-then-not-add_pair-clause-some : goal.returns-then-not-add_pair-clause-some
returns-then-not-add_pair-clause-some c = (
  λ e. absurd (false≢true e),
  λ whole.
      let feeds = c.args.feeds.now in
      let part = c.loop-output.matched in
      let output = c.loop-output.output in
      let kept = c.loop-output.invariant in
      let count = c.requires.feeds.count in
      let inside : output < length feeds = omega (arith, c.loop-output-test.true) in
      let read : feed_from (slice_index_or feeds output no_feed) ≡ Some c.in-Some.fed =
      ap feed_from (get_or_default feeds output no_feed _ inside) ∙ sym c.in-Some.ensures.value in
      let here = fed_of-matched_from feeds output ∙ read in
      let done = λ (j : ℕ) (below : j < output). kept.done j below ∙ sym (fed_of-matched_from feeds j) in
      let refused = λ (ready : IsReadyFor part c.in-Some.fed). false≢true (c.if-not-add_pair.ensures.ready.1 ready) in
      absurd (ready-in_match c.args.n (matched_from feeds) part output c.in-Some.fed whole here done kept.rest refused),
)

pub returns-clause-value : goal.returns-clause-value
returns-clause-value c =
    let count = c.requires.feeds.count in
    let kept = c.loop-output.invariant in
    matched_from-made c.args.feeds.now c.loop-output.matched (kept.count ∙ sym count) (λ j below. kept.done j (omega (arith, c.loop-output-test.false)))

pub returns-clause-some : goal.returns-clause-some
returns-clause-some c = (λ e. subst (IsMatch c.args.n) (returns-clause-value c) c.loop-output.invariant.whole, λ whole. refl)
