use Rattle.std.proofs.Common.{◌≡◌, ◌∙◌, ◌+◌, ◌*◌, ◌<◌, ◌≤◌, length, ap, inr, subst, sym, arith}
use Rattle.delay_counts.specs.CountSteps.{Counts, HasCounted}
use Rattle.delay_counts.proofs.Numbers.{place_count-is}
use Rattle.delay_counts.proofs.Shares.{percentile-found, percentile-reached, sum-next, sum-within}
use Rattle.delay_counts.proofs.counts.DelayCounts.percentile.Goals as goal

pub index-requires : goal.index-requires
index-requires c = omega (arith, c.self.invariant.1.places, place_count-is, c.loop-place-test.true)

pub overflow_add-seen : goal.overflow_add-seen
overflow_add-seen c =
    let s = c.self.inside in
    let counts : Counts = record { numbers = s.counts.items; total = s.total; slots = s.slots; longest = s.longest } in
    let inside : c.loop-place.place < length s.counts.items = omega (arith, c.self.invariant.1.places, place_count-is, c.loop-place-test.true) in
    let next = sum-next s.counts.items c.loop-place.place c.index.result.now c.loop-place.seen inside c.index.ensures c.loop-place.invariant.counted in
    let most = sum-within counts c.self.invariant.0 c.self.invariant.1 (c.loop-place.place + 1) (omega (arith, place_count-is, c.loop-place-test.true)) in
    omega (arith, next, most, c.self.invariant.1.few)

pub overflow_mul-from : goal.overflow_mul-from
overflow_mul-from c =
    let s = c.self.inside in
    let counts : Counts = record { numbers = s.counts.items; total = s.total; slots = s.slots; longest = s.longest } in
    let inside : c.loop-place.place < length s.counts.items = omega (arith, c.self.invariant.1.places, place_count-is, c.loop-place-test.true) in
    let next = sum-next s.counts.items c.loop-place.place c.index.result.now c.loop-place.seen inside c.index.ensures c.loop-place.invariant.counted in
    let most = sum-within counts c.self.invariant.0 c.self.invariant.1 (c.loop-place.place + 1) (omega (arith, place_count-is, c.loop-place-test.true)) in
    rw c.from-in-loop-place.ensures (omega (arith, next, most, c.self.invariant.1.few))

pub delay_at-requires : goal.delay_at-requires
delay_at-requires c = omega (arith, place_count-is, c.loop-place-test.true)

pub returns-then-wanted-from : goal.returns-then-wanted-from
returns-then-wanted-from c = λ delays has.
    let s = c.self.inside in
    let counts : Counts = record { numbers = s.counts.items; total = s.total; slots = s.slots; longest = s.longest } in
    let wanted : c.from.result * s.total ≡ c.args.share * s.total = ap (λ n. n * s.total) c.from.ensures in
    let enough : c.from.result * s.total ≤ 10000 * (c.loop-place.seen + c.index.result.now) = rw c.from-in-loop-place.ensures at c.if-wanted-from.true in
    c.delay_at.ensures
    ∙ percentile-found counts delays (subst (λ (m : Counts). HasCounted m delays) (sym c.self.view_is) has) c.args.share c.loop-place.place
    c.index.result.now c.loop-place.seen (c.from.result * s.total) (omega (arith, place_count-is, c.loop-place-test.true)) c.index.ensures
    c.loop-place.invariant.counted wanted c.loop-place.invariant.early enough

pub loop-place-preserved : goal.loop-place-preserved
loop-place-preserved c =
    let s = c.self.inside in
    let inside : c.loop-place.place < length s.counts.items = omega (arith, c.self.invariant.1.places, place_count-is, c.loop-place-test.true) in
    let few : 10000 * (c.loop-place.seen + c.index.result.now) < c.from.result * s.total = rw c.from-in-loop-place.ensures at c.if-wanted-from.false in
    record {
      counted = sum-next s.counts.items c.loop-place.place c.index.result.now c.loop-place.seen inside c.index.ensures c.loop-place.invariant.counted;
      early = inr few;
    }

pub returns : goal.returns
returns c = λ delays has.
    let s = c.self.inside in
    let counts : Counts = record { numbers = s.counts.items; total = s.total; slots = s.slots; longest = s.longest } in
    absurd (percentile-reached counts delays (subst (λ (m : Counts). HasCounted m delays) (sym c.self.view_is) has) c.args.share c.loop-place.place
    c.loop-place.seen (c.from.result * s.total) c.requires.whole (omega arith) c.loop-place.invariant.counted (ap (λ n. n * s.total) c.from.ensures)
    c.loop-place.invariant.early)
