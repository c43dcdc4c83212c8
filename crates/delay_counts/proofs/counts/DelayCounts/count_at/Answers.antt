use Rattle.std.proofs.Common.{◌≡◌, ◌∙◌, ◌==◌, ◌<◌, ℕ, Option, Some, None, length, slice_index, sym, ap, arith}
use Rattle.std.proofs.lemmas.Bool.{cond-false, ne_eqb}
use Rattle.std.proofs.lemmas.List.{get_or_read}
use Rattle.delay_counts.specs.declared.counts.DelayCount.{DelayCount}
use Rattle.delay_counts.proofs.Numbers.{place_count-is}
use Rattle.delay_counts.proofs.counts.DelayCounts.count_at.Goals as goal

pub index-number-requires : goal.index-number-requires
index-number-requires c = omega (arith, c.requires, c.self.invariant.1.places, place_count-is)

pub delay_at-requires : goal.delay_at-requires
delay_at-requires c = omega (arith, c.requires, place_count-is)

pub returns : goal.returns
returns c =
    let s = c.self.inside in
    let number = c.index-number.result.now in
    let inside : c.args.place < length s.counts.items = omega (arith, c.requires, c.self.invariant.1.places, place_count-is) in
    let is : number ≡ slice_index s.counts.items c.args.place = get_or_read s.counts.items c.args.place number inside c.index-number.ensures 0 in
    rw (← c.self.view_is, ← is)
    (ap (λ (n : ℕ). let o : Option DelayCount = Some (record { delay = n; number = number }) in o) c.delay_at.ensures
    ∙ sym (cond-false (number == 0) None _ (ne_eqb number 0 c.if-number-eq0.false)))
