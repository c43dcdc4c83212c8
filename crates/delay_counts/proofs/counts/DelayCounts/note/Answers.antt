use Rattle.std.proofs.Common.{◌<◌, ◌++◌, ◌∷◌, [], length, ap, sym, subst, arith}
use Rattle.std.proofs.lemmas.List.{get_or_read}
use Rattle.delay_counts.specs.CountSteps.{Counts, HasCounted, place_count, place_of}
use Rattle.delay_counts.proofs.Counting.{HasCounted-more, number-le, slots-le}
use Rattle.delay_counts.proofs.counts.DelayCounts.note.Goals as goal

pub overflow_add-index_mut : goal.overflow_add-index_mut
overflow_add-index_mut c =
    let s = c.self.inside in
    let counts : Counts = record { numbers = s.counts.items; total = s.total; slots = s.slots; longest = s.longest } in
    let inside : c.place_of.result < length s.counts.items = omega (arith, c.place_of.ensures.within, c.self.invariant.1.places) in
    omega (
      arith,
      get_or_read s.counts.items c.place_of.result c.index_mut.result.now inside c.index_mut.ensures.value 0,
      number-le counts c.self.invariant.0 c.self.invariant.1 c.place_of.result c.place_of.ensures.within,
      c.self.invariant.1.few,
    )

pub overflow_add-self-2 : goal.overflow_add-self-2
overflow_add-self-2 c =
    let s = c.self.inside in
    let counts : Counts = record { numbers = s.counts.items; total = s.total; slots = s.slots; longest = s.longest } in
    omega (arith, c.from.ensures, c.ranges.delay.fits, slots-le counts c.self.invariant.0 c.self.invariant.1, c.self.invariant.1.few)

pub invariant_of-self : goal.invariant_of-self
invariant_of-self c =
    let s = c.self.inside in
    let counts : Counts = record { numbers = s.counts.items; total = s.total; slots = s.slots; longest = s.longest } in
    let few : s.total < 1099511627776 = omega (arith, c.requires.few, ap (λ (m : Counts). m.total) c.self.view_is) in
    let inside : place_of c.args.delay < place_count = rw (← c.place_of.ensures.value) c.place_of.ensures.within in
    let found : c.place_of.result < length s.counts.items = omega (arith, c.place_of.ensures.within, c.self.invariant.1.places) in
    let number = get_or_read s.counts.items c.place_of.result c.index_mut.result.now found c.index_mut.ensures.value 0 in
    rw (number, c.place_of.ensures.value, c.from.ensures, c.max-self-inside.ensures)
    (c.self.invariant.0 ++ c.args.delay ∷ [], HasCounted-more counts c.self.invariant.0 c.self.invariant.1 c.args.delay c.ranges.delay.fits inside few)

pub returns-clause-noted : goal.returns-clause-noted
returns-clause-noted c = λ delays has.
    let s = c.self.inside in
    let counts : Counts = record { numbers = s.counts.items; total = s.total; slots = s.slots; longest = s.longest } in
    let few : s.total < 1099511627776 = omega (arith, c.requires.few, ap (λ (m : Counts). m.total) c.self.view_is) in
    let inside : place_of c.args.delay < place_count = rw (← c.place_of.ensures.value) c.place_of.ensures.within in
    let found : c.place_of.result < length s.counts.items = omega (arith, c.place_of.ensures.within, c.self.invariant.1.places) in
    let number = get_or_read s.counts.items c.place_of.result c.index_mut.result.now found c.index_mut.ensures.value 0 in
    rw (number, c.place_of.ensures.value, c.from.ensures, c.max-self-inside.ensures)
    (HasCounted-more counts delays (subst (λ (m : Counts). HasCounted m delays) (sym c.self.view_is) has) c.args.delay c.ranges.delay.fits inside few)
