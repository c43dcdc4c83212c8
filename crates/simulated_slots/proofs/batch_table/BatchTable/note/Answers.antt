use Rattle.std.proofs.Common.{◌∙◌, ◌<◌, ◌^◌, [], ◌∷◌, ◌++◌, length, sym, subst, arith}
use Rattle.std.proofs.lemmas.Grind.{get_or_default_zero}
use Rattle.simulated_slots.specs.TableSteps.{BatchDelay, BatchTable, HasBatched}
use Rattle.simulated_slots.proofs.Tables.{HasBatched-next, delays-below}
use Rattle.simulated_slots.proofs.batch_table.BatchTable.note.Goals as goal

pub overflow_add-index_mut : goal.overflow_add-index_mut
overflow_add-index_mut c =
    let room = subst (λ (t : BatchTable). c.args.batch < length t.delays) (sym c.self.view_is) c.requires.size in
    let few = subst (λ (t : BatchTable). t.departed.total < 2 ^ 63) (sym c.self.view_is) c.requires.few in
    let below = delays-below _ c.self.invariant.0 c.self.invariant.1 c.args.batch room in
    let read = c.index_mut.ensures.value ∙ get_or_default_zero c.self.inside.delays.items c.args.batch _ room in
    omega (arith, read, below, few, c.from.ensures, c.ranges.delay)

pub invariant_of-self : goal.invariant_of-self
invariant_of-self c =
    let room = subst (λ (t : BatchTable). c.args.batch < length t.delays) (sym c.self.view_is) c.requires.size in
    let read = c.index_mut.ensures.value ∙ get_or_default_zero c.self.inside.delays.items c.args.batch _ room in
    let d : BatchDelay = record { batch = c.args.batch; delay = c.args.delay } in (
      c.self.invariant.0 ++ d ∷ [],
      rw c.from.ensures (HasBatched-next _ c.note.new.self c.self.invariant.0 d _ room read c.ranges.delay.fits c.self.invariant.1 c.note.ensures.counted),
    )

pub returns-clause-noted : goal.returns-clause-noted
returns-clause-noted c = λ noted has.
    let room = subst (λ (t : BatchTable). c.args.batch < length t.delays) (sym c.self.view_is) c.requires.size in
    let read = c.index_mut.ensures.value ∙ get_or_default_zero c.self.inside.delays.items c.args.batch _ room in
    rw c.from.ensures (HasBatched-next _ c.note.new.self noted (record { batch = c.args.batch; delay = c.args.delay }) _ room read c.ranges.delay.fits
    (subst (λ (t : BatchTable). HasBatched t noted) (sym c.self.view_is) has) c.note.ensures.counted)
