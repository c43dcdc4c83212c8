use Rattle.std.proofs.Common.{◌∙◌, ◌<◌, ◌^◌, [], ◌∷◌, ◌++◌, length, sym, subst, arith}
use Rattle.std.proofs.lemmas.Grind.{get_or_default_zero}
use Rattle.simulated_slots.specs.TableSteps.{CountTable, HasCounted}
use Rattle.simulated_slots.proofs.Tables.{HasCounted-next, count-below}
use Rattle.simulated_slots.proofs.count_table.CountTable.note.Goals as goal

pub overflow_add-index_mut : goal.overflow_add-index_mut
overflow_add-index_mut c =
    let room = subst (λ (t : CountTable). c.args.number < length t.counts) (sym c.self.view_is) c.requires.size in
    let few = subst (λ (t : CountTable). t.total < 2 ^ 63) (sym c.self.view_is) c.requires.few in
    let below = count-below _ c.self.invariant.0 c.self.invariant.1 c.args.number room in
    let read = c.index_mut.ensures.value ∙ get_or_default_zero c.self.inside.counts.items c.args.number _ room in
    omega (arith, read, below, few)

pub invariant_of-self : goal.invariant_of-self
invariant_of-self c =
    let room = subst (λ (t : CountTable). c.args.number < length t.counts) (sym c.self.view_is) c.requires.size in
    let read = c.index_mut.ensures.value ∙ get_or_default_zero c.self.inside.counts.items c.args.number _ room in
    (c.self.invariant.0 ++ c.args.number ∷ [], HasCounted-next _ c.self.invariant.0 c.args.number _ room read c.self.invariant.1)

pub returns-clause-counted : goal.returns-clause-counted
returns-clause-counted c = λ numbers has.
    let room = subst (λ (t : CountTable). c.args.number < length t.counts) (sym c.self.view_is) c.requires.size in
    let read = c.index_mut.ensures.value ∙ get_or_default_zero c.self.inside.counts.items c.args.number _ room in
    HasCounted-next _ numbers c.args.number _ room read (subst (λ (t : CountTable). HasCounted t numbers) (sym c.self.view_is) has)
