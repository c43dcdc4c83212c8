use Rattle.std.proofs.Common.{◌∙◌, ◌<◌, ◌∷◌, ◌↔◌, ap, map, sym, subst}
use Rattle.rotating_pick.specs.PortSets.{Has}
use Rattle.voq_banks.specs.Queues.{place_of}
use Rattle.voq_banks.specs.FieldSteps.{names_of}
use Rattle.voq_banks.proofs.Banking.{place-lt, found_is, queue-of_ring, spare-of_ring, queue-set, spare-set, others-set, AreKept-set, HasDepth-popped}
use Rattle.voq_banks.proofs.banks.Banks.pop.Goals as goal

pub returns-clause-others : goal.returns-clause-others
returns-clause-others c =
    let s = c.self.inside in
    let inside : c.args.output < s.ports = subst (λ b. c.args.output < b.ports) (sym c.self.view_is) c.requires.output in
    rw (c.place_of.ensures, ← c.self.view_is)
    (others-set s.ports s.depth s.queues.items c.args.output c.args.level c.pop.new.self c.self.invariant.long inside c.requires.level)

pub returns-clause-queue : goal.returns-clause-queue
returns-clause-queue c =
    let s = c.self.inside in
    let inside : c.args.output < s.ports = subst (λ b. c.args.output < b.ports) (sym c.self.view_is) c.requires.output in
    let place = place_of c.args.output c.args.level in
    let found = found_is s.queues.items place _ (place-lt s.ports c.args.output c.args.level _ c.self.invariant.long inside c.requires.level)
    (rw c.place_of.ensures at c.index_mut-queue.ensures.value) in
    let old = queue-of_ring s.ports s.depth s.queues.items c.args.output c.args.level in
    let new = queue-set s.ports s.depth s.queues.items c.args.output c.args.level c.pop.new.self c.self.invariant.long inside c.requires.level in
    rw (c.place_of.ensures, ← c.self.view_is)
    (old ∙ ap names_of (sym found) ∙ ap (map (λ cell. cell.name)) c.pop.ensures.cells ∙ ap (λ cells. c.pop.result.name ∷ cells) (sym new))

pub returns-clause-spare : goal.returns-clause-spare
returns-clause-spare c =
    let s = c.self.inside in
    let inside : c.args.output < s.ports = subst (λ b. c.args.output < b.ports) (sym c.self.view_is) c.requires.output in
    let place = place_of c.args.output c.args.level in
    let found = found_is s.queues.items place _ (place-lt s.ports c.args.output c.args.level _ c.self.invariant.long inside c.requires.level)
    (rw c.place_of.ensures at c.index_mut-queue.ensures.value) in
    let old = spare-of_ring s.ports s.depth s.queues.items c.args.output c.args.level in
    rw (c.place_of.ensures, ← c.self.view_is)
    (spare-set s.ports s.depth s.queues.items c.args.output c.args.level c.pop.new.self c.self.invariant.long inside c.requires.level ∙ c.pop.ensures.spare
    ∙ ap (λ k. k.spare) found ∙ sym old)

pub invariant_of-self : goal.invariant_of-self
invariant_of-self c =
    let s = c.self.inside in
    let inside : c.args.output < s.ports = subst (λ b. c.args.output < b.ports) (sym c.self.view_is) c.requires.output in
    let below = place-lt s.ports c.args.output c.args.level _ c.self.invariant.long inside c.requires.level in
    let place = place_of c.args.output c.args.level in
    let found = found_is s.queues.items place _ below (rw c.place_of.ensures at c.index_mut-queue.ensures.value) in
    let deep = HasDepth-popped s.depth c.pop.result c.index_mut-queue.result.now c.pop.new.self
    (rw found (c.self.invariant.deep place below)) c.pop.ensures.depth c.pop.ensures.cells in
    let here = subst (λ waiting. Has c.mask_after.result c.args.output ↔ (0 < waiting)) c.cells-waiting.ensures.cells c.mask_after.ensures.output in
    rw c.place_of.ensures
    (AreKept-set s.ports s.depth s.queues.items c.args.output c.args.level c.pop.new.self c.self.invariant.long inside c.requires.level s.masks
    c.mask_after.result c.self.told c.self.invariant deep c.mask_after.ensures.others here)
