use Rattle.std.proofs.Common.{◌≡◌, ◌∙◌, ◌<◌, ◌≤◌, ◌+◌, ◌-◌, ◌++◌, length, ap, sym, subst, arith, refl, inl, inr}
use Rattle.voq_banks.specs.CellQueues.{names_of_packet}
use Rattle.voq_banks.specs.Queues.{queue_at, spare_at, place_of}
use Rattle.voq_banks.specs.FieldSteps.{names_of}
use Rattle.voq_banks.proofs.Banking.{place-lt, found_is, queue-of_ring, spare-of_ring, count-of_ring, names-admitted, queue-set, spare-set, others-set}
use Rattle.voq_banks.proofs.Banking.{AreKept-set, HasDepth-admitted, count-admitted}
use Rattle.voq_banks.proofs.banks.Banks.admit.Goals as goal

pub returns-clause-others : goal.returns-clause-others
returns-clause-others c =
    let s = c.self.inside in
    let inside : c.args.output < s.ports = subst (λ b. c.args.output < b.ports) (sym c.self.view_is) c.requires.output in
    rw (c.place_of.ensures, ← c.self.view_is)
    (others-set s.ports s.depth s.queues.items c.args.output c.args.level c.admit.new.self c.self.invariant.long inside c.requires.level)

pub returns-clause-queue : goal.returns-clause-queue
returns-clause-queue c =
    let s = c.self.inside in
    let inside : c.args.output < s.ports = subst (λ b. c.args.output < b.ports) (sym c.self.view_is) c.requires.output in
    let place = place_of c.args.output c.args.level in
    let found = found_is s.queues.items place _ (place-lt s.ports c.args.output c.args.level _ c.self.invariant.long inside c.requires.level)
    (rw c.place_of.ensures at c.index_mut-queue.ensures.value) in
    let old = queue-of_ring s.ports s.depth s.queues.items c.args.output c.args.level in
    rw (c.place_of.ensures, ← c.self.view_is)
    (queue-set s.ports s.depth s.queues.items c.args.output c.args.level c.admit.new.self c.self.invariant.long inside c.requires.level
    ∙ ap names_of c.admit.ensures ∙ names-admitted c.index_mut-queue.result.now c.args.packet c.args.cells
    ∙ ap (λ k. names_of k ++ names_of_packet c.args.packet c.args.cells) found
    ∙ ap (λ cells. cells ++ names_of_packet c.args.packet c.args.cells) (sym old))

pub returns-clause-spare : goal.returns-clause-spare
returns-clause-spare c =
    let s = c.self.inside in
    let inside : c.args.output < s.ports = subst (λ b. c.args.output < b.ports) (sym c.self.view_is) c.requires.output in
    let place = place_of c.args.output c.args.level in
    let found = found_is s.queues.items place _ (place-lt s.ports c.args.output c.args.level _ c.self.invariant.long inside c.requires.level)
    (rw c.place_of.ensures at c.index_mut-queue.ensures.value) in
    let old = spare-of_ring s.ports s.depth s.queues.items c.args.output c.args.level in
    rw (c.place_of.ensures, ← c.self.view_is)
    (spare-set s.ports s.depth s.queues.items c.args.output c.args.level c.admit.new.self c.self.invariant.long inside c.requires.level
    ∙ ap (λ k. k.spare) c.admit.ensures ∙ ap (λ k. k.spare - 1) found ∙ ap (λ spare. spare - 1) (sym old))

pub admit-requires-clause-fits : goal.admit-requires-clause-fits
admit-requires-clause-fits c =
    let s = c.self.inside in
    let inside : c.args.output < s.ports = subst (λ b. c.args.output < b.ports) (sym c.self.view_is) c.requires.output in
    let below = place-lt s.ports c.args.output c.args.level _ c.self.invariant.long inside c.requires.level in
    let place = place_of c.args.output c.args.level in
    let found = found_is s.queues.items place _ below (rw c.place_of.ensures at c.index_mut-queue.ensures.value) in
    let count : length (queue_at c.args.self.now c.args.output c.args.level) ≡ length c.index_mut-queue.result.now.cells =
    ap (λ b. length (queue_at b c.args.output c.args.level)) (sym c.self.view_is)
    ∙ count-of_ring s.ports s.depth s.queues.items c.args.output c.args.level ∙ ap (λ k. length k.cells) (sym found) in
    omega (arith, count, ap (λ b. b.depth) c.self.view_is, c.requires.fits, ap (λ k. k.depth) found, (c.self.invariant.deep place below).deep)

pub admit-requires-clause-spare : goal.admit-requires-clause-spare
admit-requires-clause-spare c =
    let s = c.self.inside in
    let inside : c.args.output < s.ports = subst (λ b. c.args.output < b.ports) (sym c.self.view_is) c.requires.output in
    let below = place-lt s.ports c.args.output c.args.level _ c.self.invariant.long inside c.requires.level in
    let found = found_is s.queues.items (place_of c.args.output c.args.level) _ below (rw c.place_of.ensures at c.index_mut-queue.ensures.value) in
    let spare : spare_at c.args.self.now c.args.output c.args.level ≡ c.index_mut-queue.result.now.spare =
    ap (λ b. spare_at b c.args.output c.args.level) (sym c.self.view_is) ∙ spare-of_ring s.ports s.depth s.queues.items c.args.output c.args.level
    ∙ ap (λ k. k.spare) (sym found) in
    omega (arith, spare, c.requires.spare)

pub invariant_of-self : goal.invariant_of-self
invariant_of-self c =
    let s = c.self.inside in
    let inside : c.args.output < s.ports = subst (λ b. c.args.output < b.ports) (sym c.self.view_is) c.requires.output in
    let below = place-lt s.ports c.args.output c.args.level _ c.self.invariant.long inside c.requires.level in
    let place = place_of c.args.output c.args.level in
    let found = found_is s.queues.items place _ below (rw c.place_of.ensures at c.index_mut-queue.ensures.value) in
    let old = c.index_mut-queue.result.now in
    let count : length (queue_at c.args.self.now c.args.output c.args.level) ≡ length old.cells =
    ap (λ b. length (queue_at b c.args.output c.args.level)) (sym c.self.view_is)
    ∙ count-of_ring s.ports s.depth s.queues.items c.args.output c.args.level ∙ ap (λ k. length k.cells) (sym found) in
    let fits : length old.cells + c.args.cells ≤ s.depth = omega (arith, count, ap (λ b. b.depth) c.self.view_is, c.requires.fits) in
    let deep = HasDepth-admitted s.depth c.args.packet c.args.cells old c.admit.new.self (rw found (c.self.invariant.deep place below)) fits c.admit.ensures in
    let some : 0 < length c.admit.new.self.cells =
    omega (arith, c.requires.some, count-admitted c.args.packet c.args.cells old c.admit.new.self c.admit.ensures) in
    rw c.place_of.ensures
    (AreKept-set s.ports s.depth s.queues.items c.args.output c.args.level c.admit.new.self c.self.invariant.long inside c.requires.level s.masks
    c.with.result c.self.told c.self.invariant deep
    (λ y other. (λ h. elim ((c.with.ensures y).0 h) [ inl here ↦ absurd (other here) | inr was ↦ was ], λ h. (c.with.ensures y).1 (inr h)))
    (λ _. some, λ _. (c.with.ensures c.args.output).1 (inl refl)))
