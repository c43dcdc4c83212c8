use Rattle.std.proofs.Common.{◌∙◌, length, drop, ap, sym, subst, arith}
use Rattle.std.proofs.lemmas.List.{take_at}
use Rattle.queue_measures.specs.NotingSteps.{Input, IsNoted}
use Rattle.queue_measures.specs.Steps.{MayCount, with_arrivals}
use Rattle.queue_measures.proofs.Counting.{noted-may, noted-next, with_arrivals-count}
use Rattle.queue_measures.proofs.inputs.Input.note.Goals as goal

pub arrive-arrival-requires : goal.arrive-arrival-requires
arrive-arrival-requires c =
    let plan = c.requires.0 in
    let served = c.requires.1 in
    let noted = subst (λ (i : Input). IsNoted plan i served) (sym c.self.view_is) c.requires.2 in
    (plan, served, noted.counts, c.requires.3)

pub count_arrival-requires : goal.count_arrival-requires
count_arrival-requires c =
    let plan = c.requires.0 in
    let served = c.requires.1 in
    let noted = subst (λ (i : Input). IsNoted plan i served) (sym c.self.view_is) c.requires.2 in
    let told = c.arrive-arrival.ensures in
    λ packet is. subst (λ ns. MayCount c.args.ports c.arrive-arrival.new.self.lengths ns packet) (sym c.deref_mut.ensures.value)
    (noted-may plan served c.self.inside.queues c.self.inside.numbers.items noted c.args.ports c.args.slot c.requires.3 c.requires.4 c.arrive-arrival.new.self
    (told.counts plan served noted.counts c.requires.3) c.arrive-arrival.result (told.arrival plan served noted.counts c.requires.3) packet is)

pub leave-requires : goal.leave-requires
leave-requires c =
    let plan = c.requires.0 in
    let served = c.requires.1 in
    let noted = subst (λ (i : Input). IsNoted plan i served) (sym c.self.view_is) c.requires.2 in
    (plan, served, c.arrive-arrival.ensures.counts plan served noted.counts c.requires.3, c.requires.5, c.requires.6)

pub returns : goal.returns
returns c = λ plan served was now size row servable.
    let noted = subst (λ (i : Input). IsNoted plan i served) (sym c.self.view_is) was in
    let told = c.arrive-arrival.ensures in
    let counts = told.counts plan served noted.counts now in
    let numbers = c.count_arrival.ensures
    ∙ ap (with_arrivals c.args.ports c.args.slot c.arrive-arrival.new.self.lengths c.arrive-arrival.result) c.deref_mut.ensures.value in
    let old = c.self.inside.numbers in
    let count = ap length numbers ∙ with_arrivals-count c.args.ports c.args.slot c.arrive-arrival.new.self.lengths c.arrive-arrival.result old.items in
    let kept = take_at c.count_arrival.new.numbers (drop (length c.count_arrival.new.numbers) old.items) old.len (count ∙ sym old.ok.0) in
    noted-next plan served c.self.inside.queues old.items noted c.args.ports c.args.slot now size c.arrive-arrival.new.self
    counts c.arrive-arrival.result (told.arrival plan served noted.counts now) c.args.part _ c.leave.new.self (kept ∙ numbers)
    (c.leave.ensures plan served counts row servable)

pub invariant_of-self : goal.invariant_of-self
invariant_of-self c =
    let numbers = c.count_arrival.ensures
    ∙ ap (with_arrivals c.args.ports c.args.slot c.arrive-arrival.new.self.lengths c.arrive-arrival.result) c.deref_mut.ensures.value in
    let old = c.self.inside.numbers in
    let count = ap length numbers ∙ with_arrivals-count c.args.ports c.args.slot c.arrive-arrival.new.self.lengths c.arrive-arrival.result old.items in
    let kept = ap length (take_at c.count_arrival.new.numbers (drop (length c.count_arrival.new.numbers) old.items) old.len (count ∙ sym old.ok.0)) in
    let few = c.self.invariant in
    omega (arith, kept, count, few)
