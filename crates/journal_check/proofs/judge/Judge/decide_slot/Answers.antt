use Rattle.std.proofs.Common.{◌≡◌, ◌∙◌, ℕ, None, Some, length, take, refl, ap, arith, subst}
use Rattle.std.proofs.lemmas.List.{length-take}
use Rattle.std.proofs.lemmas.Grind.{common_steps}
use Rattle.named_schedulers.specs.Named.{decision_named}
use Rattle.journal_check.specs.Lawful.{output_failure}
use Rattle.journal_check.specs.Steps.{before_of}
use Rattle.journal_check.proofs.SlotFails.{left}
use Rattle.journal_check.proofs.judge.Judge.decide_slot.Goals as goal

pub returns-in-Some-clause-failure : goal.returns-in-Some-clause-failure
returns-in-Some-clause-failure c =
    let n = c.args.ports in
    let judge = c.args.self.now in
    let rows = take n c.args.slot.now.rows in
    let fed = take n c.args.slot.now.fed in
    let decided = decision_named judge.scheduler in
    subst (λ (m : ℕ). Some c.in-Some.reason ≡ output_failure m fed (decided m judge.rounds c.args.t rows judge.pointers).matched)
    c.requires.within.count (c.in-Some.ensures.failure ∙ ap (output_failure (length rows) fed) c.in-Some.ensures.matched)

pub returns-in-None-clause-failure : goal.returns-in-None-clause-failure
returns-in-None-clause-failure c =
    let n = c.args.ports in
    let judge = c.args.self.now in
    let rows = take n c.args.slot.now.rows in
    let fed = take n c.args.slot.now.fed in
    let decided = decision_named judge.scheduler in
    subst (λ (m : ℕ). None ≡ output_failure m fed (decided m judge.rounds c.args.t rows judge.pointers).matched)
    c.requires.within.count (c.in-None.ensures.failure ∙ ap (output_failure (length rows) fed) c.in-None.ensures.matched)

pub returns-in-None-clause-next : goal.returns-in-None-clause-next
returns-in-None-clause-next c value is =
    let n = c.args.ports in
    let judge = c.args.self.now in
    let rows = c.args.slot.now.rows in
    let fed = c.args.slot.now.fed in
    let mid = c.output_failure.new.self in
    let long : length (take n fed) ≡ n = first_of (grind (arith, common_steps), omega (arith, length-take n fed)) in
    let ready = c.in-None.ensures.ready in
    let count = c.requires.within.count in
    let few = c.requires.ready.ports_few in
    let places = subst (λ (m : ℕ). mid.pointers ≡ (decision_named judge.scheduler m judge.rounds c.args.t (take n rows) judge.pointers).places) count
    c.in-None.ensures.places in
    left (decision_named judge.scheduler) n judge.rounds c.args.t (before_of n judge) c.args.slot.now value is
    (record mid { rows = rows; going = c.is_going-self.result }) refl c.is_going-self.ensures places long (ready.matched ∙ count)
    (c.in-None.ensures.failure ∙ ap (λ (k : ℕ). output_failure k (take n fed) mid.matched) count)
