use Rattle.std.proofs.Common.{◌≡◌, ℕ, None, Some, take, refl, subst}
use Rattle.named_schedulers.specs.Named.{decision_named}
use Rattle.journal_check.specs.Lawful.{post_failure}
use Rattle.journal_check.specs.Steps.{before_of}
use Rattle.journal_check.proofs.SlotFails.{posts_fail, then_outputs}
use Rattle.journal_check.proofs.judge.Judge.slot_failure.Goals as goal

pub returns-in-Some-clause-failure : goal.returns-in-Some-clause-failure
returns-in-Some-clause-failure c value is =
    let n = c.args.ports in
    let judge = c.args.self.now in
    let slot = c.args.slot.now in
    posts_fail (decision_named judge.scheduler) n judge.rounds c.args.t (before_of n judge) slot value is c.in-Some.reason
    (subst (λ (m : ℕ). Some c.in-Some.reason ≡ post_failure m (before_of m judge) (take n slot.rows) (take n slot.more)) c.requires.within.count
    c.in-Some.ensures)

pub returns-in-None-clause-failure : goal.returns-in-None-clause-failure
returns-in-None-clause-failure c value is =
    let n = c.args.ports in
    let judge = c.args.self.now in
    let slot = c.args.slot.now in
    then_outputs (decision_named judge.scheduler) n judge.rounds c.args.t (before_of n judge) slot value is c.decide_slot.result
    (decision_named judge.scheduler n judge.rounds c.args.t (take n slot.rows) judge.pointers).matched
    (subst (λ (m : ℕ). None ≡ post_failure m (before_of m judge) (take n slot.rows) (take n slot.more)) c.requires.within.count c.in-None.ensures)
    refl c.decide_slot.ensures.failure
