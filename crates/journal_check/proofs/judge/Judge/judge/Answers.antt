use Rattle.std.proofs.Common.{◌≡◌, ◌∙◌, ◌++◌, ◌∷◌, [], ℕ, None, length, sym, subst}
use Rattle.std.proofs.option.Match.{None-if_not_some}
use Rattle.named_schedulers.specs.Named.{decision_named}
use Rattle.service_bound.specs.Waits.{NotedSlot}
use Rattle.service_bound.specs.MeterSteps.{HasNoted}
use Rattle.journal_check.specs.Lawful.{after_slot, failure_in}
use Rattle.journal_check.specs.Steps.{before_of}
use Rattle.journal_check.proofs.Judged.{passed, noted_same}
use Rattle.journal_check.proofs.judge.Judge.judge.Goals as goal

pub returns-in-None-clause-judged : goal.returns-in-None-clause-judged
returns-in-None-clause-judged c slots value count is judged =
    let n = c.args.ports in
    let old = c.args.self.now in
    let mid = c.slot_failure.new.self in
    let was : old.failure ≡ None = None-if_not_some old.failure (sym c.is_some.ensures ∙ c.if-is_some.false) in
    let stays = c.in-None.ensures.stays in
    let why : None ≡ failure_in (decision_named old.scheduler) n old.rounds (length slots) (before_of n old) value =
    subst (λ (t : ℕ). None ≡ failure_in (decision_named old.scheduler) n old.rounds t (before_of n old) value) count (c.in-None.ensures.failure value is) in
    let next : before_of n mid ≡ after_slot (decision_named old.scheduler) n old.rounds c.args.t (before_of n old) value = c.in-None.ensures.next value is in
    let next_at : before_of n mid ≡ after_slot (decision_named old.scheduler) n old.rounds (length slots) (before_of n old) value =
    subst (λ (t : ℕ). before_of n mid ≡ after_slot (decision_named old.scheduler) n old.rounds t (before_of n old) value) count next in
    passed (decision_named old.scheduler) n old.rounds slots value old (record mid { meter = c.note.new.self }) judged was (stays.3 ∙ was) (sym why) next_at
    (λ noted h.
    subst (λ (slot : NotedSlot). HasNoted c.note.new.self (noted ++ slot ∷ []))
    (noted_same n c.args.t c.args.slot.now value old mid is next)
    (c.note.ensures.noted noted (subst (λ m. HasNoted m noted) (sym stays.2) h)))
