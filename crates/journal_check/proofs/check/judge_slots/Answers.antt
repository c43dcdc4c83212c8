use Rattle.std.proofs.Common.{ℕ, ◌+◌, ◌∙◌, ◌++◌, ◌∷◌, [], drop, ap, subst, sym}
use Rattle.std.proofs.lemmas.List.{length_push}
use Rattle.std.proofs.lemmas.Result.{err_from_is_err_and}
use Rattle.slot_match.specs.Rows.{AreWithin}
use Rattle.scheduler_names.specs.declared.names.SchedulerName.{SchedulerName}
use Rattle.named_schedulers.specs.Named.{decision_named}
use Rattle.journal_check.specs.Files.{slot_in}
use Rattle.journal_check.specs.Steps.{IsFor, IsJudged}
use Rattle.journal_check.proofs.Goods.{file_within}
use Rattle.journal_check.proofs.ReadFiles.{read_is_slot}
use Rattle.journal_check.proofs.Checked.{slots_fail}
use Rattle.journal_check.proofs.Loops.{step_ok}
use Rattle.journal_check.proofs.check.judge_slots.Goals as goal

pub returns-in_err-at : goal.returns-in_err-at
returns-in_err-at c =
    let h = c.args.header in
    let p = err_from_is_err_and c.from_residual.result c.from_residual.ensures.1 in
    rw (p.1, p.2) (slots_fail _ h.ports h.rounds h.slots c.args.bytes.now c.loop-t.t c.loop-t.at c.in_err-at.field-0.0.at c.loop-t.judge c.loop-t-test.true
    c.loop-t.invariant c.in_err-at.ensures.read)

pub judge-requires-clause-within : goal.judge-requires-clause-within
judge-requires-clause-within c =
    let n = c.args.header.ports in
    let read = c.in_ok-at.ensures.read in
    subst (AreWithin n) (sym read.2.rows) (file_within n read.0 (read_is_slot n c.args.bytes.now c.loop-t.at read.0 c.in_ok-at.at read.1))

pub loop-t-preserved : goal.loop-t-preserved
loop-t-preserved c =
    let h = c.args.header in
    let n = h.ports in
    let t = c.loop-t.t in
    let bytes = c.args.bytes.now in
    let judge = c.loop-t.judge in
    let new = c.judge.new.self in
    let name = c.args.judge.now.scheduler in
    let so_far = c.loop-t.invariant in
    let own = so_far.ready.rounds_are in
    let read = c.in_ok-at.ensures.read in
    let slots = so_far.slots in
    let here : IsJudged (decision_named judge.scheduler) n judge.rounds slots judge =
    subst (λ (s : SchedulerName). IsJudged (decision_named s) n judge.rounds slots judge) (sym so_far.named)
    (subst (λ (r : ℕ). IsJudged (decision_named name) n r slots judge) (sym own) so_far.judged) in
    record {
      slots = slots ++ read.0 ∷ [];
      count = length_push slots read.0 ∙ ap (λ (k : ℕ). k + 1) so_far.count;
      within = read.1.within;
      whole = so_far.whole
          ∙ step_ok (λ k. slot_in n) slots t h.slots (drop c.loop-t.at bytes) (drop c.in_ok-at.at bytes) read.0 c.loop-t-test.true read.1.reads;
      named = c.judge.ensures.scheduler ∙ so_far.named;
      judged = subst (λ (r : ℕ). IsJudged (decision_named name) n r (slots ++ read.0 ∷ []) new) own
          (subst (λ (s : SchedulerName). IsJudged (decision_named s) n judge.rounds (slots ++ read.0 ∷ []) new) so_far.named
          (c.judge.ensures.judged slots read.0 (sym so_far.count) read.2 here));
      ready = subst (λ (r : ℕ). IsFor n r (t + 1) new) own c.judge.ensures.ready;
    }
