use Rattle.std.proofs.Common.{subst}
use Rattle.std.proofs.lemmas.Result.{on_ok_weaker}
use Rattle.run_laws.specs.Runs.{ports_of}
use Rattle.journal_check.specs.WritingSteps.{IsWriting}
use Rattle.run_journals.specs.RunFiles.{run_file_under}
use Rattle.run_notes.specs.NotingSteps.{IsJournalOf, IsKept}
use Rattle.run_notes.proofs.Noting.{file_more}
use Rattle.run_notes.proofs.journal.put_slot_into.Goals as goal

pub returns-in-Some : goal.returns-in-Some
returns-in-Some c = λ scheduler plan is_wanted t kept is.
    let before = subst (IsKept is_wanted (IsJournalOf scheduler plan t)) c.in-Some.is kept in
    on_ok_weaker c.put.result
    (λ new. record {
      there = before.there;
      holds = subst (λ slots. IsWriting (record { ports = ports_of plan; rounds = plan.rounds; slots = slots }) c.put.new.self)
          (file_more scheduler plan t c.args.posts.now c.args.matched.now is) new;
    })
    (c.put.ensures.file (run_file_under scheduler plan t) before.holds)
