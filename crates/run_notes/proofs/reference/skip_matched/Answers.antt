use Rattle.std.proofs.Common.{◌∙◌, ◌++◌, replicate, subst}
use Rattle.slot_match.specs.Matches.{unmatched}
use Rattle.output_queued.specs.NotingSteps.{HasNoted}
use Rattle.reference_run.specs.MeetingSteps.{IsReferenceOf}
use Rattle.run_notes.specs.NotingSteps.{IsKept}
use Rattle.run_notes.proofs.reference.skip_matched.Goals as goal

pub returns-in-Some : goal.returns-in-Some
returns-in-Some c = λ plan is_wanted matches kept.
    let before = subst (IsKept is_wanted (λ r. IsReferenceOf plan r matches)) c.in-Some.is kept in
    let was = before.holds in
    let same = c.skip.ensures.switch in
    record {
      there = before.there;
      holds = record {
        ports = same.ports ∙ was.ports;
        depth = same.depth ∙ was.depth;
        coming = same.coming ∙ was.coming;
        noted = subst (λ n. HasNoted c.skip.new.self (matches ++ replicate c.args.slots (unmatched n))) was.ports (c.skip.ensures.noted matches was.noted);
      };
    }
