use Rattle.std.proofs.Common.{◌≡◌, ◌∙◌, ◌+◌, ◌-◌, ◌^◌, ◌<◌, false, List, ap, subst, sym, arith}
use Rattle.output_queued.specs.NotingSteps.{State, HasNoted as HasNotedMatches}
use Rattle.output_queued.specs.QuietSteps.{IsQuietFor}
use Rattle.output_queued.specs.Switches.{Matched}
use Rattle.reference_run.specs.MeetingSteps.{IsReferenceOf}
use Rattle.reference_run.specs.RunLines.{run_matches_under}
use Rattle.run_notes.specs.NotingSteps.{AreLinesOf, AreQueuesAfter, AreTimesAfter, HasNoted, IsJournalOf, IsKept, IsReferenceAfter, Notes}
use Rattle.run_notes.specs.UnwantedSteps.{not_first, not_kept, not_second, wants_each}
use Rattle.run_notes.proofs.Skipping.{gap_ahead, kept_on}
use Rattle.run_notes.proofs.notes.RunNotesSlotSink.skip.Goals as goal

pub overflow_sub-next : goal.overflow_sub-next
overflow_sub-next c =
    let (scheduler, plan, slots, scheduling, ends, below, noted, gap, none) = c.requires in
    omega (arith, gap_ahead scheduler plan c.args.slot c.args.next gap)

pub skip_matched-requires-clause-quiet : goal.skip_matched-requires-clause-quiet
skip_matched-requires-clause-quiet c =
    let (scheduler, plan, slots, scheduling, ends, below, noted, gap, none) = c.requires in
    let t = c.args.slot in
    let matches = run_matches_under scheduler plan t in
    let old = subst (λ (n : Notes). HasNoted scheduler plan n t) (sym c.self.view_is) noted in
    (kept_on c.self.inside.wanted.reference (IsReferenceAfter scheduler plan t)
    (λ (r : State). (all : List Matched) × HasNotedMatches r all × IsQuietFor r all (c.args.next - t)) _
    (λ r after. (matches, after.noted, c.gaps_may_be_skipped.ensures.quiet scheduler plan r t c.args.next noted.good after gap)) old.reference).holds

pub skip_matched-requires-clause-few : goal.skip_matched-requires-clause-few
skip_matched-requires-clause-few c =
    let (scheduler, plan, slots, scheduling, ends, below, noted, gap, none) = c.requires in
    let t = c.args.slot in
    let old = subst (λ (n : Notes). HasNoted scheduler plan n t) (sym c.self.view_is) noted in
    (kept_on c.self.inside.wanted.reference (IsReferenceAfter scheduler plan t) (λ (r : State). r.slots + (c.args.next - t) < 2 ^ 32) _
    (λ r after. c.gaps_may_be_skipped.ensures.few scheduler plan r t c.args.next slots scheduling noted.good noted.countable ends below after gap)
    old.reference).holds

pub returns-clause-wanted : goal.returns-clause-wanted
returns-clause-wanted c = ap (λ (n : Notes). n.wanted) c.self.view_is

pub returns-clause-noted : goal.returns-clause-noted
returns-clause-noted c = λ scheduler plan scheduling noted gap.
    let (_, _, _, _, _, _, _, _, none) = c.requires in
    let t = c.args.slot in
    let next = c.args.next in
    let matches = run_matches_under scheduler plan t in
    let old = subst (λ (n : Notes). HasNoted scheduler plan n t) (sym c.self.view_is) noted in
    let w = c.self.inside.wanted in
    let each : wants_each w ≡ false = ap (λ (n : Notes). wants_each n.wanted) c.self.view_is ∙ none in
    record {
      good = noted.good;
      countable = noted.countable;
      burst = old.burst;
      slots = not_kept w.slots (AreLinesOf scheduler plan t) (AreLinesOf scheduler plan next) _ (not_first w.slots w.journal each) old.slots;
      journal = not_kept w.journal (IsJournalOf scheduler plan t) (IsJournalOf scheduler plan next) _ (not_second w.slots w.journal each) old.journal;
      reference = subst (λ (all : List Matched). IsKept w.reference (λ r. IsReferenceOf plan r all) c.skip_matched.new.reference)
          (sym (c.gaps_may_be_skipped.ensures.more scheduler plan t next gap))
          (c.skip_matched.ensures plan w.reference matches old.reference);
      queues = kept_on w.queues (AreQueuesAfter scheduler plan t) (AreQueuesAfter scheduler plan next) _
          (λ measures was. c.gaps_keep_measures.ensures scheduler plan measures t next was gap) old.queues;
      packets = kept_on w.packets (AreTimesAfter scheduler plan t) (AreTimesAfter scheduler plan next) _
          (λ times was. c.gaps_keep_times.ensures scheduler plan times t next was gap) old.packets;
    }
