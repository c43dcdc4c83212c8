use Rattle.std.proofs.Common.{List, [], ◌∷◌, ◌++◌, length, ap, subst, sym, ◌∙◌, arith}
use Rattle.std.proofs.lemmas.List.FromFn.{length-map-range_with_len}
use Rattle.std.proofs.lemmas.Result.{on_ok_weaker}
use Rattle.run_laws.specs.Runs.{posts_under, ports_of}
use Rattle.output_queued.specs.Switches.{Matched}
use Rattle.reference_run.specs.MeetingSteps.{IsReferenceOf}
use Rattle.reference_run.specs.RunLines.{run_matches_under}
use Rattle.run_notes.specs.NotingSteps.{HasNoted, IsKept, Notes}
use Rattle.run_notes.proofs.Noting.{writer_below, may_note_slot}
use Rattle.run_notes.proofs.notes.RunNotesSlotSink.note.Goals as goal

pub put_slot_into-requires-clause-posts : goal.put_slot_into-requires-clause-posts
put_slot_into-requires-clause-posts c =
    let (scheduler, plan, slots, scheduling, ends, below, noted, is) = c.requires in
    let count = ap length is.slot.posts_are ∙ length-map-range_with_len (λ i. posts_under scheduler plan i c.args.slot) 0 (ports_of plan) in
    omega (arith, count, noted.good.size)

pub put_slot_into-requires-clause-slots : goal.put_slot_into-requires-clause-slots
put_slot_into-requires-clause-slots c =
    let (scheduler, plan, slots, scheduling, ends, below, noted, is) = c.requires in
    let old = subst (λ (n : Notes). HasNoted scheduler plan n c.args.slot) (sym c.self.view_is) noted in
    writer_below scheduler plan c.args.slot slots scheduling ends below _ old

pub note_matched-requires : goal.note_matched-requires
note_matched-requires c =
    let (scheduler, plan, slots, scheduling, ends, below, noted, is) = c.requires in
    let old = subst (λ (n : Notes). HasNoted scheduler plan n c.args.slot) (sym c.self.view_is) noted in
    may_note_slot scheduler plan c.args.slot _ c.args.posts.now c.args.matched.now is.slot
    (λ r after. c.slots_may_be_noted.ensures.may scheduler plan r c.args.slot slots scheduling noted.good noted.countable ends below after) old.reference.holds

pub note_queues-requires : goal.note_queues-requires
note_queues-requires c =
    let (scheduler, plan, slots, scheduling, ends, below, noted, is) = c.requires in
    let old = subst (λ (n : Notes). HasNoted scheduler plan n c.args.slot) (sym c.self.view_is) noted in (scheduler, plan, old.queues.holds, is.slot)

pub note_times-requires : goal.note_times-requires
note_times-requires c =
    let (scheduler, plan, slots, scheduling, ends, below, noted, is) = c.requires in
    let old = subst (λ (n : Notes). HasNoted scheduler plan n c.args.slot) (sym c.self.view_is) noted in (scheduler, plan, old.packets.holds, is.slot)

pub returns-clause-wanted : goal.returns-clause-wanted
returns-clause-wanted c =
    let (scheduler, plan, slots, scheduling, ends, below, noted, is) = c.requires in
    let old = subst (λ (n : Notes). HasNoted scheduler plan n c.args.slot) (sym c.self.view_is) noted in
    on_ok_weaker c.note_times.result (λ packets. ap (λ (n : Notes). n.wanted) c.self.view_is)
    (c.note_times.ensures scheduler plan c.self.inside.wanted.packets old.packets is.slot)

pub returns-clause-noted : goal.returns-clause-noted
returns-clause-noted c = λ scheduler plan noted is.
    let t = c.args.slot in
    let matches = run_matches_under scheduler plan t in
    let old = subst (λ (n : Notes). HasNoted scheduler plan n t) (sym c.self.view_is) noted in
    let wanted = c.self.inside.wanted in
    on_ok_weaker c.note_times.result
    (λ packets. record {
      good = noted.good;
      countable = noted.countable;
      burst = old.burst;
      slots = c.in_ok-put_line_of.ensures scheduler plan wanted.slots c.args.posts.now old.slots is;
      journal = c.in_ok-put_slot_into.ensures scheduler plan wanted.journal t old.journal is.slot;
      reference = subst (λ (all : List Matched). IsKept wanted.reference (λ r. IsReferenceOf plan r all) c.note_matched.new.reference)
          (ap (λ (m : Matched). matches ++ m ∷ []) is.slot.matched_is ∙ sym (c.slots_may_be_noted.ensures.more scheduler plan t))
          (c.note_matched.ensures plan wanted.reference matches old.reference);
      queues = c.note_queues.ensures scheduler plan wanted.queues old.queues is.slot;
      packets = packets;
    })
    (c.note_times.ensures scheduler plan wanted.packets old.packets is.slot)
