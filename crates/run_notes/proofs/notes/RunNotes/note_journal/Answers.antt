use Rattle.std.proofs.Common.{◌≡◌, ◌<◌, ◌∙◌, ℕ, subst, arith}
use Rattle.eslip_rounds.specs.Decisions.{decision_of}
use Rattle.eslip_rounds.proofs.Scheduling.{IsScheduler-decision_of}
use Rattle.run_notes.specs.NotingSteps.{HasNoted}
use Rattle.run_notes.proofs.Noting.{count_of_run, slot_of_journal}
use Rattle.run_notes.proofs.notes.RunNotes.note_journal.Goals as goal

pub note-requires : goal.note-requires
note-requires c =
    let (plan, slots, ends, are, first) = c.requires in
    let t = c.loop-slot.slot in
    let journal = c.args.journal.now.slots in
    let noted = c.loop-slot.invariant.noted plan slots ends are first in
    let below : t < slots = omega (arith, count_of_run plan slots journal are) in (
      decision_of,
      plan,
      slots,
      IsScheduler-decision_of,
      ends,
      below,
      noted,
      rw (c.posts.ensures.posts, c.decided.ensures.matched, c.used.ensures) (slot_of_journal plan slots t journal noted.good are below),
    )

pub loop-slot-preserved : goal.loop-slot-preserved
loop-slot-preserved c = record {
  wanted = c.in_ok-note.ensures.wanted ∙ c.loop-slot.invariant.wanted;
  noted = λ plan slots ends are first.
      let t = c.loop-slot.slot in
      let journal = c.args.journal.now.slots in
      let noted = c.loop-slot.invariant.noted plan slots ends are first in
      let below : t < slots = omega (arith, count_of_run plan slots journal are) in
      c.in_ok-note.ensures.noted decision_of plan noted
      (rw (c.posts.ensures.posts, c.decided.ensures.matched, c.used.ensures) (slot_of_journal plan slots t journal noted.good are below));
}

pub returns-clause-noted : goal.returns-clause-noted
returns-clause-noted c = λ plan slots ends are first.
    let last : c.loop-slot.slot ≡ slots = omega (arith, count_of_run plan slots c.args.journal.now.slots are) in
    subst (λ (t : ℕ). HasNoted decision_of plan c.loop-slot.self t) last (c.loop-slot.invariant.noted plan slots ends are first)
