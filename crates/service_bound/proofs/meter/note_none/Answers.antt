use Rattle.std.proofs.Common.{◌≡◌, ◌∙◌, ℕ, ◌<◌, ◌==◌, false, length, subst, sym, arith, length-set}
use Rattle.std.specs.Int.{bit_at}
use Rattle.rotating_pick.proofs.Bits.{no_member-zero}
use Rattle.service_bound.specs.MeterSteps.{Queues, queues_at, NotesSlot, AreBegun}
use Rattle.service_bound.proofs.Levels.{member-false}
use Rattle.service_bound.proofs.Noting.{found_is, NotesSlot-along, noted-set, left-set}
use Rattle.service_bound.proofs.meter.note_none.Goals as goal

pub note-requires-clause-begun : goal.note-requires-clause-begun
note-requires-clause-begun c =
    let place = c.loop-place.place in
    let now = c.loop-place.queues.items in
    let inv = c.loop-place.invariant in
    let inside : place < length now = omega arith in
    let found = found_is now place c.index_mut.result.now inside c.index_mut.ensures.value ∙ inv.left place (omega arith) in
    (subst (AreBegun c.args.count) (sym found) (c.requires.begun place (omega arith))).begun

pub note-requires-clause-among : goal.note-requires-clause-among
note-requires-clause-among c = λ j has. absurd (no_member-zero j has)

pub loop-place-preserved : goal.loop-place-preserved
loop-place-preserved c =
    let place = c.loop-place.place in
    let old = c.args.queues.now.items in
    let now = c.loop-place.queues.items in
    let new = c.note.new.self in
    let inv = c.loop-place.invariant in
    let inside : place < length now = omega arith in
    let found = found_is now place c.index_mut.result.now inside c.index_mut.ensures.value ∙ inv.left place (omega arith) in
    let none : (j : ℕ) → (bit_at 0 j == 1) ≡ false = λ j. member-false 0 j (no_member-zero j) in
    let P : ℕ → Queues → Queues → Type 0 = λ k. NotesSlot c.args.count (λ j. false) in
    let here : P place (queues_at old place) new =
    subst (λ q. P place q new) found (NotesSlot-along c.args.count _ _ c.index_mut.result.now new none c.note.ensures) in
    record {
      long = length-set now place new ∙ inv.long;
      noted = λ k below. noted-set P old now place new inside here k (λ other. inv.noted k (omega arith));
      left = λ k above. left-set now place new k (λ e. omega arith) ∙ inv.left k (omega arith);
    }
