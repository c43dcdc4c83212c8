use Rattle.std.proofs.Common.{◌∙◌, ℕ, ◌/◌, ◌%◌, List, Option, refl, subst, sym, inl, inr, arith}
use Rattle.std.proofs.lemmas.Bool.{cases_eq}
use Rattle.rotating_pick.specs.PortSets.{Has}
use Rattle.rotating_pick.specs.declared.limits.TheConstants.{LEVELS}
use Rattle.rotating_pick.proofs.Bits.{no_member-zero}
use Rattle.slot_match.specs.declared.matching.Fed.{Fed}
use Rattle.service_bound.specs.Waits.{is_waiting}
use Rattle.service_bound.specs.MeterSteps.{Queues, queues_at, NotesSlot, AreBegun}
use Rattle.service_bound.proofs.meter.note_inputs.Goals as goal

pub note_input-requires-clause-begun : goal.note_input-requires-clause-begun
note_input-requires-clause-begun c = λ place here.
    let inv = c.loop-input.invariant in
    let input_in = c.requires.inputs c.in-Some.input (inv.inside c.in-Some.input c.in-Some.ensures.member) in
    let same = inv.left place (subst (Has c.loop-input.left) (sym here) c.in-Some.ensures.member) in
    subst (AreBegun c.args.count) (sym same) (c.requires.begun place (omega arith))

pub loop-input-preserved : goal.loop-input-preserved
loop-input-preserved c =
    let inv = c.loop-input.invariant in
    let made = c.note_input.ensures in
    let rest = c.without-left.ensures.members in
    let new = c.note_input.new.queues.items in
    let Notes : List (Option Fed) → ℕ → Queues → Queues → Type 0 =
    λ matched k. NotesSlot c.args.count (λ j. is_waiting (record { rows = c.args.rows.now; matched = matched }) (k / LEVELS) j (k % LEVELS)) in
    record {
      long = made.long ∙ inv.long;
      inside = λ i has. inv.inside i ((rest i).0 has).1;
      noted = λ matched has place member gone. elim (cases_eq (place / LEVELS) c.in-Some.input) [
        | inl here ↦
            let same = inv.left place (subst (Has c.loop-input.left) (sym here) c.in-Some.ensures.member) in
            let input_in = c.requires.inputs c.in-Some.input (inv.inside c.in-Some.input c.in-Some.ensures.member) in
            subst (λ q. Notes matched place q (queues_at new place)) same
            (made.noted matched has.whole (has.each c.in-Some.input input_in) place here)
        | inr other ↦ rw (made.others place other) (inv.noted matched has place member (λ left. gone ((rest (place / LEVELS)).1 (other, left))))
      ];
      left = λ place has. let both = (rest (place / LEVELS)).0 has in made.others place both.0 ∙ inv.left place both.1;
      others = λ place lacks. made.others place (λ e. lacks (inv.inside (place / LEVELS) (subst (Has c.loop-input.left) (sym e) c.in-Some.ensures.member)))
          ∙ inv.others place lacks;
    }

pub returns-clause-noted : goal.returns-clause-noted
returns-clause-noted c = λ matched has place member. c.loop-input.invariant.noted matched has place member
    (λ left. no_member-zero (place / LEVELS) (subst (λ ports. Has ports (place / LEVELS)) (c.in_default.ensures.none.0 refl) left))
