use Rattle.std.proofs.Common.{◌≡◌, ◌∙◌, ℕ, ◌+◌, ◌*◌, ◌/◌, ◌%◌, ◌<◌, ◌==◌, ◌↔◌, List, Option, length, ap, subst, arith, length-set}
use Rattle.std.specs.Int.{bit_at}
use Rattle.rotating_pick.specs.declared.kinds.Kind.TheVariants.{Uni}
use Rattle.rotating_pick.specs.declared.limits.TheConstants.{LEVELS, MAX_PORTS}
use Rattle.slot_match.specs.declared.matching.Fed.{Fed}
use Rattle.slot_match.specs.Matches.{Serves, IsMatch}
use Rattle.slot_match.specs.Parts.{served_of}
use Rattle.slot_match.specs.Keeping.{Gives}
use Rattle.service_bound.specs.Waits.{NotedSlot, is_waiting}
use Rattle.service_bound.specs.MeterSteps.{Queues, queues_at, NotesSlot}
use Rattle.service_bound.proofs.Noting.{found_is, NotesSlot-along, noted-set, left-set}
use Rattle.service_bound.proofs.Waiting.{Gives-iff_serves, member-waits}
use Rattle.service_bound.proofs.PartsServed.{part_is_free, part_serves}
use Rattle.service_bound.proofs.meter.note_input.Goals as goal

pub note-requires-clause-among : goal.note-requires-clause-among
note-requires-clause-among c = λ j has.
    let level = c.loop-level.level in
    let place = c.args.input * 4 + level in
    let now = c.loop-level.queues.items in
    let inv = c.loop-level.invariant in
    let inside : place < length now = omega arith in
    let found = found_is now place c.index_mut.result.now inside c.index_mut.ensures.value ∙ inv.left place (omega arith) in
    let long : length c.index_mut.result.now.began ≡ MAX_PORTS = ap (λ (q : Queues). length q.began) found ∙ (c.requires.begun place (omega arith)).long in
    let below = c.requires.rows.ports c.args.input c.requires.input level j Uni ((c.outputs_waiting-outputs.ensures j).0 has).0 in
    omega (arith, long, below)

pub loop-level-preserved : goal.loop-level-preserved
loop-level-preserved c =
    let input = c.args.input in
    let level = c.loop-level.level in
    let place = input * 4 + level in
    let old = c.args.queues.now.items in
    let now = c.loop-level.queues.items in
    let new = c.note.new.self in
    let inv = c.loop-level.invariant in
    let rows = c.args.rows.now in
    let inside : place < length now = omega arith in
    let found = found_is now place c.index_mut.result.now inside c.index_mut.ensures.value ∙ inv.left place (omega arith) in
    let row : input ≡ place / LEVELS = omega arith in
    let column : level ≡ place % LEVELS = omega arith in
    let Notes : List (Option Fed) → ℕ → Queues → Queues → Type 0 =
    λ matched k. NotesSlot c.args.count (λ j. is_waiting (record { rows = rows; matched = matched }) (k / LEVELS) j (k % LEVELS)) in
    let here : (matched : List (Option Fed)) → IsMatch (length rows) matched → c.args.served ≡ served_of matched input
    → Notes matched place (queues_at old place) new = λ matched whole served.
    let slot : NotedSlot = record { rows = rows; matched = matched } in
    let gives : (j : ℕ) → Gives c.args.served j level Uni ↔ Serves matched input j level Uni =
    λ j. Gives-iff_serves matched input j level Uni c.args.served (part_is_free (length rows) matched input c.args.served whole served)
    (part_serves (length rows) matched input c.args.served whole served) in
    let waits : (j : ℕ) → (bit_at c.outputs_waiting-outputs.result j == 1) ≡ is_waiting slot input j level =
    λ j. member-waits rows matched input j level c.outputs_waiting-outputs.result (Gives c.args.served j level Uni) (c.outputs_waiting-outputs.ensures j)
    (gives j) in
    let there : (j : ℕ) → (bit_at c.outputs_waiting-outputs.result j == 1) ≡ is_waiting slot (place / LEVELS) j (place % LEVELS) = λ j. waits j
    ∙ ap (λ r. is_waiting slot r j level) row ∙ ap (λ l. is_waiting slot (place / LEVELS) j l) column in
    subst (λ q. Notes matched place q new) found (NotesSlot-along c.args.count _ _ c.index_mut.result.now new there c.note.ensures) in
    record {
      long = length-set now place new ∙ inv.long;
      before = λ k below. left-set now place new k (λ e. omega arith) ∙ inv.before k below;
      noted = λ matched whole served k above below. noted-set (Notes matched) old now place new inside (here matched whole served) k
          (λ other. inv.noted matched whole served k above (omega arith));
      left = λ k above. left-set now place new k (λ e. omega arith) ∙ inv.left k (omega arith);
    }

pub returns-clause-noted : goal.returns-clause-noted
returns-clause-noted c = λ matched whole served place here. c.loop-level.invariant.noted matched whole served place (omega arith) (omega arith)
