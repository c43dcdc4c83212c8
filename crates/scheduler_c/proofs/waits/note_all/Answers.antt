use Rattle.std.proofs.Common.{◌≡◌, ℕ, ◌+◌, ◌*◌, ◌%◌, ◌<◌, ◌==◌, ◌∙◌, length, max, slice_index, slice_set, ap, sym, subst, inl, inr, arith}
use Rattle.std.proofs.Common.{get_or-set_same, get_or-set_other}
use Rattle.std.specs.Int.{bit_at}
use Rattle.std.proofs.lemmas.Bool.{cases_eq}
use Rattle.rotating_pick.specs.declared.limits.TheConstants.{MAX_PORTS}
use Rattle.scheduler_c.specs.Waits.{IsLongest, word_at, wait_next}
use Rattle.scheduler_c.proofs.Longest.{IsLongest-here, IsLongest-other}
use Rattle.scheduler_c.proofs.waits.note_all.Goals as goal

pub loop-place-preserved : goal.loop-place-preserved
loop-place-preserved c =
    let place = c.loop-place.place in
    let sets = c.args.sets.now in
    let old = c.args.waits.now in
    let waits = c.loop-place.waits in
    let longest = c.loop-place.longest in
    let inv = c.loop-place.invariant in
    let note = c.note_place-most.ensures in
    let new = c.note_place-most.new.waits in
    let most = c.note_place-most.result in
    let greater = c.max.result in
    let keeps = λ (k j : ℕ) (k_in : k < place) (j_in : j < MAX_PORTS). note.others (64 * k + j) (inl (omega arith)) in
    let count = c.requires.longest in
    let same_count = c.loop-place.auto.longest in
    let inside : place % 4 < length longest = omega arith in
    record {
      noted = λ k j k_in j_in. elim (cases_eq k place) [
        | inl same ↦
            let here = note.noted j j_in ∙ ap (λ w. wait_next (bit_at (slice_index sets place) j == 1) w) (inv.left (64 * place + j) (omega arith)) in
            subst (λ m. word_at new m j ≡ wait_next (bit_at (slice_index sets m) j == 1) (word_at old m j)) (sym same) here
        | inr apart ↦ keeps k j (omega arith) j_in ∙ inv.noted k j (omega arith) j_in
      ];
      left = λ k k_in. note.others k (inr (omega arith)) ∙ inv.left k (omega arith);
      longest = λ level level_in.
          let before = slice_index c.args.longest.now level in
          let mid = slice_index longest level in
          let after = slice_index (slice_set longest (place % 4) greater) level in
          let was = inv.longest level level_in in
          elim (cases_eq (place % 4) level) [
            | inl same ↦
                let moved = slice_set longest (place % 4) greater in
                let written : after ≡ greater = ap (λ l. slice_index moved l) (sym same) ∙ get_or-set_same longest (place % 4) greater 0 inside in
                let longer : after ≡ max mid most = written ∙ (c.max.ensures ∙ ap (λ l. max (slice_index longest l) most) same) in
                IsLongest-here level place waits new before mid keeps was most after same note.bound note.reached longer
            | inr other ↦
                let still : after ≡ mid = get_or-set_other longest (place % 4) level greater 0 (λ e. other (sym e)) in
                subst (λ a. IsLongest level (place + 1) new before a) (sym still) (IsLongest-other level place waits new before mid keeps was other)
          ];
    }
