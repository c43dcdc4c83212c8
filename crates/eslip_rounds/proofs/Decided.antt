-- What `decide` makes is a slot.
use Rattle.std.proofs.Common.{◌≡◌, ℕ, zero, ◌<◌, ◌≤◌, ◌↔◌, ◌∙◌, eqb, cond, true, List, [], ◌∷◌, Option, length, map, slice_index_or, sym, ap, subst}
use Rattle.std.proofs.Common.{inl, inr, arith}
use Rattle.std.proofs.lemmas.Bool.{eq-eqb}
use Rattle.std.proofs.lemmas.List.{length-map}
use Rattle.rotating_pick.specs.PortSets.{Has}
use Rattle.rotating_pick.specs.declared.kinds.Kind.TheVariants.{Uni}
use Rattle.slot_match.specs.declared.rows.Row.{Row}
use Rattle.slot_match.specs.declared.matching.Fed.{Fed}
use Rattle.slot_match.specs.Rows.{AreWithin}
use Rattle.slot_match.specs.Matches.{unmatched, Serves, IsMatch, IsMaximal}
use Rattle.slot_match.proofs.Kept.{IsMatch-unmatched, fed_of-unmatched}
use Rattle.slot_match.proofs.Tables.{count_by-take}
use Rattle.pointer_state.specs.Places.{Places, AreAtPorts}
use Rattle.islip_rounds.specs.declared.numbers.RoundsUsed.{RoundsUsed}
use Rattle.islip_rounds.specs.Numbers.{last_of, matched_count, added_from, rounds_used}
use Rattle.islip_rounds.proofs.Lasts.{length-added_from}
use Rattle.eslip_rounds.specs.Slots.{AreMoved, IsSlot}
use Rattle.eslip_rounds.specs.declared.rounds.Made.{Made}
use Rattle.eslip_rounds.specs.Steps.{AreMade}
use Rattle.eslip_rounds.proofs.Bests.{AreAmong}
use Rattle.eslip_rounds.proofs.Running.{first_kept, Serves-met}
use Rattle.eslip_rounds.proofs.Enough.{maximal_or_more, rounds_enough}

-- nothing is matched at first
pub unmatched-count : (n : ℕ) → matched_count (unmatched n) ≡ 0
unmatched-count n = sym (count_by-take zero (unmatched n) (λ j above. fed_of-unmatched n j))

-- where each round added outputs, the last one did
last_positive : (b : ℕ) (steps : List (List (Option Fed))) → 0 < length steps → ((d : ℕ) → 0 < d → 0 < last_of d (added_from b (map matched_count steps)))
    → 0 < last_of 0 (added_from b (map matched_count steps))
last_positive b [] some last = absurd (omega arith)
last_positive b (step ∷ steps) some last = last 1 (omega arith)

module _ (n rounds t : ℕ) (rows : List Row) (places : Places) (now : List (Option Fed)) (made : Made) (some : 0 < rounds)
    (are : AreMade n rounds t rows places now made) where
  more : 0 < length are.steps
  more = let count = are.count in omega arith

  kept : AreAmong (Serves (slice_index_or are.steps 0 (unmatched n))) (Serves now)
  kept = subst (λ m. AreAmong (Serves (slice_index_or are.steps 0 (unmatched n))) (Serves m)) (sym are.result)
      (first_kept n t rows places are.steps more are.chain)

  -- what the rounds made is a slot, where the pointers are moved so
  pub IsSlot-from : IsMatch n now → (after : Places)
      → ((first_match : List (Option Fed)) → ((i j level : ℕ) → (Has made.first_outputs j × Serves now i j level Uni) ↔ Serves first_match i j level Uni)
      → AreMoved n t rows first_match now places after) → IsSlot n rounds t rows places (record { matched = now; numbers = made.numbers; places = after })
  IsSlot-from whole after moved =
      let first_match = slice_index_or are.steps 0 (unmatched n) in
      record {
        steps = are.steps;
        count = are.count;
        chain = are.chain;
        result = are.result;
        numbered = are.numbered;
        moved = moved first_match (Serves-met n first_match now made.first_outputs whole kept are.firsts);
      }

  module _ (at_ports : AreAtPorts places) (ports : places.ports ≡ n) (within : AreWithin n rows) where
    pub enough_rounds : n ≤ rounds → IsMaximal n rows now
    enough_rounds enough =
        let count = are.count in
        subst (IsMaximal n rows) (sym are.result)
        (rounds_enough n t rows places at_ports ports (unmatched n) are.steps (IsMatch-unmatched n) are.chain within (omega arith))

    pub nothing_added : made.numbers.last_added ≡ 0 → IsMaximal n rows now
    nothing_added none =
        elim (maximal_or_more n t rows places at_ports ports (unmatched n) are.steps (IsMatch-unmatched n) are.chain within) [
          | inl max ↦ subst (IsMaximal n rows) (sym are.result) max
          | inr all ↦
              let steps = are.steps in
              let added = added_from 0 (map matched_count steps) in
              let start = unmatched-count n in
              let used : rounds_used added ≡ length steps = subst (λ b. rounds_used (added_from b (map matched_count steps)) ≡ length steps) start all.used in
              let last : (d : ℕ) → 0 < d
              → 0 < last_of d added = subst (λ b. (d : ℕ) → 0 < d → 0 < last_of d (added_from b (map matched_count steps))) start all.last in
              let long : length added ≡ length steps = length-added_from 0 (map matched_count steps) ∙ length-map steps matched_count in
              let whole : eqb (rounds_used added) (length added) ≡ true = eq-eqb (rounds_used added) (length added) (used ∙ sym long) in
              let is_last : made.numbers.last_added ≡ last_of 0 added = ap (λ (m : RoundsUsed). m.last_added) are.numbered
              ∙ ap (λ b. cond b (last_of 0 added) 0) whole in
              let positive = last_positive 0 steps more last in
              absurd (omega arith)
        ]
