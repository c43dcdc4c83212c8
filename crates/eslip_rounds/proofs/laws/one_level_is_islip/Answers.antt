use Rattle.std.proofs.Common.{◌≡◌, ℕ, ◌≤◌, ◌∙◌, List, Option, map, slice_index_or, sym, ap, subst, arith}
use Rattle.std.proofs.lemmas.List.{length-map}
use Rattle.rotating_pick.specs.declared.limits.TheConstants.{MAX_PORTS}
use Rattle.slot_match.specs.Matches.{unmatched}
use Rattle.islip_rounds.specs.Numbers.{last_of, numbers_of, added_from}
use Rattle.islip_rounds.specs.Rounds as islip
use Rattle.islip_rounds.specs.Slots as islip_slots
use Rattle.eslip_rounds.specs.OneLevel.{unicast_of, pointers_of, inputs_of}
use Rattle.eslip_rounds.proofs.OneLevelRounds.{feeds}
use Rattle.eslip_rounds.proofs.OneLevelSlots.{inputs-unmatched, ArePairsOf-unmatched, last-map, first-map, AreRounds-islip, same_counts, first_pairs}
use Rattle.eslip_rounds.proofs.laws.one_level_is_islip.Goals as goal

pub returns : goal.returns
returns c n rounds t level rows before a level_in within at_ports ports unicast slot =
    let size : n ≤ MAX_PORTS = let h = at_ports.size in omega arith in
    let start = unmatched n in
    let none : inputs_of start ≡ islip_slots.unmatched = inputs-unmatched n size in
    let are = ArePairsOf-unmatched level n size in
    let steps = slot.steps in
    let pointers = pointers_of level before in
    let Chain : List (Option ℕ) → Type 0 = λ m. islip.AreRounds n (unicast_of level rows) pointers m (map inputs_of steps) in
    let Moved : List (Option ℕ) → Type 0 = λ m. islip_slots.AreMoved n m pointers (pointers_of level a.places) in
    let first = slice_index_or steps 0 start in
    let first_is : inputs_of first ≡ slice_index_or (map inputs_of steps) 0 islip_slots.unmatched = sym (first-map start steps)
    ∙ ap (slice_index_or (map inputs_of steps) 0) none in
    let fed = feeds level first (first_pairs n t level rows before level_in unicast size start steps are slot.chain) in
    let moved : Moved (inputs_of first) = record {
      granted = λ i j f. slot.moved.granted i j level ((fed i j).0 f);
      accepted = λ i j f. slot.moved.accepted i j level ((fed i j).0 f);
      grant_stays = λ j none. slot.moved.grant_stays j level (λ i s. none i ((fed i j).1 s));
      accept_stays = λ i none. slot.moved.accept_stays i level (λ j s. none j ((fed i j).1 s));
    } in
    let counts = same_counts n t level rows before level_in unicast size start steps are slot.chain in
    record {
      steps = map inputs_of steps;
      count = length-map steps inputs_of ∙ slot.count;
      chain = subst Chain none (AreRounds-islip n t level rows before level_in unicast size start steps are slot.chain);
      result = ap inputs_of slot.result ∙ (last-map start steps ∙ ap (λ m. last_of m (map inputs_of steps)) none);
      numbered = slot.numbered ∙ ap (λ k. numbers_of (added_from 0 k)) (sym counts);
      moved = subst Moved first_is moved;
    }
