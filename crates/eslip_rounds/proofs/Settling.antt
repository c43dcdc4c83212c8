-- The decision that is computed is what the slot decides.
use Rattle.std.proofs.Common.{◌≡◌, ℕ, zero, suc, ◌<◌, ◌∙◌, List, Option, length, slice_index_or, refl, sym, ap, subst, inl, inr, arith}
use Rattle.std.specs.List.{find}
use Rattle.std.proofs.lemmas.Bool.{cases_lt}
use Rattle.std.proofs.lemmas.List.{get_or_past}
use Rattle.std.proofs.lemmas.List.FromFn.{length-map-range_with_len, get_or-map-range_with_len}
use Rattle.rotating_pick.specs.declared.kinds.Kind.TheVariants.{Uni, Multi}
use Rattle.rotating_pick.specs.declared.limits.TheConstants.{LEVELS, MAX_PORTS}
use Rattle.slot_match.specs.declared.rows.Row.{Row}
use Rattle.slot_match.specs.declared.matching.Fed.{Fed}
use Rattle.slot_match.specs.Rows.{AreWithin}
use Rattle.slot_match.specs.Matches.{unmatched, fed_of, IsMatch}
use Rattle.slot_match.proofs.Kept.{IsMatch-unmatched}
use Rattle.pointer_state.specs.Places.{Places, AreAtPorts, ArePointing, grant_of, accept_of, shared_of}
use Rattle.eslip_rounds.specs.Rounds.{AreRounds}
use Rattle.eslip_rounds.specs.Slots.{Decision, Moving, AreMoved, IsSlotBy, IsSlot}
use Rattle.eslip_rounds.specs.Decisions.{ports, is_fed, moved_by, passed, places_after, round_of, rounds_of, decision_by, decision_of}
use Rattle.eslip_rounds.proofs.Matching.{IsMatch-round}
use Rattle.eslip_rounds.proofs.Unique.{ArePointing-moved, IsSlot-only}
use Rattle.eslip_rounds.proofs.Accepting.{IsRound-round_of}
use Rattle.eslip_rounds.proofs.FirstRounds.{AreAccepted, AreAccepted-unmatched, AreAccepted-round}
use Rattle.eslip_rounds.proofs.Placing.{IsTable-table_of, table_at, table_stays, input_of, no_input_of, fed_in, output_of, no_output_of, passed_some}
use Rattle.eslip_rounds.proofs.Placing.{passed_none}

module _ (n t : ℕ) (rows : List Row) (first_match matched : List (Option Fed)) (before : Places) (within : AreWithin n rows) (whole : IsMatch n first_match)
    (at_ports : AreAtPorts before) (ports_are : before.ports ≡ n) where
  shared_at : (level : ℕ) → level < LEVELS
      → shared_of (places_after n rows first_match matched before) level ≡ moved_by n (passed n rows matched before level) (shared_of before level)
  unfolding places_after
  shared_at level level_in = get_or-map-range_with_len (λ l. moved_by n (passed n rows matched before l) (shared_of before l)) 0 LEVELS level level 0 level_in
      (omega arith)

  shared_levels : length ((places_after n rows first_match matched before).shared) ≡ LEVELS
  unfolding places_after
  shared_levels = length-map-range_with_len (λ l. moved_by n (passed n rows matched before l) (shared_of before l)) 0 LEVELS

  fits : (x : ℕ) → x < n → x < MAX_PORTS
  fits x x_in = let size = at_ports.size in omega arith

  -- the pointers after the slot
  pub AreMoved-places_after : AreMoved n t rows first_match matched before (places_after n rows first_match matched before)
  unfolding places_after
  AreMoved-places_after =
      let grants : ℕ → ℕ → ℕ = λ level j. moved_by n (find (λ i. is_fed i level Uni (fed_of first_match j)) (ports n)) (grant_of before j level) in
      let accepts : ℕ → ℕ → ℕ = λ level i. moved_by n (find (λ j. is_fed i level Uni (fed_of first_match j)) (ports n)) (accept_of before i level) in
      record {
        ports = refl;
        granted = λ i j level s.
            table_at grants level j (whole.level_in i j level Uni s) (fits j (fed_in n first_match whole i j level s))
            ∙ ap (λ o. moved_by n o (grant_of before j level)) (input_of n first_match whole i j level s);
        accepted = λ i j level s.
            table_at accepts level i (whole.level_in i j level Uni s) (fits i (whole.input_in i j level Uni s))
            ∙ ap (λ o. moved_by n o (accept_of before i level)) (output_of n first_match whole i j level s);
        grant_stays = λ j level none.
            table_stays grants before.grant at_ports.grant_table level j
            (ap (λ o. moved_by n o (grant_of before j level)) (no_input_of n first_match whole j level none));
        accept_stays = λ i level none.
            table_stays accepts before.accept at_ports.accept_table level i
            (ap (λ o. moved_by n o (accept_of before i level)) (no_output_of n first_match whole i level none));
        passed = λ i level head done.
            let level_in : level < LEVELS = within.levels i head.below level head.member.0 Multi head.member.1 in
            shared_at level level_in ∙ ap (λ o. moved_by n o (shared_of before level))
            (passed_some n rows matched before within at_ports ports_are level level_in i head done);
        shared_stays = λ level none.
            elim (cases_lt level LEVELS) [
              | inl level_in ↦ shared_at level level_in
                  ∙ ap (λ o. moved_by n o (shared_of before level)) (passed_none n rows matched before within at_ports ports_are level level_in none)
              | inr above ↦
                  get_or_past ((places_after n rows first_match matched before).shared) level 0 (let long = shared_levels in omega arith)
                  ∙ sym (get_or_past before.shared level 0 (let long = at_ports.shared_levels in omega arith))
            ];
      }

  -- and they are at ports
  pub AreAtPorts-places_after : AreAtPorts (places_after n rows first_match matched before)
  unfolding places_after
  AreAtPorts-places_after =
      let after = places_after n rows first_match matched before in
      let some : 0 < n = let h = at_ports.some in omega arith in
      record {
        some = at_ports.some;
        size = at_ports.size;
        grant_table = IsTable-table_of (λ level j. moved_by n (find (λ i. is_fed i level Uni (fed_of first_match j)) (ports n)) (grant_of before j level));
        accept_table = IsTable-table_of (λ level i. moved_by n (find (λ j. is_fed i level Uni (fed_of first_match j)) (ports n)) (accept_of before i level));
        shared_levels = shared_levels;
        pointing = λ level level_in.
            let here : ArePointing n level after =
            ArePointing-moved n t rows first_match matched before within whole.count at_ports ports_are some after AreMoved-places_after level level_in in
            let P : ℕ → Type 0 = λ k. ArePointing k level after in
            subst P (sym ports_are) here;
      }

module _ (n t : ℕ) (rows : List Row) (places : Places) (within : AreWithin n rows) (at_ports : AreAtPorts places) (ports_are : places.ports ≡ n) where
  length-rounds_of : (rounds : ℕ) (before : List (Option Fed)) → length (rounds_of n t rows places rounds before) ≡ rounds
  length-rounds_of zero before = refl
  length-rounds_of (suc rounds) before = ap suc (length-rounds_of rounds (round_of n t rows places before))

  AreRounds-rounds_of : (rounds : ℕ) (before : List (Option Fed)) → IsMatch n before
      → AreRounds n t rows places before (rounds_of n t rows places rounds before)
  AreRounds-rounds_of zero before whole = tt
  AreRounds-rounds_of (suc rounds) before whole =
      let after = round_of n t rows places before in
      let round = IsRound-round_of n t rows places before whole at_ports ports_are in
      (round, AreRounds-rounds_of rounds after (IsMatch-round n t rows places at_ports ports_are before after whole round))

  first_whole : (rounds : ℕ) → IsMatch n (slice_index_or (rounds_of n t rows places rounds (unmatched n)) 0 (unmatched n))
  first_whole zero = IsMatch-unmatched n
  first_whole (suc rounds) =
      let start = unmatched n in
      IsMatch-round n t rows places at_ports ports_are start (round_of n t rows places start) (IsMatch-unmatched n)
      (IsRound-round_of n t rows places start (IsMatch-unmatched n) at_ports ports_are)

  first_accepted : (rounds : ℕ) → AreAccepted n t rows places (slice_index_or (rounds_of n t rows places rounds (unmatched n)) 0 (unmatched n))
  first_accepted zero = AreAccepted-unmatched n t rows places
  first_accepted (suc rounds) =
      let start = unmatched n in
      AreAccepted-round n t rows places (round_of n t rows places start) (IsRound-round_of n t rows places start (IsMatch-unmatched n) at_ports ports_are)

  module _ (move : ℕ → ℕ → List Row → List (Option Fed) → List (Option Fed) → Places → Places) where
    -- what is computed is what the slot decides, where the pointers that are computed are so
    pub IsSlotBy-decision_by : (Moves : Moving)
        → ((first_match matched : List (Option Fed)) → IsMatch n first_match → AreAccepted n t rows places first_match
        → Moves n t rows first_match matched places (move n t rows first_match matched places)) → (rounds : ℕ)
        → IsSlotBy Moves n rounds t rows places (decision_by move n rounds t rows places)
    unfolding decision_by
    IsSlotBy-decision_by Moves moved rounds =
        let start = unmatched n in
        record {
          steps = rounds_of n t rows places rounds start;
          count = length-rounds_of rounds start;
          chain = AreRounds-rounds_of rounds start (IsMatch-unmatched n);
          result = refl;
          numbered = refl;
          moved = moved (slice_index_or (rounds_of n t rows places rounds start) 0 start) _ (first_whole rounds) (first_accepted rounds);
        }

    -- and the pointers are at ports, where those that are computed are
    pub AreAtPorts-decision_by : ((first_match matched : List (Option Fed)) → IsMatch n first_match → AreAccepted n t rows places first_match
        → AreAtPorts (move n t rows first_match matched places))
        → (rounds : ℕ) → AreAtPorts (decision_by move n rounds t rows places).places
    unfolding decision_by
    AreAtPorts-decision_by at_ports_after rounds =
        at_ports_after (slice_index_or (rounds_of n t rows places rounds (unmatched n)) 0 (unmatched n)) _ (first_whole rounds) (first_accepted rounds)

  pub IsSlot-decision_of : (rounds : ℕ) → IsSlot n rounds t rows places (decision_of n rounds t rows places)
  unfolding decision_of
  IsSlot-decision_of = IsSlotBy-decision_by (λ n t. places_after n) AreMoved
      (λ first_match matched whole accepted. AreMoved-places_after n t rows first_match matched places within whole at_ports ports_are)

  pub AreAtPorts-decision_of : (rounds : ℕ) → AreAtPorts (decision_of n rounds t rows places).places
  unfolding decision_of
  AreAtPorts-decision_of = AreAtPorts-decision_by (λ n t. places_after n)
      (λ first_match matched whole accepted. AreAtPorts-places_after n t rows first_match matched places within whole at_ports ports_are)

  -- every decision of the slot is the one that is computed
  pub decision_of-only : (rounds : ℕ) (a : Decision) → AreAtPorts a.places → IsSlot n rounds t rows places a → a ≡ decision_of n rounds t rows places
  decision_of-only rounds a a_in slot =
      IsSlot-only n rounds t rows places within at_ports ports_are a (decision_of n rounds t rows places) a_in (AreAtPorts-decision_of rounds) slot
      (IsSlot-decision_of rounds)
