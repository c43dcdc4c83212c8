-- Of a slot in which rows name unicast of one level alone: its rounds are those of iSLIP.
use Rattle.std.proofs.Common.{◌≡◌, ℕ, zero, suc, ◌+◌, ◌<◌, ◌≤◌, ◌∙◌, List, [], ◌∷◌, Option, None, Some, length, map, slice_index_or, refl, sym, ap}
use Rattle.std.proofs.Common.{arith, add-one}
use Rattle.std.specs.List.{range_with_len}
use Rattle.std.specs.Option.{option_map}
use Rattle.std.proofs.lemmas.List.{length-replicate, get_or-replicate, ext_get_or}
use Rattle.std.proofs.lemmas.List.FromFn.{length-map-range_with_len}
use Rattle.std.proofs.lemmas.List.Sums.{sum_by-cons}
use Rattle.rotating_pick.specs.declared.limits.TheConstants.{LEVELS, MAX_PORTS}
use Rattle.slot_match.specs.declared.rows.Row.{Row}
use Rattle.slot_match.specs.declared.matching.Fed.{Fed}
use Rattle.slot_match.specs.Matches.{unmatched, fed_of}
use Rattle.slot_match.proofs.Tables.{one_if_some}
use Rattle.slot_match.proofs.Kept.{fed_of-unmatched, nobody_at_first, IsMatch-unmatched}
use Rattle.pointer_state.specs.Places.{Places}
use Rattle.islip_rounds.specs.Numbers.{last_of, matched_count}
use Rattle.islip_rounds.specs.Rounds as islip
use Rattle.islip_rounds.specs.Slots as islip_slots
use Rattle.eslip_rounds.specs.Rounds.{AreRounds}
use Rattle.eslip_rounds.specs.OneLevel.{AreUnicastOf, unicast_of, pointers_of, inputs_of}
use Rattle.eslip_rounds.proofs.OneLevelRounds.{ArePairsOf, inputs_at, ArePairsOf-round, IsRound-islip}

-- the input that feeds an output, if any does
abbrev input_at : List (Option Fed) → ℕ → Option ℕ
input_at matched j = option_map (λ fed. fed.input) (fed_of matched j)

same_one : (o : Option Fed) → one_if_some (option_map (λ fed. fed.input) o) ≡ one_if_some o
same_one None = refl
same_one (Some f) = refl

shifted : {X : Type 0} (f : ℕ → X) (a n : ℕ) → map f (range_with_len (suc a) n) ≡ map (λ j. f (suc j)) (range_with_len a n)
shifted f a zero = refl
shifted f a (suc n) =
    let rest : map f (range_with_len (suc (suc a)) n) ≡ map (λ j. f (suc j)) (range_with_len (suc a) n) = shifted f (suc a) n in
    rw (add-one (suc a), add-one a) (ap (λ xs. f (suc a) ∷ xs) rest)

none_there : (a n : ℕ) → matched_count (map (input_at []) (range_with_len a n)) ≡ 0
none_there a zero = refl
none_there a (suc n) =
    let rest = none_there (a + 1) n in
    let whole = sum_by-cons one_if_some (input_at [] a) (map (input_at []) (range_with_len (a + 1) n)) in
    omega arith

-- as many outputs are fed in a table of more outputs
count_padded : (matched : List (Option Fed)) (n : ℕ) → length matched ≤ n → matched_count (map (input_at matched) (range_with_len 0 n)) ≡ matched_count matched
count_padded [] n long = none_there 0 n
count_padded (o ∷ rest) zero long = absurd (omega arith)
count_padded (o ∷ rest) (suc n) long =
    let later = count_padded rest n (omega arith) in
    let along : map (input_at (o ∷ rest)) (range_with_len 1 n) ≡ map (input_at rest) (range_with_len 0 n) = shifted (input_at (o ∷ rest)) 0 n in
    let there = ap matched_count along in
    let left = sum_by-cons one_if_some (input_at (o ∷ rest) 0) (map (input_at (o ∷ rest)) (range_with_len 1 n)) in
    let right = sum_by-cons one_if_some o rest in
    let here = same_one o in
    omega arith

count_inputs : (matched : List (Option Fed)) → length matched ≤ MAX_PORTS → matched_count (inputs_of matched) ≡ matched_count matched
unfolding inputs_of
count_inputs matched long = count_padded matched MAX_PORTS long

pub inputs-unmatched : (n : ℕ) → n ≤ MAX_PORTS → inputs_of (unmatched n) ≡ islip_slots.unmatched
unfolding inputs_of
inputs-unmatched n size =
    let nothing : Option ℕ = None in
    let long : length (unmatched n) ≤ MAX_PORTS = let count = (IsMatch-unmatched n).count in omega arith in
    let lengths : length (inputs_of (unmatched n)) ≡ MAX_PORTS = length-map-range_with_len (input_at (unmatched n)) 0 MAX_PORTS in
    ext_get_or nothing (inputs_of (unmatched n)) islip_slots.unmatched (lengths ∙ sym (length-replicate MAX_PORTS nothing))
    (λ j below.
    let j_in : j < MAX_PORTS = omega arith in
    inputs_at (unmatched n) long j ∙ (ap (option_map (λ fed. fed.input)) (fed_of-unmatched n j) ∙ sym (get_or-replicate MAX_PORTS j nothing nothing j_in)))

pub ArePairsOf-unmatched : (level n : ℕ) → n ≤ MAX_PORTS → ArePairsOf level (unmatched n)
ArePairsOf-unmatched level n size =
    record { pairs = λ i j l k s. absurd (nobody_at_first n i j l k s); long = let count = (IsMatch-unmatched n).count in omega arith }

pub last-map : (before : List (Option Fed)) (steps : List (List (Option Fed)))
    → inputs_of (last_of before steps) ≡ last_of (inputs_of before) (map inputs_of steps)
last-map before [] = refl
last-map before (step ∷ steps) = last-map step steps

module _ (n t level : ℕ) (rows : List Row) (places : Places) (level_in : level < LEVELS) (unicast : AreUnicastOf level rows) (size : n ≤ MAX_PORTS) where
  pub AreRounds-islip : (before : List (Option Fed)) (steps : List (List (Option Fed))) → ArePairsOf level before → AreRounds n t rows places before steps
      → islip.AreRounds n (unicast_of level rows) (pointers_of level places) (inputs_of before) (map inputs_of steps)
  AreRounds-islip before [] are chain = tt
  AreRounds-islip before (step ∷ steps) are chain = (
    IsRound-islip n t level rows places level_in unicast before are step chain.0 size,
    AreRounds-islip step steps (ArePairsOf-round n t level rows places level_in unicast before are step chain.0 size) chain.1,
  )

  pub same_counts : (before : List (Option Fed)) (steps : List (List (Option Fed))) → ArePairsOf level before → AreRounds n t rows places before steps
      → map matched_count (map inputs_of steps) ≡ map matched_count steps
  same_counts before [] are chain = refl
  same_counts before (step ∷ steps) are chain =
      let next = ArePairsOf-round n t level rows places level_in unicast before are step chain.0 size in
      let here = count_inputs step next.long in
      let rest = same_counts step steps next chain.1 in
      λ i. here i ∷ rest i

  pub first_pairs : (before : List (Option Fed)) (steps : List (List (Option Fed))) → ArePairsOf level before → AreRounds n t rows places before steps
      → ArePairsOf level (slice_index_or steps 0 before)
  first_pairs before [] are chain = are
  first_pairs before (step ∷ steps) are chain = ArePairsOf-round n t level rows places level_in unicast before are step chain.0 size

pub first-map : (before : List (Option Fed)) (steps : List (List (Option Fed)))
    → slice_index_or (map inputs_of steps) 0 (inputs_of before) ≡ inputs_of (slice_index_or steps 0 before)
first-map before [] = refl
first-map before (step ∷ steps) = refl
