-- Rounds one after another, with their numbers.
use Rattle.std.proofs.Common.{◌≡◌, ℕ, ◌+◌, ◌-◌, ◌<◌, ◌↔◌, ◌∙◌, List, [], ◌∷◌, ◌++◌, Option, None, Some, length, map, slice_index_or, refl, sym, ap}
use Rattle.std.proofs.Common.{subst, inl, inr, arith, length-append}
use Rattle.std.proofs.lemmas.Option.{none-some}
use Rattle.std.proofs.lemmas.List.{length-map, get_or_append_left}
use Rattle.rotating_pick.specs.PortSets.{Has}
use Rattle.rotating_pick.specs.declared.kinds.Kind.TheVariants.{Uni}
use Rattle.slot_match.specs.declared.rows.Row.{Row}
use Rattle.slot_match.specs.declared.matching.Fed.{Fed}
use Rattle.slot_match.specs.Matches.{unmatched, fed_of, Serves, IsFreeOutput, IsMatch}
use Rattle.slot_match.proofs.Pairs.{Serves-from, Serves-once, Serves-along, fed_of-lt}
use Rattle.pointer_state.specs.Places.{Places}
use Rattle.islip_rounds.specs.declared.numbers.RoundsUsed.{RoundsUsed}
use Rattle.islip_rounds.specs.Numbers.{last_of, matched_count, added_from, numbers_of, slot_numbers}
use Rattle.islip_rounds.proofs.Lasts.{last_of-append, added_from-append, length-added_from}
use Rattle.eslip_rounds.specs.Rounds.{IsRound, AreRounds}
use Rattle.eslip_rounds.specs.Steps.{AreMade}
use Rattle.eslip_rounds.proofs.Bests.{AreAmong}

-- one more round at the end
pub AreRounds-append : (n t : ℕ) (rows : List Row) (places : Places) (before after : List (Option Fed)) (steps : List (List (Option Fed)))
    → AreRounds n t rows places before steps → IsRound n t rows places (last_of before steps) after → AreRounds n t rows places before (steps ++ after ∷ [])
AreRounds-append n t rows places before after [] chain next = (next, tt)
AreRounds-append n t rows places before after (step ∷ steps) chain next = (chain.0, AreRounds-append n t rows places step after steps chain.1 next)

-- what is matched stays matched
pub AreRounds-keep : (n t : ℕ) (rows : List Row) (places : Places) (before : List (Option Fed)) (steps : List (List (Option Fed)))
    → AreRounds n t rows places before steps → AreAmong (Serves before) (Serves (last_of before steps))
AreRounds-keep n t rows places before [] chain i j level kind s = s
AreRounds-keep n t rows places before (step ∷ steps) chain i j level kind s =
    AreRounds-keep n t rows places step steps chain.1 i j level kind ((chain.0.pairs i j level kind).1 (inl s))

-- what the rounds of a slot made so far: how many they are, their match and its numbers, and the outputs that the first matched
pub record SoFar : Type 0 where
  pub done : ℕ
  pub now : List (Option Fed)
  pub numbers : RoundsUsed
  pub met : ℕ

-- rounds from nothing matched made this
pub record IsDecided (n t : ℕ) (rows : List Row) (places : Places) (s : SoFar) : Type 0 where
  pub steps : List (List (Option Fed))
  pub count : length steps ≡ s.done
  pub some : 0 < length steps
  pub chain : AreRounds n t rows places (unmatched n) steps
  pub result : s.now ≡ last_of (unmatched n) steps
  pub numbered : s.numbers ≡ slot_numbers steps
  pub mets : (j : ℕ) → Has s.met j ↔ ((j < n) × (IsFreeOutput (slice_index_or steps 0 (unmatched n)) j → ⊥))

-- one more round makes this match and these numbers
pub record IsNext (n t : ℕ) (rows : List Row) (places : Places) (s : SoFar) (after : List (Option Fed)) (more : RoundsUsed) : Type 0 where
  pub round : IsRound n t rows places s.now after
  pub numbered : (each : List ℕ) → length each ≡ s.done → s.numbers ≡ numbers_of each
      → more ≡ numbers_of (each ++ (matched_count after - matched_count s.now) ∷ [])

module _ (n t : ℕ) (rows : List Row) (places : Places) (s : SoFar) where
  -- after the first round
  pub IsDecided-first : s.done ≡ 1 → IsRound n t rows places (unmatched n) s.now → s.numbers ≡ numbers_of (matched_count s.now ∷ [])
      → ((j : ℕ) → Has s.met j ↔ ((j < n) × (IsFreeOutput s.now j → ⊥))) → IsDecided n t rows places s
  IsDecided-first one round numbered mets = record {
    steps = s.now ∷ [];
    count = sym one;
    some = omega arith;
    chain = (round, tt);
    result = refl;
    numbered = let from_nothing : matched_count s.now ≡ matched_count s.now - 0 = omega arith in numbered ∙ ap (λ k. numbers_of (k ∷ [])) from_nothing;
    mets = mets;
  }

  -- after one more round
  pub IsDecided-next : (after : List (Option Fed)) (more : RoundsUsed) → IsDecided n t rows places s → IsNext n t rows places s after more
      → IsDecided n t rows places (record { done = s.done + 1; now = after; numbers = more; met = s.met })
  IsDecided-next after more decided next =
      let steps = decided.steps in
      let each = added_from 0 (map matched_count steps) in
      let long : length each ≡ s.done = length-added_from 0 (map matched_count steps) ∙ (length-map steps matched_count ∙ decided.count) in
      let opening = get_or_append_left steps (after ∷ []) (unmatched n) 0 decided.some in
      record {
        steps = steps ++ after ∷ [];
        count = length-append steps (after ∷ []) ∙ ap (λ m. m + 1) decided.count;
        some = omega (arith, length-append steps (after ∷ []));
        chain = AreRounds-append n t rows places (unmatched n) after steps decided.chain
            (subst (λ m. IsRound n t rows places m after) decided.result next.round);
        result = sym (last_of-append (unmatched n) after steps);
        numbered = next.numbered each long decided.numbered ∙ ap numbers_of (sym (grown steps decided.some decided.result));
        mets = subst (λ (m : List (Option Fed)). (j : ℕ) → Has s.met j ↔ ((j < n) × (IsFreeOutput m j → ⊥))) (sym opening) decided.mets;
      } where
        grown : (steps : List (List (Option Fed))) → 0 < length steps → s.now ≡ last_of (unmatched n) steps
            → added_from 0 (map matched_count (steps ++ after ∷ []))
            ≡ added_from 0 (map matched_count steps) ++ (matched_count after - matched_count s.now) ∷ []
        grown [] some result = absurd (omega arith)
        grown (step ∷ steps) some result =
            ap (λ rest. (matched_count step - 0) ∷ rest)
            (added_from-append matched_count step after steps
            ∙ ap (λ m. added_from (matched_count step) (map matched_count steps) ++ (matched_count after - matched_count m) ∷ []) (sym result))

  -- the rounds that were made
  pub AreMade-from : (rounds : ℕ) → s.done ≡ rounds → IsDecided n t rows places s
      → AreMade n rounds t rows places s.now (record { numbers = s.numbers; first_outputs = s.met })
  AreMade-from rounds end decided =
      record {
        steps = decided.steps;
        count = decided.count ∙ end;
        chain = decided.chain;
        result = decided.result;
        numbered = decided.numbered;
        firsts = decided.mets;
      }

-- what the first of some rounds matched stays matched
pub first_kept : (n t : ℕ) (rows : List Row) (places : Places) (steps : List (List (Option Fed))) → 0 < length steps
    → AreRounds n t rows places (unmatched n) steps → AreAmong (Serves (slice_index_or steps 0 (unmatched n))) (Serves (last_of (unmatched n) steps))
first_kept n t rows places [] some chain i j level kind s = absurd (omega arith)
first_kept n t rows places (step ∷ steps) some chain i j level kind s = AreRounds-keep n t rows places step steps chain.1 i j level kind s

module _ (n : ℕ) (first_match now : List (Option Fed)) (met : ℕ) (whole : IsMatch n now)
    (kept : AreAmong (Serves first_match) (Serves now))
    (mets : (j : ℕ) → Has met j ↔ ((j < n) × (IsFreeOutput first_match j → ⊥))) where
  -- the unicast pairs of the first round are those of the outputs that it matched
  pub Serves-met : (i j level : ℕ) → (Has met j × Serves now i j level Uni) ↔ Serves first_match i j level Uni
  Serves-met i j level = (
    λ p. go (fed_of first_match j) refl p.0 p.1,
    λ s.
        let f : Fed = record { input = i; level = level; kind = Uni } in
        let there = kept i j level Uni s in
        let below : j < n = let lt = fed_of-lt now j f there in let size = whole.count in omega arith in
        ((mets j).1 (below, λ free. none-some f (sym free ∙ s)), there),
  ) where
    go : (o : Option Fed) → fed_of first_match j ≡ o → Has met j → Serves now i j level Uni → Serves first_match i j level Uni
    go None e has s = absurd (((mets j).0 has).1 e)
    go (Some f) e has s =
        let there = Serves-from first_match j f e in
        let once = Serves-once now j f.input i f.level level f.kind Uni (kept f.input j f.level f.kind there) s in
        let P : ℕ → Type 0 = λ x. Serves first_match x j level Uni in
        subst P once.0 (Serves-along first_match f.input j f.level level f.kind Uni once.1 once.2 there)

-- no unicast input has two outputs
pub once_unicast : (n : ℕ) (matched : List (Option Fed)) → IsMatch n matched → (i j k level : ℕ) → Serves matched i j level Uni → Serves matched i k level Uni
    → j ≡ k
once_unicast n matched whole i j k level s r = elim (whole.once i j level Uni k level Uni s r) [ inl same ↦ same | inr multi ↦ let no = multi.1 in absurd (cc) ]
