-- Rounds one after another, with their numbers.
use Rattle.std.proofs.Common.{◌≡◌, ◌+◌, ◌-◌, ℕ, ◌<◌, ◌∙◌, List, [], ◌∷◌, ◌++◌, Option, None, length, map, slice_index_or, refl, sym, ap, subst, arith}
use Rattle.std.proofs.Common.{length-append}
use Rattle.std.proofs.lemmas.List.{length-map, get_or_append_left}
use Rattle.std_lemmas.proofs.Lists.{get_or-same}
use Rattle.islip_rounds.specs.declared.numbers.RoundsUsed.{RoundsUsed}
use Rattle.islip_rounds.specs.declared.unicast.UniPointers.{UniPointers}
use Rattle.islip_rounds.specs.Numbers.{last_of, matched_count, added_from, numbers_of, slot_numbers}
use Rattle.islip_rounds.specs.Rounds.{Feeds, IsRound, AreRounds}
use Rattle.islip_rounds.specs.Slots.{unmatched}
use Rattle.islip_rounds.proofs.Lasts.{last_of-append, added_from-append, length-added_from}

-- one more round at the end
pub AreRounds-append : (n : ℕ) (asks : List ℕ) (pointers : UniPointers) (before after : List (Option ℕ)) (steps : List (List (Option ℕ)))
    → AreRounds n asks pointers before steps → IsRound n asks pointers (last_of before steps) after → AreRounds n asks pointers before (steps ++ after ∷ [])
AreRounds-append n asks pointers before after [] chain next = (next, tt)
AreRounds-append n asks pointers before after (step ∷ steps) chain next = (chain.0, AreRounds-append n asks pointers step after steps chain.1 next)

-- nothing is matched at first
pub nothing_fed : (i j : ℕ) → Feeds unmatched i j → ⊥
nothing_fed i j feeds = let none : slice_index_or unmatched j None ≡ None = get_or-same None 64 j in absurd (cc)

-- what the rounds of a slot made so far: the match after the first of them and after the last, and the numbers
pub record SoFar : Type 0 where
  pub done : ℕ
  pub first : List (Option ℕ)
  pub fed : List (Option ℕ)
  pub numbers : RoundsUsed

-- rounds from nothing matched made this
pub record IsRun (n : ℕ) (asks : List ℕ) (pointers : UniPointers) (s : SoFar) : Type 0 where
  pub steps : List (List (Option ℕ))
  pub count : length steps ≡ s.done
  pub some : 0 < length steps
  pub chain : AreRounds n asks pointers unmatched steps
  pub result : s.fed ≡ last_of unmatched steps
  pub opening : s.first ≡ slice_index_or steps 0 unmatched
  pub numbered : s.numbers ≡ slot_numbers steps

-- after the first round
pub IsRun-first : (n : ℕ) (asks : List ℕ) (pointers : UniPointers) (fed : List (Option ℕ)) (numbers : RoundsUsed) → IsRound n asks pointers unmatched fed
    → numbers ≡ numbers_of (matched_count fed ∷ []) → IsRun n asks pointers (record { done = 1; first = fed; fed = fed; numbers = numbers })
IsRun-first n asks pointers fed numbers round numbered = record {
  steps = fed ∷ [];
  count = refl;
  some = omega arith;
  chain = (round, tt);
  result = refl;
  opening = refl;
  numbered = let from_nothing : matched_count fed ≡ matched_count fed - matched_count unmatched = omega arith in
      numbered ∙ ap (λ k. numbers_of (k ∷ [])) from_nothing;
}

-- after one more round
pub IsRun-next : (n : ℕ) (asks : List ℕ) (pointers : UniPointers) (s : SoFar) (after : List (Option ℕ)) (more : RoundsUsed) → IsRun n asks pointers s
    → IsRound n asks pointers s.fed after
    → ((each : List ℕ) → length each ≡ s.done → s.numbers ≡ numbers_of each → more ≡ numbers_of (each ++ (matched_count after - matched_count s.fed) ∷ []))
    → IsRun n asks pointers (record { done = s.done + 1; first = s.first; fed = after; numbers = more })
IsRun-next n asks pointers s after more run round numbered =
    let each = added_from 0 (map matched_count run.steps) in
    let long : length each ≡ s.done = length-added_from 0 (map matched_count run.steps) ∙ (length-map run.steps matched_count ∙ run.count) in
    let grown : added_from 0 (map matched_count (run.steps ++ after ∷ [])) ≡ each ++ (matched_count after - matched_count s.fed) ∷ [] =
    added_from-append matched_count unmatched after run.steps
    ∙ ap (λ m. each ++ (matched_count after - matched_count m) ∷ []) (sym run.result) in
    record {
      steps = run.steps ++ after ∷ [];
      count = length-append run.steps (after ∷ []) ∙ ap (λ m. m + 1) run.count;
      some = omega (arith, length-append run.steps (after ∷ []));
      chain = AreRounds-append n asks pointers unmatched after run.steps run.chain (subst (λ m. IsRound n asks pointers m after) run.result round);
      result = sym (last_of-append unmatched after run.steps);
      opening = run.opening ∙ sym (get_or_append_left run.steps (after ∷ []) unmatched 0 run.some);
      numbered = numbered each long run.numbered ∙ ap numbers_of (sym grown);
    }
