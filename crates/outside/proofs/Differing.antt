-- Elements of a list whose texts differ, and a walk that compares each with those before it.
use Rattle.std.proofs.Common.{◌≡◌, ◌<◌, ◌≤◌, ◌+◌, ℕ, List, true, false, length, get_or, take, sym, ◌∙◌, ap, arith, inl, inr}
use Rattle.std.specs.Prelude.{bytes_eq}
use Rattle.std.specs.List.{list_any}
use Rattle.std.proofs.lemmas.Bool.{cases_lt, both_ways}
use Rattle.std.proofs.lemmas.List.{get_or-take, get_or_default, length-take-le}
use Rattle.std.proofs.lemmas.List.Folds.{Any-from_list_any, list_any_at}
use Rattle.std.proofs.lemmas.Slice.Eq.{bytes_eq-Decides}

-- the texts of the first i elements differ
abbrev pub DifferBelow : {X : Type 0} → (X → List ℕ) → ℕ → List X → Type 0
DifferBelow {X} text i xs = (j k : ℕ) (d : X) → j < k → k < i → text (get_or xs j d) ≡ text (get_or xs k d) → ⊥

-- one of the first i elements has the text that was found among them
pub found_before : {X : Type 0} (text : X → List ℕ) (xs : List X) (i : ℕ) (here : List ℕ) → i ≤ length xs
    → list_any (λ x. bytes_eq (text x) here) (take i xs) ≡ true
    → (k : ℕ) × (x : X) × (k < i) × (text (get_or xs k x) ≡ here)
found_before text xs i here within any =
    let a = Any-from_list_any (λ x. bytes_eq (text x) here) (take i xs) any in
    let below : a.0 < i = omega (arith, a.2, length-take-le i xs within) in
    (a.0, a.1, below, ap text (sym (get_or-take i xs a.0 a.1 below) ∙ a.3) ∙ (bytes_eq-Decides (text a.1) here).0 a.4)

-- where its text is none of theirs, it differs too
pub differ_more : {X : Type 0} (text : X → List ℕ) (xs : List X) (i : ℕ) (d : X) → DifferBelow text i xs → i < length xs
    → list_any (λ x. bytes_eq (text x) (text (get_or xs i d))) (take i xs) ≡ false
    → DifferBelow text (i + 1) xs
differ_more text xs i d differ within none j k e before below same =
    elim (cases_lt k i) [
      | inl less ↦ differ j k e before less same
      | inr last ↦
          let is : k ≡ i = omega arith in
          let less : j < i = omega arith in
          let at : text (get_or (take i xs) j e) ≡ text (get_or xs i d) = ap text (get_or-take i xs j e less)
          ∙ (same ∙ (ap (λ n. text (get_or xs n e)) is ∙ ap text (get_or_default xs i e d within))) in
          let short : j < length (take i xs) = omega (arith, length-take-le i xs (omega arith)) in
          both_ways _ none (list_any_at (λ x. bytes_eq (text x) (text (get_or xs i d))) (take i xs) j e short ((bytes_eq-Decides _ _).1 at))
    ]
