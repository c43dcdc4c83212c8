-- How many outputs of a match are matched, and how that grows with what is matched.
use Rattle.std.proofs.Common.{◌≡◌, ℕ, zero, suc, ◌<◌, ◌≤◌, ◌⊎◌, cond, List, [], ◌∷◌, Option, None, Some, length, is_some, slice_index_or, refl, sym, ap}
use Rattle.std.proofs.Common.{inl, inr, arith}
use Rattle.std.proofs.lemmas.List.{ext_get_or}
use Rattle.std.proofs.lemmas.List.Sums.{sum_by-cons}
use Rattle.std.proofs.lemmas.Option.{none-some}
use Rattle.std_lemmas.proofs.Options.{kept_or_new}
use Rattle.rotating_pick.proofs.Picking.{Decides, least}
use Rattle.islip_rounds.specs.Numbers.{matched_count}

-- what an output adds to the count
abbrev pub one_if_some : {X : Type 0} → Option X → ℕ
one_if_some o = cond (is_some o) 1 0

-- what is matched before stays as it is
abbrev pub Keeps : {X : Type 0} → List (Option X) → List (Option X) → Type 0
Keeps {X} a b = (j : ℕ) (x : X) → slice_index_or a j None ≡ Some x → slice_index_or b j None ≡ Some x

at_most_one : {X : Type 0} (o : Option X) → one_if_some o ≤ 1
at_most_one None = omega arith
at_most_one (Some x) = omega arith

kept_one : {X : Type 0} (o p : Option X) → ((x : X) → o ≡ Some x → p ≡ Some x) → one_if_some o ≤ one_if_some p
kept_one None p keep = omega arith
kept_one (Some x) p keep = let e : one_if_some p ≡ 1 = ap one_if_some (keep x refl) in omega arith

-- a match that keeps another has no fewer outputs
pub grown : {X : Type 0} (a b : List (Option X)) → length a ≡ length b → Keeps a b → matched_count a ≤ matched_count b
grown [] [] long keep = omega arith
grown [] (y ∷ b) long keep = absurd (omega arith)
grown (x ∷ a) [] long keep = absurd (omega arith)
grown (x ∷ a) (y ∷ b) long keep =
    let later = grown a b (omega arith) (λ j f e. keep (suc j) f e) in
    let here = kept_one x y (λ f e. keep zero f e) in
    let left = sum_by-cons one_if_some x a in
    let right = sum_by-cons one_if_some y b in
    omega arith

-- and more where an output was free
pub grown_more : {X : Type 0} (a b : List (Option X)) → length a ≡ length b → Keeps a b → (j : ℕ) (f : X) → slice_index_or a j None ≡ None
    → slice_index_or b j None ≡ Some f → matched_count a < matched_count b
grown_more [] [] long keep j f none some = absurd (none-some f some)
grown_more [] (y ∷ b) long keep j f none some = absurd (omega arith)
grown_more (x ∷ a) [] long keep j f none some = absurd (omega arith)
grown_more (x ∷ a) (y ∷ b) long keep zero f none some =
    let later = grown a b (omega arith) (λ j g e. keep (suc j) g e) in
    let before : one_if_some x ≡ 0 = ap one_if_some none in
    let after : one_if_some y ≡ 1 = ap one_if_some some in
    let left = sum_by-cons one_if_some x a in
    let right = sum_by-cons one_if_some y b in
    omega arith
grown_more (x ∷ a) (y ∷ b) long keep (suc j) f none some =
    let later = grown_more a b (omega arith) (λ k g e. keep (suc k) g e) j f none some in
    let here = kept_one x y (λ g e. keep zero g e) in
    let left = sum_by-cons one_if_some x a in
    let right = sum_by-cons one_if_some y b in
    omega arith

added_at : {X : Type 0} (o p : Option X) → ((f : X) × (o ≡ None) × (p ≡ Some f)) ⊎ ((f : X) → o ≡ None → p ≡ Some f → ⊥)
added_at None (Some f) = inl (f, refl, refl)
added_at None None = inr (λ f e h. none-some f h)
added_at (Some x) p = inr (λ f e h. none-some x (sym e))

-- a match that keeps another has more outputs, or is that one
pub more_or_same : {X : Type 0} (a b : List (Option X)) → length a ≡ length b → Keeps a b → (matched_count a < matched_count b) ⊎ (a ≡ b)
more_or_same {X} a b long keep =
    let New : ℕ → Type 0 = λ j. (f : X) × (slice_index_or a j None ≡ None) × (slice_index_or b j None ≡ Some f) in
    let dec : (j : ℕ) → Decides (New j) =
    λ j. elim (added_at (slice_index_or a j None) (slice_index_or b j None)) [ inl p ↦ inl p | inr q ↦ inr (λ p. q p.0 p.1 p.2) ] in
    elim (least New dec (length a)) [
      | inl p ↦ inl (grown_more a b long keep p.0 p.2.0 p.2.1 p.2.2)
      | inr none ↦ inr (ext_get_or None a b long
          (λ j below. kept_or_new (slice_index_or a j None) (slice_index_or b j None) (keep j) (λ f e h. none j below (f, e, h))))
    ]

-- where no output from n on is matched, at most n are
pub count_within : {X : Type 0} (m : List (Option X)) (n : ℕ) → ((j : ℕ) → n ≤ j → slice_index_or m j None ≡ None) → matched_count m ≤ n
count_within [] n beyond = omega arith
count_within (x ∷ m) zero beyond =
    let later = count_within m zero (λ j above. beyond (suc j) (omega arith)) in
    let here : one_if_some x ≡ 0 = ap one_if_some (beyond zero (omega arith)) in
    let whole = sum_by-cons one_if_some x m in
    omega arith
count_within (x ∷ m) (suc n) beyond =
    let later = count_within m n (λ j above. beyond (suc j) (omega arith)) in
    let here = at_most_one x in
    let whole = sum_by-cons one_if_some x m in
    omega arith

-- and fewer than n where one below n is free
pub count_fewer : {X : Type 0} (m : List (Option X)) (n j : ℕ) → ((k : ℕ) → n ≤ k → slice_index_or m k None ≡ None) → j < n → slice_index_or m j None ≡ None
    → matched_count m < n
count_fewer [] n j beyond below free = omega arith
count_fewer (x ∷ m) zero j beyond below free = absurd (omega arith)
count_fewer (x ∷ m) (suc n) zero beyond below free =
    let later = count_within m n (λ k above. beyond (suc k) (omega arith)) in
    let here : one_if_some x ≡ 0 = ap one_if_some free in
    let whole = sum_by-cons one_if_some x m in
    omega arith
count_fewer (x ∷ m) (suc n) (suc j) beyond below free =
    let later = count_fewer m n j (λ k above. beyond (suc k) (omega arith)) (omega arith) free in
    let here = at_most_one x in
    let whole = sum_by-cons one_if_some x m in
    omega arith

-- two matches with the same at each output match equally many
pub count_same : {X : Type 0} (a b : List (Option X)) → ((j : ℕ) → slice_index_or a j None ≡ slice_index_or b j None) → matched_count a ≡ matched_count b
count_same [] [] same = refl
count_same [] (y ∷ b) same =
    let later = count_same [] b (λ j. same (suc j)) in
    let here : one_if_some y ≡ 0 = ap one_if_some (sym (same zero)) in
    let whole = sum_by-cons one_if_some y b in
    omega arith
count_same (x ∷ a) [] same =
    let later = count_same a [] (λ j. same (suc j)) in
    let here : one_if_some x ≡ 0 = ap one_if_some (same zero) in
    let whole = sum_by-cons one_if_some x a in
    omega arith
count_same (x ∷ a) (y ∷ b) same =
    let later = count_same a b (λ j. same (suc j)) in
    let here : one_if_some x ≡ one_if_some y = ap one_if_some (same zero) in
    let left = sum_by-cons one_if_some x a in
    let right = sum_by-cons one_if_some y b in
    omega arith
