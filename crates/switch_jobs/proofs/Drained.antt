-- Calls of an iterator that shows what is left, up to the one that gives none, gave all of it.
use Rattle.std.proofs.Common.{◌≡◌, ◌∙◌, List, [], ◌∷◌, length, ap, sym}
use Rattle.std.specs.Prelude.{Option, None, Some}
use Rattle.std.specs.Iterator.{Yields, Drains}
use Rattle.std.proofs.lemmas.List.{nil_from_length}

module _ {S X : Type 0} (steps : S → Option X → S → Type 0) (left : S → List X)
    (more : (s t : S) (x : X) → steps s (Some x) t → left s ≡ x ∷ left t) (none : (s t : S) → steps s None t → length (left s) ≡ 0) where
  given_all : (xs : List X) (s t u : S) → Yields steps s xs t → steps t None u → xs ≡ left s
  given_all [] s t u same last = sym (ap left same ∙ nil_from_length (left t) (none t u last))
  given_all (x ∷ xs) s t u given last = ap (λ ys. x ∷ ys) (given_all xs given.0 t u given.2 last) ∙ sym (more s given.0 x given.1)

  pub all_drained : (s : S) (xs : List X) → Drains steps s xs → xs ≡ left s
  all_drained s xs drained = given_all xs s drained.1.0 drained.0 drained.1.1 drained.1.2
