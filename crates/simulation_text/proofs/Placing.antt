-- Texts that grow by a line for each of some things, in order.
use Rattle.std.proofs.Common.{◌≡◌, ◌+◌, ◌<◌, ◌≤◌, ℕ, List, ◌++◌, take, get_or, length, sym, ◌∙◌, ap, subst, zero-add}
use Rattle.std.specs.List.{flat_map, enumerate_from}
use Rattle.std.proofs.lemmas.List.FromFn.{get_or-enumerate_from, length-enumerate_from}
use Rattle.std_lemmas.proofs.Appending.{one_more, all_of}
use Rattle.simulation_text.specs.Texts.{lines_by_place}

module _ {X : Type 0} (line_at : ℕ → X → List ℕ) (xs : List X) (i : ℕ) where
  -- one line more
  pub place_more : (d : X) (old now new : List ℕ) → i < length xs → now ≡ old ++ flat_map (λ p. line_at p.0 p.1) (take i (enumerate_from 0 xs))
      → new ≡ now ++ line_at i (get_or xs i d) → new ≡ old ++ flat_map (λ p. line_at p.0 p.1) (take (i + 1) (enumerate_from 0 xs))
  place_more d old now new within at more =
      one_more (λ p. line_at p.0 p.1) (enumerate_from 0 xs) i (0, d) old now new (subst (λ n. i < n) (sym (length-enumerate_from 0 xs)) within) at
      (more ∙ ap (λ k. now ++ line_at k (get_or xs i d)) (sym (zero-add i))
      ∙ ap {B = List ℕ} (λ p. now ++ line_at p.0 p.1) (sym (get_or-enumerate_from 0 xs i (0, d) within)))

  -- the lines of all
  pub places_all : (old new : List ℕ) → length xs ≤ i → new ≡ old ++ flat_map (λ p. line_at p.0 p.1) (take i (enumerate_from 0 xs))
      → new ≡ old ++ lines_by_place line_at xs
  places_all old new whole at =
      all_of (λ p. line_at p.0 p.1) (enumerate_from 0 xs) i old new (subst (λ n. n ≤ i) (sym (length-enumerate_from 0 xs)) whole) at
