-- The packets that arrive before a slot are the first of the packets, since these rise.
use Rattle.std.proofs.Common.{◌≡◌, ◌∙◌, ℕ, zero, suc, ◌≤◌, ◌&&◌, nat_lt, Bool, true, false, List, [], ◌∷◌, ◌++◌, filter, take, length, count_by, Some}
use Rattle.std.proofs.Common.{slice_get, refl, sym, ap, arith, if◌then◌else◌, inl, inr}
use Rattle.std.proofs.lemmas.Bool.{cases_lt, lt-ltb, le-ltb}
use Rattle.std.proofs.lemmas.List.Sums.{length-filter}
use Rattle.std.proofs.lemmas.Option.{same_Some}
use Rattle.card_core.specs.declared.plan.Planned.{Planned}
use Rattle.card_core.specs.Plans.{AreRising}
use Rattle.std_lemmas.proofs.Filters.{count-cons}
use Rattle.card_core.proofs.Admitting.{rest-rising}

-- all packets arrive in slot t or later
abbrev AreFrom : ℕ → List Planned → Type 0
AreFrom t ps = (j : ℕ) (p : Planned) → slice_get ps j ≡ Some p → t ≤ p.arrival

from_first : (t : ℕ) (p : Planned) (ps : List Planned) → AreRising (p ∷ ps) → t ≤ p.arrival → AreFrom t (p ∷ ps)
from_first t p ps rising le zero r at = let e : p.arrival ≡ r.arrival = ap (λ (x : Planned). x.arrival) (same_Some p r at) in omega (arith, e, le)
from_first t p ps rising le (suc j) r at = let up = rising 0 (suc j) p r refl at (omega arith) in omega (arith, up, le)

module _ (g : Planned → Bool) where
  -- those that pass and arrive before slot t
  abbrev pub early : ℕ → Planned → Bool
  early t p = nat_lt p.arrival t && g p

  none_early : (t : ℕ) (ps : List Planned) → AreFrom t ps → filter (early t) ps ≡ []
  none_early t [] later = refl
  none_early t (p ∷ ps) later =
      ap (λ (b : Bool). if b && g p then p ∷ filter (early t) ps else filter (early t) ps) (le-ltb p.arrival t (later 0 p refl))
      ∙ none_early t ps (λ j r at. later (suc j) r at)

  kept : (p : Planned) (b : Bool) (all first rest : List Planned) → all ≡ first ++ rest
      → (if b then p ∷ all else all) ≡ (if b then p ∷ first else first) ++ rest
  kept p true all first rest is = ap (λ xs. p ∷ xs) is
  kept p false all first rest is = is

  pub early_first : (t : ℕ) (ps : List Planned) → AreRising ps → (rest : List Planned) × (filter g ps ≡ filter (early t) ps ++ rest)
  early_first t [] rising = ([], refl)
  early_first t (p ∷ ps) rising = elim (cases_lt p.arrival t) [
    | inl before ↦
        let (rest, is) = early_first t ps (rest-rising p ps rising) in (
          rest,
          kept p (g p) (filter g ps) (filter (early t) ps) rest is
              ∙ ap (λ (b : Bool). (if b && g p then p ∷ filter (early t) ps else filter (early t) ps) ++ rest) (sym (lt-ltb p.arrival t before)),
        )
    | inr after ↦ (filter g (p ∷ ps), ap (λ xs. xs ++ filter g (p ∷ ps)) (sym (none_early t (p ∷ ps) (from_first t p ps rising after))))
  ]

  both_most : (a b : Bool) → (if a && b then 1 else 0) ≤ (if b then 1 else 0)
  both_most true b = omega arith
  both_most false true = omega arith
  both_most false false = omega arith

  -- before a packet arrive no more than those that stand before it
  pub early_few : (ps : List Planned) (k : ℕ) (p : Planned) → AreRising ps → slice_get ps k ≡ Some p → count_by (early p.arrival) ps ≤ count_by g (take k ps)
  early_few [] k p rising at = absurd (cc)
  early_few (x ∷ ps) zero p rising at =
      let same : p.arrival ≡ x.arrival = ap (λ (y : Planned). y.arrival) (sym (same_Some x p at)) in
      let none = ap length (none_early p.arrival (x ∷ ps) (from_first p.arrival x ps rising (omega (arith, same)))) in
      omega (arith, none, length-filter (early p.arrival) (x ∷ ps))
  early_few (x ∷ ps) (suc k) p rising at =
      let rest = early_few ps k p (rest-rising x ps rising) at in
      omega (arith, count-cons (early p.arrival) x ps, count-cons g x (take k ps), both_most (nat_lt x.arrival p.arrival) (g x), rest)
