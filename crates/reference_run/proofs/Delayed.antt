-- Two counts of one a slot at most, of which the second is never ahead: each of its rises is no earlier than the one of the
-- same number of the first.
use Rattle.std.proofs.Common.{◌≡◌, ◌∙◌, ℕ, zero, suc, ◌+◌, ◌-◌, ◌<◌, ◌≤◌, Bool, true, false, List, [], ◌∷◌, ◌++◌, length, refl, sym, ap, subst, arith}
use Rattle.std.proofs.Common.{inl, inr, if◌then◌else◌, nat_lt, append_assoc}
use Rattle.std.specs.Prelude.{filter, sum}
use Rattle.std.specs.List.{range_with_len}
use Rattle.std.proofs.lemmas.Bool.{cases_lt, lt-ltb, le-ltb}
use Rattle.std.proofs.lemmas.List.{length_push}
use Rattle.std.proofs.lemmas.List.Sums.{sum_by-cons}
use Rattle.reference_run.specs.Promises.{delays_of, AreNoEarlier}

-- each is below the bound
abbrev AreBelow : ℕ → List ℕ → Type 0
AreBelow n [] = Unit {0}
AreBelow n (x ∷ xs) = (x < n) × AreBelow n xs

below_more : (n : ℕ) (xs : List ℕ) → AreBelow n xs → AreBelow (n + 1) xs
below_more n [] below = tt
below_more n (x ∷ xs) below = (omega (arith, below.0), below_more n xs below.1)

below_push : (n : ℕ) (xs : List ℕ) → AreBelow n xs → AreBelow (n + 1) (xs ++ n ∷ [])
below_push n [] below = (omega arith, tt)
below_push n (x ∷ xs) below = (omega (arith, below.0), below_push n xs below.1)

none_left : (xs : List ℕ) → length xs ≡ 0 → AreNoEarlier (xs ++ []) []
none_left [] none = tt
none_left (x ∷ xs) none = absurd (omega arith)

-- what remains of the first count's rises is behind those that wait for the second's
module _ (a : ℕ) (xs ys : List ℕ) (now next now' next' : ℕ)
    (on : (waits : List ℕ) → AreBelow (a + 1) waits → length waits + next' ≡ next → AreNoEarlier (waits ++ xs) ys) where
  pushed : (waits : List ℕ) → AreBelow a waits → length waits + 1 + next' ≡ next → AreNoEarlier (waits ++ a ∷ xs) ys
  pushed waits below count =
      let long = length_push waits a in
      subst (λ zs. AreNoEarlier zs ys) (append_assoc waits (a ∷ []) xs) (on (waits ++ a ∷ []) (below_push a waits below) (omega (arith, long, count)))

  one_slot : (p q : Bool) (waits : List ℕ) → AreBelow a waits → length waits + now' ≡ now → next ≡ now + (if p then 1 else 0)
      → next' ≡ now' + (if q then 1 else 0) → next' ≤ next
      → AreNoEarlier (waits ++ (if p then a ∷ xs else xs)) (if q then a ∷ ys else ys)
  one_slot true true [] below count rise rise' behind = (omega arith, on [] tt (omega (arith, count, rise, rise')))
  one_slot true true (x ∷ waits) below count rise rise' behind = (omega (arith, below.0), pushed waits below.1 (omega (arith, count, rise, rise')))
  one_slot true false waits below count rise rise' behind = pushed waits below (omega (arith, count, rise, rise'))
  one_slot false true [] below count rise rise' behind = absurd (omega (arith, count, rise, rise', behind))
  one_slot false true (x ∷ waits) below count rise rise' behind =
      (omega (arith, below.0), on waits (below_more a waits below.1) (omega (arith, count, rise, rise')))
  one_slot false false waits below count rise rise' behind = on waits (below_more a waits below) (omega (arith, count, rise, rise'))

-- a count rises by one or stays
abbrev step_of : Bool → ℕ
step_of b = if b then 1 else 0

rise_is : (f : ℕ → ℕ) → ((t : ℕ) → f t ≤ f (suc t)) → ((t : ℕ) → f (suc t) ≤ f t + 1) → (a : ℕ) → f (a + 1) ≡ f a + step_of (nat_lt (f a) (f (suc a)))
rise_is f up one a =
    let same : f (a + 1) ≡ f (suc a) = ap f (let e : a + 1 ≡ suc a = omega arith in e) in
    let low = up a in
    let high = one a in
    elim (cases_lt (f a) (f (suc a))) [
      | inl less ↦ let risen : step_of (nat_lt (f a) (f (suc a))) ≡ 1 = ap step_of (lt-ltb (f a) (f (suc a)) less) in omega
          (arith, same, low, high, less, risen)
      | inr le ↦ let still : step_of (nat_lt (f a) (f (suc a))) ≡ 0 = ap step_of (le-ltb (f a) (f (suc a)) le) in omega (arith, same, low, high, le, still)
    ]

module _ (first second : ℕ → ℕ) (up : (t : ℕ) → first t ≤ first (suc t)) (up' : (t : ℕ) → second t ≤ second (suc t))
    (one : (t : ℕ) → first (suc t) ≤ first t + 1) (one' : (t : ℕ) → second (suc t) ≤ second t + 1) where
  -- the slots from a on in which a count rose
  abbrev rises_from : (ℕ → ℕ) → ℕ → ℕ → List ℕ
  rises_from f a n = filter (λ u. nat_lt (f u) (f (suc u))) (range_with_len a n)

  from_slot : (n a : ℕ) (waits : List ℕ) → AreBelow a waits → length waits + second a ≡ first a → ((t : ℕ) → a ≤ t → t ≤ a + n → second t ≤ first t)
      → first (a + n) ≡ second (a + n) → AreNoEarlier (waits ++ rises_from first a n) (rises_from second a n)
  from_slot zero a waits below count behind same =
      let end : a + 0 ≡ a = omega arith in
      let f = ap first end in
      let s = ap second end in
      none_left waits (omega (arith, count, same, f, s))
  from_slot (suc n) a waits below count behind same =
      let end : a + 1 + n ≡ a + suc n = omega arith in
      one_slot a (rises_from first (a + 1) n) (rises_from second (a + 1) n) (first a) (first (a + 1)) (second a) (second (a + 1))
      (λ more lower counted. from_slot n (a + 1) more lower counted (λ t from to. behind t (omega (arith, from)) (omega (arith, to)))
      (ap first end ∙ same ∙ sym (ap second end)))
      (nat_lt (first a) (first (suc a))) (nat_lt (second a) (second (suc a))) waits below count (rise_is first up one a) (rise_is second up' one' a)
      (behind (a + 1) (omega arith) (omega arith))

  pub no_earlier : (n : ℕ) → first 0 ≡ 0 → second 0 ≡ 0 → ((t : ℕ) → t ≤ n → second t ≤ first t) → first n ≡ second n
      → AreNoEarlier (rises_from first 0 n) (rises_from second 0 n)
  no_earlier n start start' behind same =
      let end : 0 + n ≡ n = omega arith in
      from_slot n 0 [] tt (omega (arith, start, start')) (λ t from to. behind t (omega (arith, to))) (ap first end ∙ same ∙ sym (ap second end))

-- so the delays add up to what the second's slots are later in all
pub delays_sum : (xs ys : List ℕ) → AreNoEarlier xs ys → sum (delays_of xs ys) + sum xs ≡ sum ys
delays_sum [] [] later = refl
delays_sum [] (u ∷ ys) later = absurd later
delays_sum (t ∷ xs) [] later = absurd later
delays_sum (t ∷ xs) (u ∷ ys) later =
    let rest = delays_sum xs ys later.1 in
    let here = later.0 in
    let a = sum_by-cons (λ (x : ℕ). x) (u - t) (delays_of xs ys) in
    let b = sum_by-cons (λ (x : ℕ). x) t xs in
    let c = sum_by-cons (λ (x : ℕ). x) u ys in
    omega (arith, rest, here, a, b, c)
