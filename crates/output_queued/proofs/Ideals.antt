-- The ideal output, and two counts of which one is never behind the other.
use Rattle.std.proofs.Common.{◌≡◌, ◌∙◌, ℕ, zero, suc, ◌+◌, ◌*◌, ◌<◌, ◌≤◌, Bool, true, false, [], ◌∷◌, ◌++◌, refl, ap, arith, inl, inr, if◌then◌else◌, nat_lt}
use Rattle.std.specs.Prelude.{min, filter, sum}
use Rattle.std.specs.List.{range_with_len}
use Rattle.std.proofs.lemmas.Bool.{cases_lt, lt-ltb, le-ltb}
use Rattle.std.proofs.lemmas.List.Sums.{sum_by-append}
use Rattle.std.proofs.lemmas.List.Elements.{filter-append}
use Rattle.std.proofs.Math.Nat.{mul-suc, suc-mul}
use Rattle.output_queued.specs.Ideal.{total, queued, given}
use Rattle.output_queued.specs.Lines.{end_of, rises, ahead}

-- what came was given out or waits
pub given-queued : (comes : ℕ → ℕ) (t : ℕ) → given comes t + queued comes t ≡ total comes t
given-queued comes zero = refl
given-queued comes (suc t) = let rest = given-queued comes t in omega arith

pub recurrence : (comes : ℕ → ℕ) (t : ℕ) → given comes (suc t) ≡ min (total comes (suc t)) (given comes t + 1)
recurrence comes t = let all = given-queued comes t in omega arith

pub given-up : (comes : ℕ → ℕ) (t : ℕ) → given comes t ≤ given comes (suc t)
given-up comes t = omega arith

pub given-one : (comes : ℕ → ℕ) (t : ℕ) → given comes (suc t) ≤ given comes t + 1
given-one comes t = omega arith

-- one that takes one cell a slot at most, of those that came, is never ahead of it
pub never_behind : (comes second : ℕ → ℕ) (n : ℕ) → second 0 ≡ 0 → ((t : ℕ) → t < n → second (suc t) ≤ second t + 1)
    → ((t : ℕ) → t ≤ n → second t ≤ total comes t) → (t : ℕ) → t ≤ n → second t ≤ given comes t
never_behind comes second n start one few zero within = omega arith
never_behind comes second n start one few (suc t) within =
    let rest = never_behind comes second n start one few t (omega arith) in
    let next = one t (omega arith) in
    let all = few (suc t) within in
    omega (arith, recurrence comes t)

-- ---- where a count ends
end-within : (f : ℕ → ℕ) (t : ℕ) → end_of f t ≤ t
end-within f zero = omega arith
end-within f (suc t) = elim (cases_lt (f t) (f (suc t))) [
  | inl less ↦ rw (lt-ltb (f t) (f (suc t)) less) (omega arith)
  | inr le ↦ rw (le-ltb (f t) (f (suc t)) le) (omega (arith, end-within f t))
]

module _ (f : ℕ → ℕ) (up : (t : ℕ) → f t ≤ f (suc t)) where
  up-to : (u t : ℕ) → u ≤ t → f u ≤ f t
  up-to u zero within = let e : u ≡ 0 = omega arith in rw e (omega arith)
  up-to u (suc t) within = elim (cases_lt t u) [
    | inl less ↦ let e : u ≡ suc t = omega arith in rw e (omega arith)
    | inr le ↦ let rest = up-to u t le in let next = up t in omega arith
  ]

  -- after its end it stays
  end_stays : (u t : ℕ) → u ≤ t → end_of f t ≤ u → f u ≡ f t
  end_stays u zero within after = let e : u ≡ 0 = omega arith in ap f e
  end_stays u (suc t) within after = elim (cases_lt (f t) (f (suc t))) [
    | inl less ↦ let after' = rw (lt-ltb (f t) (f (suc t)) less) at after in let e : u ≡ suc t = omega arith in ap f e
    | inr le ↦
        let after' = rw (le-ltb (f t) (f (suc t)) le) at after in
        elim (cases_lt t u) [
          | inl past ↦ let e : u ≡ suc t = omega arith in ap f e
          | inr before ↦ let rest = end_stays u t before after' in let next = up t in omega arith
        ]
  ]

  -- where it stays it has ended
  stays_end : (u t : ℕ) → u ≤ t → f u ≡ f t → end_of f t ≤ u
  stays_end u zero within same = omega arith
  stays_end u (suc t) within same = elim (cases_lt t u) [
    | inl past ↦ omega (arith, end-within f (suc t))
    | inr before ↦
        let first = up-to u t before in
        let next = up t in
        let still : f (suc t) ≤ f t = omega arith in
        rw (le-ltb (f t) (f (suc t)) still) (stays_end u t before (omega arith))
  ]

-- ---- two counts, of which the first is never behind
module _ (first second : ℕ → ℕ) (n : ℕ) (up : (t : ℕ) → first t ≤ first (suc t)) (up' : (t : ℕ) → second t ≤ second (suc t))
    (behind : (t : ℕ) → t ≤ n → second t ≤ first t) where
  pub ends_first : first n ≡ second n → end_of first n ≤ end_of second n
  ends_first same =
      let u = end_of second n in
      let within = end-within second n in
      let stays = end_stays second up' u n within (omega arith) in
      let low = behind u within in
      let high = up-to first up u n within in
      stays_end first up u n within (omega arith)

-- ---- the sum of the slots in which a count rose
range-more : (a n k : ℕ) → a + n ≡ k → range_with_len a (suc n) ≡ range_with_len a n ++ k ∷ []
range-more a zero k is = let e : a ≡ k = omega arith in ap (λ x. x ∷ []) e
range-more a (suc n) k is = ap (λ xs. a ∷ xs) (range-more (a + 1) n k (omega arith))

rise-one : (b : Bool) (t : ℕ) → sum (if b then t ∷ [] else []) ≡ (if b then t else 0)
rise-one true t = omega arith
rise-one false t = refl

rise-more : (f : ℕ → ℕ) (t : ℕ) → sum (rises f (suc t)) ≡ sum (rises f t) + (if nat_lt (f t) (f (suc t)) then t else 0)
rise-more f t =
    let rose = λ (u : ℕ). nat_lt (f u) (f (suc u)) in
    ap (λ xs. sum (filter rose xs)) (range-more 0 t t (omega arith))
    ∙ ap sum (filter-append rose (range_with_len 0 t) (t ∷ []))
    ∙ sum_by-append (λ (x : ℕ). x) (filter rose (range_with_len 0 t)) (filter rose (t ∷ []))
    ∙ ap (λ n. sum (rises f t) + n) (rise-one (rose t) t)

-- a count of one a slot at most, summed up slot by slot, with the slots in which it rose
weighed : (f : ℕ → ℕ) → f 0 ≡ 0 → ((t : ℕ) → f t ≤ f (suc t)) → ((t : ℕ) → f (suc t) ≤ f t + 1) → (t : ℕ) → total (λ u. f (suc u)) t + sum (rises f t) ≡ t * f t
weighed f start up one zero = omega arith
weighed f start up one (suc t) =
    let rest = weighed f start up one t in
    let more = rise-more f t in
    let first = suc-mul t (f (suc t)) in
    elim (cases_lt (f t) (f (suc t))) [
      | inl less ↦
          let next : f (suc t) ≡ suc (f t) = let high = one t in omega arith in
          let risen : (if nat_lt (f t) (f (suc t)) then t else 0) ≡ t = rw (lt-ltb (f t) (f (suc t)) less) refl in
          let second : t * f (suc t) ≡ t * f t + t = ap (λ n. t * n) next ∙ mul-suc t (f t) in
          omega arith
      | inr le ↦
          let next : f (suc t) ≡ f t = let low = up t in omega arith in
          let risen : (if nat_lt (f t) (f (suc t)) then t else 0) ≡ 0 = rw (le-ltb (f t) (f (suc t)) le) refl in
          let second : t * f (suc t) ≡ t * f t = ap (λ n. t * n) next in
          omega arith
    ]

ahead-sum : (first second : ℕ → ℕ) (n : ℕ) → ((t : ℕ) → t ≤ n → second t ≤ first t)
    → total (ahead first second) n + total (λ u. second (suc u)) n ≡ total (λ u. first (suc u)) n
ahead-sum first second zero behind = refl
ahead-sum first second (suc n) behind =
    let rest = ahead-sum first second n (λ t within. behind t (omega arith)) in
    let last = behind (suc n) (omega arith) in
    omega arith

module _ (first second : ℕ → ℕ) (start : first 0 ≡ 0) (start' : second 0 ≡ 0) (up : (t : ℕ) → first t ≤ first (suc t))
    (up' : (t : ℕ) → second t ≤ second (suc t))
    (one : (t : ℕ) → first (suc t) ≤ first t + 1) (one' : (t : ℕ) → second (suc t) ≤ second t + 1) (n : ℕ) (behind : (t : ℕ) → t ≤ n → second t ≤ first t) where
  pub delays_are : first n ≡ second n → total (ahead first second) n + sum (rises first n) ≡ sum (rises second n)
  delays_are same =
      let a = weighed first start up one n in
      let b = weighed second start' up' one' n in
      let both = ahead-sum first second n behind in
      let product : n * first n ≡ n * second n = ap (λ x. n * x) same in
      omega arith
