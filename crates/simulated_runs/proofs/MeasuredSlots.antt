-- The measured slots, with one slot more.
use Rattle.std.proofs.Common.{◌≡◌, ◌∙◌, ◌+◌, ◌-◌, ◌<◌, ◌≤◌, ap, refl, sym, subst, arith, ℕ, zero, suc, Bool, true, false, List, [], ◌∷◌, ◌++◌, map, append-nil}
use Rattle.std.specs.Prelude.{flat_map, sum_by, nat_le, if◌then◌else◌}
use Rattle.std.specs.List.{range_with_len}
use Rattle.std.proofs.lemmas.List.{map-append}
use Rattle.std.proofs.lemmas.List.Concat.{flat_map-append}
use Rattle.std.proofs.lemmas.List.Sums.{sum_by-append}
use Rattle.std_lemmas.proofs.Ranges.{range_next}
use Rattle.simulated_slots.specs.Jobs.{JobValue, is_measured}
use Rattle.simulated_slots.specs.ArrivalSteps.{where_measured}
use Rattle.simulated_runs.specs.Numbers.{measured}

has_begun : (from t : ℕ) → nat_le from t ≡ true → from ≤ t
has_begun from t test = grind arith

begins_later : (from t : ℕ) → nat_le from t ≡ false → t < from
begins_later from t test = grind arith

-- a range of those from `from` on, with t where it has begun
range-from : (from t : ℕ) (begun : Bool) → nat_le from t ≡ begun
    → range_with_len from (t + 1 - from) ≡ range_with_len from (t - from) ++ where_measured begun (t ∷ [])
range-from from t true test =
    let le = has_begun from t test in
    let count : t + 1 - from ≡ t - from + 1 = omega (arith, le) in
    let last : from + (t - from) ≡ t = omega (arith, le) in
    ap (range_with_len from) count ∙ (range_next from (t - from) ∙ ap (λ (s : ℕ). range_with_len from (t - from) ++ s ∷ []) last)
range-from from t false test =
    let lt = begins_later from t test in
    let count : t + 1 - from ≡ t - from = omega (arith, lt) in
    ap (range_with_len from) count ∙ sym (append-nil (range_with_len from (t - from)))

measured-more : (job : JobValue) (t : ℕ) → measured job (t + 1) ≡ measured job t ++ where_measured (is_measured job t) (t ∷ [])
measured-more job t = range-from job.settings.warm_up t (is_measured job t) refl

pub map-where : {X Y : Type 0} (f : X → Y) (begun : Bool) (xs : List X) → map f (where_measured begun xs) ≡ where_measured begun (map f xs)
map-where f true xs = refl
map-where f false xs = refl

-- what the slots give, one after the other
module _ {X : Type 0} (f : ℕ → List X) (job : JobValue) (t : ℕ) where
  one_slot : (begun : Bool) → flat_map f (where_measured begun (t ∷ [])) ≡ where_measured begun (f t)
  one_slot true = append-nil (f t)
  one_slot false = refl

  pub flat_map-measured : flat_map f (measured job (t + 1)) ≡ flat_map f (measured job t) ++ where_measured (is_measured job t) (f t)
  flat_map-measured = ap (flat_map f) (measured-more job t)
      ∙ (flat_map-append f (measured job t) (where_measured (is_measured job t) (t ∷ []))
      ∙ ap (λ (more : List X). flat_map f (measured job t) ++ more) (one_slot (is_measured job t)))

  pub map_flat_map-measured : {Y : Type 0} (g : X → Y)
      → map g (flat_map f (measured job (t + 1))) ≡ map g (flat_map f (measured job t)) ++ where_measured (is_measured job t) (map g (f t))
  map_flat_map-measured {Y} g = ap (map g) flat_map-measured
      ∙ (map-append g (flat_map f (measured job t)) (where_measured (is_measured job t) (f t))
      ∙ ap (λ (more : List Y). map g (flat_map f (measured job t)) ++ more) (map-where g (is_measured job t) (f t)))

-- a sum over the slots
pub sum_by-measured : (f : ℕ → ℕ) (job : JobValue) (t : ℕ)
    → sum_by f (measured job (t + 1)) ≡ sum_by f (measured job t) + (if is_measured job t then f t else 0)
sum_by-measured f job t = ap (sum_by f) (measured-more job t)
    ∙ (sum_by-append f (measured job t) (where_measured (is_measured job t) (t ∷ []))
    ∙ ap (λ (more : ℕ). sum_by f (measured job t) + more) (one (is_measured job t)))
  where
    one : (begun : Bool) → sum_by f (where_measured begun (t ∷ [])) ≡ (if begun then f t else 0)
    one true = omega arith
    one false = refl

-- before the first measured slot there are none
pub none-measured : (job : JobValue) → measured job job.settings.warm_up ≡ []
none-measured job =
    let none : job.settings.warm_up - job.settings.warm_up ≡ 0 = omega arith in
    ap (range_with_len job.settings.warm_up) none

-- what is true before the first measured slot, and with each measured one more
module _ (job : JobValue) (P : ℕ → Type 0) (first : P job.settings.warm_up) (more : (t : ℕ) → is_measured job t ≡ true → P t → P (t + 1)) where
  is_from : (from k : ℕ) → nat_le from (from + k) ≡ true
  is_from from k = grind arith

  after_slots : (k : ℕ) → P (job.settings.warm_up + k)
  after_slots zero =
      let same : job.settings.warm_up ≡ job.settings.warm_up + 0 = omega arith in
      subst P same first
  after_slots (suc k) =
      let next : job.settings.warm_up + k + 1 ≡ job.settings.warm_up + suc k = omega arith in
      subst P next (more (job.settings.warm_up + k) (is_from job.settings.warm_up k) (after_slots k))

  pub with_slots : (t : ℕ) → job.settings.warm_up ≤ t → P t
  with_slots t later =
      let at : job.settings.warm_up + (t - job.settings.warm_up) ≡ t = omega (arith, later) in
      subst P at (after_slots (t - job.settings.warm_up))
