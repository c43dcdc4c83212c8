-- The inputs of a switch by port, and what a loop over a list has done up to a place.
use Rattle.std.proofs.Common.{◌≡◌, ◌∙◌, ℕ, ◌+◌, ◌<◌, List, map, length, get_or, set, Some, sym, ap, subst, arith, inl, inr}
use Rattle.std.specs.Prelude.{slice_get}
use Rattle.std.specs.Option.{option_map}
use Rattle.std.proofs.lemmas.Bool.{cases_lt}
use Rattle.std.proofs.lemmas.List.{length-map, map-set, set-get_or}
use Rattle.std.proofs.lemmas.Option.{slice_get-get_or, slice_get-map, slice_get_within, get_or_from_slice_get, same_Some}
use Rattle.std_lemmas.proofs.Lists.{get-set_same, get-set_other}
use Rattle.slot_match.specs.declared.rows.Row.{Row}
use Rattle.switch_plan.specs.GoodPlans.{SwitchPlan}
use Rattle.run_laws.specs.Runs.{ports_of, card_at, no_plan}
use Rattle.descriptor_runs.specs.InputSteps.{InputValue, row_in}

-- the inputs' number, and each input's plan, where they are of the switch's plans
module _ (plan : SwitchPlan) (inputs : List InputValue) (plans : map (λ input. input.plan) inputs ≡ plan.cards) where
  pub count-inputs : length inputs ≡ ports_of plan
  count-inputs = sym (length-map inputs (λ (input : InputValue). input.plan)) ∙ ap length plans

  pub plan-of : (i : ℕ) (input : InputValue) → slice_get inputs i ≡ Some input → input.plan ≡ card_at plan i
  plan-of i input at =
      let own : slice_get plan.cards i ≡ Some input.plan = ap (λ ps. slice_get ps i) (sym plans)
      ∙ (slice_get-map (λ (input : InputValue). input.plan) inputs i ∙ ap (option_map (λ (input : InputValue). input.plan)) at) in
      sym (get_or_from_slice_get plan.cards i input.plan no_plan own)

  pub in-ports : (i : ℕ) (input : InputValue) → slice_get inputs i ≡ Some input → i < ports_of plan
  in-ports i input at = let inside = slice_get_within inputs i input at in let count = count-inputs in omega arith

-- the rows of the inputs, of which one is taken and one is put
module _ (inputs : List InputValue) (rows : List Row) (are : rows ≡ map row_in inputs) (k : ℕ) where
  pub row-there : (d : InputValue) → k < length inputs → slice_get rows k ≡ Some (row_in (get_or inputs k d))
  row-there d inside =
      ap (λ rs. slice_get rs k) are ∙ (slice_get-map row_in inputs k ∙ ap (option_map row_in) (slice_get-get_or inputs k d inside))

  pub row-at : (d : InputValue) (e : Row) → k < length inputs → get_or rows k e ≡ row_in (get_or inputs k d)
  row-at d e inside = get_or_from_slice_get rows k (row_in (get_or inputs k d)) e (row-there d inside)

  pub rows-set : (input : InputValue) → set rows k (row_in input) ≡ map row_in (set inputs k input)
  rows-set input = ap (λ rs. set rs k (row_in input)) are ∙ sym (map-set row_in inputs k input)

-- one that is put again changes nothing
pub rows-same : (rows : List Row) (k : ℕ) (row : Row) → slice_get rows k ≡ Some row → rows ≡ set rows k row
rows-same rows k row at = sym (set-get_or rows k row) ∙ ap (set rows k) (get_or_from_slice_get rows k row row at)

-- what holds of each element up to a place
pub each-more : {X : Type 0} (P : ℕ → X → Type 0) (k : ℕ) (xs : List X) (y : X) → k < length xs → ((i : ℕ) (x : X) → i < k → slice_get xs i ≡ Some x → P i x)
    → P k y → (i : ℕ) (x : X) → i < k + 1 → slice_get (set xs k y) i ≡ Some x → P i x
each-more P k xs y inside each here i x below at =
    elim (cases_lt i k) [
      | inl less ↦ each i x less (sym (get-set_other xs k i y (λ e. absurd (omega arith))) ∙ at)
      | inr last ↦
          let same : k ≡ i = omega arith in
          let is : y ≡ x = same_Some y x (sym (get-set_same xs k y inside) ∙ (ap (slice_get (set xs k y)) same ∙ at)) in
          subst (λ j. P j x) same (subst (P k) is here)
    ]
