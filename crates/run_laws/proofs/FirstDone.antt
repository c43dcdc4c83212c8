-- The first slot that is done.
use Rattle.std.proofs.Common.{◌≡◌, ◌∙◌, ℕ, zero, suc, ◌+◌, ◌<◌, true, false, refl, sym, ap, arith, inl, inr}
use Rattle.std.proofs.lemmas.Bool.{cases_eq, cases_order, cases_Bool, both_ways, or_cases, or_parts}
use Rattle.crossbar.specs.declared.cards.Post.{Post as CardPost}
use Rattle.eslip_rounds.specs.Schedulers.{Scheduler}
use Rattle.slot_histories.specs.Slots.{is_done_at, is_done_before}
use Rattle.switch_plan.specs.GoodPlans.{SwitchPlan}
use Rattle.run_laws.specs.Runs.{ports_of, posts_under}
use Rattle.run_laws.specs.Ends.{IsLengthUnder}

module _ (n : ℕ) (posts : ℕ → ℕ → CardPost) where
  -- where none of the first slots is done, this one is not
  pub not_done : (k u : ℕ) → u < k → is_done_before n posts k ≡ false → is_done_at n posts u ≡ false
  not_done zero u below going = absurd (omega arith)
  not_done (suc k) u below going =
      let both = or_parts (is_done_before n posts k) (is_done_at n posts k) going in
      elim (cases_eq u k) [
        | inl is ↦ ap (is_done_at n posts) is ∙ both.1
        | inr other ↦ not_done k u (omega arith) both.0
      ]

  -- where one of the first slots is done, one is the first
  pub first_done : (k : ℕ) → is_done_before n posts k ≡ true → (last : ℕ) × (last < k) × (is_done_at n posts last ≡ true)
      × (is_done_before n posts last ≡ false)
  first_done zero done = absurd (both_ways (is_done_before n posts zero) refl done)
  first_done (suc k) done =
      elim (cases_Bool (is_done_before n posts k)) [
        | inl earlier ↦ let first = first_done k earlier in (first.0, omega arith, first.2, first.3)
        | inr going ↦ elim (or_cases (is_done_before n posts k) (is_done_at n posts k) done) [
          | inl earlier ↦ absurd (both_ways (is_done_before n posts k) going earlier)
          | inr now ↦ (k, omega arith, now, going)
        ]
      ]

-- the first done slot is one
pub one_length : (scheduler : Scheduler) (plan : SwitchPlan) (a b : ℕ) → IsLengthUnder scheduler plan a → IsLengthUnder scheduler plan b → a ≡ b
one_length scheduler plan a b ends also =
    let n = ports_of plan in
    elim (cases_order ends.last also.last) [
      | inl same ↦ ends.count ∙ ap (λ k. k + 1) same ∙ sym also.count
      | inr other ↦ elim other [
        | inl before ↦ absurd (both_ways (is_done_at n (posts_under scheduler plan) ends.last)
            (not_done n (posts_under scheduler plan) also.last ends.last before also.going) ends.done)
        | inr after ↦ absurd (both_ways (is_done_at n (posts_under scheduler plan) also.last)
            (not_done n (posts_under scheduler plan) ends.last also.last after ends.going) also.done)
      ]
    ]
