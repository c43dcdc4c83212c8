-- What a port is served in a run under any scheduler, and what it takes.
use Rattle.std.proofs.Common.{◌≡◌, ◌∙◌, ℕ, ◌||◌, Bool, true, false, [], ◌∷◌, refl, sym, ap, arith}
use Rattle.std.specs.List.{range_with_len}
use Rattle.std.specs.Option.{option_to_list}
use Rattle.std.proofs.lemmas.List.FromFn.{map-range_with_len_more}
use Rattle.std.proofs.lemmas.List.Folds.{flat_map-map, list_any-append}
use Rattle.std.proofs.lemmas.Simd.{map-map}
use Rattle.eslip_rounds.specs.Schedulers.{Scheduler}
use Rattle.slot_histories.specs.Slots.{taken_under}
use Rattle.card_core.specs.Cards.{served_in, is_done}
use Rattle.card_core.specs.Deliveries.{cells_taken}
use Rattle.switch_plan.specs.GoodPlans.{SwitchPlan}
use Rattle.run_laws.specs.Runs.{setup_for, parts_under, posts_under, takings_under}
use Rattle.run_laws.specs.Crossings.{cells_under}
use Rattle.run_laws.specs.Ends.{IsLengthUnder}
use Rattle.run_laws.proofs.Base.{served-is}

last_true : (a b : Bool) → b ≡ true → (a || (b || false)) ≡ true
last_true true b is = refl
last_true false b is = ap (λ x. x || false) is

module _ (scheduler : Scheduler) (plan : SwitchPlan) where
  -- what a port is served in the first slots is that of what it takes
  pub served_taken : (j slots : ℕ) → served_in (takings_under scheduler plan j slots) ≡ parts_under scheduler plan j slots
  served_taken j slots = map-map (λ taken. taken.served) (taken_under scheduler (setup_for plan) (posts_under scheduler plan) j) (range_with_len 0 slots)
      ∙ sym (served-is scheduler plan j slots)

  -- the cells that it takes are those that cross to it
  pub cells_crossed : (j slots : ℕ) → cells_taken (takings_under scheduler plan j slots) ≡ cells_under scheduler plan j slots
  cells_crossed j slots = flat_map-map (λ taken. option_to_list taken.cell) (taken_under scheduler (setup_for plan) (posts_under scheduler plan) j)
      (range_with_len 0 slots)

  -- and the last slot that it takes is done
  pub takings_end : (j slots : ℕ) → IsLengthUnder scheduler plan slots → is_done (takings_under scheduler plan j slots) ≡ true
  takings_end j slots ends =
      let take = taken_under scheduler (setup_for plan) (posts_under scheduler plan) j in
      let all = ap (λ n. is_done (takings_under scheduler plan j n)) ends.count
      ∙ (ap is_done (map-range_with_len_more take 0 ends.last ends.last (omega arith))
      ∙ list_any-append (λ taken. taken.done) (takings_under scheduler plan j ends.last) (take ends.last ∷ [])) in
      all ∙ last_true (is_done (takings_under scheduler plan j ends.last)) (take ends.last).done ends.done
