-- The ideal switch has the least sum of delays, where no cell waits in another one behind the last slot.
use Rattle.std.proofs.Common.{◌≡◌, ◌∙◌, ◌+◌, ◌-◌, ◌*◌, ◌<◌, ◌≤◌, ap, refl, sym, arith, ℕ, zero, suc, List, [], ◌∷◌, ◌++◌, length}
use Rattle.std.specs.Prelude.{flat_map}
use Rattle.std.specs.List.{range_with_len}
use Rattle.made_traffic.specs.Sources.{IsTraffic}
use Rattle.arrival_queues.specs.declared.cell.ArrivedCell.{ArrivedCell}
use Rattle.arrival_queues.specs.Queues.{held_count}
use Rattle.arrival_queues.proofs.Counts.{held-empty}
use Rattle.simulated_slots.specs.Jobs.{JobValue, queueing_of}
use Rattle.simulated_slots.specs.Slots.{slot_of, switch_before}
use Rattle.simulated_runs.specs.Laws.{AreCompared}
use Rattle.simulated_runs.specs.Numbers.{measured, numbers_after}
use Rattle.simulated_runs.proofs.Ageing.{departed-few, little-holds}
use Rattle.simulated_runs.proofs.Coming.{came-before}
use Rattle.simulated_runs.proofs.Conserving.{conserved}
use Rattle.simulated_runs.proofs.LeastWaiting.{cell_slots-least, coming-same, waiting-least}
use Rattle.simulated_runs.proofs.MadeSlots.{came-is}
use Rattle.simulated_runs.proofs.Starting.{before-first}
use Rattle.simulated_runs.proofs.Waits.{age-is}

-- ---- what slots give
module _ {X : Type 0} where
  given-same : (f g : ℕ → List X) (slots : List ℕ) → ((s : ℕ) → f s ≡ g s) → flat_map f slots ≡ flat_map g slots
  given-same f g [] each = refl
  given-same f g (s ∷ slots) each =
      ap (λ (xs : List X). xs ++ flat_map f slots) (each s) ∙ ap (λ (xs : List X). g s ++ xs) (given-same f g slots each)

  none-given : (f : ℕ → List X) (from count : ℕ) → ((s : ℕ) → s < from + count → f s ≡ []) → flat_map f (range_with_len from count) ≡ []
  none-given f from zero each = refl
  none-given f from (suc count) each = ap (λ (xs : List X). xs ++ flat_map f (range_with_len (from + 1) count)) (each from (omega arith))
      ∙ none-given f (from + 1) count (λ s soon. each s (omega (arith, soon)))

-- ---- a job that measures all slots
module _ (job : JobValue) (t : ℕ) where
  nothing-before : job.settings.warm_up ≡ 0 → (numbers_after job t).before.cells ≡ 0
  unfolding numbers_after
  nothing-before all = ap (λ (s : ℕ). held_count (switch_before job s).queues) all
      ∙ (ap held_count (before-first job) ∙ held-empty (queueing_of job.settings.discipline) job.traffic.ports job.settings.depth)

  no_age-before : job.settings.warm_up ≡ 0 → (numbers_after job t).before.age ≡ 0
  unfolding numbers_after
  no_age-before all =
      let from = job.settings.warm_up in
      let ages = age-is from (switch_before job from).queues (came-before job from) in
      omega (arith, ages, ap (λ (s : ℕ). held_count (switch_before job from).queues * s) all)

  -- where no cell waits, none has an age
  no_age-waiting : (numbers_after job t).waiting.cells ≡ 0 → (numbers_after job t).waiting.age ≡ 0
  unfolding numbers_after
  no_age-waiting none =
      let ages = age-is t (switch_before job t).queues (came-before job t) in
      omega (arith, ages, ap (λ (count : ℕ). count * t) none)

-- ---- two jobs to which the same cells come
module _ (ideal other : JobValue) (good : IsTraffic other.traffic) (t : ℕ) (compared : AreCompared ideal other t) where
  came-same : (s : ℕ) → (slot_of ideal s).came ≡ (slot_of other s).came
  came-same s = came-is ideal s ∙ (coming-same ideal other good s compared.traffic compared.seed ∙ sym (came-is other s))

  arrived-same : ideal.settings.warm_up ≡ other.settings.warm_up → (numbers_after ideal t).arrived ≡ (numbers_after other t).arrived
  unfolding numbers_after
  arrived-same same = ap (λ (cells : List ArrivedCell). length cells)
      (given-same (λ s. (slot_of ideal s).came) (λ s. (slot_of other s).came) (measured ideal t) came-same)
      ∙ ap (λ (from : ℕ). length (flat_map (λ s. (slot_of other s).came) (range_with_len from (t - from)))) same

  none-dropped : other.settings.warm_up ≡ 0 → (numbers_after other t).dropped ≡ 0
  unfolding numbers_after
  none-dropped all = ap (λ (cells : List ArrivedCell). length cells)
      (none-given (λ s. (slot_of other s).dropped) other.settings.warm_up (t - other.settings.warm_up)
      (λ s soon. compared.kept s (omega (arith, soon, all))))

  pub delays-least : ideal.settings.warm_up ≡ 0 → other.settings.warm_up ≡ 0 → (numbers_after other t).waiting.cells ≡ 0
      → (numbers_after ideal t).delays ≤ (numbers_after other t).delays
  delays-least all all_others none =
      let same = all ∙ sym all_others in
      let waiting = waiting-least ideal other good t compared in
      let none_left : (numbers_after ideal t).waiting.cells ≡ 0 = omega (arith, waiting, none) in
      -- no more cells depart from the ideal switch
      let first = conserved ideal t (omega (arith, all)) in
      let second = conserved other t (omega (arith, all_others)) in
      let arrived = arrived-same same in
      let few : (numbers_after ideal t).departed ≤ (numbers_after other t).departed =
      omega (arith, first, second, arrived, none, none-dropped all_others, nothing-before ideal t all, nothing-before other t all_others) in
      -- nor do cells wait in it for more slots in all
      omega (
        arith,
        few,
        little-holds ideal t (omega (arith, all)),
        little-holds other t (omega (arith, all_others)),
        departed-few other t (omega (arith, all_others)),
        cell_slots-least ideal other good t compared same,
        no_age-before ideal t all,
        no_age-before other t all_others,
        no_age-waiting ideal t none_left,
        no_age-waiting other t none,
      )
