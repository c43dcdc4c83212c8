-- Little's law, slot by slot.
use Rattle.std.proofs.Common.{◌≡◌, ◌∙◌, ◌+◌, ◌-◌, ◌<◌, ◌≤◌, ap, refl, sym, arith, ℕ, Bool, true, List, [], ◌∷◌, ◌++◌, length, map, sum}
use Rattle.std.specs.Prelude.{All, sum_by, flat_map, if◌then◌else◌}
use Rattle.std.proofs.lemmas.List.{length-append, length-map}
use Rattle.std.proofs.lemmas.List.Elements.{All-head, All-tail, All-weaker}
use Rattle.std.proofs.lemmas.List.Sums.{sum-map, sum_by-append, sum_by-cons, sum_by_push}
use Rattle.std_lemmas.proofs.MappedSums.{sum_by-map}
use Rattle.arrival_queues.specs.declared.cell.ArrivedCell.{ArrivedCell}
use Rattle.arrival_queues.specs.Queues.{Queues, held_count}
use Rattle.simulated_slots.specs.Jobs.{JobValue, is_measured}
use Rattle.simulated_slots.specs.Slots.{coming, slot_of, switch_before}
use Rattle.simulated_slots.specs.ArrivalSteps.{AllCame, where_measured}
use Rattle.simulated_slots.proofs.TakingIn.{AllBefore}
use Rattle.simulated_runs.specs.Numbers.{Departure, age_before, delay_of, departures, departures_in, measured, numbers_after}
use Rattle.simulated_runs.specs.Laws.{IsLittle}
use Rattle.simulated_runs.proofs.Coming.{came-before, came-departed, coming-now}
use Rattle.simulated_runs.proofs.MadeSlots.{after-is, departed-is, filled-is, left-is, served_in}
use Rattle.simulated_runs.proofs.MeasuredSlots.{flat_map-measured, none-measured, sum_by-measured, with_slots}
use Rattle.simulated_runs.proofs.Waits.{age}
use Rattle.simulated_runs.proofs.Weighing.{weight-entered_light, weight-left}

-- ---- ages a slot later
age-next : (t : ℕ) (cells : List ArrivedCell) → AllBefore (t + 1) cells → sum_by (age (t + 1)) cells ≡ sum_by (age t) cells + length cells
age-next t [] before = omega arith
age-next t (c ∷ cells) before =
    let here : c.arrival < t + 1 = All-head (λ (c : ArrivedCell). c.arrival < t + 1) c cells before in
    let rest = age-next t cells (All-tail (λ (c : ArrivedCell). c.arrival < t + 1) c cells before) in
    let one : t + 1 - c.arrival ≡ t - c.arrival + 1 = omega (arith, here) in
    omega (arith, one, rest, sum_by-cons (age (t + 1)) c cells, sum_by-cons (age t) c cells)

ages-next : (t : ℕ) (queues : List (List ArrivedCell)) → All (AllBefore (t + 1)) queues
    → sum_by (sum_by (age (t + 1))) queues ≡ sum_by (sum_by (age t)) queues + sum_by length queues
ages-next t [] before = omega arith
ages-next t (cells ∷ queues) before =
    let here = age-next t cells (All-head (AllBefore (t + 1)) cells queues before) in
    let rest = ages-next t queues (All-tail (AllBefore (t + 1)) cells queues before) in
    omega (
      arith,
      here,
      rest,
      sum_by-cons (sum_by (age (t + 1))) cells queues,
      sum_by-cons (sum_by (age t)) cells queues,
      sum_by-cons (λ (cells : List ArrivedCell). length cells) cells queues,
    )

age_before-next : (t : ℕ) (queues : Queues) → AllCame (t + 1) queues → age_before (t + 1) queues ≡ age_before t queues + held_count queues
unfolding held_count
age_before-next t queues came = ages-next t queues.cells came

no_age : (t : ℕ) → sum_by (age t) [] ≡ 0
no_age t = refl

-- ---- one slot
-- how many cells wait when it ends, how many leave in it, what their delays are in all, and how old those were that waited
abbrev pub stay : JobValue → ℕ → ℕ
stay job t = held_count (slot_of job t).after.queues

abbrev pub leave : JobValue → ℕ → ℕ
leave job t = length (slot_of job t).departed

abbrev pub delayed : JobValue → ℕ → ℕ
delayed job t = sum_by (age (t + 1)) (slot_of job t).departed

abbrev pub aged : JobValue → ℕ → ℕ
aged job t = age_before t (switch_before job t).queues

module _ (job : JobValue) (t : ℕ) where
  age-filled : age_before t (slot_of job t).filled ≡ aged job t
  age-filled = ap (age_before t) (filled-is job t)
      ∙ weight-entered_light (sum_by (age t)) (age t) (no_age t) (sum_by-cons (age t)) (sum_by_push (age t)) (switch_before job t).queues (coming job t)
      (All-weaker (λ (c : ArrivedCell). c.arrival ≡ t) (λ (c : ArrivedCell). t - c.arrival ≡ 0) (λ c is. omega (arith, is)) (coming job t) (coming-now job t))

  age-left : age_before t (slot_of job t).after.queues + sum_by (age t) (slot_of job t).departed ≡ aged job t
  age-left =
      let both = weight-left (sum_by (age t)) (age t) (no_age t) (sum_by-cons (age t)) (sum_by_push (age t)) (slot_of job t).filled (served_in job t) in
      let queues = ap (age_before t) (left-is job t) in
      let cells = ap (sum_by (age t)) (departed-is job t) in
      omega (arith, both, queues, cells, age-filled)

  -- the slots that cells wait in it are those of the cells that leave and of those that stay
  pub one_slot : aged job (t + 1) + delayed job t ≡ aged job t + stay job t + leave job t
  one_slot =
      let later = age_before-next t (switch_before job (t + 1)).queues (came-before job (t + 1)) in
      let after = ap (λ switch. age_before t switch.queues) (after-is job t) in
      let held = ap (λ switch. held_count switch.queues) (after-is job t) in
      let delays = age-next t (slot_of job t).departed (came-departed job t) in
      omega (arith, later, after, held, delays, age-left)

  pub delayed-some : leave job t ≤ delayed job t
  delayed-some = omega (arith, age-next t (slot_of job t).departed (came-departed job t))

  -- what is told of the departures with a measured slot
  module _ (begun : is_measured job t ≡ true) where
    departures-next : departures job (t + 1) ≡ departures job t ++ departures_in job t
    departures-next = flat_map-measured (departures_in job) job t
        ∙ ap (λ (m : Bool). departures job t ++ where_measured m (departures_in job t)) begun

    count-next : length (departures job (t + 1)) ≡ length (departures job t) + leave job t
    count-next = ap (λ (ds : List Departure). length ds) departures-next ∙ (length-append (departures job t) (departures_in job t)
        ∙ ap (λ (n : ℕ). length (departures job t) + n) (length-map (slot_of job t).departed (λ cell. record { slot = t; cell = cell })))

    delays-next : sum (map delay_of (departures job (t + 1))) ≡ sum (map delay_of (departures job t)) + delayed job t
    delays-next = ap (λ (ds : List Departure). sum (map delay_of ds)) departures-next
        ∙ (sum-map delay_of (departures job t ++ departures_in job t) ∙ (sum_by-append delay_of (departures job t) (departures_in job t)
        ∙ (ap (λ (n : ℕ). n + sum_by delay_of (departures_in job t)) (sym (sum-map delay_of (departures job t)))
        ∙ ap (λ (n : ℕ). sum (map delay_of (departures job t)) + n) (sum_by-map delay_of (λ cell. record { slot = t; cell = cell }) (slot_of job t).departed))))

    stays-next : sum_by (stay job) (measured job (t + 1)) ≡ sum_by (stay job) (measured job t) + stay job t
    stays-next = sum_by-measured (stay job) job t ∙ ap (λ (m : Bool). sum_by (stay job) (measured job t) + (if m then stay job t else 0)) begun

-- ---- all measured slots before slot t
pub record Balances (job : JobValue) (t : ℕ) : Type 0 where
  pub ages : sum_by (stay job) (measured job t) + aged job job.settings.warm_up + length (departures job t) ≡ sum (map delay_of (departures job t)) + aged job t
  pub few : length (departures job t) ≤ sum (map delay_of (departures job t))

Balances-first : (job : JobValue) → Balances job job.settings.warm_up
Balances-first job =
    let slots = none-measured job in
    let cells : departures job job.settings.warm_up ≡ [] = ap (flat_map (departures_in job)) slots in
    let stays : sum_by (stay job) (measured job job.settings.warm_up) ≡ 0 = ap (sum_by (stay job)) slots in
    let count : length (departures job job.settings.warm_up) ≡ 0 = ap (λ (ds : List Departure). length ds) cells in
    let delays : sum (map delay_of (departures job job.settings.warm_up)) ≡ 0 = ap (λ (ds : List Departure). sum (map delay_of ds)) cells in
    record { ages = omega (arith, stays, count, delays); few = omega (arith, count) }

Balances-more : (job : JobValue) (t : ℕ) → is_measured job t ≡ true → Balances job t → Balances job (t + 1)
Balances-more job t begun so_far =
    let count = count-next job t begun in
    let delays = delays-next job t begun in
    let stays = stays-next job t begun in
    let slot = one_slot job t in
    let some = delayed-some job t in
    record { ages = omega (arith, count, delays, stays, slot, so_far.ages); few = omega (arith, count, delays, some, so_far.few) }

balances : (job : JobValue) (t : ℕ) → job.settings.warm_up ≤ t → Balances job t
balances job t later = with_slots job (Balances job) (Balances-first job) (Balances-more job) t later

pub little-holds : (job : JobValue) (t : ℕ) → job.settings.warm_up ≤ t → IsLittle (numbers_after job t)
unfolding numbers_after
little-holds job t later =
    let balance = balances job t later in
    omega (arith, balance.ages, balance.few)

-- each cell that departs has a delay of one slot at least
pub departed-few : (job : JobValue) (t : ℕ) → job.settings.warm_up ≤ t → (numbers_after job t).departed ≤ (numbers_after job t).delays
unfolding numbers_after
departed-few job t later = (balances job t later).few
