-- The measures over slots of a run in which nothing happens.
use Rattle.std.proofs.Common.{◌≡◌, ◌∙◌, ℕ, zero, suc, ◌+◌, ◌-◌, ◌<◌, ◌≤◌, ◌⊎◌, List, [], ◌∷◌, ◌++◌, length, replicate, All, Option, None, Some, slice_index_or}
use Rattle.std.proofs.Common.{refl, sym, ap, arith, inl, inr, append_assoc, length-append}
use Rattle.std.proofs.lemmas.List.{append-nil, length-replicate, replicate_more}
use Rattle.slot_match.specs.declared.matching.Served.{Served}
use Rattle.eslip_rounds.specs.Schedulers.{Scheduler}
use Rattle.card_core.specs.declared.plan.Planned.{Planned}
use Rattle.card_core.specs.Plans.{Plan, Queue, IsGoodPlan, arriving}
use Rattle.card_core.proofs.Passing.{arriving-there}
use Rattle.queue_lengths.proofs.Gaps.{apart-at, kept-counts}
use Rattle.switch_plan.specs.GoodPlans.{SwitchPlan}
use Rattle.run_laws.specs.Runs.{ports_of, card_at, parts_under}
use Rattle.run_laws.proofs.Base.{served-length, good-card}
use Rattle.idle_slots.specs.Skipped.{IsGap}
use Rattle.idle_slots.proofs.Gaps.{gap-ahead, gap-parts, gap-queues}
use Rattle.queue_measures.specs.NotingSteps.{Input, HasNoted, IsNoted, no_input, numbers_so_far}
use Rattle.queue_measures.proofs.SoFar.{is_coming_for, numbers-stay}

-- no packet arrives in a slot between them
none-arrives : (card : Plan) (slot next t : ℕ) → All (λ packet. (packet.arrival < slot) ⊎ (next ≤ packet.arrival)) card.packets → slot ≤ t → t < next
    → (arrives : Option (ℕ × Planned)) → arriving card t ≡ arrives → arrives ≡ None
none-arrives card slot next t apart from below None is = refl
none-arrives card slot next t apart from below (Some (k, p)) is =
    let there = arriving-there 0 card.packets t k p is in
    elim (apart-at card.packets slot next apart there.0 p there.2) [
      | inl early ↦ absurd (omega (arith, there.3))
      | inr late ↦ absurd (omega (arith, there.3))
    ]

-- the numbers of a queue stay where no packet arrives
numbers-still : (card : Plan) → IsGoodPlan card → (served : List (Option Served)) (q : Queue) (k : ℕ)
    → ((t : ℕ) → length served ≤ t → t < length served + k → arriving card t ≡ None)
    → numbers_so_far card (served ++ replicate k None) (length served + k) q ≡ numbers_so_far card served (length served) q
numbers-still card good served q zero none =
    ap (λ (parts : List (Option Served)). numbers_so_far card parts (length served + 0) q) (append-nil served)
    ∙ (let now : length served + 0 ≡ length served = omega arith in ap (λ (t : ℕ). numbers_so_far card served t q) now)
numbers-still card good served q (suc k) none =
    let nothing : List (Option Served) = replicate k None in
    let parts = served ++ nothing in
    let all = length-append served nothing in
    let few : length nothing ≡ k = length-replicate k None in
    let long : length parts ≡ length served + k = omega (arith, all, few) in
    let more : served ++ replicate (suc k) None ≡ parts ++ None ∷ [] =
    (let one : suc k ≡ k + 1 = omega arith in ap (λ n. served ++ replicate n None) one)
    ∙ ap (λ rest. served ++ rest) (sym (replicate_more k None)) ∙ sym (append_assoc served nothing (None ∷ [])) in
    let next : length served + suc k ≡ suc (length parts) = omega (arith, long) in
    ap (λ (ps : List (Option Served)). numbers_so_far card ps (length served + suc k) q) more
    ∙ ap (λ (t : ℕ). numbers_so_far card (parts ++ None ∷ []) t q) next
    ∙ numbers-stay card good parts None q (ap (is_coming_for q) (none (length parts) (omega (arith, long)) (omega (arith, long))))
    ∙ ap (λ (t : ℕ). numbers_so_far card parts t q) long
    ∙ numbers-still card good served q k (λ t from below. none t from (omega arith))

module _ (scheduler : Scheduler) (plan : SwitchPlan) (slot next : ℕ) (gap : IsGap scheduler plan slot next) where
  abbrev skipped : List (Option Served)
  skipped = replicate (next - slot) None

  module _ (i : ℕ) (inside : i < ports_of plan) (good : IsGoodPlan (card_at plan i)) where
    gap-numbers : (q : Queue) → numbers_so_far (card_at plan i) (parts_under scheduler plan i next) next q
        ≡ numbers_so_far (card_at plan i) (parts_under scheduler plan i slot) slot q
    gap-numbers q =
        let card = card_at plan i in
        let parts = parts_under scheduler plan i slot in
        let long = served-length scheduler plan i slot in
        let until : length parts + (next - slot) ≡ next = let ahead = gap-ahead scheduler plan slot next gap in omega (arith, long, ahead) in
        ap (λ (ps : List (Option Served)). numbers_so_far card ps next q) (gap-parts scheduler plan slot next gap i)
        ∙ ap (λ (t : ℕ). numbers_so_far card (parts ++ skipped) t q) (sym until)
        ∙ numbers-still card good parts q (next - slot)
        (λ t from below. none-arrives card slot next t (gap.none i inside) (omega (arith, long, from)) (omega (arith, until, below)) (arriving card t) refl)
        ∙ ap (λ (t : ℕ). numbers_so_far card parts t q) long

    gap-noted : (input : Input) → IsNoted (card_at plan i) input (parts_under scheduler plan i slot)
        → IsNoted (card_at plan i) input (parts_under scheduler plan i next)
    gap-noted input noted = record {
      counted = noted.counted;
      counts = kept-counts (card_at plan i) (parts_under scheduler plan i slot) (parts_under scheduler plan i next) slot next
          (served-length scheduler plan i slot) (gap-ahead scheduler plan slot next gap) (gap-parts scheduler plan slot next gap i)
          input.counters noted.counts (gap.none i inside) (gap-queues scheduler plan slot next gap i inside);
      count = noted.count;
      numbers = λ q mine. noted.numbers q mine
          ∙ ap (λ (t : ℕ). numbers_so_far (card_at plan i) (parts_under scheduler plan i slot) t q) (served-length scheduler plan i slot)
          ∙ sym (gap-numbers q)
          ∙ ap (λ (t : ℕ). numbers_so_far (card_at plan i) (parts_under scheduler plan i next) t q) (sym (served-length scheduler plan i next));
    }

  pub gap-measures : (measures : List Input) → HasNoted scheduler plan measures slot → HasNoted scheduler plan measures next
  gap-measures measures noted = record {
    good = noted.good;
    count = noted.count;
    each = λ i inside. gap-noted i inside (good-card plan noted.good i inside).good (slice_index_or measures i no_input) (noted.each i inside);
  }
