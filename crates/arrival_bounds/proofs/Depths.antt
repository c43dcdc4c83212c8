-- The same plan with queues of another depth: the same packets arrive. And the deepest queue of a run, where none is longer
-- than a number.
use Rattle.std.proofs.Common.{◌≡◌, ◌∙◌, ℕ, zero, suc, ◌+◌, ◌<◌, ◌≤◌, List, [], ◌∷◌, map, max, Some, slice_get, refl, sym, ap, subst, arith}
use Rattle.std.specs.Prelude.{sum_by}
use Rattle.std.specs.List.{fold, range_with_len}
use Rattle.std.proofs.lemmas.List.{get_or-map, length-map}
use Rattle.std.proofs.lemmas.Simd.{map-map}
use Rattle.std.proofs.Math.Nat.{max-le}
use Rattle.std_lemmas.proofs.Sums.{range_sum-le}
use Rattle.eslip_rounds.specs.Schedulers.{Scheduler}
use Rattle.card_core.specs.Plans.{Plan as CardPlan, Queue, OfOutput, arriving}
use Rattle.queue_lengths.specs.Lengths.{queues_of, greatest, length_in, peak_of, deepest_of}
use Rattle.switch_plan.specs.GoodPlans.{SwitchPlan, IsGood, packets_in}
use Rattle.run_laws.specs.Runs.{ports_of, card_at, no_plan, parts_under}
use Rattle.queue_measures.specs.Sizing.{card_with_depth, with_depth, deepest_under}
use Rattle.arrival_bounds.specs.Arrivals.{AreUnicast, IsInUse, cells_of, cells_to, arriving_at, arriving_for, IsShaped, ArePairsShaped}
use Rattle.arrival_bounds.specs.Arrivals.{HasCurves, HasWindows, arriving_in, AreQueuesShaped, cells_for}
use Rattle.arrival_bounds.specs.Waits.{IsUnicastRun}

-- ---- the deepest queue
greatest_least : (f : ℕ → ℕ) (most n : ℕ) → ((k : ℕ) → k < n → f k ≤ most) → greatest f n ≤ most
greatest_least f most zero few = omega arith
greatest_least f most (suc n) few = max-le (greatest_least f most n (λ k below. few k (omega arith))) (few n (omega arith))

most_few : (f : Queue → ℕ) (bound most : ℕ) (queues : List Queue) → most ≤ bound → ((q : Queue) → f q ≤ bound) → fold (λ m q. max m (f q)) most queues ≤ bound
most_few f bound most [] few all = few
most_few f bound most (q ∷ queues) few all = most_few f bound (max most (f q)) queues (max-le few (all q)) all

pub deepest_within : (scheduler : Scheduler) (plan : SwitchPlan) (slots most : ℕ)
    → ((i : ℕ) (q : Queue) (t : ℕ) → i < ports_of plan → t < slots → length_in (card_at plan i) q (parts_under scheduler plan i slots) t ≤ most)
    → deepest_under scheduler plan slots ≤ most
deepest_within scheduler plan slots most few =
    greatest_least (λ k. deepest_of (card_at plan k) (parts_under scheduler plan k slots) slots) most (ports_of plan)
    (λ i inside. most_few (λ r. peak_of (card_at plan i) r (parts_under scheduler plan i slots) slots) most 0 (queues_of (card_at plan i).ports) (omega arith)
    (λ q. greatest_least (length_in (card_at plan i) q (parts_under scheduler plan i slots)) most slots (λ t below. few i q t inside below)))

-- ---- with its own depth again the plan is what it was
cards_again : (depth own : ℕ) (cards : List CardPlan) → ((i : ℕ) (card : CardPlan) → slice_get cards i ≡ Some card → card.depth ≡ own)
    → map (card_with_depth own) (map (card_with_depth depth) cards) ≡ cards
cards_again depth own [] are = refl
cards_again depth own (card ∷ cards) are =
    let first : card_with_depth own card ≡ card = ap (λ d. card_with_depth d card) (sym (are 0 card refl)) in
    ap (λ c. c ∷ map (card_with_depth own) (map (card_with_depth depth) cards)) first
    ∙ ap (λ cs. card ∷ cs) (cards_again depth own cards (λ i c there. are (suc i) c there))

pub own_depth_again : (depth : ℕ) (plan : SwitchPlan) → IsGood plan → with_depth plan.depth (with_depth depth plan) ≡ plan
own_depth_again depth plan good =
    ap (λ cards. record plan { cards = cards }) (cards_again depth plan.depth plan.cards (λ i card there. (good.cards i card there).depth))

-- ---- with queues of another depth the same packets arrive
module _ (depth : ℕ) (plan : SwitchPlan) where
  abbrev other : SwitchPlan
  other = with_depth depth plan

  ports_same : ports_of other ≡ ports_of plan
  ports_same = length-map plan.cards (card_with_depth depth)

  pub packets_same : packets_in other ≡ packets_in plan
  packets_same = map-map (λ (card : CardPlan). card.packets) (card_with_depth depth) plan.cards

  card_other : (i : ℕ) → i < ports_of plan → card_at other i ≡ card_with_depth depth (card_at plan i)
  card_other i inside = get_or-map (card_with_depth depth) plan.cards i no_plan no_plan inside

  pub inside_of : (i : ℕ) → i < ports_of other → i < ports_of plan
  inside_of i inside = omega (arith, inside, ports_same)

  unicast_other : AreUnicast plan → AreUnicast other
  unicast_other unicast i k packet inside found =
      unicast i k packet (inside_of i inside)
      (subst (λ (card : CardPlan). slice_get card.packets k ≡ Some packet) (card_other i (inside_of i inside)) found)

  at_same : (i t : ℕ) → i < ports_of other → arriving_at other i t ≡ arriving_at plan i t
  at_same i t inside = ap (λ (card : CardPlan). cells_of (arriving card t)) (card_other i (inside_of i inside))

  for_few : (j t : ℕ) → arriving_for other j t ≤ arriving_for plan j t
  for_few j t =
      let n = ports_of plan in
      let few = range_sum-le 0 (ports_of other) (λ i. cells_to j (arriving (card_at other i) t)) (λ i. cells_to j (arriving (card_at plan i) t))
      (λ i from inside. same_few (ap (λ (card : CardPlan). cells_to j (arriving card t)) (card_other i (inside_of i (bare i inside))))) in
      subst (λ k. arriving_for other j t ≤ sum_by (λ i. cells_to j (arriving (card_at plan i) t)) (range_with_len 0 k)) (ports_same) few where
        same_few : {x y : ℕ} → x ≡ y → x ≤ y
        same_few same = omega arith

        bare : (i : ℕ) → i < 0 + ports_of other → i < ports_of other
        bare i inside = omega arith

  use_other : (i j : ℕ) → i < ports_of other → IsInUse other i j → IsInUse plan i j
  use_other i j inside used = record {
    number = used.number;
    packet = used.packet;
    found = subst (λ (card : CardPlan). slice_get card.packets used.number ≡ Some used.packet) (card_other i (inside_of i inside)) used.found;
    goes = used.goes;
  }

  same_few : {x y : ℕ} → x ≡ y → x ≤ y
  same_few same = omega arith

  up : (x y z : ℕ) → x ≤ y → y ≤ z → x ≤ z
  up x y z p q = omega arith

  inputs_other : (i t slots most : ℕ) → i < ports_of other → sum_by (arriving_at plan i) (range_with_len t slots) ≤ most
      → sum_by (arriving_at other i) (range_with_len t slots) ≤ most
  inputs_other i t slots most inside few =
      up _ _ _ (range_sum-le t slots (arriving_at other i) (arriving_at plan i) (λ u from below. same_few (at_same i u inside))) few

  outputs_other : (j t slots most : ℕ) → sum_by (arriving_for plan j) (range_with_len t slots) ≤ most
      → sum_by (arriving_for other j) (range_with_len t slots) ≤ most
  outputs_other j t slots most few =
      up _ _ _ (range_sum-le t slots (arriving_for other j) (arriving_for plan j) (λ u from below. for_few j u)) few

  pub shaped_other : (slots most : ℕ) → IsShaped plan slots most → IsShaped other slots most
  shaped_other slots most shaped = record {
    inputs = λ i t inside. inputs_other i t slots most inside (shaped.inputs i t (inside_of i inside));
    outputs = λ j t inside. outputs_other j t slots most (shaped.outputs j t (inside_of j inside));
  }

  pub pairs_other : (slots most : ℕ) → ArePairsShaped plan slots most → ArePairsShaped other slots most
  pairs_other slots most shaped i j t i_in j_in used =
      up _ _ _
      (sum_up _ _ _ _ (inputs_other i t slots _ i_in (least _)) (outputs_other j t slots _ (least _)))
      (shaped i j t (inside_of i i_in) (inside_of j j_in) (use_other i j i_in used)) where
        least : (x : ℕ) → x ≤ x
        least x = omega arith

        sum_up : (x y x' y' : ℕ) → x ≤ x' → y ≤ y' → x + y ≤ x' + y'
        sum_up x y x' y' p q = omega arith

  pub queues_other : (slots most : ℕ) → AreQueuesShaped plan slots most → AreQueuesShaped other slots most
  queues_other slots most shaped i j l t i_in j_in l_in =
      up _ _ _
      (range_sum-le t slots (arriving_in other i j l) (arriving_in plan i j l)
      (λ u from below. same_few (ap (λ (card : CardPlan). cells_for (OfOutput j l) (arriving card u)) (card_other i (inside_of i i_in)))))
      (shaped i j l t (inside_of i i_in) (inside_of j j_in) l_in)

  pub curves_other : (most_in most_out : ℕ → ℕ → ℕ) → HasCurves plan most_in most_out → HasCurves other most_in most_out
  curves_other most_in most_out curves = record {
    inputs = λ i t slots inside. inputs_other i t slots (most_in i slots) inside (curves.inputs i t slots (inside_of i inside));
    outputs = λ j t slots inside. outputs_other j t slots (most_out j slots) (curves.outputs j t slots (inside_of j inside));
  }

  pub windows_other : (most_in most_out : ℕ → ℕ → ℕ) (slots_in slots_out : ℕ → ℕ) → HasWindows plan most_in most_out slots_in slots_out
      → HasWindows other most_in most_out slots_in slots_out
  windows_other most_in most_out slots_in slots_out windows = record {
    some_in = λ i inside. windows.some_in i (inside_of i inside);
    some_out = λ j inside. windows.some_out j (inside_of j inside);
    inputs = λ i j i_in j_in used. windows.inputs i j (inside_of i i_in) (inside_of j j_in) (use_other i j i_in used);
    outputs = λ i j i_in j_in used. windows.outputs i j (inside_of i i_in) (inside_of j j_in) (use_other i j i_in used);
  }

  pub run_other : (scheduler : Scheduler) → IsGood other → IsUnicastRun scheduler plan → IsUnicastRun scheduler other
  run_other scheduler good run = record {
    scheduling = run.scheduling;
    good = good;
    unicast = unicast_other run.unicast;
    rounds = subst (λ n. n ≤ plan.rounds) (sym (ports_same)) run.rounds;
  }
