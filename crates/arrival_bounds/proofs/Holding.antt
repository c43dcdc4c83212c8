-- How many cells wait in the queues of a run: those that came and are not gone.
use Rattle.std.proofs.Common.{◌≡◌, ◌∙◌, ℕ, suc, ◌+◌, ◌^◌, ◌<◌, ◌≤◌, true, List, [], ◌∷◌, length, Bool, take, None, slice_index_or, refl, sym, ap}
use Rattle.std.proofs.Common.{subst, arith, add-one, length-append, length-drop, length-take, if◌then◌else◌}
use Rattle.std.proofs.lemmas.Nat.Bits.{bit_at-pow_same}
use Rattle.rotating_pick.specs.PortSets.{Has}
use Rattle.rotating_pick.specs.declared.limits.TheConstants.{LEVELS}
use Rattle.slot_histories.specs.Tests.{has}
use Rattle.slot_histories.proofs.SetTests.{Decides-has}
use Rattle.multicast_queue.specs.FanQueues.{FanCell}
use Rattle.eslip_rounds.specs.Schedulers.{Scheduler, IsScheduler}
use Rattle.card_core.specs.Plans.{Plan, OfOutput, arriving}
use Rattle.card_core.specs.Queues.{waiting, before, queue_in, coming}
use Rattle.card_core.specs.Grants.{to_output}
use Rattle.card_core.proofs.Accepting.{one_output}
use Rattle.card_core.proofs.Admitting.{entered_stays}
use Rattle.card_core.proofs.Granting.{unicast_granted}
use Rattle.card_core.proofs.Passing.{AreOf, kept-in, kept-before}
use Rattle.switch_plan.specs.GoodPlans.{SwitchPlan, IsGood}
use Rattle.run_laws.specs.Runs.{ports_of, card_at, parts_under}
use Rattle.run_laws.proofs.Base.{good-card, queue_in-same, servable}
use Rattle.arrival_bounds.specs.Counts.{Counts, of_input, for_output, HoldAtMost}
use Rattle.arrival_bounds.specs.Waits.{came_under, gone_under, waiting_under, HoldByLine}
use Rattle.arrival_bounds.specs.Arrivals.{AreUnicast}
use Rattle.arrival_bounds.proofs.UnicastRuns.{levels_empty}
use Rattle.arrival_bounds.proofs.Lines.{line-le}
use Rattle.arrival_bounds.proofs.Coming.{lines-plus}

-- every cell of a unicast queue goes to its output
goes_there : (card : Plan) (j l : ℕ) (cells : List FanCell) → AreOf card (OfOutput j l) cells → to_output j cells ≡ cells
goes_there card j l [] are = refl
goes_there card j l (c ∷ cells) are =
    let fan : c.fan ≡ 2 ^ j = are.0.fan ∙ one_output j l are.0.packet are.0.queue in
    let goes : has c.fan j ≡ true = (Decides-has c.fan j).1 (subst (λ f. Has f j) (sym fan) (bit_at-pow_same j)) in
    ap (λ (b : Bool). if b then c ∷ to_output j cells else to_output j cells) goes ∙ ap (λ xs. c ∷ xs) (goes_there card j l cells are.1)

module _ (scheduler : Scheduler) (scheduling : IsScheduler scheduler) (plan : SwitchPlan) (good : IsGood plan) (unicast : AreUnicast plan) where
  abbrev came : Counts
  came = came_under scheduler plan

  abbrev gone : Counts
  gone = gone_under scheduler plan

  abbrev held : Counts
  held = waiting_under scheduler plan

  held-is : (i j l t : ℕ) → i < ports_of plan → gone i j l t + held i j l t ≡ came i j l (suc t)
  held-is i j l t i_in =
      let card = card_at plan i in
      let is = (good-card plan good i i_in).good in
      let q = OfOutput j l in
      let parts = parts_under scheduler plan i t in
      let parts' = parts_under scheduler plan i (suc t) in
      let b = before card q parts t in
      let s = queue_in card q parts t in
      let s' = queue_in card q parts' t in
      let all : came i j l (suc t) ≡ length s.entered =
      ap (λ cells. length (to_output j cells)) (entered_stays q s' (slice_index_or parts' t None) (waiting s'))
      ∙ ap (λ x. length (to_output j x.entered)) (queue_in-same scheduler plan i t (suc t) (omega arith) q)
      ∙ ap length (goes_there card j l s.entered (kept-in card is q parts t).cells) in
      let granted : gone i j l t ≡ length (take b.left b.entered) =
      ap length (unicast_granted card is parts j l t (λ u below. servable scheduler scheduling plan good i u t i_in below)) in
      let taken = length-take b.left b.entered in
      let grown = length-append b.entered (coming card q b (arriving card t)) in
      let left = length-drop s.left s.entered in
      let within = (kept-before card is q parts t).within in
      omega arith

  pub held-few : (i j l t : ℕ) → i < ports_of plan → gone i j l t + held i j l t ≤ came i j l (suc t)
  held-few i j l t i_in = few (held-is i j l t i_in) where
    few : {x y : ℕ} → x ≡ y → x ≤ y
    few same = omega arith

  -- and no fewer
  held-all : (i j l t : ℕ) → i < ports_of plan → came i j l (t + 1) ≤ gone i j l t + held i j l t
  held-all i j l t i_in = subst (λ u. came i j l u ≤ gone i j l t + held i j l t) (sym (add-one t)) (few (held-is i j l t i_in)) where
    few : {x y : ℕ} → x ≡ y → y ≤ x
    few same = omega arith

  pub both_held : (i t : ℕ) → i < ports_of plan
      → of_input (ports_of plan) LEVELS gone i t + of_input (ports_of plan) LEVELS held i t ≤ of_input (ports_of plan) LEVELS came i (t + 1)
  both_held i t i_in =
      let n = ports_of plan in
      let plus = lines-plus (λ j l. gone i j l t) (λ j l. held i j l t) n LEVELS in
      let few = line-le n LEVELS (λ x y m u. gone x y m u + held x y m u) came i t (t + 1)
      (λ j l j_in l_in. subst (λ u. gone i j l t + held i j l t ≤ came i j l u) (sym (add-one t)) (held-few i j l t i_in)) in
      omega (arith, plus, few)

  pub both_held_for : (j t : ℕ) → for_output (ports_of plan) LEVELS gone j t + for_output (ports_of plan) LEVELS held j t
      ≤ for_output (ports_of plan) LEVELS came j (t + 1)
  both_held_for j t =
      let n = ports_of plan in
      let plus = lines-plus (λ i l. gone i j l t) (λ i l. held i j l t) n LEVELS in
      let few = line-le n LEVELS (λ y x m u. gone x y m u + held x y m u) (λ y x m u. came x y m u) j t (t + 1)
      (λ i l i_in l_in. subst (λ u. gone i j l t + held i j l t ≤ came i j l u) (sym (add-one t)) (held-few i j l t i_in)) in
      omega (arith, plus, few)

  pub come_most : (most_in most_out : ℕ → ℕ) → HoldByLine scheduler plan most_in most_out → HoldAtMost (ports_of plan) LEVELS came gone most_in most_out
  come_most most_in most_out holds = record {
    inputs = λ i t i_in. under _ _ _ _ _
        (line-le (ports_of plan) LEVELS came (λ x y m u. gone x y m u + held x y m u) i (t + 1) t (λ j l j_in l_in. held-all i j l t i_in))
        (lines-plus (λ j l. gone i j l t) (λ j l. held i j l t) (ports_of plan) LEVELS) (holds.inputs i t i_in);
    outputs = λ j t j_in. under _ _ _ _ _
        (line-le (ports_of plan) LEVELS (λ y x m u. came x y m u) (λ y x m u. gone x y m u + held x y m u) j (t + 1) t
        (λ i l i_in l_in. held-all i j l t i_in))
        (lines-plus (λ i l. gone i j l t) (λ i l. held i j l t) (ports_of plan) LEVELS) (holds.outputs j t j_in);
  } where
    under : (c s g h m : ℕ) → c ≤ s → s ≡ g + h → h ≤ m → c ≤ g + m
    under c s g h m few same most = omega arith

  pub holds_most : (most_in most_out : ℕ → ℕ) → HoldAtMost (ports_of plan) LEVELS came gone most_in most_out → HoldByLine scheduler plan most_in most_out
  holds_most most_in most_out holds = record {
    inputs = λ i t i_in. left _ _ _ _ (both_held i t i_in) (holds.inputs i t i_in);
    outputs = λ j t j_in. left _ _ _ _ (both_held_for j t) (holds.outputs j t j_in);
    others = levels_empty scheduler scheduling plan good unicast;
  } where
    left : (g h c m : ℕ) → g + h ≤ c → c ≤ g + m → h ≤ m
    left g h c m few most = omega arith
