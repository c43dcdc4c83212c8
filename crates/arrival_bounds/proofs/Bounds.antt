-- The bounds of a run, from how cells arrive.
use Rattle.std.proofs.Common.{◌≡◌, ℕ, ◌+◌, ◌-◌, ◌*◌, ◌<◌, ◌≤◌, suc, arith, subst, sym, inl, inr}
use Rattle.std.specs.Prelude.{sum_by}
use Rattle.std.specs.List.{range_with_len}
use Rattle.std.proofs.lemmas.Bool.{cases_lt}
use Rattle.std_lemmas.proofs.Sums.{sum_by-zero, sum_by-none}
use Rattle.rotating_pick.specs.declared.limits.TheConstants.{LEVELS}
use Rattle.eslip_rounds.specs.Schedulers.{Scheduler}
use Rattle.switch_plan.specs.GoodPlans.{SwitchPlan}
use Rattle.run_laws.specs.Runs.{ports_of}
use Rattle.arrival_bounds.specs.Counts.{AreServed, AreFewBeside, HoldAtMost, ComeByCurves, of_input, for_output}
use Rattle.arrival_bounds.specs.Arrivals.{arriving_at, arriving_for, IsShaped, ArePairsShaped, ArePairsFew, HasCurves, AreCurvesLow}
use Rattle.arrival_bounds.specs.Arrivals.{HasWindows, AreHeldFew, IsPairFew}
use Rattle.arrival_bounds.specs.Waits.{IsUnicastRun, came_under, gone_under, WaitsAtMost, QueueWaits, HoldByLine, HoldsAtMost}
use Rattle.arrival_bounds.proofs.Delays.{one_queue, gone_soon}
use Rattle.arrival_bounds.proofs.Buffers.{lines_hold, lines_hold_by_curves}
use Rattle.arrival_bounds.proofs.Bounded.{counts_are_served}
use Rattle.arrival_bounds.proofs.Coming.{in_use, in_grows, out_grows}
use Rattle.arrival_bounds.proofs.Ranges.{range_sum-parts}
use Rattle.arrival_bounds.proofs.Holding.{come_most, holds_most}

third : (x w : ℕ) → 3 * x ≤ w + 1 → (x + 2 * x ≤ w + 1) × (2 * x + x ≤ w + 1)
third x w le = (omega arith, omega arith)

both : (x y c m : ℕ) → x ≤ c → y ≤ c → 2 * c ≤ m → x + y ≤ m
both x y c m p q r = omega arith

-- the numbers of a window of c cells
quarter : (c : ℕ) → 0 < c → (2 * (2 * c - 2) + 1 ≡ 4 * c - 3) × (2 * c ≤ 2 * c - 2 + 2)
quarter c some = (omega arith, omega arith)

pub of_third : (c : ℕ) → 0 < c → (0 < 3 * c - 1) × (3 * c ≤ 3 * c - 1 + 1)
of_third c some = (omega arith, omega arith)

wide : (a b x y : ℕ) → a ≤ b + x → x ≤ y → a ≤ b + y
wide a b x y p q = omega arith

module _ (scheduler : Scheduler) (plan : SwitchPlan) (run : IsUnicastRun scheduler plan) where
  abbrev n : ℕ
  n = ports_of plan

  abbrev in_all : ℕ → ℕ → ℕ
  in_all = of_input n LEVELS (came_under scheduler plan)

  abbrev out_all : ℕ → ℕ → ℕ
  out_all = for_output n LEVELS (came_under scheduler plan)

  abbrev in_gone : ℕ → ℕ → ℕ
  in_gone = of_input n LEVELS (gone_under scheduler plan)

  abbrev out_gone : ℕ → ℕ → ℕ
  out_gone = for_output n LEVELS (gone_under scheduler plan)

  pub served : AreServed n LEVELS (came_under scheduler plan) (gone_under scheduler plan)
  served = counts_are_served scheduler plan run

  -- ---- delays
  pub delays_by_pairs : (most : ℕ) → ArePairsShaped plan (2 * most + 1) (most + 2) → WaitsAtMost scheduler plan most
  delays_by_pairs most shaped i j l t i_in j_in l_in =
      let slots = 2 * most + 1 in
      gone_soon n LEVELS most (came_under scheduler plan) (gone_under scheduler plan) served
      (λ x y m u x_in y_in m_in some.
      omega (
        arith,
        in_grows scheduler plan slots x u,
        out_grows scheduler plan slots y u,
        shaped x y u x_in y_in (in_use scheduler plan x y m (u + slots) some),
      )) (suc t) i j l t (omega arith) i_in j_in l_in

  pub delays_by_all : (cells : ℕ) → ArePairsFew plan cells → WaitsAtMost scheduler plan (cells - 2)
  delays_by_all cells few =
      delays_by_pairs (cells - 2) (λ i j t i_in j_in used. up _ cells (few (2 * (cells - 2) + 1) i j t i_in j_in used)) where
        up : (x c : ℕ) → x ≤ c → x ≤ c - 2 + 2
        up x c le = omega arith

  pub delays_by_lines : (most cells : ℕ) → IsShaped plan (2 * most + 1) cells → 2 * cells ≤ most + 2 → WaitsAtMost scheduler plan most
  delays_by_lines most cells shaped few =
      delays_by_pairs most (λ i j t i_in j_in used. both _ _ cells (most + 2) (shaped.inputs i t i_in) (shaped.outputs j t j_in) few)

  pub delays_by_window : (cells : ℕ) → 0 < cells → IsShaped plan (4 * cells - 3) cells → WaitsAtMost scheduler plan (2 * cells - 2)
  delays_by_window cells some shaped =
      let numbers = quarter cells some in
      delays_by_lines (2 * cells - 2) cells (subst (λ w. IsShaped plan w cells) (sym numbers.0) shaped) numbers.1

  pub delays_by_curves : (most_in most_out : ℕ → ℕ → ℕ) (most : ℕ) → HasCurves plan most_in most_out
      → AreCurvesLow plan most_in most_out (2 * most + 1) (most + 2) → WaitsAtMost scheduler plan most
  delays_by_curves most_in most_out most curves low =
      delays_by_pairs most
      (λ i j t i_in j_in used. under _ _ _ _ (most + 2) (curves.inputs i t (2 * most + 1) i_in) (curves.outputs j t (2 * most + 1) j_in)
      (low i j i_in j_in used)) where
        under : (x y c d m : ℕ) → x ≤ c → y ≤ d → c + d ≤ m → x + y ≤ m
        under x y c d m p q r = omega arith

  -- ---- buffers
  counts_by_lines : (slots cells : ℕ) → 0 < slots → IsShaped plan slots cells → 3 * cells ≤ slots + 1
      → HoldAtMost n LEVELS (came_under scheduler plan) (gone_under scheduler plan) (λ i. cells) (λ j. cells)
  counts_by_lines slots cells some shaped few =
      lines_hold n LEVELS (came_under scheduler plan) (gone_under scheduler plan) served slots (λ x. cells) (λ x. cells)
      (record {
        inputs = λ i t i_in. wide _ _ _ cells (in_grows scheduler plan slots i t) (shaped.inputs i t i_in);
        outputs = λ j t j_in. wide _ _ _ cells (out_grows scheduler plan slots j t) (shaped.outputs j t j_in);
      })
      some (λ x y l u x_in y_in l_in used. third cells slots few)

  pub buffers_by_lines : (slots cells : ℕ) → 0 < slots → IsShaped plan slots cells → 3 * cells ≤ slots + 1 → HoldsAtMost scheduler plan cells
  buffers_by_lines slots cells some shaped few =
      holds_most scheduler run.scheduling plan run.good run.unicast (λ i. cells) (λ j. cells) (counts_by_lines slots cells some shaped few)

  pub buffers_by_window : (cells : ℕ) → 0 < cells → IsShaped plan (3 * cells - 1) cells → HoldsAtMost scheduler plan cells
  buffers_by_window cells some shaped = let numbers = of_third cells some in buffers_by_lines (3 * cells - 1) cells numbers.0 shaped numbers.1

  counts_curve : (most_in most_out : ℕ → ℕ → ℕ) → HasCurves plan most_in most_out → ComeByCurves n LEVELS (came_under scheduler plan) most_in most_out
  counts_curve most_in most_out curves = record {
    inputs = λ i t slots i_in. wide _ _ _ (most_in i slots) (in_grows scheduler plan slots i t) (curves.inputs i t slots i_in);
    outputs = λ j t slots j_in. wide _ _ _ (most_out j slots) (out_grows scheduler plan slots j t) (curves.outputs j t slots j_in);
  }

  counts_by_curves : (most_in most_out : ℕ → ℕ → ℕ) (slots_in slots_out : ℕ → ℕ) → HasCurves plan most_in most_out
      → HasWindows plan most_in most_out slots_in slots_out
      → HoldAtMost n LEVELS (came_under scheduler plan) (gone_under scheduler plan) (λ i. most_in i (slots_in i)) (λ j. most_out j (slots_out j))
  counts_by_curves most_in most_out slots_in slots_out curves windows =
      lines_hold_by_curves n LEVELS (came_under scheduler plan) (gone_under scheduler plan) served most_in most_out slots_in slots_out
      (counts_curve most_in most_out curves)
      (record {
        some_in = windows.some_in;
        some_out = windows.some_out;
        inputs = λ i j l t i_in j_in l_in some. windows.inputs i j i_in j_in (in_use scheduler plan i j l t some);
        outputs = λ i j l t i_in j_in l_in some. windows.outputs i j i_in j_in (in_use scheduler plan i j l t some);
      })

  pub buffers_by_curves : (most_in most_out : ℕ → ℕ → ℕ) (slots_in slots_out : ℕ → ℕ) → HasCurves plan most_in most_out
      → HasWindows plan most_in most_out slots_in slots_out
      → HoldByLine scheduler plan (λ i. most_in i (slots_in i)) (λ j. most_out j (slots_out j))
  buffers_by_curves most_in most_out slots_in slots_out curves windows =
      holds_most scheduler run.scheduling plan run.good run.unicast (λ i. most_in i (slots_in i)) (λ j. most_out j (slots_out j))
      (counts_by_curves most_in most_out slots_in slots_out curves windows)

  -- ---- one queue
  queue_by : (i j l most : ℕ) → i < n → j < n → l < LEVELS
      → AreFewBeside n LEVELS (came_under scheduler plan) (gone_under scheduler plan) i j most → QueueWaits scheduler plan i j l most
  queue_by i j l most i_in j_in l_in few =
      one_queue n LEVELS most (came_under scheduler plan) (gone_under scheduler plan) served i j l i_in j_in l_in few

  pub queue_by_all : (i j l cells : ℕ) → i < n → j < n → l < LEVELS → IsPairFew plan i j cells → QueueWaits scheduler plan i j l (cells - 2)
  queue_by_all i j l cells i_in j_in l_in few = queue_by i j l (cells - 2) i_in j_in l_in (λ t. so_far t (t + (cells - 2 + 1))) where
    none : sum_by (λ j. sum_by (λ l. let y : ℕ = 0 in y) (range_with_len 0 LEVELS)) (range_with_len 0 n) ≡ 0
    none = sum_by-none (λ j. sum_by (λ l. let y : ℕ = 0 in y) (range_with_len 0 LEVELS)) (range_with_len 0 n) (λ j. sum_by-zero (range_with_len 0 LEVELS))

    from : (u : ℕ) → 0 + u ≡ u
    from u = omega arith

    so_far : (t u : ℕ) → in_all i u + out_all j u ≤ in_gone i t + out_gone j t + (cells - 2 + 2)
    so_far t u =
        let inputs = subst (λ v. in_all i v ≤ in_all i 0 + sum_by (arriving_at plan i) (range_with_len 0 u)) (from u) (in_grows scheduler plan u i 0) in
        let outputs = subst (λ v. out_all j v ≤ out_all j 0 + sum_by (arriving_for plan j) (range_with_len 0 u)) (from u) (out_grows scheduler plan u j 0) in
        let none_in : in_all i 0 ≡ 0 = none in
        let none_out : out_all j 0 ≡ 0 = none in
        omega (arith, few u)

  pub delays_by_held : (held_in held_out : ℕ → ℕ) (most : ℕ) → HoldByLine scheduler plan held_in held_out → AreHeldFew plan held_in held_out most
      → WaitsAtMost scheduler plan most
  delays_by_held held_in held_out most holds few i j l t i_in j_in l_in =
      elim (cases_lt 0 (came_under scheduler plan i j l t)) [
        | inr none ↦ least _ (gone_under scheduler plan i j l (t + most)) none
        | inl some ↦
            let held = come_most scheduler run.scheduling plan run.good run.unicast held_in held_out holds in
            queue_by i j l most i_in j_in l_in
            (λ u. subst (λ v. in_all i v + out_all j v ≤ in_gone i u + out_gone j u + (most + 2)) (next u most)
            (omega (
              arith,
              held.inputs i u i_in,
              held.outputs j u j_in,
              in_grows scheduler plan most i (u + 1),
              out_grows scheduler plan most j (u + 1),
              few i j (u + 1) i_in j_in (in_use scheduler plan i j l t some),
            ))) t
      ] where
        next : (t m : ℕ) → t + 1 + m ≡ t + (m + 1)
        next t m = omega arith

        least : (x y : ℕ) → x ≤ 0 → x ≤ y
        least x y none = omega arith

  pub delays_by_third : (slots cells : ℕ) → 0 < slots → IsShaped plan slots cells → 3 * cells ≤ slots + 1 → WaitsAtMost scheduler plan (2 * slots)
  delays_by_third slots cells some shaped few =
      delays_by_held (λ i. cells) (λ j. cells) (2 * slots) (buffers_by_lines slots cells some shaped few)
      (λ i j t i_in j_in used. six _ _ slots cells (twice (arriving_at plan i) t (λ u. shaped.inputs i u i_in))
      (twice (arriving_for plan j) t (λ u. shaped.outputs j u j_in)) few) where
        six : (x y w c : ℕ) → x ≤ 2 * c → y ≤ 2 * c → 3 * c ≤ w + 1 → c + c + (x + y) ≤ 2 * w + 2
        six x y w c p q le = omega arith

        add : (x y z c : ℕ) → x ≡ y + z → y ≤ c → z ≤ c → x ≤ 2 * c
        add x y z c same p q = omega arith

        double : (w : ℕ) → w + w ≡ 2 * w
        double w = omega arith

        twice : (f : ℕ → ℕ) (t : ℕ) → ((u : ℕ) → sum_by f (range_with_len u slots) ≤ cells) → sum_by f (range_with_len t (2 * slots)) ≤ 2 * cells
        twice f t one =
            subst (λ w. sum_by f (range_with_len t w) ≤ 2 * cells) (double slots)
            (add _ _ _ cells (range_sum-parts f t slots slots) (one t) (one (t + slots)))
