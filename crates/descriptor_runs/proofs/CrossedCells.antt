-- The cells that cross to all outputs are no more than all packets bring to them.
use Rattle.std.proofs.Common.{◌≡◌, ◌∙◌, ℕ, suc, ◌+◌, ◌<◌, ◌≤◌, ◌==◌, ◌&&◌, Bool, true, false, List, [], ◌∷◌, All, length, refl, sym, ap, subst}
use Rattle.std.proofs.Common.{arith, add-one, if◌then◌else◌}
use Rattle.std.specs.List.{sum_by, range_with_len}
use Rattle.std.proofs.lemmas.Bool.{and_from, eq-eqb}
use Rattle.std.proofs.lemmas.List.{length-map}
use Rattle.std.proofs.lemmas.List.Elements.{All-head, All-tail}
use Rattle.std_lemmas.proofs.Sums.{range_sum-le, range_sum-less, sum_by-turn}
use Rattle.rotating_pick.specs.declared.kinds.Kind.{Kind}
use Rattle.rotating_pick.specs.declared.kinds.Kind.TheVariants.{Uni, Multi}
use Rattle.rotating_pick.specs.declared.limits.TheConstants.{LEVELS}
use Rattle.eslip_rounds.specs.Schedulers.{Scheduler, IsScheduler}
use Rattle.eslip_rounds.specs.Decisions.{is_kind}
use Rattle.eslip_rounds.proofs.Testing.{Decides-kind}
use Rattle.cell_cutter.specs.declared.cell.Cell.{Cell}
use Rattle.multicast_queue.specs.FanQueues.{FanCell}
use Rattle.card_core.specs.Plans.{cell_named}
use Rattle.card_core.specs.Grants.{granted_to}
use Rattle.card_core.specs.Deliveries.{is_of_flow, flow_cells}
use Rattle.switch_plan.specs.Totals.{total_work}
use Rattle.switch_plan.specs.GoodPlans.{SwitchPlan, IsGood, packets_in}
use Rattle.run_laws.specs.Runs.{ports_of, card_at, parts_under}
use Rattle.run_laws.specs.Ends.{IsLengthUnder}
use Rattle.run_laws.specs.Crossings.{cells_under, queue_to}
use Rattle.run_laws.proofs.FlowSums.{level_sum, flow_sum}
use Rattle.run_laws.proofs.FlowCells.{granted_cells}
use Rattle.run_laws.proofs.OfFlows.{all_of_flows}
use Rattle.run_laws.proofs.RunWork.{all_grants, all_grants-few, total_admitted-le}
use Rattle.run_laws.specs.Outcomes.{over_ports}

-- ---- each cell is of a flow
-- the cells of a flow, and one more
more_or_not : (test : Bool) (cell : Cell) (cells : List Cell) → length cells ≤ length (if test then cell ∷ cells else cells)
more_or_not true cell cells = omega arith
more_or_not false cell cells = omega arith

one_more : (test : Bool) (cell : Cell) (cells : List Cell) → test ≡ true → length cells + 1 ≤ length (if test then cell ∷ cells else cells)
one_more true cell cells is = omega arith
one_more false cell cells is = absurd (cc)

of_own : (cell : Cell) → is_of_flow cell.input cell.level cell.kind cell ≡ true
of_own cell =
    and_from ((cell.input == cell.input) && (cell.level == cell.level)) (is_kind cell.kind cell.kind)
    (and_from (cell.input == cell.input) (cell.level == cell.level) (eq-eqb cell.input cell.input refl) (eq-eqb cell.level cell.level refl))
    ((Decides-kind cell.kind cell.kind).1 refl)

module _ (cell : Cell) (cells : List Cell) where
  -- the cells of a flow, without and with the first one
  abbrev was : ℕ → ℕ → Kind → ℕ
  was i l kind = length (flow_cells i l kind cells)

  abbrev is_now : ℕ → ℕ → Kind → ℕ
  is_now i l kind = length (flow_cells i l kind (cell ∷ cells))

  flow_le : (i l : ℕ) (kind : Kind) → was i l kind ≤ is_now i l kind
  flow_le i l kind = more_or_not (is_of_flow i l kind cell) cell (flow_cells i l kind cells)

  level_le : (i l : ℕ) → was i l Uni + was i l Multi ≤ is_now i l Uni + is_now i l Multi
  level_le i l = let uni = flow_le i l Uni in let multi = flow_le i l Multi in omega arith

  level_less : (kind : Kind) → is_of_flow cell.input cell.level kind cell ≡ true
      → was cell.input cell.level Uni + was cell.input cell.level Multi + 1 ≤ is_now cell.input cell.level Uni + is_now cell.input cell.level Multi
  level_less Uni own =
      let uni = one_more (is_of_flow cell.input cell.level Uni cell) cell (flow_cells cell.input cell.level Uni cells) own in
      let multi = flow_le cell.input cell.level Multi in
      omega arith
  level_less Multi own =
      let multi = one_more (is_of_flow cell.input cell.level Multi cell) cell (flow_cells cell.input cell.level Multi cells) own in
      let uni = flow_le cell.input cell.level Uni in
      omega arith

  flows_less : (n : ℕ) → cell.input < n → cell.level < LEVELS → flow_sum n was + 1 ≤ flow_sum n is_now
  flows_less n inside small =
      range_sum-less 0 n (λ i. level_sum (was i)) (λ i. level_sum (is_now i)) cell.input (omega arith) (omega arith)
      (range_sum-less 0 LEVELS (λ l. was cell.input l Uni + was cell.input l Multi) (λ l. is_now cell.input l Uni + is_now cell.input l Multi) cell.level
      (omega arith) small (level_less cell.kind (of_own cell)) (λ l from below. level_le cell.input l))
      (λ i from below. range_sum-le 0 LEVELS (λ l. was i l Uni + was i l Multi) (λ l. is_now i l Uni + is_now i l Multi) (λ l from' below'. level_le i l))

cells_by_flow : (n : ℕ) (cells : List Cell) → All (λ cell. (cell.input < n) × (cell.level < LEVELS)) cells
    → length cells ≤ flow_sum n (λ i l kind. length (flow_cells i l kind cells))
cells_by_flow n [] within = omega arith
cells_by_flow n (cell ∷ cells) within =
    let P : Cell → Type 0 = λ cell. (cell.input < n) × (cell.level < LEVELS) in
    let here : P cell = All-head P cell cells within in
    let rest = cells_by_flow n cells (All-tail P cell cells within) in
    let more = flows_less cell cells n here.0 here.1 in
    omega arith

-- ---- those of a run
module _ (scheduler : Scheduler) (scheduling : IsScheduler scheduler) (plan : SwitchPlan) (good : IsGood plan) where
  -- the cells of a flow to an output are those that were granted
  flow_length : (i j level t : ℕ) (kind : Kind) → i < ports_of plan
      → length (flow_cells i level kind (cells_under scheduler plan j (suc t)))
      ≡ length (granted_to (card_at plan i) (queue_to j level kind) j (parts_under scheduler plan i t) t)
  flow_length i j level t kind inside =
      let card = card_at plan i in
      let cells = granted_to card (queue_to j level kind) j (parts_under scheduler plan i t) t in
      ap length (granted_cells scheduler scheduling plan good i j level kind inside t) ∙ length-map cells (λ (cell : FanCell). cell_named card cell.name)

  -- what was granted to an output
  abbrev grants_of : ℕ → ℕ → ℕ → ℕ
  grants_of t i j = sum_by (λ l. length (granted_to (card_at plan i) (queue_to j l Uni) j (parts_under scheduler plan i t) t)
      + length (granted_to (card_at plan i) (queue_to j l Multi) j (parts_under scheduler plan i t) t)) (range_with_len 0 LEVELS)

  output_few : (j t : ℕ) → length (cells_under scheduler plan j (suc t)) ≤ sum_by (λ i. grants_of t i j) (range_with_len 0 (ports_of plan))
  output_few j t =
      let cells = cells_under scheduler plan j (suc t) in
      let flows = cells_by_flow (ports_of plan) cells (all_of_flows scheduler scheduling plan good j (suc t)) in
      let grants = range_sum-le 0 (ports_of plan) (λ i. level_sum (λ l kind. length (flow_cells i l kind cells))) (λ i. grants_of t i j)
      (λ i from below. range_sum-le 0 LEVELS (λ l. length (flow_cells i l Uni cells) + length (flow_cells i l Multi cells))
      (λ l. length (granted_to (card_at plan i) (queue_to j l Uni) j (parts_under scheduler plan i t) t)
      + length (granted_to (card_at plan i) (queue_to j l Multi) j (parts_under scheduler plan i t) t))
      (λ l from' below'. let uni = flow_length i j l t Uni (omega arith) in let multi = flow_length i j l t Multi (omega arith) in omega arith)) in
      omega arith

  all_few : (t : ℕ) → over_ports plan (λ j. length (cells_under scheduler plan j (suc t))) ≤ all_grants scheduler plan t
  all_few t =
      let ports = range_with_len 0 (ports_of plan) in
      let outputs = range_sum-le 0 (ports_of plan) (λ j. length (cells_under scheduler plan j (suc t))) (λ j. sum_by (λ i. grants_of t i j) ports)
      (λ j from below. output_few j t) in
      let turned : sum_by (λ j. sum_by (λ i. grants_of t i j) ports) ports ≡ all_grants scheduler plan t = sum_by-turn (λ j i. grants_of t i j) ports ports in
      omega arith

  -- the cells of a run to its end
  pub cells_within : (slots : ℕ) → IsLengthUnder scheduler plan slots
      → over_ports plan (λ j. length (cells_under scheduler plan j slots)) ≤ total_work (packets_in plan)
  cells_within slots ends =
      let last = ends.last in
      let count : slots ≡ suc last = ends.count ∙ add-one last in
      let crossed = all_few last in
      let granted = all_grants-few scheduler scheduling plan good last in
      let work = total_admitted-le scheduler plan last in
      subst (λ n. over_ports plan (λ j. length (cells_under scheduler plan j n)) ≤ total_work (packets_in plan)) (sym count) (omega arith)
