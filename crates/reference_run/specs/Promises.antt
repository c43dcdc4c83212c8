-- What is promised of the reference of a run of so many slots: when it ends, and what its last column adds up. What ends in
-- `under` or `Under` is of any scheduler.
use Rattle.std.specs.Prelude.{◌≡◌, ℕ, ◌-◌, ◌<◌, ◌≤◌, List, [], ◌∷◌, sum}
use Rattle.eslip_rounds.specs.Schedulers.{Scheduler}
use Rattle.switch_plan.specs.GoodPlans.{SwitchPlan}
use Rattle.run_laws.specs.Runs.{ports_of}
use Rattle.output_queued.specs.declared.line.RefLine.{RefLine}
use Rattle.output_queued.specs.Lines.{ideal, ran, rises, line_of}
use Rattle.reference_run.specs.RunLines.{run_matches_under}

-- the line of output j
abbrev pub run_line_under : Scheduler → SwitchPlan → ℕ → ℕ → RefLine
run_line_under scheduler plan slots j = line_of plan.cards (run_matches_under scheduler plan slots) j

-- the slots in which the ideal switch gives out a cell at output j, cell by cell
abbrev pub slots_given_under : Scheduler → SwitchPlan → ℕ → ℕ → List ℕ
slots_given_under scheduler plan slots j = rises (ideal plan.cards (run_matches_under scheduler plan slots) j) slots

-- the slots in which the run feeds a cell to output j, cell by cell
abbrev pub slots_fed_under : Scheduler → SwitchPlan → ℕ → ℕ → List ℕ
slots_fed_under scheduler plan slots j = rises (ran (run_matches_under scheduler plan slots) j) slots

-- by how many slots each of the second is later than the one at the same place among the first
abbrev pub delays_of : List ℕ → List ℕ → List ℕ
delays_of [] later = []
delays_of (t ∷ first) [] = []
delays_of (t ∷ first) (u ∷ later) = (u - t) ∷ delays_of first later

-- as many, and each of the second is no earlier than the one at the same place among the first
abbrev pub AreNoEarlier : List ℕ → List ℕ → Type 0
AreNoEarlier [] [] = Unit {0}
AreNoEarlier [] (u ∷ later) = ⊥
AreNoEarlier (t ∷ first) [] = ⊥
AreNoEarlier (t ∷ first) (u ∷ later) = (t ≤ u) × AreNoEarlier first later

-- At each output the ideal switch ends no later than the run.
abbrev pub EndsNoLaterUnder : Scheduler → SwitchPlan → ℕ → Type 0
EndsNoLaterUnder scheduler plan slots = (j : ℕ) → j < ports_of plan
    → (run_line_under scheduler plan slots j).ends ≤ (run_line_under scheduler plan slots j).runs

-- At each output the run feeds no cell earlier than the ideal switch gives out the one of the same number, and the extra of
-- the output's line is the sum of these delays.
pub record AreDelaysUnder (scheduler : Scheduler) (plan : SwitchPlan) (slots j : ℕ) : Type 0 where
  pub later : AreNoEarlier (slots_given_under scheduler plan slots j) (slots_fed_under scheduler plan slots j)
  pub extra : (run_line_under scheduler plan slots j).extra ≡ sum (delays_of (slots_given_under scheduler plan slots j)
      (slots_fed_under scheduler plan slots j))

abbrev pub ExtraIsDelaysUnder : Scheduler → SwitchPlan → ℕ → Type 0
ExtraIsDelaysUnder scheduler plan slots = (j : ℕ) → j < ports_of plan → AreDelaysUnder scheduler plan slots j
