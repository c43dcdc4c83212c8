-- Names that proofs alone need: the run of the scheduler of the board.
use Rattle.std.specs.Prelude.{ℕ, List, Option}
use Rattle.slot_match.specs.declared.matching.Served.{Served}
use Rattle.cell_cutter.specs.declared.cell.Cell.{Cell}
use Rattle.eslip_rounds.specs.Decisions.{decision_of}
use Rattle.crossbar.specs.declared.cards.Post.{Post}
use Rattle.slot_histories.specs.Answers.{JournalSlot}
use Rattle.switch_plan.specs.GoodPlans.{SwitchPlan}
use Rattle.run_laws.specs.Runs.{parts_under, posts_under, slot_under}
use Rattle.run_laws.specs.Crossings.{cells_under}
use Rattle.run_laws.specs.Sums.{IsBestUnder}

-- what port i was served in the slots before slot t
abbrev pub served_by : SwitchPlan → ℕ → ℕ → List (Option Served)
served_by = parts_under decision_of

-- what port i posts in slot t
abbrev pub posts_in : SwitchPlan → ℕ → ℕ → Post
posts_in = posts_under decision_of

-- slot t with its posts, its match and its numbers
abbrev pub run_slot : SwitchPlan → ℕ → JournalSlot
run_slot = slot_under decision_of

-- the cells that cross to output j in the first slots
abbrev pub cells_to : SwitchPlan → ℕ → ℕ → List Cell
cells_to = cells_under decision_of

-- a level of which the wait is promised to be short
abbrev pub IsBestLevel : SwitchPlan → ℕ → ℕ → Type 0
IsBestLevel = IsBestUnder decision_of
