-- The journal file of a run of so many slots. What ends in `under` is of any scheduler.
use Rattle.std.specs.Prelude.{ℕ, List, map}
use Rattle.eslip_rounds.specs.Schedulers.{Scheduler}
use Rattle.switch_plan.specs.GoodPlans.{SwitchPlan}
use Rattle.run_laws.specs.Runs.{ports_of, journal_under}
use Rattle.journal_check.specs.Files.{JournalFile}
use Rattle.journal_check.specs.Texts.{file_slot, file_text}

-- what the file tells: the ports, the rounds, and the posts and the match of each slot
abbrev pub run_file_under : Scheduler → SwitchPlan → ℕ → JournalFile
run_file_under scheduler plan slots = record { ports = ports_of plan; rounds = plan.rounds; slots = map file_slot (journal_under scheduler plan slots) }

-- its bytes
abbrev pub journal_text_under : Scheduler → SwitchPlan → ℕ → List ℕ
journal_text_under scheduler plan slots = file_text (run_file_under scheduler plan slots)
