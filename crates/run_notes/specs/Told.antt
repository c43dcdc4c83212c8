-- What a run tells beside its captures, the report's numbers and the summary.
use Rattle.std.specs.Prelude.{ℕ, if◌then◌else◌, List, [], Option, None, Some}
use Rattle.eslip_rounds.specs.Schedulers.{Scheduler}
use Rattle.slot_report.specs.Lines.{lines_text}
use Rattle.slot_report.specs.Texts.{journal_line, map_with_place}
use Rattle.switch_plan.specs.GoodPlans.{SwitchPlan}
use Rattle.run_laws.specs.Runs.{journal_under}
use Rattle.queue_measures.specs.Lines.{queue_lines_under}
use Rattle.packet_times.specs.Rows.{packets_text_under}
use Rattle.run_journals.specs.RunFiles.{journal_text_under}
use Rattle.reference_run.specs.RunLines.{run_lines_under}
use Rattle.run_notes.specs.declared.wanted.Wanted.{Wanted}

-- The texts that are wanted of a run: the lines of its slots, of the reference and of its queues, each empty where they are
-- not wanted, the journal and the packets file.
pub record Told : Type 0 where
  pub slots : List ℕ
  pub journal : Option (List ℕ)
  pub reference : List ℕ
  pub queues : List ℕ
  pub packets : Option (List ℕ)

-- these texts of a run of so many slots under the scheduler
abbrev pub told_under : Scheduler → Wanted → SwitchPlan → ℕ → Told
told_under scheduler wanted plan slots = record {
  slots = if wanted.slots then lines_text (map_with_place journal_line (journal_under scheduler plan slots)) else [];
  journal = if wanted.journal then Some (journal_text_under scheduler plan slots) else None;
  reference = if wanted.reference then lines_text (run_lines_under scheduler plan slots) else [];
  queues = if wanted.queues then lines_text (queue_lines_under scheduler plan slots) else [];
  packets = if wanted.packets then Some (packets_text_under scheduler plan slots) else None;
}
