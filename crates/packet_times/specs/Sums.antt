-- How the rows of a packets file add up to the numbers of the run's summary. All is of any scheduler.
use Rattle.std.specs.Prelude.{◌≡◌, ℕ, Bool, List, slice_index_or, count_by, bytes_eq, []}
use Rattle.std.specs.List.{list_any, enumerate_from}
use Rattle.eslip_rounds.specs.Schedulers.{Scheduler}
use Rattle.switch_plan.specs.GoodPlans.{SwitchPlan}
use Rattle.run_laws.specs.Runs.{card_at}
use Rattle.run_laws.specs.Outcomes.{over_ports, summary_under}
use Rattle.packet_times.specs.declared.state.PacketState.{PacketState}
use Rattle.packet_times.specs.declared.state.PacketState.TheVariants.{Forwarded, Dropped, Unrouted, Oversize}
use Rattle.packet_times.specs.Rows.{state_name, packet_rows, all_rows}

-- whether a row tells this state, in its fifth field
abbrev pub tells : PacketState → List (List ℕ) → Bool
tells state row = bytes_eq (slice_index_or row 4 []) (state_name state)

-- how many packets of an input have a row that tells the state: each counts once, however many rows it has
abbrev pub input_told : Scheduler → SwitchPlan → ℕ → PacketState → ℕ → ℕ
input_told scheduler plan slots state i =
    count_by (λ p. list_any (tells state) (packet_rows scheduler plan slots i p.0 p.1)) (enumerate_from 0 (card_at plan i).packets)

-- how many packets of all inputs do
abbrev pub packets_told : Scheduler → SwitchPlan → ℕ → PacketState → ℕ
packets_told scheduler plan slots state = over_ports plan (input_told scheduler plan slots state)

-- how many rows of the file tell the state
abbrev pub rows_told : Scheduler → SwitchPlan → ℕ → PacketState → ℕ
rows_told scheduler plan slots state = count_by (tells state) (all_rows scheduler plan slots)

-- The file tells as many packets of each state as the summary, and the rows of forwarded packets, one for each output, are as
-- many as the summary has copies.
pub record RowsAddUp (scheduler : Scheduler) (plan : SwitchPlan) (slots : ℕ) : Type 0 where
  pub forwarded : packets_told scheduler plan slots Forwarded ≡ (summary_under scheduler plan slots).forwarded
  pub dropped : packets_told scheduler plan slots Dropped ≡ (summary_under scheduler plan slots).dropped
  pub unrouted : packets_told scheduler plan slots Unrouted ≡ (summary_under scheduler plan slots).unrouted
  pub oversize : packets_told scheduler plan slots Oversize ≡ (summary_under scheduler plan slots).oversize
  pub copies : rows_told scheduler plan slots Forwarded ≡ (summary_under scheduler plan slots).copies
