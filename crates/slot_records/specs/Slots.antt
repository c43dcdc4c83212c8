-- What a slot of a run adds to the captures of the outputs: which cell an input is granted in it, and the record that this
-- cell ends as it crosses in the slot after.
use Rattle.std.specs.Prelude.{◌≡◌, ℕ, ◌+◌, ◌<◌, ◌≢◌, if◌then◌else◌, List, [], ◌∷◌, ◌++◌, length, Option, None, Some, slice_get, slice_index_or}
use Rattle.cell_cutter.specs.declared.cell.CellName.{CellName}
use Rattle.slot_match.specs.declared.matching.Fed.{Fed}
use Rattle.slot_match.specs.declared.matching.Served.{Served}
use Rattle.slot_match.specs.Matches.{fed_of}
use Rattle.slot_match.specs.Parts.{served_of}
use Rattle.multicast_queue.specs.FanQueues.{first_name}
use Rattle.eslip_rounds.specs.Schedulers.{Scheduler}
use Rattle.slot_histories.specs.Slots.{decision_under}
use Rattle.card_core.specs.declared.plan.Planned.{Planned}
use Rattle.card_core.specs.Plans.{no_packet, message_of, size_of}
use Rattle.card_core.specs.Queues.{waiting, queue_in}
use Rattle.card_core.specs.Posts.{queue_served}
use Rattle.switch_plan.specs.GoodPlans.{SwitchPlan}
use Rattle.run_laws.specs.Runs.{ports_of, setup_for, card_at, parts_under, posts_under}
use Rattle.run_laws.specs.Crossings.{cells_under}
use Rattle.run_laws.specs.Outcomes.{messages_under}

-- the match of slot t of the run
abbrev pub match_under : Scheduler → SwitchPlan → ℕ → List (Option Fed)
match_under scheduler plan t = (decision_under scheduler (setup_for plan) (posts_under scheduler plan) t).matched

-- the name of the first cell of the queue of input i that a part of slot t serves
abbrev pub name_served : Scheduler → SwitchPlan → ℕ → ℕ → Option Served → Option CellName
name_served scheduler plan i t None = None
name_served scheduler plan i t (Some part) = first_name (waiting (queue_in (card_at plan i) (queue_served part) (parts_under scheduler plan i t) t))

-- the name of the cell that input i is granted in slot t, if it is matched
abbrev pub granted_name : Scheduler → SwitchPlan → ℕ → ℕ → Option CellName
granted_name scheduler plan i t = name_served scheduler plan i t (served_of (match_under scheduler plan t) i)

-- the packet of a name
abbrev pub packet_named : SwitchPlan → ℕ → CellName → Planned
packet_named plan i name = slice_index_or (card_at plan i).packets name.packet no_packet

-- Nothing more has crossed to output j after `later` slots than after `slots`.
pub record AddsNothing (scheduler : Scheduler) (plan : SwitchPlan) (j slots later : ℕ) : Type 0 where
  pub cells : cells_under scheduler plan j later ≡ cells_under scheduler plan j slots
  pub messages : messages_under scheduler plan j later ≡ messages_under scheduler plan j slots

-- A cell more has crossed to output j after `later` slots than after `slots`: that of input i with this name. Where it is
-- its packet's last, the packet's message is the one that the output has more.
pub record AddsCell (scheduler : Scheduler) (plan : SwitchPlan) (j i : ℕ) (name : CellName) (slots later : ℕ) : Type 0 where
  pub input : i < ports_of plan
  pub there : slice_get (card_at plan i).packets name.packet ≡ Some (packet_named plan i name)
  pub routed : (packet_named plan i name).fan ≢ 0
  pub number : name.number < size_of (packet_named plan i name)
  pub cells : length (cells_under scheduler plan j later) ≡ length (cells_under scheduler plan j slots) + 1
  pub messages : messages_under scheduler plan j later ≡ messages_under scheduler plan j slots
      ++ (if name.last then message_of (card_at plan i) (packet_named plan i name) ∷ [] else [])

-- What slot t adds to output j in the slot after it: nothing where it feeds it from no input, and else the cell that this input
-- is granted, which it has.
abbrev pub AddsBy : Scheduler → SwitchPlan → ℕ → ℕ → Option Fed → Type 0
AddsBy scheduler plan j t None = AddsNothing scheduler plan j (t + 1) (t + 2)
AddsBy scheduler plan j t (Some fed) = (name : CellName) × (granted_name scheduler plan fed.input t ≡ Some name)
    × AddsCell scheduler plan j fed.input name (t + 1) (t + 2)

abbrev pub AddsInSlot : Scheduler → SwitchPlan → ℕ → ℕ → Type 0
AddsInSlot scheduler plan j t = AddsBy scheduler plan j t (fed_of (match_under scheduler plan t) j)
