-- Steps of proofs: a switch before a slot of the run, and when the slot is decided.
use Rattle.std.specs.Prelude.{◌≡◌, ◌≢◌, ◌<◌, ℕ, ◌+◌, Bool, true, false, List, map, length, Option, None, Some, slice_get, slice_index_or}
use Rattle.cell_cutter.specs.declared.cell.Cell.{Cell}
use Rattle.cell_cutter.specs.declared.cell.CellName.{CellName}
use Rattle.card_core.specs.Plans.{Plan as CardPlan, no_packet, cell_named, size_of}
use Rattle.card_core.specs.Queues.{waiting, queue_in}
use Rattle.card_core.specs.Posts.{queue_served, granted_at}
use Rattle.rotating_pick.specs.declared.kinds.Kind.TheVariants.{Uni}
use Rattle.rotating_pick.specs.declared.limits.TheConstants.{LEVELS}
use Rattle.slot_match.specs.declared.matching.Fed.{Fed}
use Rattle.slot_match.specs.declared.matching.Served.{Served}
use Rattle.slot_match.specs.Matches.{IsFreeInput}
use Rattle.slot_match.specs.Parts.{served_of}
use Rattle.multicast_queue.specs.FanQueues.{first_name}
use Rattle.slot_records.specs.Slots.{match_under, granted_name}
use Rattle.eslip_rounds.specs.Decisions.{is_named}
use Rattle.eslip_rounds.specs.Schedulers.{Scheduler}
use Rattle.slot_histories.specs.Slots.{places_under, decision_under, is_done_at}
use Rattle.service_bound.specs.Waits.{NotedSlot, noted_of}
use Rattle.service_bound.specs.MeterSteps.{HasNoted, was_waiting}
use Rattle.named_schedulers.specs.Named.{decision_named}
use Rattle.switch_plan.specs.GoodPlans.{SwitchPlan}
use Rattle.run_laws.specs.Runs.{ports_of, setup_for, card_at, posts_under, parts_under}
use Rattle.run_laws.specs.Sums.{schedule_under}
use Rattle.idle_slots.specs.Idle.{IsIdle}
use Rattle.descriptor_runs.specs.InputSteps.{InputValue, HasServed, row_in}
use Rattle.descriptor_runs.specs.OutputSteps.{OutputValue, HasCome}
use Rattle.descriptor_runs.specs.declared.switch.Switch.{Switch}
use Rattle.descriptor_runs.specs.declared.switch.Activity.{Activity}
use Rattle.descriptor_runs.specs.declared.switch.Activity.TheVariants.{Done, Idle, Busy}

-- The inputs are those of the plan's ports, each has been served what the run has for its port before slot t, and the packets
-- of slot t have arrived or not.
pub record AreInputs (scheduler : Scheduler) (plan : SwitchPlan) (t : ℕ) (arrived : Bool) (inputs : List InputValue) : Type 0 where
  pub plans : map (λ input. input.plan) inputs ≡ plan.cards
  pub served : (i : ℕ) (input : InputValue) → slice_get inputs i ≡ Some input → HasServed input (parts_under scheduler plan i t) arrived

-- The cell is that of the name, which is a cell of one of the card's packets that go anywhere; without a name there is none.
abbrev pub IsNameOf : CardPlan → Option Cell → Option CellName → Type 0
IsNameOf card cell None = cell ≡ None
IsNameOf card cell (Some name) = (cell ≡ Some (cell_named card name)) × (name.packet < length card.packets)
    × (name.number < size_of (slice_index_or card.packets name.packet no_packet))
    × ((slice_index_or card.packets name.packet no_packet).fan ≢ 0)

-- These are the names of the cells that the ports post in slot t, by port: those that slot t - 1 granted.
abbrev pub AreNames : Scheduler → SwitchPlan → ℕ → List (Option CellName) → Type 0
AreNames scheduler plan t names = (i : ℕ) → i < ports_of plan
    → IsNameOf (card_at plan i) (granted_at (card_at plan i) (parts_under scheduler plan i t) t) (slice_index_or names i None)

-- the name of the first cell of the queue that a part of the slot serves
abbrev pub name_by : CardPlan → List (Option Served) → Option Served → Option CellName
name_by card served None = None
name_by card served (Some part) = first_name (waiting (queue_in card (queue_served part) served (length served)))

-- These are the inputs' parts of the match of slot t, by port.
abbrev pub AreParts : Scheduler → SwitchPlan → ℕ → List (Option Served) → Type 0
AreParts scheduler plan t parts = (i : ℕ) → i < ports_of plan → slice_index_or parts i None ≡ served_of (match_under scheduler plan t) i

-- These are the names of the cells that the inputs are granted in slot t, by port.
abbrev pub AreGranted : Scheduler → SwitchPlan → ℕ → List (Option CellName) → Type 0
AreGranted scheduler plan t names = (i : ℕ) → i < ports_of plan → slice_index_or names i None ≡ granted_name scheduler plan i t

-- The outputs have what crossed to them in the first slots, so many.
pub record AreOutputs (scheduler : Scheduler) (plan : SwitchPlan) (slots : ℕ) (outputs : List OutputValue) : Type 0 where
  pub count : length outputs ≡ ports_of plan
  pub come : (j : ℕ) (output : OutputValue) → slice_get outputs j ≡ Some output → HasCome scheduler plan slots j output

-- each queue of an input that the match does not serve is asked for exactly where it waited in the last of these slots
abbrev pub AreResting : List NotedSlot → List (Option Fed) → List InputValue → Type 0
AreResting slots matched inputs = (i j level : ℕ) (input : InputValue) → slice_get inputs i ≡ Some input → IsFreeInput matched i → level < LEVELS
    → is_named (row_in input) level Uni j ≡ was_waiting slots i j level

-- A switch whose pointers and meter are those before slot t: it decides by the scheduler, in the plan's rounds.
pub record IsSwitch (scheduler : Scheduler) (plan : SwitchPlan) (t : ℕ) (switch : Switch) : Type 0 where
  pub decides : decision_named switch.scheduler ≡ scheduler
  pub rounds : switch.rounds ≡ plan.rounds
  pub nano : switch.nano ≡ plan.nano
  pub pointers : switch.pointers ≡ places_under scheduler (setup_for plan) (posts_under scheduler plan) t
  pub matched : length switch.matched ≡ ports_of plan
  pub posts : length switch.posts.items ≡ ports_of plan
  pub meter_ports : switch.meter.ports ≡ ports_of plan
  pub meter_count : switch.meter.count ≡ t
  pub noted : HasNoted switch.meter (map noted_of (schedule_under scheduler plan t))

-- Before slot t of the run: the slots before it are made, what slot t - 1 granted has come to the outputs, the parts are those of the
-- last match, and inputs that it does not serve ask for what waits.
pub record IsBefore (scheduler : Scheduler) (plan : SwitchPlan) (t : ℕ) (switch : Switch) : Type 0 where
  pub switch_is : IsSwitch scheduler plan t switch
  pub inputs : AreInputs scheduler plan t false switch.inputs
  pub names : AreNames scheduler plan t switch.names
  pub outputs : AreOutputs scheduler plan (t + 1) switch.outputs.items
  pub parts : (i : ℕ) → i < ports_of plan → slice_index_or switch.parts i None ≡ served_of switch.matched i
  pub resting : AreResting (map noted_of (schedule_under scheduler plan t)) switch.matched switch.inputs

-- In slot t of the run, which is decided: the packets of the slot have arrived, and nothing was served yet.
pub record IsDecided (scheduler : Scheduler) (plan : SwitchPlan) (t : ℕ) (switch : Switch) : Type 0 where
  pub switch_is : IsSwitch scheduler plan (t + 1) switch
  pub inputs : AreInputs scheduler plan t true switch.inputs
  pub names : AreNames scheduler plan t switch.names
  pub outputs : AreOutputs scheduler plan (t + 1) switch.outputs.items
  pub matched : switch.matched ≡ (decision_under scheduler (setup_for plan) (posts_under scheduler plan) t).matched
  pub numbers : switch.numbers ≡ (decision_under scheduler (setup_for plan) (posts_under scheduler plan) t).numbers
  pub parts : AreParts scheduler plan t switch.parts

-- what goes on in slot t of the run
abbrev pub IsActivity : Scheduler → SwitchPlan → ℕ → Activity → Type 0
IsActivity scheduler plan t Done = is_done_at (ports_of plan) (posts_under scheduler plan) t ≡ true
IsActivity scheduler plan t Idle = (is_done_at (ports_of plan) (posts_under scheduler plan) t ≡ false) × IsIdle scheduler plan t
IsActivity scheduler plan t Busy = is_done_at (ports_of plan) (posts_under scheduler plan) t ≡ false
