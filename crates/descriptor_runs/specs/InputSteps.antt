-- Steps of proofs: what an input of a run by descriptors keeps, and that it has been served a list of parts.
use Rattle.std.specs.Prelude.{◌≡◌, ◌≢◌, ℕ, ◌^◌, ◌<◌, Bool, List, length, Option, None, Some, slice_get, slice_index}
use Rattle.std.specs.Option.{option_map}
use Rattle.rotating_pick.specs.PortSets.{HasSeveral}
use Rattle.rotating_pick.specs.declared.kinds.Kind.{Kind}
use Rattle.rotating_pick.specs.declared.kinds.Kind.TheVariants.{Uni, Multi}
use Rattle.rotating_pick.specs.declared.limits.TheConstants.{LEVELS}
use Rattle.slot_match.specs.declared.rows.Row.{Row}
use Rattle.slot_match.specs.declared.matching.Served.{Served}
use Rattle.slot_match.specs.Rows.{sets_of}
use Rattle.eslip_rounds.specs.ColumnSteps.{with_set}
use Rattle.voq_banks.specs.Queues.{Queues as UniQueues}
use Rattle.multicast_queue.specs.FanQueues.{Queues as FanQueues}
use Rattle.card_core.specs.Plans.{Plan}
use Rattle.card_core.specs.Posts.{row_at, granted_at}
use Rattle.card_core.specs.States.{HasSent, state_of}
use Rattle.card_core.specs.StateSteps.{row_of}

-- what an input keeps: its plan, the number of its next packet, how many were admitted and dropped, and its queues
pub record InputValue : Type 0 where
  pub plan : Plan
  pub next : ℕ
  pub admitted : ℕ
  pub dropped : ℕ
  pub banks : UniQueues
  pub fans : FanQueues

-- the row of its queues
abbrev pub row_in : InputValue → Row
row_in input = row_of input.banks input.fans

-- the slot in which its next packet arrives, if there is one
abbrev pub next_slot : InputValue → Option ℕ
next_slot input = option_map (λ packet. packet.arrival) (slice_get input.plan.packets input.next)

-- The input has been served these parts, one a slot, and the packet of the slot after them has arrived or not. It is
-- what a line card has sent by then.
abbrev pub HasServed : InputValue → List (Option Served) → Bool → Type 0
HasServed input served arrived = HasSent (state_of input.plan input.next (length served) arrived (granted_at input.plan served (length served))
    (row_at input.plan served (length served)) input.admitted input.dropped input.banks input.fans) served arrived

-- this row is the other one in all sets but that of the level and kind
abbrev pub DiffersAt : Row → Row → ℕ → Kind → Type 0
DiffersAt old new level kind = new ≡ with_set old level kind (slice_index (sets_of new kind) level)

-- it is in all sets but that of this queue, or in all
abbrev pub ChangesAt : Row → Row → Option (ℕ × Kind) → Type 0
ChangesAt old new None = new ≡ old
ChangesAt old new (Some (level, kind)) = (level < LEVELS) × DiffersAt old new level kind

-- packets for these outputs enter queues of the kind
abbrev pub IsKindOf : ℕ → Kind → Type 0
IsKindOf fan Uni = (j : ℕ) × (fan ≡ 2 ^ j)
IsKindOf fan Multi = HasSeveral fan

-- a packet of the level for these outputs enters this queue, or goes nowhere
abbrev pub IsQueueOf : ℕ → ℕ → Option (ℕ × Kind) → Type 0
IsQueueOf level fan None = fan ≡ 0
IsQueueOf level fan (Some (l, kind)) = (l ≡ level) × (fan ≢ 0) × IsKindOf fan kind
