-- A card, and that it has taken a list of takings.
use Rattle.std.specs.Prelude.{◌≡◌, ℕ, ◌+◌, ◌<◌, ◌≤◌, Bool, true, false, List, map, length, Option, None, Some, slice_index_or}
use Rattle.std.specs.List.{list_any, concat}
use Rattle.rotating_pick.specs.declared.kinds.Kind.{Kind}
use Rattle.rotating_pick.specs.declared.limits.TheConstants.{LEVELS}
use Rattle.cell_cutter.specs.declared.cell.Cell.{Cell}
use Rattle.slot_match.specs.declared.matching.Served.{Served}
use Rattle.reassembly.specs.Flows.{Flow, Flows, fresh, place_of, flow_of, bytes_with, Fits}
use Rattle.reassembly.specs.Cutting.{Stands}
use Rattle.crossbar.specs.declared.cards.Taken.{Taken}
use Rattle.card_core.specs.declared.limits.TheConstants.{MAX_SLOTS}
use Rattle.card_core.specs.declared.outcome.CardOut.{CardOut}
use Rattle.card_core.specs.Plans.{Plan}
use Rattle.card_core.specs.Queues.{admitted, dropped}
use Rattle.card_core.specs.Posts.{IsServable}
use Rattle.card_core.specs.Deliveries.{flow_cells, delivered, cells_taken}
use Rattle.card_core.specs.States.{State, HasSent, slots_in}

-- What a card keeps of what comes to its output: the flows, the messages that are whole, one after the other, and
-- their lengths, how many cells came, and the most bytes and messages.
pub record Received : Type 0 where
  pub flows : Flows
  pub body : List ℕ
  pub lens : List ℕ
  pub cells : ℕ
  pub body_room : ℕ
  pub packet_room : ℕ

-- what a card keeps: of what it sends, of what comes to its output, and whether it took a slot that was the last
pub record CardState : Type 0 where
  pub sends : State
  pub receives : Received
  pub done : Bool

-- what was served in the takings
abbrev pub served_in : List Taken → List (Option Served)
served_in takings = map (λ taken. taken.served) takings

-- whether one of the slots was the last
abbrev pub is_done : List Taken → Bool
is_done takings = list_any (λ taken. taken.done) takings

-- the flow of an input, a level and a kind
abbrev pub flow_at : Flows → ℕ → ℕ → Kind → Flow
flow_at all input level kind = slice_index_or all.flows (place_of input level kind) (fresh 0)

-- What came are these cells.
pub record HasReceived (plan : Plan) (r : Received) (cells : List Cell) : Type 0 where
  pub ports : r.flows.ports ≡ plan.ports
  pub sizes : map (λ flow. flow.size) r.flows.flows ≡ plan.sizes
  pub body_room : r.body_room ≡ plan.body_room
  pub packet_room : r.packet_room ≡ plan.packet_room
  pub flows : (input level : ℕ) (kind : Kind) → input < plan.ports → level < LEVELS
      → Stands (flow_at r.flows input level kind) (flow_cells input level kind cells)
  pub body : r.body ≡ concat (delivered cells)
  pub lens : r.lens ≡ map length (delivered cells)
  pub count : r.cells ≡ length cells

-- The card has taken these takings, and posted since or not.
pub record IsAfter (card : CardState) (takings : List Taken) (posted : Bool) : Type 0 where
  pub sent : HasSent card.sends (served_in takings) posted
  pub received : HasReceived card.sends.plan card.receives (cells_taken takings)
  pub done : card.done ≡ is_done takings
  pub going : posted ≡ true → card.done ≡ false
  pub slots : slots_in posted (length takings) ≤ MAX_SLOTS

-- The cell may be put: its flow takes it, and a message that it ends has room.
pub record MayReceive (r : Received) (cell : Cell) : Type 0 where
  pub flow : Fits r.flows cell
  pub room : cell.last ≡ true → (length r.body + length (bytes_with (flow_of r.flows cell) cell) ≤ r.body_room) × (length r.lens < r.packet_room)

abbrev pub MayReceiveAny : Received → Option Cell → Type 0
MayReceiveAny r None = Unit {0}
MayReceiveAny r (Some cell) = MayReceive r cell

-- The card may take this: it has posted the slot, what is served stands in its row, and the cell may be put.
pub record MayTake (card : CardState) (taken : Taken) : Type 0 where
  pub posted : card.sends.posted ≡ true
  pub slot : taken.slot ≡ card.sends.slot
  pub served : IsServable card.sends.row taken.served
  pub cell : MayReceiveAny card.receives taken.cell

-- what a card leaves that took these takings, and posted since or not
pub record IsOut (plan : Plan) (takings : List Taken) (posted : Bool) (out : CardOut) : Type 0 where
  pub body : out.body.items ≡ concat (delivered (cells_taken takings))
  pub lens : out.lens.items ≡ map length (delivered (cells_taken takings))
  pub packets : out.packets ≡ length (delivered (cells_taken takings))
  pub cells : out.cells ≡ length (cells_taken takings)
  pub admitted : out.admitted ≡ admitted plan (served_in takings) (slots_in posted (length takings))
  pub dropped : out.dropped ≡ dropped plan (served_in takings) (slots_in posted (length takings))
