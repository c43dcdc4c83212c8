-- What a reference has noted, as a reader sees it, and how its fields stand to it.
use Rattle.std.specs.Prelude.{◌≡◌, ℕ, ◌+◌, ◌*◌, ◌^◌, ◌<◌, ◌≤◌, ◌↔◌, List, [], map, length, Option, slice_index_or}
use Rattle.rotating_pick.specs.PortSets.{Has}
use Rattle.slot_match.specs.declared.rows.Row.{Row}
use Rattle.slot_match.specs.declared.matching.Served.{Served}
use Rattle.voq_banks.specs.Queues.{Queues as UniQueues}
use Rattle.multicast_queue.specs.FanQueues.{Queues as FanQueues}
use Rattle.card_core.specs.Plans.{Plan}
use Rattle.card_core.specs.Queues.{before, queue_in}
use Rattle.card_core.specs.States.{AreQueues, IsNext}
use Rattle.output_queued.specs.declared.coming.Coming.{Coming}
use Rattle.output_queued.specs.declared.tally.Tally.{Tally}
use Rattle.output_queued.specs.Ideal.{total}
use Rattle.output_queued.specs.Switches.{Matched, card_for, comes, served_in, AreServed, IsSwitch}
use Rattle.output_queued.specs.Lines.{ideal, ran, line_of}
use Rattle.output_queued.specs.Following.{MayFollow}

-- What a reader sees of a reference: the ports, the most cells of a queue, the packets that come to each input, and the
-- matches of the slots that were noted.
pub record Noted : Type 0 where
  pub ports : ℕ
  pub depth : ℕ
  pub coming : List (List Coming)
  pub matches : List Matched

-- what each input is to send
abbrev pub cards_of : Noted → List Plan
cards_of noted = map (card_for noted.ports noted.depth) noted.coming

-- The ports, the depth and the packets are a switch, the slots are fewer than 2^32, and each serves only what its rows name.
pub record IsNoted (noted : Noted) : Type 0 where
  pub switch : IsSwitch noted.ports noted.depth noted.coming
  pub few : length noted.matches < 2 ^ 32
  pub served : AreServed (cards_of noted) noted.matches

-- ---- the fields
-- an input: its packets, how many of them have come, and its queues
pub record Source : Type 0 where
  pub coming : List Coming
  pub next : ℕ
  pub banks : UniQueues
  pub fans : FanQueues

-- a reference: the ports, the most cells of a queue, how many slots were noted, the inputs, what is counted at each
-- output, and the outputs to which a cell has come that the run has not served
pub record State : Type 0 where
  pub ports : ℕ
  pub depth : ℕ
  pub slots : ℕ
  pub sources : List Source
  pub tallies : List Tally
  pub unserved : ℕ

-- what a reader sees of it, where these slots were noted
abbrev pub seen_with : State → List Matched → Noted
seen_with s matches = record { ports = s.ports; depth = s.depth; coming = map (λ source. source.coming) s.sources; matches = matches }

-- what each input is to send
abbrev pub cards_in : State → List Plan
cards_in s = map (λ source. card_for s.ports s.depth source.coming) s.sources

-- ---- how they stand
-- the input at a place; one without packets where there is none
abbrev pub no_source : Source
no_source = record {
  coming = [];
  next = 0;
  banks = record { ports = 0; depth = 0; queues = []; spare = [] };
  fans = record { ports = 0; depth = 0; queues = [] };
}

abbrev pub source_at : List Source → ℕ → Source
source_at sources i = slice_index_or sources i no_source

-- what is counted at an output before any slot
abbrev pub no_tally : Tally
no_tally = record { came = 0; given = 0; ran = 0; line = record { ends = 0; runs = 0; lead = 0; extra = 0 } }

abbrev pub tally_at : List Tally → ℕ → Tally
tally_at tallies j = slice_index_or tallies j no_tally

-- The queues of the input are those of the card that was served these parts, before the packet of the next slot.
pub record IsBefore (plan : Plan) (source : Source) (served : List (Option Served)) : Type 0 where
  pub next : IsNext plan.packets (length served) source.next
  pub queues : AreQueues plan (λ q. before plan q served (length served)) source.next source.banks source.fans

-- The queues of the input are those of the card that was served these parts, with the packet of the next slot.
pub record IsIn (plan : Plan) (source : Source) (served : List (Option Served)) : Type 0 where
  pub next : IsNext plan.packets (length served + 1) source.next
  pub queues : AreQueues plan (λ q. queue_in plan q served (length served)) source.next source.banks source.fans

-- What is counted at output j of these slots, where the cells that came in so many slots are counted.
pub record IsTally (cards : List Plan) (matches : List Matched) (slots j : ℕ) (tally : Tally) : Type 0 where
  pub came : tally.came ≡ total (comes cards matches j) slots
  pub given : tally.given ≡ ideal cards matches j (length matches)
  pub ran : tally.ran ≡ ran matches j (length matches)
  pub line : tally.line ≡ line_of cards matches j

-- The numbers of so many slots are within their types.
pub record IsSmall (slots : ℕ) (tally : Tally) : Type 0 where
  pub came : tally.came ≤ 131072 * (slots + 1)
  pub behind : tally.ran ≤ tally.given
  pub given : tally.given ≤ tally.came
  pub few : tally.given ≤ slots
  pub lead : tally.line.lead ≤ slots
  pub ends : tally.line.ends ≤ slots
  pub runs : tally.line.runs ≤ slots
  pub extra : tally.line.extra ≤ 2 ^ 32 * slots

-- These are the outputs to which a cell has come that the run has not served. None has been served more than have come.
pub record IsUnserved (unserved : ℕ) (tallies : List Tally) : Type 0 where
  pub members : (j : ℕ) → Has unserved j ↔ ((j < length tallies) × ((tally_at tallies j).ran < (tally_at tallies j).came))
  pub behind : (j : ℕ) → (tally_at tallies j).ran ≤ (tally_at tallies j).came

-- The fields are as these slots make them, with the packets of the next slot: its queues, and what is counted at each output.
pub record Stands (s : State) (matches : List Matched) : Type 0 where
  pub slots : s.slots ≡ length matches
  pub sources : (i : ℕ) → i < s.ports → IsIn (card_for s.ports s.depth (source_at s.sources i).coming) (source_at s.sources i) (served_in matches i)
  pub count : length s.tallies ≡ s.ports
  pub tallies : (j : ℕ) → j < s.ports → IsTally (cards_in s) matches (length matches + 1) j (tally_at s.tallies j)
  pub small : (j : ℕ) → j < s.ports → IsSmall s.slots (tally_at s.tallies j)
  pub unserved : IsUnserved s.unserved s.tallies

-- The reference has noted these slots: what a reader sees of it is a switch with its slots, and its fields stand so.
pub record HasNoted (s : State) (matches : List Matched) : Type 0 where
  pub noted : IsNoted (seen_with s matches)
  pub stands : Stands s matches

-- there are slots that the reference has noted and that this slot may follow
abbrev pub MayNote : State → List Row → Matched → Type 0
MayNote s rows matched = (matches : List Matched) × HasNoted s matches × MayFollow (cards_in s) matches rows matched
