-- Steps of proofs: what an output of a run by descriptors keeps.
use Rattle.std.specs.Prelude.{◌≡◌, ℕ, ◌+◌, Bool, true, false, if◌then◌else◌, List, [], ◌∷◌, ◌++◌, length, map, take, drop}
use Rattle.std.specs.Prelude.{slice_get, slice_index_or, Option, None, Some, IfSome, is_some}
use Rattle.cell_cutter.specs.declared.cell.CellName.{CellName}
use Rattle.cell_cutter.specs.Messages.{message}
use Rattle.card_core.specs.declared.plan.Planned.{Planned}
use Rattle.card_core.specs.Plans.{Plan as CardPlan, no_packet, message_of}
use Rattle.pcap_records.specs.declared.link.Link.{Link}
use Rattle.pcap_records.specs.Output.{capture_text}
use Rattle.eslip_rounds.specs.Schedulers.{Scheduler}
use Rattle.switch_plan.specs.GoodPlans.{SwitchPlan}
use Rattle.run_laws.specs.Crossings.{cells_under}
use Rattle.run_laws.specs.Outcomes.{messages_under}
use Rattle.descriptor_runs.specs.declared.outputs.Captures.{Captures}
use Rattle.descriptor_runs.specs.declared.outputs.Captures.TheVariants.{Kept, Dropped}

-- what an output keeps: the bytes of its capture, if it keeps them, and how many packets and cells have come
pub record OutputValue : Type 0 where
  pub text : Option (List ℕ)
  pub packets : ℕ
  pub cells : ℕ

-- an output to which nothing has come
abbrev pub new_output : Captures → Bool → Link → OutputValue
new_output Kept nano link = record { text = Some (capture_text nano link []); packets = 0; cells = 0 }
new_output Dropped nano link = record { text = None; packets = 0; cells = 0 }

-- whether captures are kept
abbrev pub is_kept : Captures → Bool
is_kept Kept = true
is_kept Dropped = false

-- Each of the outputs keeps its capture, or none does.
abbrev pub AreKeeping : Captures → List OutputValue → Type 0
AreKeeping captures outputs = (j : ℕ) (output : OutputValue) → slice_get outputs j ≡ Some output → is_some output.text ≡ is_kept captures

-- which of the outputs keep their captures
abbrev pub keeping : List OutputValue → List Bool
keeping outputs = map (λ output. is_some output.text) outputs

-- The output has what crossed to output j in the first slots of the run.
pub record HasCome (scheduler : Scheduler) (plan : SwitchPlan) (slots j : ℕ) (output : OutputValue) : Type 0 where
  pub text : IfSome output.text (λ text. text ≡ capture_text plan.nano plan.link (messages_under scheduler plan j slots))
  pub packets : output.packets ≡ length (messages_under scheduler plan j slots)
  pub cells : output.cells ≡ length (cells_under scheduler plan j slots)

-- the message of a packet whose captured bytes lie among these
abbrev pub record_message : Planned → List ℕ → List ℕ
record_message packet bytes = message packet.seconds packet.nanos packet.original (take packet.len (drop packet.start bytes))

-- the messages that a cell of the card ends: its packet's where it is the last
abbrev pub messages_with : CardPlan → CellName → List (List ℕ)
messages_with card name = if name.last then message_of card (slice_index_or card.packets name.packet no_packet) ∷ [] else []

-- These messages have come to the end of a capture, if it is kept.
abbrev pub HasRecords : Bool → List (List ℕ) → Option (List ℕ) → Option (List ℕ) → Type 0
HasRecords nano messages before after = (link : Link) (earlier : List (List ℕ)) → IfSome before (λ text. text ≡ capture_text nano link earlier)
    → IfSome after (λ text. text ≡ capture_text nano link (earlier ++ messages))

-- A cell more has come to an output, and these messages to the end of its capture. It keeps its capture if it did before.
pub record HasTaken (nano : Bool) (messages : List (List ℕ)) (before after : OutputValue) : Type 0 where
  pub text : HasRecords nano messages before.text after.text
  pub kept : is_some after.text ≡ is_some before.text
  pub packets : after.packets ≡ before.packets + length messages
  pub cells : after.cells ≡ before.cells + 1
