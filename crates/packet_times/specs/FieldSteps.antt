-- What the rows of the packets file are made of.
use Rattle.std.specs.Prelude.{ℕ, ◌++◌, List, [], ◌∷◌, Option, None, Some, decimal}
use Rattle.slot_report.specs.Texts.{letter_of}
use Rattle.card_core.specs.declared.plan.Planned.{Planned}
use Rattle.card_core.specs.Plans.{kind_of, queue_of, size_of}
use Rattle.packet_times.specs.declared.fields.Leaving.{Leaving}
use Rattle.packet_times.specs.declared.fields.Row.{Row}
use Rattle.packet_times.specs.declared.walk.Outcome.{Outcome}
use Rattle.packet_times.specs.Rows.{state_name, departure_text, delay_text}
use Rattle.packet_times.specs.KeptSteps.{kept_state}

-- the fields from the number of a packet to its state
abbrev pub outcome_texts : Outcome → List (List ℕ)
outcome_texts o =
    decimal o.number ∷ decimal o.packet.len ∷ decimal (size_of o.packet) ∷ state_name (kept_state o.packet o.admitted) ∷ []

-- the fields from the level on, of an output or of none
abbrev pub leaving_texts : Planned → Option Leaving → List (List ℕ)
leaving_texts packet None = [] ∷ [] ∷ [] ∷ decimal packet.arrival ∷ [] ∷ [] ∷ []
leaving_texts packet (Some l) =
    decimal packet.level ∷ letter_of (kind_of (queue_of packet)) ∷ decimal l.output ∷ decimal packet.arrival ∷ departure_text l.departure
    ∷ delay_text packet.arrival l.departure ∷ []

-- the fields of a row, as texts
abbrev pub texts_of : Row → List (List ℕ)
texts_of row = decimal row.outcome.input ∷ outcome_texts row.outcome ++ leaving_texts row.outcome.packet row.leaving
