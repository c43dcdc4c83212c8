-- The lines on standard error for why a job is refused.
use Rattle.std.specs.Prelude.{ℕ, List, [], ◌∷◌, ◌++◌, codes, decimal}
use Rattle.std.specs.List.{concat}
use Rattle.pcap_records.specs.declared.fault.PcapFault.{PcapFault}
use Rattle.pcap_records.specs.Texts as Captures
use Rattle.forward_table.specs.declared.faults.TableFault.{TableFault}
use Rattle.forward_table.specs.Texts as Tables
use Rattle.switch_plan.specs.declared.fault.PlanFault.{PlanFault}
use Rattle.switch_plan.specs.declared.fault.PlanFault.TheVariants.{Table, Capture, MixedLink, TooManySlots, TooManyPackets, TooManyCells, OutOfMemory}

-- the line where memory runs out
abbrev pub memory_line : List ℕ
memory_line = codes "out of memory\n"

-- the line for a text that is no table
abbrev pub table_line : TableFault → List ℕ
table_line fault = concat (Tables.parts_of fault ++ codes "\n" ∷ [])

-- the line for a file that is no capture
abbrev pub capture_line : ℕ → PcapFault → List ℕ
capture_line port fault = concat (codes "capture " ∷ decimal port ∷ codes ": " ∷ (Captures.parts_of fault ++ codes "\n" ∷ []))

-- the line for each reason to refuse a job
abbrev pub refusal_line : PlanFault → List ℕ
refusal_line (Table fault) = table_line fault
refusal_line (Capture port fault) = capture_line port fault
refusal_line (MixedLink first other) = concat (codes "link types " ∷ decimal first ∷ codes " and " ∷ decimal other ∷ codes "\n" ∷ [])
refusal_line (TooManySlots port slots) = concat (codes "too many slots: port " ∷ decimal port ∷ codes " has " ∷ decimal slots ∷ codes "\n" ∷ [])
refusal_line (TooManyPackets packets) = concat (codes "too many packets: " ∷ decimal packets ∷ codes "\n" ∷ [])
refusal_line (TooManyCells cells) = concat (codes "too many cells: " ∷ decimal cells ∷ codes "\n" ∷ [])
refusal_line OutOfMemory = memory_line
