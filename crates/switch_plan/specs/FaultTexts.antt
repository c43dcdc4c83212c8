-- The texts of faults.
use Rattle.std.specs.Prelude.{ℕ, List, ◌++◌, codes, decimal}
use Rattle.forward_table.specs.Texts as Tables
use Rattle.pcap_records.specs.Texts as Captures
use Rattle.switch_plan.specs.declared.fault.PlanFault.{PlanFault}
use Rattle.switch_plan.specs.declared.fault.PlanFault.TheVariants.{Table, Capture, MixedLink, TooManySlots, TooManyPackets, TooManyCells, OutOfMemory}

-- the text that `Display` prints of a fault
abbrev pub text_of : PlanFault → List ℕ
text_of (Table fault) = Tables.text_of fault
text_of (Capture port fault) = codes "capture " ++ decimal port ++ codes ": " ++ Captures.text_of fault
text_of (MixedLink first other) = codes "link types " ++ decimal first ++ codes " and " ++ decimal other
text_of (TooManySlots port slots) = codes "too many slots: port " ++ decimal port ++ codes " has " ++ decimal slots
text_of (TooManyPackets packets) = codes "too many packets: " ++ decimal packets
text_of (TooManyCells cells) = codes "too many cells: " ++ decimal cells
text_of OutOfMemory = codes "out of memory"
