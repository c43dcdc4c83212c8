-- The texts of faults.
use Rattle.std.specs.Prelude.{ℕ, List, [], ◌∷◌, codes, decimal}
use Rattle.std.specs.List.{concat}
use Rattle.std.specs.Int.{w32, to_be_bytes}
use Rattle.hex.specs.Hex.{encode_lower}
use Rattle.pcap_records.specs.declared.fault.PcapFault.{PcapFault}
use Rattle.pcap_records.specs.declared.fault.PcapFault.TheVariants.{ShortHeader, BadMagic, BadVersion, BadLink, CutRecord, LongRecord, OutOfMemory}

-- a number in 8 lower-case hexadecimal digits
abbrev pub hex_text : ℕ → List ℕ
hex_text n = encode_lower (to_be_bytes w32 n)

-- the parts of a fault's text, one after another
abbrev pub parts_of : PcapFault → List (List ℕ)
parts_of (ShortHeader len) = codes "short header, " ∷ decimal len ∷ codes " bytes" ∷ []
parts_of (BadMagic found) = codes "bad magic " ∷ hex_text found ∷ []
parts_of (BadVersion major minor) = codes "version " ∷ decimal major ∷ codes "." ∷ decimal minor ∷ []
parts_of (BadLink found) = codes "link type " ∷ decimal found ∷ []
parts_of (CutRecord at) = codes "cut record at " ∷ decimal at ∷ []
parts_of (LongRecord at len) = codes "long record at " ∷ decimal at ∷ codes ", " ∷ decimal len ∷ codes " bytes" ∷ []
parts_of OutOfMemory = codes "out of memory" ∷ []

-- the text that `Display` prints of a fault
abbrev pub text_of : PcapFault → List ℕ
text_of fault = concat (parts_of fault)
