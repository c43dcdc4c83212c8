-- The texts of faults.
use Rattle.std.specs.Prelude.{List, [], ◌∷◌, ℕ, codes, decimal}
use Rattle.std.specs.List.{concat}
use Rattle.forward_table.specs.declared.faults.TableFault.{TableFault}
use Rattle.forward_table.specs.declared.faults.TableFault.TheVariants.{BadLine, HostBits, BadPort, BadLevel, Repeated, TooManyLines, OutOfMemory}

-- the parts of a fault's text, one after another
abbrev pub parts_of : TableFault → List (List ℕ)
parts_of (BadLine line) = codes "table line " ∷ decimal line ∷ codes ": bad line" ∷ []
parts_of (HostBits line) = codes "table line " ∷ decimal line ∷ codes ": host bits" ∷ []
parts_of (BadPort line port) = codes "table line " ∷ decimal line ∷ codes ": port " ∷ decimal port ∷ []
parts_of (BadLevel line) = codes "table line " ∷ decimal line ∷ codes ": level" ∷ []
parts_of (Repeated line first) = codes "table line " ∷ decimal line ∷ codes ": repeats line " ∷ decimal first ∷ []
parts_of (TooManyLines count) = codes "table: " ∷ decimal count ∷ codes " lines" ∷ []
parts_of OutOfMemory = codes "out of memory" ∷ []

-- a fault's text
abbrev pub text_of : TableFault → List ℕ
text_of fault = concat (parts_of fault)
