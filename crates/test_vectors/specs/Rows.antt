-- Rows of a vector file: the answer that a row states, and the one that was given.
use Rattle.std.specs.Prelude.{ℕ, Bool, false, not, List, Option, None, Some, string_bytes}
use Rattle.std.specs.Option.{option_map}
use Rattle.std.specs.Str.{bytes_eq}
use Rattle.test_vectors.specs.declared.row.Row.{Row}

-- an answer was given, and it is this text
abbrev pub answers : Option (List ℕ) → List ℕ → Bool
answers None stated = false
answers (Some text) stated = bytes_eq text stated

-- the answer to the row's question is not the one that the row states
abbrev pub is_wrong : Row → Bool
is_wrong row = not (answers (option_map string_bytes row.answered) (string_bytes row.stated))
