-- Lines of text.
use Rattle.std.specs.Prelude.{ℕ, List, ◌++◌, codes}
use Rattle.std.specs.List.{flat_map, join_with_byte}

-- the byte of a space
abbrev pub space : ℕ
space = 32

-- a line: its words with a space between each two, and a line feed
unfoldable pub line_text : List (List ℕ) → List ℕ
line_text words = join_with_byte space words ++ codes "\n"

-- the lines in order, each given by its words
abbrev pub lines_text : List (List (List ℕ)) → List ℕ
lines_text lines = flat_map line_text lines
