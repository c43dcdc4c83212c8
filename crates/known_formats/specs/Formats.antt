-- The rows that the lines of a vector file give, by what the file has.
use Rattle.std.specs.Prelude.{◌≡◌, ◌++◌, ℕ, List, Option, true, codes, string_bytes, IsSome, IsSomeAnd}
use Rattle.test_vectors.specs.Rows.{is_wrong}
use Rattle.test_vectors.specs.declared.row.Row.{Row}
use Rattle.known_formats.specs.declared.vector_file.Reader.{Reader}
use Rattle.known_formats.specs.declared.vector_file.Reader.TheVariants.{Words, Texts, Journals, Unknown}

-- a line `> ANSWER` is a row that states ANSWER
abbrev pub StatesAnswer : List ℕ → Option Row → Type 0
StatesAnswer line given = (stated : List ℕ) → line ≡ codes "> " ++ stated → IsSomeAnd given (λ row. string_bytes row.stated ≡ stated)

-- each line of words is a row, in texts and journals each that states an answer is, and of a file of no known name each is a wrong row
abbrev pub Reads : Reader → List ℕ → Option Row → Type 0
Reads Words line given = IsSome given
Reads (Texts block) line given = StatesAnswer line given
Reads (Journals block) line given = StatesAnswer line given
Reads Unknown line given = IsSomeAnd given (λ row. is_wrong row ≡ true)
