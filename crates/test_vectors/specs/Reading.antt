-- The lines of a vector file, read one after the other.
use Rattle.std.specs.Prelude.{◌≡◌, ℕ, ◌+◌, ◌==◌, Bool, true, List, [], ◌∷◌, ◌++◌, Option, None, Some, length, count_by}
use Rattle.std.specs.List.{FoldsTo}
use Rattle.std.specs.Bool.{MatchBool}
use Rattle.test_vectors.specs.declared.row.Row.{Row}
use Rattle.test_vectors.specs.Rows.{is_wrong}

-- the line says nothing: it is empty or begins with `#`
abbrev pub is_comment : List ℕ → Bool
is_comment [] = true
is_comment (first ∷ rest) = first == 35

-- the rows that line `number` gives
abbrev pub rows_at : ℕ → Option Row → List Row
rows_at number None = []
rows_at number (Some row) = record row { line = number } ∷ []

-- how far the lines are read: the reader of those that follow, how many there were, and their rows
pub record Progress (R : Type 0) : Type 0 where
  pub reader : R
  pub count : ℕ
  pub rows : List Row

-- what a line gives: a comment gives no row and changes nothing, and of another line the reader tells
abbrev pub Gives : {R : Type 0} → (R → List ℕ → Option Row → R → Type 0) → R → List ℕ → Option Row → R → Type 0
Gives reads old line given new = MatchBool (is_comment line) ((given ≡ None) × (new ≡ old)) (reads old line given new)

-- one more line is read, and its row added
pub record ReadsLine {R : Type 0} (reads : R → List ℕ → Option Row → R → Type 0) (old : Progress R) (line : List ℕ) (new : Progress R) : Type 0 where
  pub given : Option Row
  pub gives : Gives reads old.reader line given new.reader
  pub counted : new.count ≡ old.count + 1
  pub added : new.rows ≡ old.rows ++ rows_at new.count given

-- these are the rows of the lines, one after the other
pub record AreRowsOf {R : Type 0} (reads : R → List ℕ → Option Row → R → Type 0) (reader : R) (lines : List (List ℕ)) (rows : List Row) : Type 0 where
  pub last : R
  pub steps : FoldsTo (ReadsLine reads) (record { reader = reader; count = 0; rows = [] }) lines (record { reader = last; count = length lines; rows = rows })

-- `wrong` is the number of wrong rows of the lines
pub record IsWrongCount {R : Type 0} (reads : R → List ℕ → Option Row → R → Type 0) (reader : R) (lines : List (List ℕ)) (wrong : ℕ) : Type 0 where
  pub rows : List Row
  pub read : AreRowsOf reads reader lines rows
  pub counted : wrong ≡ count_by is_wrong rows
