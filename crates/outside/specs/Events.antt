-- What the calls of a process gave and took, newest first, and what files hold by them.
use Rattle.std.specs.Prelude.{◌==◌, ℕ, Bool, true, false, ◌||◌, ◌&&◌, List, [], ◌∷◌, take, drop, length, nat_lt, Option, Some, None, Result, Ok, Err}
use Rattle.std.specs.Prelude.{bytes_eq, option_and_then, option_map, if◌then◌else◌}
use Rattle.outside.specs.Contents.{Contents, begin_file, append_file, append_out, append_err}

-- A call that went well: the piece that a read of the named file gave from byte `at` on, to a buffer with this much
-- room; a file that was begun; or the bytes that a file, standard output or standard error took.
pub data Event : Type 0 where
  Gave : List ℕ → (at room : ℕ) → List ℕ → Event
  Began : List ℕ → Event
  Took : List ℕ → List ℕ → Event
  TookOut : List ℕ → Event
  TookErr : List ℕ → Event

-- whether the file has this piece from `at` on; where there was room, it is empty only at or past the end
abbrev pub has_piece : Option (List ℕ) → (at room : ℕ) → List ℕ → Bool
has_piece None at room piece = false
has_piece (Some bytes) at room piece =
    bytes_eq piece (take (length piece) (drop at bytes)) && (if nat_lt at (length bytes) then nat_lt 0 (length piece) || room == 0 else true)

-- the contents, where the named file has this piece
abbrev pub agreeing : List ℕ → (at room : ℕ) → List ℕ → Contents → Option Contents
agreeing name at room piece c = if has_piece (c.file name) at room piece then Some c else None

-- what is seen after one more call, by what was seen before it: a read that gave what the file does not have ends that
abbrev pub seen_after : Event → Option Contents → Option Contents
seen_after (Gave name at room piece) before = option_and_then (agreeing name at room piece) before
seen_after (Began name) before = option_map (begin_file name) before
seen_after (Took name bytes) before = option_map (append_file name bytes) before
seen_after (TookOut bytes) before = option_map (append_out bytes) before
seen_after (TookErr bytes) before = option_map (append_err bytes) before

-- what files hold after these calls, where they held this at the first; None where a read gave something else
abbrev pub seen : List Event → Contents → Option Contents
seen [] c = Some c
seen (event ∷ before) c = seen_after event (seen before c)

-- the call noted, where it went well
abbrev pub noted_if : {T E : Type 0} → Result T E → (T → Event) → List Event → List Event
noted_if (Ok x) event calls = event x ∷ calls
noted_if (Err e) event calls = calls
