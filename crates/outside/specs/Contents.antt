-- What is seen of the outside, and what each call makes of it.
use Rattle.std.specs.Prelude.{◌≡◌, ◌<◌, ◌≤◌, ◌↔◌, ℕ, Bool, true, ◌||◌, List, [], ◌++◌, take, drop, length, Option, None, Some, Result, Ok, Err, option_map}
use Rattle.std.specs.Prelude.{IfSome, bytes_eq, if◌then◌else◌}

-- The bytes of each file that is there, by its name; the names that were begun; and all bytes that standard output and standard error were given.
pub record Contents : Type 0 where
  pub file : List ℕ → Option (List ℕ)
  pub begun : List ℕ → Bool
  pub out : List ℕ
  pub err : List ℕ

-- the named file is there, empty and begun; all else as before
abbrev pub begin_file : List ℕ → Contents → Contents
begin_file name c = record {
  file = λ n. if bytes_eq n name then Some [] else c.file n;
  begun = λ n. bytes_eq n name || c.begun n;
  out = c.out;
  err = c.err;
}

-- the named file, if it is there, has these bytes at its end too; all else as before
abbrev pub append_file : List ℕ → List ℕ → Contents → Contents
append_file name more c = record {
  file = λ n. if bytes_eq n name then option_map (λ bytes. bytes ++ more) (c.file n) else c.file n;
  begun = c.begun;
  out = c.out;
  err = c.err;
}

-- standard output was given these bytes too; all else as before
abbrev pub append_out : List ℕ → Contents → Contents
append_out more c = record { file = c.file; begun = c.begun; out = c.out ++ more; err = c.err }

-- standard error was given these bytes too; all else as before
abbrev pub append_err : List ℕ → Contents → Contents
append_err more c = record { file = c.file; begun = c.begun; out = c.out; err = c.err ++ more }

-- what is seen after a `begin` that answered this: the file is begun, or all is as before
abbrev pub after_begin : {T E : Type 0} → Result T E → List ℕ → Option Contents → Option Contents
after_begin (Ok done) name before = option_map (begin_file name) before
after_begin (Err failure) name before = before

-- after a `write` of these bytes: the first k of them are at the file's end, or all is as before
abbrev pub after_write : {E : Type 0} → Result ℕ E → List ℕ → List ℕ → Option Contents → Option Contents
after_write (Ok k) name bytes before = option_map (append_file name (take k bytes)) before
after_write (Err failure) name bytes before = before

-- after an `out` of these bytes: the first k of them were given to standard output, or all is as before
abbrev pub after_out : {E : Type 0} → Result ℕ E → List ℕ → Option Contents → Option Contents
after_out (Ok k) bytes before = option_map (append_out (take k bytes)) before
after_out (Err failure) bytes before = before

-- after an `err` of these bytes: the first k of them were given to standard error, or all is as before
abbrev pub after_err : {E : Type 0} → Result ℕ E → List ℕ → Option Contents → Option Contents
after_err (Ok k) bytes before = option_map (append_err (take k bytes)) before
after_err (Err failure) bytes before = before

-- The file is there, and the first k places of a buffer with this much room are its bytes from `at` on. There are none
-- exactly where `at` is at or past its end.
pub record GivesPiece (file : Option (List ℕ)) (at room : ℕ) (buf : List ℕ) (k : ℕ) : Type 0 where
  pub bytes : List ℕ
  pub there : file ≡ Some bytes
  pub within : k ≤ length (drop at bytes)
  pub same : take k buf ≡ take k (drop at bytes)
  pub end : 0 < room → (k ≡ 0) ↔ (length bytes ≤ at)

-- what was seen stays, or is seen no more
abbrev pub Stays : Option Contents → Option Contents → Type 0
Stays before after = IfSome after (λ c. before ≡ Some c)

-- the same is seen of each file that is named so; or neither is seen any more
abbrev pub AreAlike : (List ℕ → Bool) → Option Contents → Option Contents → Type 0
AreAlike named None None = Unit {0}
AreAlike named (Some c) (Some d) = (name : List ℕ) → named name ≡ true → c.file name ≡ d.file name
AreAlike named _ _ = ⊥

-- nothing changed: whatever the contents at the first, what was seen stays, or is seen no more
abbrev pub NoneChanged : {S : Type 0} → (Contents → S → Option Contents) → S → S → Type 0
NoneChanged seen old new = (c : Contents) → Stays (seen c old) (seen c new)

-- any two contents of which the same was seen in the files that are named so are such still
abbrev pub StayAlike : {S : Type 0} → (List ℕ → Bool) → (Contents → S → Option Contents) → S → S → Type 0
StayAlike named seen old new = (c d : Contents) → AreAlike named (seen c old) (seen d old) → AreAlike named (seen c new) (seen d new)

-- no file was read but the one of this name
abbrev pub OnlyRead : {S : Type 0} → List ℕ → (Contents → S → Option Contents) → S → S → Type 0
OnlyRead name seen old new = (named : List ℕ → Bool) → named name ≡ true → StayAlike named seen old new

-- no file was read
abbrev pub NoneRead : {S : Type 0} → (Contents → S → Option Contents) → S → S → Type 0
NoneRead seen old new = (named : List ℕ → Bool) → StayAlike named seen old new

-- what was seen before, where it is seen still
abbrev pub held : Option Contents → Option Contents → Option Contents
held before None = None
held before (Some c) = before
