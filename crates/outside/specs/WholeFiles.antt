-- Whole files, read and written in as many calls as it takes, and whole texts given to standard output.
use Rattle.std.specs.Prelude.{◌≡◌, ◌<◌, ◌≤◌, ℕ, Bool, List, take, length, Option, Some, Result, Ok, Err, option_map}
use Rattle.outside.specs.Contents.{Contents, begin_file, append_file, append_out}
use Rattle.outside.specs.Faults.{Place, BeginOf, WriteOf, Rose, of_none, of_reads}
use Rattle.outside.specs.declared.whole_file.ReadFailure.{ReadFailure}
use Rattle.outside.specs.declared.whole_file.ReadFailure.TheVariants as failure

-- the file is there, and has at most so many bytes
abbrev pub Fits : ℕ → Contents → List ℕ → Type 0
Fits limit c name = (bytes : List ℕ) × (c.file name ≡ Some bytes) × (length bytes ≤ limit)

-- the file is there, and has more bytes than these
abbrev pub IsLongerThan : ℕ → Contents → List ℕ → Type 0
IsLongerThan limit c name = (bytes : List ℕ) × (c.file name ≡ Some bytes) × (limit < length bytes)

-- of which calls one was refused where a file was not read so
abbrev pub refused_by : ReadFailure → Place → Bool
refused_by failure.Fault = of_reads
refused_by failure.TooLong = of_none
refused_by failure.OutOfMemory = of_none

-- A name, and the bytes of the file of that name.
pub record NamedBytes : Type 0 where
  pub name : List ℕ
  pub bytes : List ℕ

-- the file is begun and given all its bytes; all else as before
abbrev pub put_file : Contents → NamedBytes → Contents
put_file c f = append_file f.name f.bytes (begin_file f.name c)

-- the first n of the file's bytes
abbrev pub first_part : ℕ → NamedBytes → NamedBytes
first_part n f = record { name = f.name; bytes = take n f.bytes }

-- A call on the file failed: `begin`, and it is as before; or `write`, and it holds a first part of its bytes.
pub data StopsAt (f : NamedBytes) (was now : Place → ℕ) (before after : Option Contents) : Type 0 where
  AtBegin : Rose (was (BeginOf f.name)) (now (BeginOf f.name)) → after ≡ before → StopsAt f was now before after
  AtWrite : (n : ℕ) → Rose (was (WriteOf f.name)) (now (WriteOf f.name)) → after ≡ option_map (λ c. put_file c (first_part n f)) before
      → StopsAt f was now before after

-- the calls put the file, or one of them failed
abbrev pub Puts : {T E : Type 0} → Result T E → NamedBytes → (Place → ℕ) → (Place → ℕ) → Option Contents → Option Contents → Type 0
Puts (Ok done) f was now before after = after ≡ option_map (λ c. put_file c f) before
Puts (Err failure) f was now before after = StopsAt f was now before after

-- the calls appended all of the bytes to the file; or one of them failed, and a first part of them was appended
abbrev pub Appends : {T E : Type 0} → Result T E → NamedBytes → (Place → ℕ) → (Place → ℕ) → Option Contents → Option Contents → Type 0
Appends (Ok done) f was now before after = after ≡ option_map (append_file f.name f.bytes) before
Appends (Err failure) f was now before after = Rose (was (WriteOf f.name)) (now (WriteOf f.name))
    × ((n : ℕ) × (after ≡ option_map (append_file f.name (take n f.bytes)) before))

-- the calls gave standard output all of the text; or one of them failed, and a first part of it was given
abbrev pub GivesOut : {T E : Type 0} → Result T E → List ℕ → Option Contents → Option Contents → Type 0
GivesOut (Ok done) text before after = after ≡ option_map (append_out text) before
GivesOut (Err failure) text before after = (given : ℕ) × (after ≡ option_map (append_out (take given text)) before)
