-- Files in memory: what they hold, and where a failed call is counted.
use Rattle.std.specs.Prelude.{◌≡◌, ◌+◌, ◌<◌, ℕ, min, length, drop, Bool, true, false, ◌||◌, ◌&&◌, List, [], Option, Some, Result, Ok, Err, option_map}
use Rattle.std.specs.Prelude.{unwrap_or, is_none, find, bytes_eq, string_bytes, if◌then◌else◌}
use Rattle.std.specs.Prelude.{Vec, String, vec_capacity}
use Rattle.std.specs.Map.{lookup}
use Rattle.outside.specs.Calls.{Names, count_of, no_calls, one_more, raised}
use Rattle.outside.specs.Contents.{Contents}
use Rattle.outside.specs.Faults.{Place, ReadOf, BeginOf, WriteOf, ToOut, ToErr}
use Rattle.outside.specs.declared.memory_files.calls.Call.{Call}
use Rattle.outside.specs.declared.memory_files.calls.CallCounts.{CallCounts}
use Rattle.outside.specs.declared.memory_files.calls.Fail.{Fail}

-- A file: its name, its bytes, for how many bytes it has memory, whether it was begun, and how often a call of its name failed.
pub record FileState : Type 0 where
  pub name : List ℕ
  pub bytes : List ℕ
  pub room : ℕ
  pub begun : Bool
  pub faults : CallCounts

-- Files in memory: `elsewhere` counts the failed calls that named no file that is there, those of `out` and `err` among
-- them. Each call takes or gives at most `piece` bytes, those in `fails` fail, and `made` counts all calls. There is
-- memory for `out_room` bytes of standard output and `err_room` of standard error.
pub record MemoryState : Type 0 where
  pub files : List FileState
  pub elsewhere : CallCounts
  pub out : List ℕ
  pub err : List ℕ
  pub piece : ℕ
  pub fails : List Fail
  pub made : CallCounts
  pub out_room : ℕ
  pub err_room : ℕ

-- the file of this name
abbrev pub file_named : List ℕ → List FileState → Option FileState
file_named name files = find (λ f. bytes_eq name f.name) files

-- what these files hold, beside what standard output and standard error were given
abbrev pub contents_among : List FileState → List ℕ → List ℕ → Contents
contents_among files out err = record {
  file = λ name. option_map (λ f. f.bytes) (file_named name files);
  begun = λ name. unwrap_or (option_map (λ f. f.begun) (file_named name files)) false;
  out = out;
  err = err;
}

-- what they hold, and what standard output and standard error were given
abbrev pub contents_of : MemoryState → Contents
contents_of m = contents_among m.files m.out m.err

-- the counts at a name: those of its file, or those of all names that are not there
abbrev pub counts_at : List FileState → CallCounts → List ℕ → CallCounts
counts_at files elsewhere name = unwrap_or (option_map (λ f. f.faults) (file_named name files)) elsewhere

-- the count of faults at each place
abbrev pub faults_among : List FileState → CallCounts → Place → ℕ
faults_among files elsewhere (ReadOf name) = (counts_at files elsewhere name).read
faults_among files elsewhere (BeginOf name) = (counts_at files elsewhere name).begin
faults_among files elsewhere (WriteOf name) = (counts_at files elsewhere name).write
faults_among files elsewhere ToOut = elsewhere.out
faults_among files elsewhere ToErr = elsewhere.err

-- the counts of faults
abbrev pub faults_of : MemoryState → Place → ℕ
faults_of m = faults_among m.files m.elsewhere

-- two names that a failed call counts at alike: they are one, or neither is there
abbrev pub is_alike : (List ℕ → Option (List ℕ)) → List ℕ → List ℕ → Bool
is_alike file name n = bytes_eq n name || (is_none (file name) && is_none (file n))

-- whether a failed call of the first place counts at the second: its own kind and name, and where its name is not there all names that are not there
abbrev pub is_counted : Contents → Place → Place → Bool
is_counted c (ReadOf name) (ReadOf n) = is_alike c.file name n
is_counted c (BeginOf name) (BeginOf n) = is_alike c.file name n
is_counted c (WriteOf name) (WriteOf n) = is_alike c.file name n
is_counted c ToOut ToOut = true
is_counted c ToErr ToErr = true
is_counted c _ _ = false

-- the counts after a call of this place that answered this: a failure raises the counts that it counts at, and no other
abbrev pub faults_after : {T E : Type 0} → Result T E → Contents → Place → (Place → ℕ) → Place → ℕ
faults_after (Ok x) c place counts p = counts p
faults_after (Err e) c place counts p = if is_counted c place p then raised (counts p) else counts p

-- what the given files hold, nothing begun and nothing given to standard output and standard error
abbrev pub contents_given : {A : Type 0} → List (String A × Vec ℕ A) → Contents
contents_given files = record {
  file = λ name. option_map (λ v. v.items) (lookup (λ n. bytes_eq name (string_bytes n)) files);
  begun = λ name. false;
  out = [];
  err = [];
}

-- a given file as it is at the start: not begun, and no call of its name has failed
abbrev pub file_at_start : {A : Type 0} → String A × Vec ℕ A → FileState
file_at_start file = record { name = string_bytes file.0; bytes = file.1.items; room = vec_capacity file.1; begun = false; faults = no_calls }

-- the next call of this kind is one of those that are to fail
abbrev pub IsToFail : Call → MemoryState → Type 0
IsToFail call m = Names m.fails call (raised (count_of call m.made))

-- how many bytes a read of a file from `at` on gives: as many as a call may give, the buffer has room for, and the file has from there on
abbrev pub piece_length : ℕ → ℕ → ℕ → Option (List ℕ) → ℕ
piece_length most at room file = min most (min room (length (drop at (unwrap_or file []))))

-- the file of this name has no memory for `count` bytes more
pub record HasNoRoom (files : List FileState) (name : List ℕ) (count : ℕ) : Type 0 where
  pub file : FileState
  pub there : file_named name files ≡ Some file
  pub full : file.room < length file.bytes + count

-- The next call of a kind was counted, and the rest of the plan stays.
pub record MakesCall (call : Call) (old new : MemoryState) : Type 0 where
  pub made : new.made ≡ one_more call old.made
  pub fails : new.fails ≡ old.fails
  pub piece : new.piece ≡ old.piece

-- This file stands for the name now, and all other names find what they found.
pub record PutsFile (old new : List FileState) (name : List ℕ) (put : FileState) : Type 0 where
  pub finds : (n : List ℕ) → file_named n new ≡ (if bytes_eq n name then Some put else file_named n old)

-- The files hold what they held, and a failed call of this kind and name was counted.
pub record CountsFault (call : Call) (name : List ℕ) (old new : List FileState) (was now : CallCounts) : Type 0 where
  pub contents : (out err : List ℕ) → contents_among new out err ≡ contents_among old out err
  pub counts : (n : List ℕ)
      → counts_at new now n ≡ (if is_alike (contents_among old [] []).file name n then one_more call (counts_at old was n) else counts_at old was n)
  pub out : now.out ≡ was.out
  pub err : now.err ≡ was.err
