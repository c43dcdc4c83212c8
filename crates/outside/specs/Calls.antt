-- How often calls of each kind were made, or failed.
use Rattle.std.specs.Prelude.{◌≡◌, ◌+◌, ◌^◌, ℕ, List, Any, nat_lt, if◌then◌else◌}
use Rattle.outside.specs.Faults.{Place, ReadOf, BeginOf, WriteOf, ToOut, ToErr}
use Rattle.outside.specs.declared.memory_files.calls.Call.{Call}
use Rattle.outside.specs.declared.memory_files.calls.Call.TheVariants.{Read, Begin, Write, Out, Err}
use Rattle.outside.specs.declared.memory_files.calls.CallCounts.{CallCounts}
use Rattle.outside.specs.declared.memory_files.calls.Fail.{Fail}

-- one more, but the last value of a u64 stays
abbrev pub raised : ℕ → ℕ
raised n = if nat_lt (n + 1) (2 ^ 64) then n + 1 else n

-- none of any kind
abbrev pub no_calls : CallCounts
no_calls = record { read = 0; begin = 0; write = 0; out = 0; err = 0 }

-- the count of this kind
abbrev pub count_of : Call → CallCounts → ℕ
count_of Read c = c.read
count_of Begin c = c.begin
count_of Write c = c.write
count_of Out c = c.out
count_of Err c = c.err

-- the count of this kind raised, and no other
abbrev pub one_more : Call → CallCounts → CallCounts
one_more Read c = record c { read = raised c.read }
one_more Begin c = record c { begin = raised c.begin }
one_more Write c = record c { write = raised c.write }
one_more Out c = record c { out = raised c.out }
one_more Err c = record c { err = raised c.err }

-- the counts where each kind of call has one for all names
abbrev pub counts_of_kinds : CallCounts → Place → ℕ
counts_of_kinds c (ReadOf name) = c.read
counts_of_kinds c (BeginOf name) = c.begin
counts_of_kinds c (WriteOf name) = c.write
counts_of_kinds c ToOut = c.out
counts_of_kinds c ToErr = c.err

-- one of these entries names the call of this kind and number
abbrev pub Names : List Fail → Call → ℕ → Type 0
Names fails call number = Any (λ f. (f.call ≡ call) × (f.number ≡ number)) fails

-- the kinds of call that name a file
abbrev pub NamesFile : Call → Type 0
NamesFile Read = Unit {0}
NamesFile Begin = Unit {0}
NamesFile Write = Unit {0}
NamesFile Out = ⊥
NamesFile Err = ⊥
