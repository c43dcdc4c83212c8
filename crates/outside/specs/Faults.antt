-- Counts of failed calls: one for each kind of call with its name.
use Rattle.std.specs.Prelude.{◌≡◌, ◌+◌, ◌^◌, ◌<◌, ◌≤◌, ◌⊎◌, ℕ, Bool, true, false, List}

-- Where a failure is counted: the kind of the call, and its name where it has one.
pub data Place : Type 0 where
  ReadOf : List ℕ → Place
  BeginOf : List ℕ → Place
  WriteOf : List ℕ → Place
  ToOut : Place
  ToErr : Place

-- no count falls
abbrev pub NeverFall : (Place → ℕ) → (Place → ℕ) → Type 0
NeverFall before after = (p : Place) → before p ≤ after p

-- no count rose, of any kind of call or name
abbrev pub NoneRose : (Place → ℕ) → (Place → ℕ) → Type 0
NoneRose before after = (p : Place) → after p ≡ before p

-- a count rose, or stands at the last value of a u64
abbrev pub Rose : ℕ → ℕ → Type 0
Rose before after = (before < after) ⊎ (2 ^ 64 ≤ after + 1)

-- whether the count is one of reads
abbrev pub of_reads : Place → Bool
of_reads (ReadOf name) = true
of_reads (BeginOf name) = false
of_reads (WriteOf name) = false
of_reads ToOut = false
of_reads ToErr = false

-- whether it is one of what is written: of files, or of standard output
abbrev pub of_writes : Place → Bool
of_writes (ReadOf name) = false
of_writes (BeginOf name) = true
of_writes (WriteOf name) = true
of_writes ToOut = true
of_writes ToErr = false

-- whether it is that of standard error
abbrev pub of_err : Place → Bool
of_err (ReadOf name) = false
of_err (BeginOf name) = false
of_err (WriteOf name) = false
of_err ToOut = false
of_err ToErr = true

-- no count is one of these
abbrev pub of_none : Place → Bool
of_none p = false

-- no count rose but perhaps some of these
abbrev pub OnlyRose : (Place → Bool) → (Place → ℕ) → (Place → ℕ) → Type 0
OnlyRose these before after = (p : Place) → these p ≡ false → after p ≡ before p
