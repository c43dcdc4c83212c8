-- Matches: which input feeds which output in a slot. A match is the list of what feeds each output.
use Rattle.std.specs.Prelude.{◌≡◌, ℕ, ◌<◌, ◌↔◌, ◌⊎◌, List, Option, None, Some, length, replicate, slice_index_or}
use Rattle.rotating_pick.specs.PortSets.{Has}
use Rattle.rotating_pick.specs.declared.kinds.Kind.{Kind}
use Rattle.rotating_pick.specs.declared.kinds.Kind.TheVariants.{Uni, Multi}
use Rattle.rotating_pick.specs.declared.limits.TheConstants.{LEVELS}
use Rattle.slot_match.specs.declared.rows.Row.{Row}
use Rattle.slot_match.specs.declared.matching.Fed.{Fed}
use Rattle.slot_match.specs.declared.matching.Served.{Served}
use Rattle.slot_match.specs.Rows.{Names, row_of}

-- a match of n ports in which nothing is matched
abbrev pub unmatched : ℕ → List (Option Fed)
unmatched n = replicate n None

-- what feeds output j, if anything does
abbrev pub fed_of : List (Option Fed) → ℕ → Option Fed
fed_of matched j = slice_index_or matched j None

-- the match has input i with output j, at the level with the kind
abbrev pub Serves : List (Option Fed) → ℕ → ℕ → ℕ → Kind → Type 0
Serves matched i j level kind = fed_of matched j ≡ Some (record { input = i; level = level; kind = kind })

-- output j is matched with no input
abbrev pub IsFreeOutput : List (Option Fed) → ℕ → Type 0
IsFreeOutput matched j = fed_of matched j ≡ None

-- input i is matched with no output
abbrev pub IsFreeInput : List (Option Fed) → ℕ → Type 0
IsFreeInput matched i = (j level : ℕ) (kind : Kind) → Serves matched i j level kind → ⊥

-- input i is matched as multicast of the level, and as nothing else
pub record IsMulticasting (matched : List (Option Fed)) (i level : ℕ) : Type 0 where
  pub some : (j : ℕ) × Serves matched i j level Multi
  pub only : (j other : ℕ) (kind : Kind) → Serves matched i j other kind → (other ≡ level) × (kind ≡ Multi)

-- input i's part of the match: all outputs that it is matched with, at one level with one kind
pub record IsServed (matched : List (Option Fed)) (i : ℕ) (served : Served) : Type 0 where
  pub some : (j : ℕ) × Has served.outputs j
  pub outputs : (j : ℕ) → Has served.outputs j ↔ Serves matched i j served.level served.kind
  pub only : (j level : ℕ) (kind : Kind) → Serves matched i j level kind → (level ≡ served.level) × (kind ≡ served.kind)

-- a match of n ports: inputs and levels are in range, and no input is matched twice, except for the
-- outputs of one multicast head
pub record IsMatch (n : ℕ) (matched : List (Option Fed)) : Type 0 where
  pub count : length matched ≡ n
  pub input_in : (i j level : ℕ) (kind : Kind) → Serves matched i j level kind → i < n
  pub level_in : (i j level : ℕ) (kind : Kind) → Serves matched i j level kind → level < LEVELS
  pub once : (i j level : ℕ) (kind : Kind) (k other : ℕ) (again : Kind) → Serves matched i j level kind → Serves matched i k other again → (j ≡ k)
      ⊎ ((level ≡ other) × (kind ≡ Multi) × (again ≡ Multi))

-- a match of n ports may gain these pairs: the outputs are free, one of them for unicast, and the
-- input is free or goes on as multicast of the level
pub record MayAdd (n : ℕ) (matched : List (Option Fed)) (input outputs level : ℕ) (kind : Kind) : Type 0 where
  pub some : (j : ℕ) × Has outputs j
  pub free : (j : ℕ) → Has outputs j → (j < n) × IsFreeOutput matched j
  pub one : kind ≡ Uni → (j k : ℕ) → Has outputs j → Has outputs k → j ≡ k
  pub ready : IsFreeInput matched input ⊎ ((kind ≡ Multi) × IsMulticasting matched input level)

-- all outputs that the head of input i names are matched with it, as multicast of the level
abbrev pub Completes : List Row → List (Option Fed) → ℕ → ℕ → Type 0
Completes rows matched level i = (j : ℕ) → Names (row_of rows i) level Multi j → Serves matched i j level Multi

-- no free input names a free output, and no multicasting input has a free output in the rest of its head
pub record IsMaximal (n : ℕ) (rows : List Row) (matched : List (Option Fed)) : Type 0 where
  pub free : (i j level : ℕ) (kind : Kind) → i < n → j < n → IsFreeInput matched i → IsFreeOutput matched j → Names (row_of rows i) level kind j → ⊥
  pub going_on : (i j level : ℕ) → i < n → j < n → IsMulticasting matched i level → IsFreeOutput matched j → Names (row_of rows i) level Multi j → ⊥
