-- The history of a turn lock: the list of its turns in order. A turn is a seat's number and the entries that its act added.
use Rattle.std.specs.Prelude.{◌≡◌, ◌==◌, ◌<◌, ℕ, List, [], ◌∷◌, ◌++◌, if◌then◌else◌}
use Rattle.turn_lock.specs.declared.history.TurnOf.{TurnOf}

-- the second list begins with the first
abbrev pub IsPrefixOf : {X : Type 0} → List X → List X → Type 0
IsPrefixOf {X} xs ys = (more : List X) × (ys ≡ xs ++ more)

module _ {E : Type 0} where
  -- the entries of all turns, in order
  abbrev pub entries_of : List (TurnOf E) → List E
  entries_of [] = []
  entries_of (t ∷ ts) = t.entries ++ entries_of ts

  -- the turns of one seat, in order
  abbrev pub turns_of : ℕ → List (TurnOf E) → List (TurnOf E)
  turns_of n [] = []
  turns_of n (t ∷ ts) = if t.seat == n then t ∷ turns_of n ts else turns_of n ts

  -- in each turn the entries are ones that its seat may add
  abbrev pub IsAllowed : (ℕ → List E → Type 0) → List (TurnOf E) → Type 0
  IsAllowed may [] = Unit {0}
  IsAllowed may (t ∷ ts) = may t.seat t.entries × IsAllowed may ts

  -- each turn is of a seat with a number below n
  abbrev pub IsBelow : ℕ → List (TurnOf E) → Type 0
  IsBelow n [] = Unit {0}
  IsBelow n (t ∷ ts) = (t.seat < n) × IsBelow n ts
