-- The lines of a table in the order of their targets, and the prefix lengths that occur.
use Rattle.std.specs.Prelude.{◌≡◌, ◌⊎◌, ◌↔◌, ℕ, ◌-◌, ◌<◌, ◌≤◌, List, All, None, length, slice_index_or}
use Rattle.std.specs.declared.cmp.Ordering.{Ordering}
use Rattle.std.specs.declared.cmp.Ordering.TheVariants.{Less}
use Rattle.rotating_pick.specs.PortSets.{Has}
use Rattle.forward_table.specs.declared.route_lines.Target.{Target}
use Rattle.forward_table.specs.declared.route_lines.Target.TheVariants.{Prefix, Fallback}
use Rattle.forward_table.specs.declared.route_lines.RouteLine.{RouteLine}
use Rattle.forward_table.specs.contracts.route_lines.TargetOrd.TheImpl as target_ord
use Rattle.forward_table.specs.Targets.{IsPrefix}
use Rattle.forward_table.specs.Reading.{line_with}

-- the order of targets that the search keeps
abbrev pub target_order : Target → Target → Ordering
target_order = (target_ord.ghosts).cmp

-- what stands where no line is
abbrev pub no_line : RouteLine
no_line = record { number = 0; target = Fallback; route = record { fan = 0; level = 0 } }

-- the target of the line at place i
abbrev pub target_at : List RouteLine → ℕ → Target
target_at lines i = let line = slice_index_or lines i no_line in line.target

-- each target comes before those of all later lines, so none comes twice
abbrev pub IsInOrder : List RouteLine → Type 0
IsInOrder lines = (i j : ℕ) → i < j → j < length lines → target_order (target_at lines i) (target_at lines j) ≡ Less

-- the line at place i has the target
pub record IsPlaceOf (lines : List RouteLine) (target : Target) (i : ℕ) : Type 0 where
  pub in_range : i < length lines
  pub has_target : target_at lines i ≡ target

-- the target would go at place i: those before it are lesser, and those from it on are greater
pub record IsGapFor (lines : List RouteLine) (target : Target) (i : ℕ) : Type 0 where
  pub in_range : i ≤ length lines
  pub lesser_before : (j : ℕ) → j < i → target_order (target_at lines j) target ≡ Less
  pub greater_after : (j : ℕ) → i ≤ j → j < length lines → target_order target (target_at lines j) ≡ Less

-- the lines of a table in order: for each target the line that has it, and all of them are prefixes
pub record IsIndexed (table ordered : List RouteLine) : Type 0 where
  pub prefixes : All (λ line. IsPrefix line.target) table
  pub in_order : IsInOrder ordered
  pub found : (target : Target) → line_with target ordered ≡ line_with target table

-- the prefix lengths that occur, with that of a target
abbrev pub IsWithLength : Target → ℕ → ℕ → Type 0
IsWithLength Fallback old new = new ≡ old
IsWithLength (Prefix length address) old new = (k : ℕ) → Has new k ↔ ((k ≡ 32 - length) ⊎ Has old k)

-- the prefix lengths that occur, as a set of their numbers of host bits: of a length that is none, no line has a prefix
pub record AreLengths (table : List RouteLine) (lengths : ℕ) : Type 0 where
  pub within : (k : ℕ) → Has lengths k → k ≤ 32
  pub absent : (k address : ℕ) → k ≤ 32 → (Has lengths k → ⊥) → line_with (Prefix (32 - k) address) table ≡ None
