-- The three numbers of a slot, from how many outputs are matched after each of its rounds.
use Rattle.std.specs.Prelude.{ℕ, ◌-◌, ◌==◌, if◌then◌else◌, List, [], ◌∷◌, Option, length, map, count_by, slice_index, nat_lt, is_some}
use Rattle.islip_rounds.specs.declared.numbers.RoundsUsed.{RoundsUsed}

-- the last of some values that come after x, and x where there is none
abbrev pub last_of : {X : Type 0} → X → List X → X
last_of x [] = x
last_of x (y ∷ ys) = last_of y ys

-- how many outputs are matched
abbrev pub matched_count : {X : Type 0} → List (Option X) → ℕ
matched_count matched = count_by is_some matched

-- how many outputs each round added, from how many are matched before the first and after each
abbrev pub added_from : ℕ → List ℕ → List ℕ
added_from before [] = []
added_from before (after ∷ rest) = (after - before) ∷ added_from after rest

-- how many rounds added a pair
abbrev pub rounds_used : List ℕ → ℕ
rounds_used added = count_by (λ k. nat_lt 0 k) added

-- the numbers of a slot, from how many outputs each of its rounds added
abbrev pub numbers_of : List ℕ → RoundsUsed
numbers_of added = record {
  used = rounds_used added;
  first = slice_index added 0;
  last_added = if rounds_used added == length added then last_of 0 added else 0;
}

-- the numbers of a slot, of which these are the matches after each round
abbrev pub slot_numbers : {X : Type 0} → List (List (Option X)) → RoundsUsed
slot_numbers steps = numbers_of (added_from 0 (map matched_count steps))
