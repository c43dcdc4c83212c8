-- One slot of iSLIP for one level of unicast: its rounds, and the pointers after it.
use Rattle.std.specs.Prelude.{◌≡◌, ℕ, ◌+◌, ◌%◌, List, Option, None, length, replicate, slice_index, slice_index_or}
use Rattle.rotating_pick.specs.declared.limits.TheConstants.{MAX_PORTS}
use Rattle.islip_rounds.specs.declared.numbers.RoundsUsed.{RoundsUsed}
use Rattle.islip_rounds.specs.declared.unicast.UniPointers.{UniPointers}
use Rattle.islip_rounds.specs.Numbers.{last_of, slot_numbers}
use Rattle.islip_rounds.specs.Rounds.{Feeds, AreRounds}

-- a match in which nothing is matched
abbrev pub unmatched : List (Option ℕ)
unmatched = replicate MAX_PORTS None

-- The pointers after a slot. The pairs of the first round move them one beyond each other, and
-- nothing else moves a pointer: no refused grant, and no pair of a later round.
pub record AreMoved (n : ℕ) (first : List (Option ℕ)) (before after : UniPointers) : Type 0 where
  pub granted : (i j : ℕ) → Feeds first i j → slice_index after.grant j ≡ (i + 1) % n
  pub accepted : (i j : ℕ) → Feeds first i j → slice_index after.accept i ≡ (j + 1) % n
  pub grant_stays : (j : ℕ) → ((i : ℕ) → Feeds first i j → ⊥) → slice_index after.grant j ≡ slice_index before.grant j
  pub accept_stays : (i : ℕ) → ((j : ℕ) → Feeds first i j → ⊥) → slice_index after.accept i ≡ slice_index before.accept i

-- A slot of `rounds` rounds makes this match, these numbers and these pointers. All of its rounds use
-- the pointers from before it, and the first begins with nothing matched.
pub record IsSlot (n rounds : ℕ) (asks : List ℕ) (before : UniPointers) (matched : List (Option ℕ)) (numbers : RoundsUsed) (after : UniPointers) : Type 0 where
  pub steps : List (List (Option ℕ))
  pub count : length steps ≡ rounds
  pub chain : AreRounds n asks before unmatched steps
  pub result : matched ≡ last_of unmatched steps
  pub numbered : numbers ≡ slot_numbers steps
  pub moved : AreMoved n (slice_index_or steps 0 unmatched) before after

-- two results of slots are alike: each output has the same input, the numbers are the same, and each
-- pointer is at the same port
pub record AreAlike (fed also : List (Option ℕ)) (used more : RoundsUsed) (after later : UniPointers) : Type 0 where
  pub matched : (j : ℕ) → slice_index_or fed j None ≡ slice_index_or also j None
  pub numbers : used ≡ more
  pub grant : (j : ℕ) → slice_index after.grant j ≡ slice_index later.grant j
  pub accept : (i : ℕ) → slice_index after.accept i ≡ slice_index later.accept i
