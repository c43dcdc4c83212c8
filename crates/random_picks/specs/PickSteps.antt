-- What the steps of a round keep and answer: sets of requests and of offers, and what ports pick of them.
use Rattle.std.specs.Prelude.{◌≡◌, ℕ, ◌<◌, ◌↔◌, List, Option, None, Some, slice_index, slice_index_or}
use Rattle.rotating_pick.specs.PortSets.{Has}
use Rattle.slot_match.specs.declared.rows.Row.{Row}
use Rattle.slot_match.specs.declared.matching.Fed.{Fed}
use Rattle.slot_match.specs.Rows.{row_of}
use Rattle.slot_match.specs.Matches.{IsFreeInput, IsFreeOutput}
use Rattle.random_picks.specs.Picks.{members}

-- the ports of which port k picks, where each picks of a set
abbrev pub choices_in : List ℕ → ℕ → List ℕ
choices_in sets k = members (slice_index sets k)

-- what port k has in a table of picks
abbrev pub pick_at : List (Option ℕ) → ℕ → Option ℕ
pick_at table k = slice_index_or table k None

-- in column j are the inputs whose rows ask output j
abbrev pub AreColumns : ℕ → List Row → List ℕ → Type 0
AreColumns n rows columns = (j i : ℕ) → j < n → Has (slice_index columns j) i ↔ ((i < n) × Has (slice_index (row_of rows i).uni 0) j)

-- for each output that is free there are the free inputs of its column
abbrev pub AreAsked : ℕ → List ℕ → List (Option Fed) → List ℕ → Type 0
AreAsked n columns matched asked = (j i : ℕ) → j < n
    → Has (slice_index asked j) i ↔ (IsFreeOutput matched j × IsFreeInput matched i × (i < n) × Has (slice_index columns j) i)

-- for each input there are the outputs below n that grant it
abbrev pub AreOffered : ℕ → List (Option ℕ) → List ℕ → Type 0
AreOffered n granted offered = (i j : ℕ) → Has (slice_index offered i) j ↔ ((j < n) × (pick_at granted j ≡ Some i))

-- each port below n that picks takes a member of its set, and no other port picks
abbrev pub AreMembers : ℕ → List ℕ → List (Option ℕ) → Type 0
AreMembers n sets table = (k x : ℕ) → pick_at table k ≡ Some x → (k < n) × Has (slice_index sets k) x
