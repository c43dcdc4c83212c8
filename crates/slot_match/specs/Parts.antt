-- The part of a match that is an input's own.
use Rattle.std.specs.Prelude.{ℕ, zero, suc, ◌+◌, ◌^◌, ◌==◌, Bool, false, if◌then◌else◌, List, [], ◌∷◌, Option, None, Some, length}
use Rattle.std.specs.Option.{option_map}
use Rattle.slot_match.specs.declared.matching.Fed.{Fed}
use Rattle.slot_match.specs.declared.matching.Served.{Served}
use Rattle.slot_match.specs.Matches.{fed_of}

-- the set of those ports below n with the test
abbrev pub set_of : ℕ → (ℕ → Bool) → ℕ
set_of zero test = 0
set_of (suc n) test = set_of n test + (if test n then 2 ^ n else 0)

-- whether input i is what feeds an output
abbrev pub is_from : ℕ → Option Fed → Bool
is_from i None = false
is_from i (Some fed) = fed.input == i

-- what feeds the first of the outputs that input i feeds
abbrev pub first_from : ℕ → List (Option Fed) → Option Fed
first_from i [] = None
first_from i (None ∷ rest) = first_from i rest
first_from i (Some fed ∷ rest) = if fed.input == i then Some fed else first_from i rest

-- the outputs that input i feeds
abbrev pub outputs_of : List (Option Fed) → ℕ → ℕ
outputs_of matched i = set_of (length matched) (λ j. is_from i (fed_of matched j))

-- input i's part of the match, if it is matched: its outputs, at the level and kind of the first
unfoldable pub served_of : List (Option Fed) → ℕ → Option Served
served_of matched i = option_map (λ fed. record { outputs = outputs_of matched i; level = fed.level; kind = fed.kind }) (first_from i matched)
