-- A slot in which rows name unicast of one level alone, in the terms of iSLIP.
use Rattle.std.specs.Prelude.{◌≡◌, ℕ, List, [], Option, option_map, map, slice_index, slice_index_or}
use Rattle.std.specs.List.{range_with_len}
use Rattle.rotating_pick.specs.declared.kinds.Kind.{Kind}
use Rattle.rotating_pick.specs.declared.kinds.Kind.TheVariants.{Uni}
use Rattle.rotating_pick.specs.declared.limits.TheConstants.{MAX_PORTS}
use Rattle.slot_match.specs.declared.rows.Row.{Row}
use Rattle.slot_match.specs.declared.matching.Fed.{Fed}
use Rattle.slot_match.specs.Rows.{Names, row_of}
use Rattle.slot_match.specs.Matches.{fed_of}
use Rattle.pointer_state.specs.Places.{Places}
use Rattle.islip_rounds.specs.declared.unicast.UniPointers.{UniPointers}

-- no row names an output at another level or as multicast
abbrev pub AreUnicastOf : ℕ → List Row → Type 0
AreUnicastOf level rows = (i j other : ℕ) (kind : Kind) → Names (row_of rows i) other kind j → (other ≡ level) × (kind ≡ Uni)

-- the outputs that each row names as unicast of the level
abbrev pub unicast_of : ℕ → List Row → List ℕ
unicast_of level rows = map (λ row. slice_index row.uni level) rows

-- the grant and accept pointers of the level
abbrev pub pointers_of : ℕ → Places → UniPointers
pointers_of level places = record { grant = slice_index_or places.grant level []; accept = slice_index_or places.accept level [] }

-- the input that feeds each output a switch can have, and None at the outputs beyond the match
unfoldable pub inputs_of : List (Option Fed) → List (Option ℕ)
inputs_of matched = map (λ j. option_map (λ fed. fed.input) (fed_of matched j)) (range_with_len 0 MAX_PORTS)
