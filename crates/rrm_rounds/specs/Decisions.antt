-- Decisions of round-robin matching, as a function of rows and pointers.
use Rattle.std.specs.Prelude.{ℕ, List, Option, map, find}
use Rattle.rotating_pick.specs.declared.kinds.Kind.TheVariants.{Uni}
use Rattle.slot_match.specs.declared.rows.Row.{Row}
use Rattle.slot_match.specs.declared.matching.Fed.{Fed}
use Rattle.slot_match.specs.Matches.{unmatched, fed_of}
use Rattle.pointer_state.specs.Places.{Places, grant_of}
use Rattle.eslip_rounds.specs.Slots.{Decision}
use Rattle.eslip_rounds.specs.Decisions.{ports, is_fed, granted, moved_by, table_of, places_after, decision_by}

-- the input that output j grants as unicast of the level in the first round, if it grants one
abbrev pub granted_first : ℕ → ℕ → List Row → Places → ℕ → ℕ → Option ℕ
granted_first n t rows before level j = find (λ i. is_fed i level Uni (fed_of (map (granted n t rows before (unmatched n)) (ports n)) j)) (ports n)

-- the pointers `moved`, but each grant pointer one beyond what it granted in the first round, or where it was before
unfoldable pub rrm_granted : ℕ → ℕ → List Row → Places → Places → Places
rrm_granted n t rows before moved = record moved { grant = table_of (λ level j. moved_by n (granted_first n t rows before level j) (grant_of before j level)) }

-- the pointers after slot t
abbrev pub rrm_places_after : ℕ → ℕ → List Row → List (Option Fed) → List (Option Fed) → Places → Places
rrm_places_after n t rows first_match matched before = rrm_granted n t rows before (places_after n rows first_match matched before)

-- what slot t decides in `rounds` rounds, from these rows and pointers
unfoldable pub rrm_decision : ℕ → ℕ → ℕ → List Row → Places → Decision
rrm_decision = decision_by rrm_places_after
