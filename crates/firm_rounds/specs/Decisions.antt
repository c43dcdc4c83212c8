-- Decisions of FIRM, as a function of rows and pointers.
use Rattle.std.specs.Prelude.{ℕ, List, Option, unwrap_or, find}
use Rattle.slot_match.specs.declared.rows.Row.{Row}
use Rattle.slot_match.specs.declared.matching.Fed.{Fed}
use Rattle.pointer_state.specs.Places.{Places, grant_of}
use Rattle.eslip_rounds.specs.Slots.{Decision}
use Rattle.eslip_rounds.specs.Decisions.{ports, table_of, places_after, is_refused, decision_by}

-- the pointers `moved`, but each output whose unicast grant of the first round was refused points to that input
unfoldable pub firm_held : ℕ → ℕ → List Row → Places → Places → Places
firm_held n t rows before moved =
    record moved { grant = table_of (λ level j. unwrap_or (find (λ i. is_refused n t rows before i j level) (ports n)) (grant_of moved j level)) }

-- the pointers after slot t
abbrev pub firm_places_after : ℕ → ℕ → List Row → List (Option Fed) → List (Option Fed) → Places → Places
firm_places_after n t rows first_match matched before = firm_held n t rows before (places_after n rows first_match matched before)

-- what slot t decides in `rounds` rounds, from these rows and pointers
unfoldable pub firm_decision : ℕ → ℕ → ℕ → List Row → Places → Decision
firm_decision = decision_by firm_places_after
