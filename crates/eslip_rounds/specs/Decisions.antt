-- Decisions: what a slot decides, as a function of its rows and pointers. It goes by tests and filters of
-- the ports, and answers what the relations of Rounds and Slots say.
use Rattle.std.specs.Prelude.{ℕ, zero, suc, ◌+◌, ◌%◌, ◌==◌, ◌&&◌, ◌||◌, Bool, true, false, not, if◌then◌else◌, List, [], ◌∷◌, Option, None, Some}
use Rattle.std.specs.Prelude.{is_none, option_map, option_and_then, option_to_list, map, flat_map, filter, find, slice_index, slice_index_or}
use Rattle.std.specs.List.{list_any, range_with_len}
use Rattle.std.specs.Option.{option_or, option_map_or}
use Rattle.std.specs.Int.{bit_at}
use Rattle.rotating_pick.specs.declared.kinds.Kind.{Kind}
use Rattle.rotating_pick.specs.declared.kinds.Kind.TheVariants.{Uni, Multi}
use Rattle.rotating_pick.specs.declared.limits.TheConstants.{LEVELS, MAX_PORTS}
use Rattle.slot_match.specs.declared.rows.Row.{Row}
use Rattle.slot_match.specs.declared.matching.Fed.{Fed}
use Rattle.slot_match.specs.Rows.{sets_of, row_of}
use Rattle.slot_match.specs.Matches.{unmatched, fed_of}
use Rattle.slot_match.specs.Parts.{is_from}
use Rattle.pointer_state.specs.Places.{Places, grant_of, accept_of, shared_of}
use Rattle.islip_rounds.specs.Numbers.{last_of, slot_numbers}
use Rattle.eslip_rounds.specs.Rounds.{other_kind}
use Rattle.eslip_rounds.specs.Rounds.{preferred, from_of}
use Rattle.eslip_rounds.specs.Slots.{Decision}

-- a level and a kind
pub record Rank : Type 0 where
  pub level : ℕ
  pub kind : Kind

-- the two ranks of a level, in the order in which slot t takes them
abbrev pub ranks_at : ℕ → ℕ → List Rank
ranks_at t level = record { level = level; kind = preferred t } ∷ record { level = level; kind = other_kind (preferred t) } ∷ []

-- all ranks, in the order in which slot t takes them
unfoldable pub ranks : ℕ → List Rank
ranks t = flat_map (ranks_at t) (range_with_len 0 LEVELS)

-- the first rank of slot t with the test
abbrev pub first_rank : ℕ → (ℕ → Kind → Bool) → Option Rank
first_rank t test = find (λ rank. test rank.level rank.kind) (ranks t)

-- the n ports in order
abbrev pub ports : ℕ → List ℕ
ports n = range_with_len 0 n

-- the n ports in order from port `from` on, round the circle
abbrev pub ports_from : ℕ → ℕ → List ℕ
ports_from n from = map (λ steps. (steps + from) % n) (ports n)

-- whether the two kinds are one
abbrev pub is_kind : Kind → Kind → Bool
is_kind Uni Uni = true
is_kind Uni Multi = false
is_kind Multi Uni = false
is_kind Multi Multi = true

-- whether the row names output j at the level with the kind
abbrev pub is_named : Row → ℕ → Kind → ℕ → Bool
is_named row level kind j = bit_at (slice_index (sets_of row kind) level) j == 1

-- whether what feeds an output is input i, at the level with the kind
abbrev pub is_fed : ℕ → ℕ → Kind → Option Fed → Bool
is_fed i level kind None = false
is_fed i level kind (Some fed) = fed.input == i && (fed.level == level && is_kind fed.kind kind)

-- whether the row asks output j at the level with the kind: it names j there, and at no better level
abbrev pub is_asked : Row → ℕ → ℕ → Kind → Bool
is_asked row j level kind = is_named row level kind j
    && not (list_any (λ better. is_named row better Uni j || is_named row better Multi j) (range_with_len 0 level))

-- whether input i was matched as multicast of the level, and output j is in the rest of its head
abbrev pub is_going_on : List Row → List (Option Fed) → ℕ → ℕ → ℕ → Kind → Bool
is_going_on rows before i j level kind = is_kind kind Multi && (list_any (is_fed i level Multi) before && is_named (row_of rows i) level Multi j)

-- Request. Whether input i asks output j, in a round that starts from the match `before`
unfoldable pub is_request : List Row → List (Option Fed) → ℕ → ℕ → ℕ → Kind → Bool
is_request rows before i j level kind = (not (list_any (is_from i) before) && is_asked (row_of rows i) j level kind) || is_going_on rows before i j level kind

-- what output j grants at a rank: of the inputs that ask it there, the first from its pointer on
abbrev pub granted_at : ℕ → List Row → Places → List (Option Fed) → ℕ → Rank → Option Fed
granted_at n rows places before j rank =
    option_map (λ i. record { input = i; level = rank.level; kind = rank.kind })
    (find (λ x. is_request rows before x j rank.level rank.kind) (ports_from n (from_of places j rank.level rank.kind)))

-- Grant. What output j grants: if it is free, an input of the first rank at which some input asks it
unfoldable pub granted : ℕ → ℕ → List Row → Places → List (Option Fed) → ℕ → Option Fed
granted n t rows places before j =
    if is_none (fed_of before j) then option_and_then (granted_at n rows places before j)
    (first_rank t (λ level kind. list_any (λ x. is_request rows before x j level kind) (ports n))) else None

-- of the outputs with the test a unicast input takes the first from its pointer on, a multicast input all
abbrev pub taken : Kind → ℕ → ℕ → (ℕ → Bool) → List ℕ
taken Uni n from test = option_to_list (find test (ports_from n from))
taken Multi n from test = filter test (ports n)

-- Accept. The outputs that input i takes of what is granted: outputs of the first rank at which some grants it
unfoldable pub accepted : ℕ → ℕ → Places → List (Option Fed) → ℕ → List ℕ
accepted n t places grants i =
    option_map_or (λ rank. taken rank.kind n (accept_of places i rank.level) (λ y. is_fed i rank.level rank.kind (fed_of grants y)))
    (first_rank t (λ level kind. list_any (is_fed i level kind) grants)) []

-- what is added to the match at output j: what it grants, if the input takes it
abbrev pub added : ℕ → ℕ → Places → List (Option Fed) → ℕ → Option Fed
added n t places grants j =
    option_and_then (λ fed. if list_any (λ y. y == j) (accepted n t places grants fed.input) then Some fed else None) (fed_of grants j)

-- the match after a round that starts from the match `before`
unfoldable pub round_of : ℕ → ℕ → List Row → Places → List (Option Fed) → List (Option Fed)
round_of n t rows places before =
    map (λ j. option_or (fed_of before j) (added n t places (map (granted n t rows places before) (ports n)) j)) (ports n)

-- the matches after each of `rounds` rounds
abbrev pub rounds_of : ℕ → ℕ → List Row → Places → ℕ → List (Option Fed) → List (List (Option Fed))
rounds_of n t rows places zero before = []
rounds_of n t rows places (suc rounds) before = round_of n t rows places before ∷ rounds_of n t rows places rounds (round_of n t rows places before)

-- a pointer after the slot: one beyond the port that moves it, or where it was
abbrev pub moved_by : ℕ → Option ℕ → ℕ → ℕ
moved_by n None place = place
moved_by n (Some port) place = (port + 1) % n

-- a table with a place for each level and port
unfoldable pub table_of : (ℕ → ℕ → ℕ) → List (List ℕ)
table_of place = map (λ level. map (place level) (ports MAX_PORTS)) (range_with_len 0 LEVELS)

-- whether input i posts a multicast head at the level
abbrev pub is_head : ℕ → List Row → ℕ → ℕ → Bool
is_head n rows level i = list_any (is_named (row_of rows i) level Multi) (ports n)

-- whether an output that the head of input i names is not matched with it
abbrev pub is_left : ℕ → List Row → List (Option Fed) → ℕ → ℕ → Bool
is_left n rows matched level i = list_any (λ j. is_named (row_of rows i) level Multi j && not (is_fed i level Multi (fed_of matched j))) (ports n)

-- what moves the shared pointer of the level: the first input from it on with a head, if that completes
abbrev pub passed : ℕ → List Row → List (Option Fed) → Places → ℕ → Option ℕ
passed n rows matched before level =
    option_and_then (λ i. if is_left n rows matched level i then None else Some i) (find (is_head n rows level) (ports_from n (shared_of before level)))

-- the pointers after a slot, where `first_match` is the match after its first round: its unicast pairs move theirs
unfoldable pub places_after : ℕ → List Row → List (Option Fed) → List (Option Fed) → Places → Places
places_after n rows first_match matched before = record {
  ports = before.ports;
  grant = table_of (λ level j. moved_by n (find (λ i. is_fed i level Uni (fed_of first_match j)) (ports n)) (grant_of before j level));
  accept = table_of (λ level i. moved_by n (find (λ j. is_fed i level Uni (fed_of first_match j)) (ports n)) (accept_of before i level));
  shared = map (λ level. moved_by n (passed n rows matched before level) (shared_of before level)) (range_with_len 0 LEVELS);
}

-- what slot t decides in `rounds` rounds, from these rows and pointers, where `move` gives the pointers after it
-- from the slot, its rows, the match after its first round, its match and the pointers before it
unfoldable pub decision_by : (ℕ → ℕ → List Row → List (Option Fed) → List (Option Fed) → Places → Places) → ℕ → ℕ → ℕ → List Row → Places → Decision
decision_by move n rounds t rows places =
    let steps = rounds_of n t rows places rounds (unmatched n) in
    let matched = last_of (unmatched n) steps in
    record { matched = matched; numbers = slot_numbers steps; places = move n t rows (slice_index_or steps 0 (unmatched n)) matched places }

-- what slot t decides in `rounds` rounds, from these rows and pointers
unfoldable pub decision_of : ℕ → ℕ → ℕ → List Row → Places → Decision
decision_of = decision_by (λ n t. places_after n)

-- whether output j grants input i as unicast of the level in the first round, and the input does not accept
abbrev pub is_refused : ℕ → ℕ → List Row → Places → ℕ → ℕ → ℕ → Bool
is_refused n t rows places i j level =
    is_fed i level Uni (fed_of (map (granted n t rows places (unmatched n)) (ports n)) j)
    && not (is_fed i level Uni (fed_of (round_of n t rows places (unmatched n)) j))
