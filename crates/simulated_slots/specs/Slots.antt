-- One slot of a simulated switch, and what the switch is before each. In a slot cells come, inputs in order, and each enters
-- its queue or is dropped; the scheduler decides by the first cells of the queues; and what is served leaves.
use Rattle.std.specs.Prelude.{ℕ, zero, suc, if◌then◌else◌, List, [], ◌∷◌, ◌++◌, Option, Some, option_map, option_to_list, filter_map}
use Rattle.std.specs.List.{range_with_len}
use Rattle.islip_rounds.specs.Numbers.{numbers_of}
use Rattle.slot_match.specs.declared.matching.Fed.{Fed}
use Rattle.slot_match.specs.declared.rows.Row.{Row}
use Rattle.slot_match.specs.Matches.{fed_of, unmatched}
use Rattle.pointer_state.specs.Places.{Places, places_at_first}
use Rattle.eslip_rounds.specs.Slots.{Decision}
use Rattle.named_schedulers.specs.Named.{decision_named}
use Rattle.made_traffic.specs.Sources.{comes}
use Rattle.made_traffic.specs.Streams.{stream_at_first}
use Rattle.random_picks.specs.declared.picks.TheConstants.{PICKS_STREAM}
use Rattle.random_picks.specs.Rounds.{pim_decision}
use Rattle.arrival_queues.specs.declared.cell.ArrivedCell.{ArrivedCell}
use Rattle.arrival_queues.specs.Queues.{Queues, empty_queues, has_room, head_of, length_with, queue_of, queues_with, queues_without_head, rows_of}
use Rattle.simulated_slots.specs.declared.discipline.Discipline.{Discipline}
use Rattle.simulated_slots.specs.Jobs.{JobValue, is_ideal, is_random, queueing_of, rounds_by, scheduler_of}

-- a switch between two slots: its queues, the pointers of its scheduler, and where the stream of its random picks is
pub record Switch : Type 0 where
  pub queues : Queues
  pub places : Places
  pub picks : ℕ

-- before slot 0 nothing waits, all pointers are at port 0, and no word of the picks has been drawn
abbrev pub at_first : JobValue → Switch
at_first job = record {
  queues = empty_queues (queueing_of job.settings.discipline) job.traffic.ports job.settings.depth;
  places = places_at_first job.traffic.ports;
  picks = stream_at_first job.seed PICKS_STREAM;
}

-- the cell that comes to input i in slot t, if one comes
abbrev pub cell_at : JobValue → ℕ → ℕ → Option ArrivedCell
cell_at job t i = option_map (λ j. record { arrival = t; input = i; output = j }) (comes job.traffic job.seed i t)

-- the cells that come in slot t to the first k inputs, in their order
abbrev pub coming_to : JobValue → ℕ → ℕ → List ArrivedCell
coming_to job t k = filter_map (cell_at job t) (range_with_len 0 k)

-- the cells that come in slot t
abbrev pub coming : JobValue → ℕ → List ArrivedCell
coming job t = coming_to job t job.traffic.ports

-- how many cells the queue of each of these cells that enters has with it
abbrev pub lengths : Queues → List ArrivedCell → List ℕ
lengths queues [] = []
lengths queues (cell ∷ cells) = option_to_list (length_with queues cell) ++ lengths (queues_with queues cell) cells

-- the queues after these cells came, one after the other
abbrev pub all_entered : Queues → List ArrivedCell → Queues
all_entered queues [] = queues
all_entered queues (cell ∷ cells) = all_entered (queues_with queues cell) cells

-- a cell, where it is dropped
abbrev pub dropped_one : Queues → ArrivedCell → List ArrivedCell
dropped_one queues cell = if has_room queues cell then [] else cell ∷ []

-- those of these cells that are dropped
abbrev pub dropped : Queues → List ArrivedCell → List ArrivedCell
dropped queues [] = []
dropped queues (cell ∷ cells) = dropped_one queues cell ++ dropped (queues_with queues cell) cells

-- what random picks decide, which move no pointers
abbrev pub random_decision : ℕ → ℕ → List Row → Places → ℕ → Decision
random_decision n rounds rows places picks = record {
  matched = (pim_decision n rounds rows picks).matched;
  numbers = (pim_decision n rounds rows picks).numbers;
  places = places;
}

-- What a discipline decides in a slot, and where the stream of random picks is after it. An ideal switch has nothing to
-- decide.
abbrev pub decision_by : Discipline → ℕ → ℕ → ℕ → List Row → Places → ℕ → Decision
decision_by discipline n rounds t rows places picks =
    if is_ideal discipline then record { matched = unmatched n; numbers = numbers_of []; places = places }
    else (if is_random discipline then random_decision n rounds rows places picks
    else decision_named (scheduler_of discipline) n (rounds_by discipline rounds) t rows places)

abbrev pub picks_by : Discipline → ℕ → ℕ → List Row → ℕ → ℕ
picks_by discipline n rounds rows picks = if is_random discipline then (pim_decision n rounds rows picks).stream else picks

-- the queue that output j is served from, if it is: that of the pair in the match; of an ideal switch its own, if a cell
-- waits there
abbrev pub served_queue : Discipline → ℕ → List (Option Fed) → ℕ → Option ℕ
served_queue discipline n matched j =
    if is_ideal discipline then Some j
    else option_map (λ fed. queue_of (queueing_of discipline) n fed.input j) (fed_of matched j)

-- the queues that the first k outputs are served from, in their order
abbrev pub served_queues : Discipline → ℕ → List (Option Fed) → ℕ → List ℕ
served_queues discipline n matched k = filter_map (served_queue discipline n matched) (range_with_len 0 k)

-- the first cells of these queues, one after the other
abbrev pub departing : Queues → List ℕ → List ArrivedCell
departing queues [] = []
departing queues (k ∷ ks) = option_to_list (head_of queues k) ++ departing (queues_without_head queues k) ks

-- the queues without them
abbrev pub all_left : Queues → List ℕ → Queues
all_left queues [] = queues
all_left queues (k ∷ ks) = all_left (queues_without_head queues k) ks

-- what happens in a slot: the cells that come and those of them that are dropped, how many cells the queue of each other
-- one has with it, the queues with these, what is decided, the cells that leave, and the switch after it
pub record Slot : Type 0 where
  pub came : List ArrivedCell
  pub dropped : List ArrivedCell
  pub lengths : List ℕ
  pub filled : Queues
  pub decision : Decision
  pub departed : List ArrivedCell
  pub after : Switch

-- slot t of a switch that is so before it
unfoldable pub slot_from : JobValue → ℕ → Switch → Slot
slot_from job t switch =
    let filled = all_entered switch.queues (coming job t) in
    let rows = rows_of filled in
    let decision = decision_by job.settings.discipline job.traffic.ports job.settings.rounds t rows switch.places switch.picks in
    let picks = picks_by job.settings.discipline job.traffic.ports job.settings.rounds rows switch.picks in
    let served = served_queues job.settings.discipline job.traffic.ports decision.matched job.traffic.ports in
    record {
      came = coming job t;
      dropped = dropped switch.queues (coming job t);
      lengths = lengths switch.queues (coming job t);
      filled = filled;
      decision = decision;
      departed = departing filled served;
      after = record { queues = all_left filled served; places = decision.places; picks = picks };
    }

-- the switch before slot t
unfoldable pub switch_before : JobValue → ℕ → Switch
switch_before job zero = at_first job
switch_before job (suc t) = (slot_from job t (switch_before job t)).after

-- slot t of the job
abbrev pub slot_of : JobValue → ℕ → Slot
slot_of job t = slot_from job t (switch_before job t)
