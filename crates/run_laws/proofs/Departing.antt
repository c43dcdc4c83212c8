-- What leaves by an output, slot by slot: each slot in which a last cell crosses ends one message.
use Rattle.std.proofs.Common.{◌≡◌, ◌∙◌, ℕ, ◌<◌, Bool, true, false, List, [], ◌∷◌, ◌++◌, All, Option, None, Some, map, filter, refl, ap, subst, if◌then◌else◌}
use Rattle.std.specs.List.{range_with_len, flat_map}
use Rattle.std.specs.Option.{option_to_list}
use Rattle.std.proofs.lemmas.List.{append-nil, map-append}
use Rattle.std.proofs.lemmas.List.Elements.{All-nil, All-cons, All-head, All-tail, All-append, filter-append}
use Rattle.rotating_pick.specs.declared.kinds.Kind.{Kind}
use Rattle.rotating_pick.specs.declared.limits.TheConstants.{LEVELS}
use Rattle.cell_cutter.specs.declared.cell.Cell.{Cell}
use Rattle.eslip_rounds.specs.Schedulers.{Scheduler, IsScheduler}
use Rattle.slot_histories.specs.Slots.{crossed_under}
use Rattle.card_core.specs.Deliveries.{is_of_flow, message_with, messages_after, messages_from}
use Rattle.switch_plan.specs.GoodPlans.{SwitchPlan, IsGood}
use Rattle.run_laws.specs.Runs.{ports_of, setup_for, posts_under}
use Rattle.run_laws.specs.Ends.{IsLengthUnder}
use Rattle.run_laws.proofs.Emptied.{packets_delivered}
use Rattle.run_laws.proofs.OfFlows.{all_of_flows}
use Rattle.run_laws.specs.Interleaving.{Departure, is_from, messages_in, is_last, IsEnding, AreDepartures}

-- ---- one element or none
map_one : {X Y : Type 0} (f : X → Y) (b : Bool) (x : X) → map f (if b then x ∷ [] else []) ≡ (if b then f x ∷ [] else [])
map_one f true x = refl
map_one f false x = refl

map_first : {X Y : Type 0} (f : X → Y) (b : Bool) (x : X) (rest : List X)
    → map f ((if b then x ∷ [] else []) ++ rest) ≡ (if b then f x ∷ map f rest else map f rest)
map_first f true x rest = refl
map_first f false x rest = refl

filter_one : {X Y : Type 0} (f : X → Y) (test : X → Bool) (b mine : Bool) (x : X) → test x ≡ mine
    → map f (filter test (if b then x ∷ [] else [])) ≡ (if mine then (if b then f x ∷ [] else []) else [])
filter_one f test true true x is = ap (λ (b : Bool). map f (if b then x ∷ [] else [])) is
filter_one f test true false x is = ap (λ (b : Bool). map f (if b then x ∷ [] else [])) is
filter_one f test false true x is = refl
filter_one f test false false x is = refl

-- ---- what leaves with a cell that comes after these
abbrev leaving : List Cell → ℕ → Cell → Departure
leaving before t cell = record { slot = t; input = cell.input; level = cell.level; kind = cell.kind; message = message_with before cell }

abbrev departing : List Cell → ℕ → Option Cell → List Departure
departing before t None = []
departing before t (Some cell) = if cell.last then leaving before t cell ∷ [] else []

messages_step : (before : List Cell) (t : ℕ) (o : Option Cell) (rest : List Departure) (cells : List Cell)
    → map (λ (d : Departure). d.message) rest ≡ messages_after (before ++ option_to_list o) cells
    → map (λ (d : Departure). d.message) (departing before t o ++ rest) ≡ messages_after before (option_to_list o ++ cells)
messages_step before t None rest cells e = e ∙ ap (λ b. messages_after b cells) (append-nil before)
messages_step before t (Some cell) rest cells e =
    map-append (λ (d : Departure). d.message) (departing before t (Some cell)) rest
    ∙ ap (λ ms. ms ++ map (λ (d : Departure). d.message) rest) (map_one (λ (d : Departure). d.message) cell.last (leaving before t cell))
    ∙ ap (λ ms. (if cell.last then message_with before cell ∷ [] else []) ++ ms) e

flow_step : (input level : ℕ) (kind : Kind) (before : List Cell) (t : ℕ) (o : Option Cell) (rest : List Departure) (cells : List Cell)
    → messages_in input level kind rest ≡ messages_from input level kind (before ++ option_to_list o) cells
    → messages_in input level kind (departing before t o ++ rest) ≡ messages_from input level kind before (option_to_list o ++ cells)
flow_step input level kind before t None rest cells e = e ∙ ap (λ b. messages_from input level kind b cells) (append-nil before)
flow_step input level kind before t (Some cell) rest cells e =
    let here = departing before t (Some cell) in
    ap (map (λ (d : Departure). d.message)) (filter-append (is_from input level kind) here rest)
    ∙ map-append (λ (d : Departure). d.message) (filter (is_from input level kind) here) (filter (is_from input level kind) rest)
    ∙ ap (λ ms. ms ++ messages_in input level kind rest)
    (filter_one (λ (d : Departure). d.message) (is_from input level kind) cell.last (is_of_flow input level kind cell) (leaving before t cell) refl)
    ∙ ap (λ ms. (if is_of_flow input level kind cell then (if cell.last then message_with before cell ∷ [] else []) else []) ++ ms) e

slots_step : (before : List Cell) (t : ℕ) (o : Option Cell) (rest : List Departure)
    → map (λ (d : Departure). d.slot) (departing before t o ++ rest) ≡
    (if is_last o then t ∷ map (λ (d : Departure). d.slot) rest else map (λ (d : Departure). d.slot) rest)
slots_step before t None rest = refl
slots_step before t (Some cell) rest = map_first (λ (d : Departure). d.slot) cell.last (leaving before t cell) rest

-- ---- over some slots
module _ (crossed : ℕ → Option Cell) where
  abbrev cells_in : List ℕ → List Cell
  cells_in ts = flat_map (λ t. option_to_list (crossed t)) ts

  abbrev departures_from : List Cell → List ℕ → List Departure
  departures_from before [] = []
  departures_from before (t ∷ ts) = departing before t (crossed t) ++ departures_from (before ++ option_to_list (crossed t)) ts

  all_messages : (before : List Cell) (ts : List ℕ) → map (λ (d : Departure). d.message) (departures_from before ts) ≡ messages_after before (cells_in ts)
  all_messages before [] = refl
  all_messages before (t ∷ ts) =
      let now = before ++ option_to_list (crossed t) in
      messages_step before t (crossed t) (departures_from now ts) (cells_in ts) (all_messages now ts)

  flow_messages : (input level : ℕ) (kind : Kind) (before : List Cell) (ts : List ℕ)
      → messages_in input level kind (departures_from before ts) ≡ messages_from input level kind before (cells_in ts)
  flow_messages input level kind before [] = refl
  flow_messages input level kind before (t ∷ ts) =
      let now = before ++ option_to_list (crossed t) in
      flow_step input level kind before t (crossed t) (departures_from now ts) (cells_in ts) (flow_messages input level kind now ts)

  all_slots : (before : List Cell) (ts : List ℕ) → map (λ (d : Departure). d.slot) (departures_from before ts) ≡ filter (λ t. is_last (crossed t)) ts
  all_slots before [] = refl
  all_slots before (t ∷ ts) =
      let now = before ++ option_to_list (crossed t) in
      slots_step before t (crossed t) (departures_from now ts)
      ∙ ap (λ xs. if is_last (crossed t) then t ∷ xs else xs) (all_slots now ts)

  -- what holds of each last cell that crosses holds of what leaves with it
  module _ (P : Departure → Type 0) where
    one_holds : (before : List Cell) (t : ℕ) (cell : Cell) (b : Bool) → cell.last ≡ b → (cell.last ≡ true → P (leaving before t cell))
        → All P (if b then leaving before t cell ∷ [] else [])
    one_holds before t cell true is holds = All-cons P (leaving before t cell) [] (holds is) (All-nil P)
    one_holds before t cell false is holds = All-nil P

    here_holds : (before : List Cell) (t : ℕ) (o : Option Cell) → ((cell : Cell) → o ≡ Some cell → cell.last ≡ true → P (leaving before t cell))
        → All P (departing before t o)
    here_holds before t None holds = All-nil P
    here_holds before t (Some cell) holds = one_holds before t cell cell.last refl (holds cell refl)

    each_holds : ((before : List Cell) (t : ℕ) (cell : Cell) → crossed t ≡ Some cell → cell.last ≡ true → P (leaving before t cell))
        → (before : List Cell) (ts : List ℕ) → All P (departures_from before ts)
    each_holds holds before [] = All-nil P
    each_holds holds before (t ∷ ts) =
        let now = before ++ option_to_list (crossed t) in
        All-append P (departing before t (crossed t)) (departures_from now ts)
        (here_holds before t (crossed t) (λ cell is last. holds before t cell is last)) (each_holds holds now ts)

  -- what holds of all cells holds of what leaves
  module _ (Q : ℕ → ℕ → Type 0) where
    abbrev OfCell : Cell → Type 0
    OfCell cell = Q cell.input cell.level

    abbrev OfDeparture : Departure → Type 0
    OfDeparture d = Q d.input d.level

    first_holds : (o : Option Cell) (cells : List Cell) → All OfCell (option_to_list o ++ cells) → (cell : Cell) → o ≡ Some cell → OfCell cell
    first_holds None cells all cell is = absurd (cc)
    first_holds (Some c) cells all cell is = let same : c ≡ cell = cc in subst OfCell same (All-head OfCell c cells all)

    rest_hold : (o : Option Cell) (cells : List Cell) → All OfCell (option_to_list o ++ cells) → All OfCell cells
    rest_hold None cells all = all
    rest_hold (Some c) cells all = All-tail OfCell c cells all

    all_hold : (before : List Cell) (ts : List ℕ) → All OfCell (cells_in ts) → All OfDeparture (departures_from before ts)
    all_hold before [] all = All-nil OfDeparture
    all_hold before (t ∷ ts) all =
        let now = before ++ option_to_list (crossed t) in
        All-append OfDeparture (departing before t (crossed t)) (departures_from now ts)
        (here_holds OfDeparture before t (crossed t) (λ cell is last. first_holds (crossed t) (cells_in ts) all cell is))
        (all_hold now ts (rest_hold (crossed t) (cells_in ts) all))

-- ---- those of a run
module _ (scheduler : Scheduler) (scheduling : IsScheduler scheduler) (plan : SwitchPlan) (good : IsGood plan) (slots : ℕ)
    (ends : IsLengthUnder scheduler plan slots) (j : ℕ) (to : j < ports_of plan) where
  abbrev crosses : ℕ → Option Cell
  crosses = crossed_under scheduler (setup_for plan) (posts_under scheduler plan) j

  pub departures-are : (departures : List Departure) × AreDepartures scheduler plan slots j departures
  departures-are =
      let all : List Departure = departures_from crosses [] (range_with_len 0 slots) in (
        all,
        record {
          messages = all_messages crosses [] (range_with_len 0 slots);
          order = all_slots crosses [] (range_with_len 0 slots);
          endings = each_holds crosses (IsEnding scheduler plan j)
              (λ before t cell is last. record { cell = cell; crosses = is; last = last; input = refl; level = refl; kind = refl }) [] (range_with_len 0 slots);
          flows = λ i level kind inside below.
              flow_messages crosses i level kind [] (range_with_len 0 slots)
              ∙ packets_delivered scheduler scheduling plan good i j level kind slots ends inside to below;
          no_others = all_hold crosses (λ input level. (input < ports_of plan) × (level < LEVELS)) [] (range_with_len 0 slots)
              (all_of_flows scheduler scheduling plan good j slots);
        },
      )
