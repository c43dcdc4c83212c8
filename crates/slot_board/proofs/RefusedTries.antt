-- How often a seat was refused, after one try more.
use Rattle.std.proofs.Common.{◌≡◌, ◌≢◌, ◌∙◌, ℕ, ◌+◌, ◌-◌, ◌^◌, min, cond, false, List, [], ◌∷◌, ◌++◌, length, ap, arith, ◌==◌}
use Rattle.std.specs.List.{count_by}
use Rattle.std.proofs.lemmas.Bool.{ne_eqb}
use Rattle.std.proofs.lemmas.List.{append-nil}
use Rattle.std.proofs.lemmas.List.Sums.{sum_by-append}
use Rattle.slot_histories.specs.declared.events.Event.{Event}
use Rattle.turn_lock.specs.declared.history.TurnOf.{TurnOf}
use Rattle.turn_lock.specs.Histories.{turns_of}
use Rattle.turn_lock.specs.Seats.{SeatValue, after_turn}
use Rattle.turn_lock.proofs.HistoryLemmas.{turns_of-append, turns_of-own}
use Rattle.slot_board.specs.Seats.{is_idle, refusals}

-- one own turn more, after turns of others
turns_of-after : (seat : SeatValue Event) (between : List (TurnOf Event)) (entries : List Event) → turns_of seat.number between ≡ []
    → turns_of seat.number (after_turn seat between entries).seen ≡ turns_of seat.number seat.seen ++ record { seat = seat.number; entries = entries } ∷ []
turns_of-after seat between entries others =
    let i = seat.number in
    let own : TurnOf Event = record { seat = i; entries = entries } in
    let early : turns_of i (seat.seen ++ between) ≡ turns_of i seat.seen = turns_of-append i seat.seen between ∙ ap (λ ts. turns_of i seat.seen ++ ts) others
    ∙ append-nil (turns_of i seat.seen) in
    turns_of-append i (seat.seen ++ between) (own ∷ []) ∙ ap (λ ts. ts ++ turns_of i (own ∷ [])) early
    ∙ ap (λ ts. turns_of i seat.seen ++ ts) (turns_of-own own)

refusals-after : (seat : SeatValue Event) (between : List (TurnOf Event)) (entries : List Event) → turns_of seat.number between ≡ []
    → refusals (after_turn seat between entries) ≡ refusals seat + cond (length entries == 0) 1 0
refusals-after seat between entries others =
    let own : TurnOf Event = record { seat = seat.number; entries = entries } in
    let turns = ap (count_by is_idle) (turns_of-after seat between entries others) in
    let sums = sum_by-append (λ turn. cond (is_idle turn) 1 0) (turns_of seat.number seat.seen) (own ∷ []) in
    omega arith

-- a turn with an event is no refused try
pub refusals-acted : (seat : SeatValue Event) (between : List (TurnOf Event)) (event : Event) (events : List Event) → turns_of seat.number between ≡ []
    → refusals (after_turn seat between (event ∷ events)) ≡ refusals seat
refusals-acted seat between event events others =
    let some : length (event ∷ events) ≢ 0 = λ none. absurd (omega arith) in
    let no : (length (event ∷ events) == 0) ≡ false = ne_eqb (length (event ∷ events)) 0 some in
    refusals-after seat between (event ∷ events) others ∙ ap (λ b. refusals seat + cond b 1 0) no ∙ omega arith

-- and one without an event is
pub refusals-idle : (seat : SeatValue Event) (between : List (TurnOf Event)) → turns_of seat.number between ≡ []
    → refusals (after_turn seat between []) ≡ refusals seat + 1
refusals-idle seat between others = omega (arith, refusals-after seat between [] others)

-- the count that stops at the last value of a u64 goes up with the refused tries
pub count-more : (count tries next more : ℕ) → count ≡ min tries (2 ^ 64 - 1) → more ≡ tries + 1 → next ≡ min (count + 1) (2 ^ 64 - 1)
    → next ≡ min more (2 ^ 64 - 1)
count-more count tries next more is up raised = omega arith
