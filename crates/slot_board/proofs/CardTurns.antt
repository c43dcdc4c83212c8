-- What a seat keeps of its card, where the seat had a turn.
use Rattle.std.proofs.Common.{◌≡◌, ◌∙◌, ℕ, ◌-◌, ◌^◌, ◌<◌, ◌≤◌, min, Bool, true, false, List, [], ◌++◌, length, Option, refl, sym, ap, subst, arith}
use Rattle.slot_match.specs.declared.rows.Row.{Row}
use Rattle.slot_match.specs.declared.matching.Served.{Served}
use Rattle.slot_histories.specs.declared.events.Event.{Event}
use Rattle.slot_histories.specs.Events.{posts_of, takes_of, posted}
use Rattle.slot_histories.specs.Slots.{row_before, served_before}
use Rattle.slot_histories.specs.Legal.{IsLegal}
use Rattle.slot_histories.proofs.LegalLists.{AreInStep-legal}
use Rattle.turn_lock.specs.declared.history.TurnOf.{TurnOf}
use Rattle.turn_lock.specs.Histories.{entries_of, turns_of, IsAllowed}
use Rattle.turn_lock.specs.Seats.{SeatValue, after_turn, entries_before}
use Rattle.turn_lock.proofs.HistoryLemmas.{entries_of-append, entries_of-snoc}
use Rattle.slot_board.specs.Turns.{MayAdd}
use Rattle.slot_board.specs.Seats.{setup_at, events_seen, slot_of, IsPosted, last_row, last_served, events_before, refusals}
use Rattle.slot_board.specs.Columns.{slots_posted}
use Rattle.slot_board.specs.ColumnSteps.{IsColumn, IsCardSeat}
use Rattle.slot_board.proofs.OtherTurns.{posts_of-others, takes_of-others}
use Rattle.slot_board.proofs.ColumnSteps.{IsColumn-more}

posted_cases : (has_posted : Bool) (slot takes count : ℕ) → count ≡ slots_posted has_posted slot → slot ≡ takes → (takes < count → has_posted ≡ true)
    × ((takes < count → ⊥) → has_posted ≡ false)
posted_cases true slot takes count is same = (λ less. refl, λ free. absurd (free (omega arith)))
posted_cases false slot takes count is same = (λ less. absurd (omega arith), λ free. refl)

module _ (old : SeatValue Event) (ports card slot : ℕ) (has_posted done : Bool) (last : Row) (served : Option Served) (count : ℕ)
    (room : List (SeatValue Event)) (capacity : ℕ) (kept : IsCardSeat old ports card slot has_posted done last served count room capacity) where
  pub card_below : card < (setup_at old).ports
  card_below = let inside = kept.card_in in let is = kept.ports_are in omega arith

  abbrev seen : List Event
  seen = events_seen old

  -- the card's number as the seat has it
  pub slot-is : slot ≡ slot_of old
  slot-is = kept.column.slot_is ∙ ap (λ i. takes_of i seen) kept.card_is

  pub posts-are : length (posts_of old.number seen) ≡ slots_posted has_posted slot
  posts-are = ap (λ i. length (posts_of i seen)) (sym kept.card_is) ∙ kept.column.posts_are

  pub posted-true : IsPosted old → has_posted ≡ true
  posted-true it = (posted_cases has_posted slot (slot_of old) (length (posts_of old.number seen)) posts-are slot-is).0 it

  pub posted-false : (IsPosted old → ⊥) → has_posted ≡ false
  posted-false free = (posted_cases has_posted slot (slot_of old) (length (posts_of old.number seen)) posts-are slot-is).1 free

  pub served-is : served ≡ last_served old
  served-is = kept.column.served_is ∙ ap (served_before (setup_at old) (posted seen) card) slot-is
      ∙ ap (λ i. served_before (setup_at old) (posted seen) i (slot_of old)) kept.card_is

  pub last-is : (IsPosted old → ⊥) → last ≡ last_row old
  last-is free =
      let none : slots_posted has_posted slot ≡ slot = ap (λ b. slots_posted b slot) (posted-false free) in
      kept.column.last_is ∙ ap (row_before (posted seen) card) (kept.column.posts_are ∙ none ∙ slot-is)
      ∙ ap (λ i. row_before (posted seen) i (slot_of old)) kept.card_is

  -- no slot is beyond the most that a board has
  pub slot-small : slot ≤ 262145
  slot-small =
      let step = AreInStep-legal (setup_at old) seen kept.column.legal in
      let posts = step.posts_within card card_below in
      let decided = step.decided_posted card card_below in
      let taken = step.taken_decided card card_below in
      let is = kept.column.slot_is in
      let few = kept.board.setup.slots_few in
      omega arith

  -- the board began with no event
  pub before-is : (between : List (TurnOf Event)) → entries_before old between ≡ events_before old between
  before-is between = ap (λ events. events ++ events_before old between) kept.board.first

  -- turns of others change nothing of the card
  pub column-before : (between : List (TurnOf Event)) → turns_of old.number between ≡ [] → IsAllowed MayAdd between
      → IsLegal (setup_at old) (events_before old between) → IsColumn (setup_at old) card slot has_posted done last served (events_before old between)
  column-before between others allowed legal =
      let split : events_before old between ≡ seen ++ entries_of between = entries_of-append old.seen between in
      let none : turns_of card between ≡ [] = ap (λ i. turns_of i between) kept.card_is ∙ others in
      subst (λ events. IsColumn (setup_at old) card slot has_posted done last served events) (sym split)
      (IsColumn-more (setup_at old) card slot has_posted done last served seen kept.column card_below (entries_of between)
      (subst (IsLegal (setup_at old)) split legal) (posts_of-others card between allowed none) (takes_of-others card between allowed none))

  -- the events after the seat's turn
  pub seen-after : (between : List (TurnOf Event)) (entries : List Event) → events_seen (after_turn old between entries) ≡ events_before old between ++ entries
  seen-after between entries = entries_of-snoc (old.seen ++ between) (record { seat = old.number; entries = entries })

  -- what is kept after the turn, where it fits the events and the refused tries then
  pub kept-after : (between : List (TurnOf Event)) (entries : List Event) (new_slot : ℕ) (new_posted new_done : Bool) (new_last : Row)
      (new_served : Option Served) (new_count : ℕ)
      → IsColumn (setup_at old) card new_slot new_posted new_done new_last new_served (events_before old between ++ entries)
      → new_count ≡ min (refusals (after_turn old between entries)) (2 ^ 64 - 1)
      → IsCardSeat (after_turn old between entries) ports card new_slot new_posted new_done new_last new_served new_count room capacity
  kept-after between entries new_slot new_posted new_done new_last new_served new_count column counted =
      record {
        board = kept.board;
        ports_are = kept.ports_are;
        card_is = kept.card_is;
        card_in = kept.card_in;
        column = subst (λ events. IsColumn (setup_at old) card new_slot new_posted new_done new_last new_served events)
            (sym (seen-after between entries)) column;
        count_is = counted;
        empty = kept.empty;
        room_for_all = kept.room_for_all;
      }
