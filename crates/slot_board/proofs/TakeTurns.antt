-- A turn in which a card tries to take its part of its slot.
use Rattle.std.proofs.Common.{◌≡◌, ◌∙◌, ℕ, ◌+◌, ◌-◌, ◌^◌, ◌<◌, ◌≤◌, ◌≢◌, zero, suc, inl, inr, min, Bool, true, false, List, [], ◌∷◌, ◌++◌, length}
use Rattle.std.proofs.Common.{Option, refl, sym, ap, subst, arith}
use Rattle.std.specs.Prelude.{if◌then◌else◌, Result, Ok, Err}
use Rattle.std.proofs.lemmas.Bool.{cases_eq, cases_lt, both_ways}
use Rattle.std.proofs.lemmas.List.{append-nil}
use Rattle.slot_match.specs.declared.rows.Row.{Row}
use Rattle.slot_match.specs.declared.matching.Served.{Served}
use Rattle.crossbar.specs.declared.cards.Taken.{Taken}
use Rattle.slot_histories.specs.declared.events.Event.{Event}
use Rattle.slot_histories.specs.declared.events.Event.TheVariants.{Take}
use Rattle.slot_histories.specs.Events.{posts_of, takes_of, decides, posted}
use Rattle.slot_histories.specs.Slots.{taken_at}
use Rattle.slot_histories.specs.Legal.{MayTake, MayDecide, IsLegal}
use Rattle.slot_histories.specs.Tests.{is_allowed}
use Rattle.slot_histories.proofs.EventTests.{is_allowed-iff}
use Rattle.slot_histories.proofs.LegalLists.{AreInStep-legal}
use Rattle.turn_lock.specs.Seats.{SeatValue, HasTurn, after_turn, entries_before}
use Rattle.turn_lock.proofs.SeatLemmas.{HasTurn-between}
use Rattle.board_state.specs.Boards.{HavePosted}
use Rattle.slot_board.specs.Turns.{setup_of, MayAdd, take_adds, StayLegal, TakeAnswers}
use Rattle.slot_board.specs.Seats.{setup_at, events_seen, slot_of, IsPosted, events_before, HasTaken, IsUndecided}
use Rattle.slot_board.specs.ColumnSteps.{IsColumn, IsCardSeat}
use Rattle.slot_board.proofs.ColumnSteps.{IsColumn-take}
use Rattle.slot_board.proofs.RefusedTries.{refusals-acted, refusals-idle, count-more}
use Rattle.slot_board.proofs.CardTurns.{card_below, slot-is, posted-true, before-is, column-before, seen-after, kept-after}

-- where not all of the first n numbers are k, one of them is not
other_one : (f : ℕ → ℕ) (k n : ℕ) → (((i : ℕ) → i < n → f i ≡ k) → ⊥) → (i : ℕ) × (i < n) × (f i ≢ k)
other_one f k zero not_all = absurd (not_all (λ i below. absurd (omega arith)))
other_one f k (suc n) not_all =
    elim (cases_eq (f n) k) [
      | inl is ↦
          let found : (i : ℕ) × (i < n) × (f i ≢ k) = other_one f k n (λ all. not_all (λ i below. elim (cases_lt i n) [
            | inl less ↦ all i less
            | inr last ↦ let same : i ≡ n = omega arith in ap f same ∙ is
          ])) in
          let below = found.1 in
          (found.0, omega arith, found.2)
      | inr ne ↦ (n, omega arith, ne)
    ]

-- what a try to take has of its turn
abbrev Answered : ℕ → Result Taken ℕ → List ℕ → List Event → Type 0
Answered card out numbers events = StayLegal (setup_of numbers) events (take_adds card numbers events) × TakeAnswers (setup_of numbers) card events out

module _ (old : SeatValue Event) (ports card slot : ℕ) (has_posted done : Bool) (last : Row) (served : Option Served) (count : ℕ)
    (room : List (SeatValue Event)) (capacity : ℕ) (kept : IsCardSeat old ports card slot has_posted done last served count room capacity)
    (new : SeatValue Event) (out : Result Taken ℕ) (has : HasTurn MayAdd (λ numbers events. take_adds card numbers events) (Answered card out) old new)
    (it : IsPosted old) where
  abbrev at_turn : List Event
  at_turn = events_before old has.between

  same_events : entries_before old has.between ≡ at_turn
  same_events = before-is old ports card slot has_posted done last served count room capacity kept has.between

  legal_before : IsLegal (setup_at old) at_turn
  legal_before = subst (IsLegal (setup_at old)) same_events has.answer.0.before

  column : IsColumn (setup_at old) card slot true done last served at_turn
  column =
      let allowed = HasTurn-between MayAdd (λ numbers events. take_adds card numbers events) (Answered card out) old new has in
      let is = posted-true old ports card slot has_posted done last served count room capacity kept it in
      subst (λ b. IsColumn (setup_at old) card slot b done last served at_turn) is
      (column-before old ports card slot has_posted done last served count room capacity kept has.between has.others allowed legal_before)

  inside : card < (setup_at old).ports
  inside = card_below old ports card slot has_posted done last served count room capacity kept

  answered : TakeAnswers (setup_at old) card at_turn out
  answered = subst (λ events. TakeAnswers (setup_at old) card events out) same_events has.answer.1

  -- the entries that the test of a taking gives
  adds_are : (b : Bool) (entries : List Event) → is_allowed (setup_at old) at_turn (Take card) ≡ b → (if b then Take card ∷ [] else []) ≡ entries
      → take_adds card old.turn.numbers (entries_before old has.between) ≡ entries
  adds_are b entries test is = ap (take_adds card old.turn.numbers) same_events ∙ ap (λ x. if x then Take card ∷ [] else []) test ∙ is

  module _ (entries : List Event) (adds : take_adds card old.turn.numbers (entries_before old has.between) ≡ entries) where
    turn_is : new ≡ after_turn old has.between entries
    turn_is = has.turn ∙ ap (after_turn old has.between) adds

    legal_after : IsLegal (setup_at old) (events_seen new)
    legal_after =
        let whole : IsLegal (setup_at old) (at_turn ++ entries) =
        subst (λ added. IsLegal (setup_at old) (at_turn ++ added)) adds
        (subst (λ events. IsLegal (setup_at old)
        (events ++ take_adds card old.turn.numbers (entries_before old has.between))) same_events has.answer.0.after) in
        subst (IsLegal (setup_at old))
        (sym (ap events_seen turn_is ∙ seen-after old ports card slot has_posted done last served count room capacity kept has.between entries)) whole

  -- ---- the card took
  module _ (taken : Taken) (is_ok : out ≡ Ok taken) where
    took : (is_allowed (setup_at old) at_turn (Take card) ≡ true) × (taken ≡ taken_at (setup_at old) (posted at_turn) card (takes_of card at_turn))
    took = subst (TakeAnswers (setup_at old) card at_turn) is_ok answered

    adds_take : take_adds card old.turn.numbers (entries_before old has.between) ≡ Take card ∷ []
    adds_take = adds_are true (Take card ∷ []) took.0 refl

    may : MayTake (setup_at old) at_turn card
    may = (is_allowed-iff (setup_at old) at_turn (Take card) legal_before).0 took.0

    pub taken_turn : HasTaken taken old new
    taken_turn =
        record {
          between = has.between;
          turn = record {
            others = has.others;
            turn = turn_is (Take card ∷ []) adds_take ∙ ap (λ i. after_turn old has.between (Take i ∷ [])) kept.card_is;
            legal = legal_after (Take card ∷ []) adds_take;
            allowed = has.allowed;
            in_range = has.in_range;
          };
          all_posted = λ i below.
              let slot_is = slot-is old ports card slot has_posted done last served count room capacity kept in
              let step = AreInStep-legal (setup_at old) at_turn legal_before in
              let all = step.decided_posted i below in
              let early = may.decided in
              let takes = column.slot_is in
              omega arith;
          answer = took.1 ∙ ap (λ i. taken_at (setup_at old) (posted at_turn) i (takes_of i at_turn)) kept.card_is;
        }

    pub kept_taken : IsCardSeat new ports card (slot + 1) false taken.done last taken.served count room capacity
    kept_taken =
        subst (λ seat. IsCardSeat seat ports card (slot + 1) false taken.done last taken.served count room capacity) (sym (turn_is (Take card ∷ []) adds_take))
        (kept-after old ports card slot has_posted done last served count room capacity kept has.between (Take card ∷ [])
        (slot + 1) false taken.done last taken.served count
        (IsColumn-take (setup_at old) card slot done last served at_turn column inside taken may took.1)
        (kept.count_is ∙ ap (λ tries. min tries (2 ^ 64 - 1)) (sym (refusals-acted old has.between (Take card) [] has.others))))

  -- ---- the slot was not decided
  module _ (waiting : ℕ) (is_err : out ≡ Err waiting) where
    waits : (is_allowed (setup_at old) at_turn (Take card) ≡ false) × HavePosted (setup_at old) at_turn waiting × (MayDecide (setup_at old) at_turn → ⊥)
    waits = subst (TakeAnswers (setup_at old) card at_turn) is_err answered

    adds_none : take_adds card old.turn.numbers (entries_before old has.between) ≡ []
    adds_none = adds_are false [] waits.0 refl

    late : decides at_turn ≤ slot_of old
    late =
        let slot_is = slot-is old ports card slot has_posted done last served count room capacity kept in
        elim (cases_lt (slot_of old) (decides at_turn)) [
          | inl early ↦
              let posts = column.posts_are in
              let takes = column.slot_is in
              let may : MayTake (setup_at old) at_turn card = record { card_in = inside; posted = omega arith; decided = omega arith } in
              absurd (both_ways (is_allowed (setup_at old) at_turn (Take card)) waits.0
              ((is_allowed-iff (setup_at old) at_turn (Take card) legal_before).1 may))
          | inr last ↦ omega arith
        ]

    -- some card has not posted the slot, since one that all have posted is decided
    some_missing : (i : ℕ) × (i < (setup_at old).ports) × (length (posts_of i at_turn) ≤ slot_of old)
    some_missing =
        let step = AreInStep-legal (setup_at old) at_turn legal_before in
        let found = other_one (λ i. length (posts_of i at_turn)) (decides at_turn + 1) (setup_at old).ports waits.2 in
        let most = step.posted_next found.0 found.1 in
        let other : length (posts_of found.0 at_turn) ≢ decides at_turn + 1 = found.2 in
        let after = late in
        (found.0, found.1, omega arith)

    pub undecided_turn : IsUndecided waiting old new
    undecided_turn =
        record {
          between = has.between;
          turn = record {
            others = has.others;
            turn = turn_is [] adds_none;
            legal = legal_after [] adds_none;
            allowed = has.allowed;
            in_range = has.in_range;
          };
          missing = some_missing;
          undecided = late;
          posted = waits.1;
        }

    pub kept_undecided : (next : ℕ) → next ≡ min (count + 1) (2 ^ 64 - 1) → IsCardSeat new ports card slot has_posted done last served next room capacity
    kept_undecided next raised =
        let is = posted-true old ports card slot has_posted done last served count room capacity kept it in
        subst (λ seat. IsCardSeat seat ports card slot has_posted done last served next room capacity) (sym (turn_is [] adds_none))
        (kept-after old ports card slot has_posted done last served count room capacity kept has.between [] slot has_posted done last served next
        (subst (λ b. IsColumn (setup_at old) card slot b done last served (at_turn ++ [])) (sym is)
        (subst (λ events. IsColumn (setup_at old) card slot true done last served events) (sym (append-nil at_turn)) column))
        (count-more count _ next _ kept.count_is (refusals-idle old has.between has.others) raised))
