-- Members, and what a try makes of them.
use Rattle.std.proofs.Common.{◌≡◌, ◌∙◌, ◌+◌, ◌<◌, ◌≤◌, ◌||◌, ◌&&◌, Bool, true, false, length, nat_lt, refl, sym, ap, subst, arith, inl, inr}
use Rattle.std.specs.Prelude.{Option, None, not}
use Rattle.std.proofs.lemmas.Bool.{both_ways, ltb-true, le-ltb, cases_lt}
use Rattle.std.proofs.lemmas.List.{length_push}
use Rattle.slot_match.specs.declared.rows.Row.{Row}
use Rattle.slot_match.specs.declared.matching.Served.{Served}
use Rattle.crossbar.specs.declared.cards.Post.{Post}
use Rattle.crossbar.specs.declared.cards.Taken.{Taken}
use Rattle.slot_histories.specs.declared.events.Event.{Event}
use Rattle.slot_histories.specs.Legal.{IsAccepted}
use Rattle.turn_lock.specs.Seats.{TurnValue, SeatValue}
use Rattle.slot_histories.specs.Columns.{Column, with_post, with_taking, row_told, served_told}
use Rattle.slot_board.specs.Seats.{column_at, setup_at, events_seen, slot_of, IsPosted, is_done, is_due, last_row, last_served, refusals, Accepts}
use Rattle.slot_board.specs.Turns.{setup_of}
use Rattle.slot_board.specs.Calls.{IsSeat, AfterPost, AfterTaking, AfterRefusal}
use Rattle.card_core.specs.Plans.{Plan}
use Rattle.card_core.specs.Posts.{IsServable}
use Rattle.card_worker.specs.declared.hands.Hand.{Hand}
use Rattle.card_worker.specs.declared.hands.Member.{Member}
use Rattle.card_worker.specs.Agreeing.{IsDriven, IsLevel, IsAhead, IsInStep}
use Rattle.card_worker.specs.AgreeingSteps.{CanPost, AfterGiving}
use Rattle.card_worker.specs.Trying.{IsSound, acts_of}
use Rattle.card_worker.specs.TryingSteps.{AfterTry}
use Rattle.card_worker.proofs.Accepting.{accepted_at, servable_told}
use Rattle.card_worker.proofs.Steps.{next_post, IsLevel-posted, IsDriven-posted, IsLevel-taken, IsDriven-taken, level_of, slot_is, good_plan}
use Rattle.card_worker.proofs.Steps.{servable_card, CanPost-of}

-- a due seat that has not posted is not done, and a slot is left
due_cases : (less done room : Bool) → (less || (not done && room)) ≡ true → less ≡ false → (done ≡ false) × (room ≡ true)
due_cases true done room due free = absurd (both_ways true free refl)
due_cases false true room due free = absurd (both_ways true (sym due) refl)
due_cases false false room due free = (refl, due)

module _ (board : TurnValue Event) (old : Member) (sound : IsSound board old) where
  abbrev seat : SeatValue Event
  seat = old.seat

  abbrev column : Column
  column = column_at old.seat

  abbrev plan : Plan
  plan = old.hand.card.sends.plan

  slots_few : length column.posts ≤ 262145
  slots_few = let room = sound.told.told.room in let few = sound.told.board.setup.slots_few in omega arith

  -- a seat that has not posted
  module _ (free : IsPosted old.seat → ⊥) where
    pub posts_same : length column.posts ≡ length column.takings
    posts_same =
        let from = sound.told.told.posts_from in
        let slot = sound.told.told.slot in
        elim (cases_lt (slot_of seat) (length column.posts)) [ inl less ↦ absurd (free less) | inr most ↦ omega arith ]

    module _ (due : is_due old.seat ≡ true) where
      pub due_free : (is_done old.seat ≡ false) × (slot_of old.seat < (setup_at old.seat).max_slots)
      due_free =
          let none : nat_lt (slot_of seat) (length column.posts) ≡ false =
          le-ltb (slot_of seat) (length column.posts) (let same = posts_same in let slot = sound.told.told.slot in omega arith) in
          let parts = due_cases (nat_lt (slot_of seat) (length column.posts)) (is_done seat) (nat_lt (slot_of seat) (setup_at seat).max_slots) due none in
          (parts.0, ltb-true (slot_of seat) (setup_at seat).max_slots parts.1)

      pub can_post : CanPost old.hand.kept old.hand.card
      can_post =
          let few : (setup_at seat).max_slots ≤ 262145 = sound.told.board.setup.slots_few in
          let slot = sound.told.told.slot in
          let less = due_free.1 in
          CanPost-of old.hand.kept old.hand.card column sound.agrees.agrees.step posts_same (sym sound.told.told.done ∙ due_free.0) (omega arith)

      -- the board accepts what the card posts
      pub accepts : (post : Post) → post ≡ next_post plan column → Accepts old.seat post
      accepts post is =
          let agrees = sound.agrees.agrees in
          let told = sound.told.told in
          let n = (setup_at seat).ports in
          let good = good_plan old.hand.kept old.hand.card column agrees.step in
          let next = next_post plan column in
          let by_law : IsAccepted n seat.number (row_told column) (served_told column) next =
          accepted_at old.hand (setup_at seat) seat.number (events_seen seat) good sound.told.legal agrees posts_same in
          let by_row : IsAccepted n seat.number (last_row seat) (served_told column) next =
          subst (λ (row : Row). IsAccepted n seat.number row (served_told column) next) (sym told.row) by_law in
          let by_part : IsAccepted n seat.number (last_row seat) (last_served seat) next =
          subst (λ (part : Option Served). IsAccepted n seat.number (last_row seat) part next) (sym told.served) by_row in
          subst (λ (p : Post). IsAccepted n seat.number (last_row seat) (last_served seat) p) (sym is) by_part

  -- a seat that has posted
  module _ (it : IsPosted old.seat) where
    less : length column.takings < length column.posts
    less = let slot = sound.told.told.slot in omega arith

    pub level : (old.hand.kept ≡ None) × IsLevel old.hand.card column × (old.hand.card.sends.posted ≡ true)
    level = level_of old.hand.kept old.hand.card column sound.agrees.agrees.step less

    pub card_slot : old.hand.card.sends.slot ≡ slot_of old.seat
    card_slot = slot_is old.hand.card column level.1 ∙ sym sound.told.told.slot

    -- what the board gave it may be served of the card's row
    pub servable : (next : SeatValue Event) (taken : Taken) → IsSeat next → column_at next ≡ with_taking column taken
        → IsServable old.hand.card.sends.row taken.served
    servable next taken told is =
        let setup = told.board.setup in
        let may = servable_told (setup_at next) next.number (events_seen next) setup.ports_some setup.ports_few told.legal told.card_in in
        servable_card old.hand.card column taken level.1 level.2 sound.agrees.agrees.driven less
        (subst (λ (c : Column). IsServable (row_told c) (served_told c)) is may)

  -- what stands after a call
  module _ (hand : Hand) (next : SeatValue Event) (same : (next.turn ≡ old.seat.turn) × (next.number ≡ old.seat.number)) (told : IsSeat next)
      (plan_is : hand.card.sends.plan ≡ old.hand.card.sends.plan) where
    sound_next : (to : Column) → column_at next ≡ to → IsDriven old.hand.card.sends.plan to → IsInStep hand.kept hand.card to
        → IsSound board (record { hand = hand; seat = next })
    sound_next to is driven step =
        let agrees = sound.agrees.agrees in
        record {
          agrees = record {
            turn = same.0 ∙ sound.agrees.turn;
            agrees = record {
              ports = ap (λ p. p.ports) plan_is ∙ agrees.ports ∙ ap (λ t. (setup_of t.numbers).ports) (sym same.0);
              card = ap (λ p. p.card) plan_is ∙ agrees.card ∙ sym same.1;
              driven = subst (λ p. IsDriven p (column_at next)) (sym plan_is) (subst (IsDriven old.hand.card.sends.plan) (sym is) driven);
              step = subst (IsInStep hand.kept hand.card) (sym is) step;
            };
          };
          told = told;
        }

    acted_next : (to : Column) → column_at next ≡ to → IsDriven old.hand.card.sends.plan to → IsInStep hand.kept hand.card to
        → length to.posts + length to.takings ≡ acts_of old + 1 → refusals next ≡ refusals old.seat
        → AfterTry board old (record { hand = hand; seat = next }) true
    acted_next to is driven step acts tries =
        record {
          sound = sound_next to is driven step;
          plan = plan_is;
          number = same.1;
          acts = ap (λ (c : Column). length c.posts + length c.takings) is ∙ acts;
          tries = omega (arith, tries, ap (λ (c : Column). length c.posts + length c.takings) is ∙ acts);
          due = λ no. absurd (both_ways true no refl);
        }

    -- a call that was refused
    pub refused_next : AfterRefusal old.seat next → IsInStep hand.kept hand.card column → AfterTry board old (record { hand = hand; seat = next }) false
    refused_next after step =
        let room : (setup_at next).max_slots ≡ (setup_at old.seat).max_slots = ap (λ t. (setup_of t.numbers).max_slots) same.0 in
        record {
          sound = sound_next column after.column sound.agrees.agrees.driven step;
          plan = plan_is;
          number = same.1;
          acts = ap (λ (c : Column). length c.posts + length c.takings) after.column ∙ omega arith;
          tries = omega (arith, after.tries, ap (λ (c : Column). length c.posts + length c.takings) after.column);
          due = λ no.
              let slot = after.slot in
              let posts = ap (λ (c : Column). length c.posts) after.column in
              let done = after.done in
              cc;
        }

    -- the post was taken by the board
    pub posted_next : (free : IsPosted old.seat → ⊥) (post : Post) → hand.kept ≡ None → IsAhead post hand.card column → AfterPost old.seat next
        → column_at next ≡ with_post column post → AfterTry board old (record { hand = hand; seat = next }) true
    posted_next free post none ahead after is =
        let mine : post ≡ next_post old.hand.card.sends.plan column = ahead.is ∙ ap (λ p. next_post p column) plan_is in
        acted_next (with_post column post) is (IsDriven-posted old.hand.card.sends.plan post column sound.agrees.agrees.driven (posts_same free) mine)
        (subst (λ k. IsInStep k hand.card (with_post column post)) (sym none) (IsLevel-posted post hand.card column ahead))
        (omega (arith, length_push column.posts post)) after.tries

    -- the card took
    pub taken_next : (it : IsPosted old.seat) (taken : Taken) → hand.kept ≡ old.hand.kept → AfterGiving taken old.hand.card hand.card
        → AfterTaking taken old.seat next → column_at next ≡ with_taking column taken → AfterTry board old (record { hand = hand; seat = next }) true
    taken_next it taken kept give after is =
        let was = level it in
        let step : IsLevel hand.card (with_taking column taken) = IsLevel-taken old.hand.card hand.card column taken was.1 was.2 give in
        acted_next (with_taking column taken) is (IsDriven-taken old.hand.card.sends.plan column taken sound.agrees.agrees.driven sound.told.told.posts_to)
        (subst (λ k. IsInStep k hand.card (with_taking column taken)) (sym (kept ∙ was.0)) step)
        (omega (arith, length_push column.takings taken)) after.tries
