-- A turn in which a card posts.
use Rattle.std.proofs.Common.{◌≡◌, ◌∙◌, ℕ, ◌-◌, ◌^◌, ◌<◌, min, Bool, true, false, List, [], ◌∷◌, ◌++◌, Option, append_assoc, sym, ap, subst, arith}
use Rattle.std.specs.Prelude.{if◌then◌else◌}
use Rattle.slot_match.specs.declared.rows.Row.{Row}
use Rattle.slot_match.specs.declared.matching.Served.{Served}
use Rattle.crossbar.specs.declared.cards.Post.{Post as CardPost}
use Rattle.slot_histories.specs.declared.events.Event.{Event}
use Rattle.slot_histories.specs.declared.events.Event.TheVariants.{Post, Decide}
use Rattle.slot_histories.specs.Events.{posted}
use Rattle.slot_histories.specs.Slots.{is_done_before}
use Rattle.slot_histories.specs.Legal.{IsAccepted, MayPost, IsLegal}
use Rattle.slot_histories.specs.Tests.{is_allowed}
use Rattle.slot_histories.proofs.EventTests.{is_allowed-iff}
use Rattle.turn_lock.specs.declared.history.TurnOf.{TurnOf}
use Rattle.turn_lock.specs.Histories.{turns_of, IsAllowed}
use Rattle.turn_lock.specs.Seats.{SeatValue, HasTurn, after_turn, entries_before}
use Rattle.turn_lock.proofs.SeatLemmas.{HasTurn-between}
use Rattle.slot_board.specs.Turns.{setup_of, MayAdd, post_adds, post_entries, decision_entries, StayLegal}
use Rattle.slot_board.specs.Seats.{setup_at, events_seen, slot_of, IsPosted, is_done, last_served, Accepts, events_before, HasPosted}
use Rattle.slot_board.specs.ColumnSteps.{IsColumn, IsCardSeat}
use Rattle.slot_board.proofs.OtherTurns.{posts_of-decision, takes_of-decision}
use Rattle.slot_board.proofs.ColumnSteps.{IsColumn-more, MayPost-column, IsColumn-post}
use Rattle.slot_board.proofs.RefusedTries.{refusals-acted}
use Rattle.slot_board.proofs.CardTurns.{card_below, slot-is, posted-false, served-is, last-is, before-is, column-before, seen-after, kept-after}

module _ (old : SeatValue Event) (ports card slot : ℕ) (has_posted done : Bool) (last : Row) (served : Option Served) (count : ℕ)
    (room : List (SeatValue Event)) (capacity : ℕ) (kept : IsCardSeat old ports card slot has_posted done last served count room capacity) where
  module _ (free : IsPosted old → ⊥) (between : List (TurnOf Event)) (others : turns_of old.number between ≡ []) (allowed : IsAllowed MayAdd between)
      (legal : IsLegal (setup_at old) (events_before old between)) where
    abbrev events : List Event
    events = events_before old between

    column : IsColumn (setup_at old) card slot false done last served events
    column =
        let is = posted-false old ports card slot has_posted done last served count room capacity kept free in
        subst (λ b. IsColumn (setup_at old) card slot b done last served events) is
        (column-before old ports card slot has_posted done last served count room capacity kept between others allowed legal)

    inside : card < (setup_at old).ports
    inside = card_below old ports card slot has_posted done last served count room capacity kept

    -- the post may come
    pub may_post : (post : CardPost) → is_done old ≡ false → slot_of old < (setup_at old).max_slots → Accepts old post → MayPost (setup_at old) events card post
    may_post post going left accepted =
        let n = (setup_at old).ports in
        let slot_is = slot-is old ports card slot has_posted done last served count room capacity kept in
        let part = served-is old ports card slot has_posted done last served count room capacity kept in
        let row = last-is old ports card slot has_posted done last served count room capacity kept free in
        let same_done : done ≡ is_done old = kept.column.done_is ∙ ap (is_done_before n (posted (events_seen old))) slot_is in
        let by_row : IsAccepted n old.number last (last_served old) post = subst (λ x. IsAccepted n old.number x (last_served old) post) (sym row) accepted in
        let by_part : IsAccepted n old.number last served post = subst (λ x. IsAccepted n old.number last x post) (sym part) by_row in
        let by_card : IsAccepted n card last served post = subst (λ x. IsAccepted n x last served post) (sym kept.card_is) by_part in
        MayPost-column (setup_at old) card slot done last served events column inside post (same_done ∙ going) (omega arith) by_card

    -- what is kept after it
    pub kept-posted : (post : CardPost) → MayPost (setup_at old) events card post
        → IsLegal (setup_at old) (events ++ post_entries (setup_at old) events card post)
        → IsCardSeat (after_turn old between (post_entries (setup_at old) events card post)) ports card slot true done post.row served count room capacity
    kept-posted post may after =
        let s = setup_at old in
        let first = Post card post ∷ [] in
        let decided = is_allowed s (events ++ first) Decide in
        let rest = decision_entries s (events ++ first) in
        let split : (events ++ first) ++ rest ≡ events ++ post_entries s events card post = append_assoc events first rest in
        let posts = IsColumn-post s card slot done last served events column inside post may in
        let whole = IsColumn-more s card slot true done post.row served (events ++ first) posts inside rest (subst (IsLegal s) (sym split) after)
        (posts_of-decision card decided) (takes_of-decision card decided) in
        kept-after old ports card slot has_posted done last served count room capacity kept between
        (post_entries s events card post) slot true done post.row served count
        (subst (λ es. IsColumn s card slot true done post.row served es) split whole)
        (kept.count_is ∙ ap (λ tries. min tries (2 ^ 64 - 1)) (sym (refusals-acted old between (Post card post) rest others)))

  -- the seat had a turn with a try to post
  module _ (new : SeatValue Event) (post : CardPost)
      (has : HasTurn MayAdd (λ numbers events. post_adds card post numbers events)
      (λ numbers events. StayLegal (setup_of numbers) events (post_adds card post numbers events)) old new) (free : IsPosted old → ⊥)
      (going : is_done old ≡ false) (left : slot_of old < (setup_at old).max_slots) (accepted : Accepts old post) where
    abbrev at_turn : List Event
    at_turn = events_before old has.between

    others_allowed : IsAllowed MayAdd has.between
    others_allowed = HasTurn-between MayAdd (λ numbers events. post_adds card post numbers events)
        (λ numbers events. StayLegal (setup_of numbers) events (post_adds card post numbers events)) old new has

    same_events : entries_before old has.between ≡ at_turn
    same_events = before-is old ports card slot has_posted done last served count room capacity kept has.between

    legal_before : IsLegal (setup_at old) at_turn
    legal_before = subst (IsLegal (setup_at old)) same_events has.answer.before

    may : MayPost (setup_at old) at_turn card post
    may = may_post free has.between has.others others_allowed legal_before post going left accepted

    adds_is : post_adds card post old.turn.numbers (entries_before old has.between) ≡ post_entries (setup_at old) at_turn card post
    adds_is =
        let s = setup_at old in
        let test : is_allowed s at_turn (Post card post) ≡ true = (is_allowed-iff s at_turn (Post card post) legal_before).1 may in
        ap (post_adds card post old.turn.numbers) same_events ∙ ap (λ b. if b then post_entries s at_turn card post else []) test

    legal_after : IsLegal (setup_at old) (at_turn ++ post_entries (setup_at old) at_turn card post)
    legal_after = subst (λ added. IsLegal (setup_at old) (at_turn ++ added)) adds_is
        (subst (λ events. IsLegal (setup_at old)
        (events ++ post_adds card post old.turn.numbers (entries_before old has.between))) same_events has.answer.after)

    turn_is : new ≡ after_turn old has.between (post_entries (setup_at old) at_turn card post)
    turn_is = has.turn ∙ ap (after_turn old has.between) adds_is

    pub posted_turn : HasPosted post old new
    posted_turn =
        record {
          between = has.between;
          turn = record {
            others = has.others;
            turn = turn_is ∙ ap (λ i. after_turn old has.between (post_entries (setup_at old) at_turn i post)) kept.card_is;
            legal = subst (IsLegal (setup_at old))
                (sym (ap events_seen turn_is
                ∙ seen-after old ports card slot has_posted done last served count room capacity kept has.between
                (post_entries (setup_at old) at_turn card post))) legal_after;
            allowed = has.allowed;
            in_range = has.in_range;
          };
        }

    pub kept_then : IsCardSeat new ports card slot true done post.row served count room capacity
    kept_then =
        subst (λ seat. IsCardSeat seat ports card slot true done post.row served count room capacity) (sym turn_is)
        (kept-posted free has.between has.others others_allowed legal_before post may legal_after)
