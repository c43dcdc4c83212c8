-- What each call makes of a seat.
use Rattle.std.proofs.Common.{◌≡◌, ◌∙◌, ℕ, ◌+◌, ◌<◌, ◌||◌, Bool, true, false, List, [], ◌∷◌, ◌++◌, length, refl, sym, ap, subst, arith}
use Rattle.std.proofs.lemmas.List.Folds.{list_any-append}
use Rattle.std.proofs.lemmas.List.{length_push}
use Rattle.std.proofs.lemmas.Bool.{both_ways}
use Rattle.crossbar.specs.declared.cards.Post.{Post as CardPost}
use Rattle.crossbar.specs.declared.cards.Taken.{Taken}
use Rattle.slot_histories.specs.declared.events.Event.{Event}
use Rattle.slot_histories.specs.declared.events.Event.TheVariants.{Post, Take}
use Rattle.slot_histories.specs.Events.{posts_of, takes_of}
use Rattle.slot_histories.specs.Legal.{IsLegal}
use Rattle.turn_lock.specs.declared.history.TurnOf.{TurnOf}
use Rattle.turn_lock.specs.Seats.{SeatValue}
use Rattle.slot_board.specs.Turns.{post_entries, decision_entries}
use Rattle.slot_histories.specs.Columns.{slots_taken, has_ended}
use Rattle.slot_histories.proofs.Telling.{IsTold-legal}
use Rattle.slot_board.specs.Seats.{column_at, setup_at, events_seen, slot_of, IsPosted, refusals, events_before, HasCardTurn, HasPosted, HasTaken}
use Rattle.slot_board.specs.Seats.{IsUndecided}
use Rattle.slot_board.specs.Columns.{IsBoard}
use Rattle.slot_board.specs.Calls.{IsSeat, AfterPost, AfterTaking, AfterRefusal}
use Rattle.slot_board.proofs.RefusedTries.{refusals-acted, refusals-idle}
use Rattle.slot_board.proofs.SeatColumns.{HasPosted-posts, HasPosted-takes, HasPosted-column, HasTaken-posts, HasTaken-takes, HasTaken-column}
use Rattle.slot_board.proofs.SeatColumns.{IsUndecided-column, takes_of-beyond, between_allowed}

-- what is kept of a seat tells it
pub IsSeat-kept : (seat : SeatValue Event) → IsBoard seat.turn → seat.number < (setup_at seat).ports → IsLegal (setup_at seat) (events_seen seat) → IsSeat seat
IsSeat-kept seat board inside legal =
    record { board = board; card_in = inside; legal = legal; told = IsTold-legal (setup_at seat) seat.number (events_seen seat) legal inside }

-- after a turn it is told as before
module _ (adds : List Event → List Event) (old new : SeatValue Event) (between : List (TurnOf Event)) (seat : IsSeat old)
    (has : HasCardTurn adds old new between) where
  pub IsSeat-turn : IsSeat new
  IsSeat-turn =
      let turn = ap (λ s. s.turn) has.turn in
      let number = ap (λ s. s.number) has.turn in
      let setup : setup_at new ≡ setup_at old = ap setup_at has.turn in
      let inside : new.number < (setup_at new).ports =
      subst (λ s. new.number < s.ports) (sym setup) (subst (λ i. i < (setup_at old).ports) (sym number) seat.card_in) in
      let legal : IsLegal (setup_at new) (events_seen new) = subst (λ s. IsLegal s (events_seen new)) (sym setup) has.legal in
      record {
        board = subst IsBoard (sym turn) seat.board;
        card_in = inside;
        legal = legal;
        told = IsTold-legal (setup_at new) new.number (events_seen new) legal inside;
      }

module _ (post : CardPost) (old new : SeatValue Event) (seat : IsSeat old) (has : HasPosted post old new) where
  pub AfterPost-has : AfterPost old new
  AfterPost-has =
      let s = setup_at old in
      let before = events_before old has.between in
      let number : new.number ≡ old.number = ap (λ s. s.number) has.turn.turn in
      let after : IsSeat new = IsSeat-turn (λ events. post_entries s events old.number post) old new has.between seat has.turn in
      let slot : slot_of new ≡ slot_of old = ap (λ i. takes_of i (events_seen new)) number ∙ HasPosted-takes post old new has in
      let posts : length (posts_of new.number (events_seen new)) ≡ length (posts_of old.number (events_seen old)) + 1 =
      ap (λ i. length (posts_of i (events_seen new))) number ∙ ap length (HasPosted-posts post old new has)
      ∙ length_push (posts_of old.number (events_seen old)) post in
      let from = seat.told.posts_from in
      let taken = seat.told.slot in
      record {
        slot = slot;
        posted = omega arith;
        done = after.told.done ∙ ap has_ended (HasPosted-column post old new has) ∙ sym seat.told.done;
        tries = ap refusals has.turn.turn
            ∙ refusals-acted old has.between (Post old.number post) (decision_entries s (before ++ Post old.number post ∷ [])) has.turn.others;
      }

or_last : (a b : Bool) → a ≡ false → (a || (b || false)) ≡ b
or_last true b going = absurd (both_ways true going refl)
or_last false true going = refl
or_last false false going = refl

module _ (taken : Taken) (old new : SeatValue Event) (seat : IsSeat old) (it : IsPosted old) (has : HasTaken taken old new) where
  pub AfterTaking-has : AfterTaking taken old new
  AfterTaking-has =
      let before = events_before old has.between in
      let number : new.number ≡ old.number = ap (λ s. s.number) has.turn.turn in
      let adds : List Event → List Event = λ events. Take old.number ∷ [] in
      let after : IsSeat new = IsSeat-turn adds old new has.between seat has.turn in
      let slot : slot_of new ≡ slot_of old + 1 = ap (λ i. takes_of i (events_seen new)) number ∙ HasTaken-takes taken old new has in
      let posts : length (posts_of new.number (events_seen new)) ≡ length (posts_of old.number (events_seen old)) =
      ap (λ i. length (posts_of i (events_seen new))) number ∙ ap length (HasTaken-posts taken old new has) in
      let to = seat.told.posts_to in
      let is = seat.told.slot in
      let less : slots_taken (column_at old) < length (column_at old).posts = omega arith in
      let at_turn = takes_of-beyond old.number old.seen has.between (between_allowed adds old new has.between has.turn) has.turn.others in
      record {
        own = ap (λ t. t.slot) has.answer ∙ at_turn;
        slot = slot;
        free = λ again. absurd (omega arith);
        done = after.told.done ∙ ap has_ended (HasTaken-column taken old new has)
            ∙ list_any-append (λ (t : Taken). t.done) (column_at old).takings (taken ∷ [])
            ∙ or_last (has_ended (column_at old)) taken.done (seat.told.going less);
        tries = ap refusals has.turn.turn ∙ refusals-acted old has.between (Take old.number) [] has.turn.others;
      }

-- a column, seen from the seat
module _ (old new : SeatValue Event) (seat : IsSeat old) (after : IsSeat new) (column : column_at new ≡ column_at old)
    (tries : refusals new ≡ refusals old + 1) where
  AfterRefusal-column : AfterRefusal old new
  AfterRefusal-column =
      let slot : slot_of new ≡ slot_of old = after.told.slot ∙ ap slots_taken column ∙ sym seat.told.slot in
      let posts : length (posts_of new.number (events_seen new)) ≡ length (posts_of old.number (events_seen old)) = ap (λ c. length c.posts) column in
      record {
        column = column;
        slot = slot;
        posted = (λ it. omega arith, λ it. omega arith);
        done = after.told.done ∙ ap has_ended column ∙ sym seat.told.done;
        tries = tries;
      }

pub AfterRefusal-undecided : (ports : ℕ) (old new : SeatValue Event) → IsSeat old → IsUndecided ports old new → AfterRefusal old new
AfterRefusal-undecided ports old new seat has =
    AfterRefusal-column old new seat (IsSeat-turn (λ events. []) old new has.between seat has.turn) (IsUndecided-column ports old new has)
    (ap refusals has.turn.turn ∙ refusals-idle old has.between has.turn.others)
