-- What a card's column becomes: its posts and its takings, after each call and at the close.
use Rattle.std.proofs.Common.{◌≡◌, ◌∙◌, ℕ, ◌+◌, Bool, true, List, [], ◌∷◌, ◌++◌, refl, sym, ap, subst, arith, ◌==◌}
use Rattle.std.specs.Prelude.{if◌then◌else◌}
use Rattle.std.proofs.lemmas.Bool.{eq-eqb}
use Rattle.std.proofs.lemmas.List.{append-nil}
use Rattle.std_lemmas.proofs.Lists.{append_same-nil}
use Rattle.crossbar.specs.declared.cards.Post.{Post as CardPost}
use Rattle.crossbar.specs.declared.cards.Taken.{Taken}
use Rattle.slot_histories.specs.declared.events.Event.{Event}
use Rattle.slot_histories.specs.declared.events.Event.TheVariants.{Post, Decide, Take}
use Rattle.slot_histories.specs.Events.{Setup, posts_of, takes_of, posted}
use Rattle.slot_histories.specs.Slots.{taken_at}
use Rattle.slot_histories.specs.Answers.{takings_of}
use Rattle.slot_histories.specs.Tests.{is_allowed}
use Rattle.slot_histories.proofs.Appending.{posts_of-append, takes_of-append}
use Rattle.turn_lock.specs.declared.history.TurnOf.{TurnOf}
use Rattle.turn_lock.specs.Histories.{IsPrefixOf, entries_of, turns_of, IsAllowed}
use Rattle.turn_lock.specs.Seats.{SeatValue}
use Rattle.turn_lock.proofs.HistoryLemmas.{entries_of-append, entries_of-snoc, turns_of-append, IsAllowed-append}
use Rattle.slot_board.specs.Turns.{MayAdd, post_entries, decision_entries}
use Rattle.slot_board.specs.Seats.{setup_at, events_seen, column_at, slot_of, events_before, HasCardTurn, HasPosted, HasTaken, IsUndecided}
use Rattle.slot_histories.specs.Columns.{column_of, with_post, with_taking}
use Rattle.slot_histories.proofs.Takings.{takings_of-beyond, takings_of-take}
use Rattle.slot_board.proofs.OtherTurns.{posts_of-others, takes_of-others, posts_of-decision, takes_of-decision}

-- a seat's column goes on where the turns that follow are all of other seats
module _ (i : ℕ) (seen more : List (TurnOf Event)) (allowed : IsAllowed MayAdd more) (others : turns_of i more ≡ []) where
  pub posts_of-beyond : posts_of i (entries_of (seen ++ more)) ≡ posts_of i (entries_of seen)
  posts_of-beyond =
      ap (posts_of i) (entries_of-append seen more) ∙ posts_of-append i (entries_of seen) (entries_of more)
      ∙ ap (λ ps. posts_of i (entries_of seen) ++ ps) (posts_of-others i more allowed others) ∙ append-nil (posts_of i (entries_of seen))

  pub takes_of-beyond : takes_of i (entries_of (seen ++ more)) ≡ takes_of i (entries_of seen)
  takes_of-beyond =
      let split = ap (takes_of i) (entries_of-append seen more) in
      let sum = takes_of-append i (entries_of seen) (entries_of more) in
      let none = takes_of-others i more allowed others in
      omega arith

  pub takings_of-others : (s : Setup) → takings_of s i (entries_of (seen ++ more)) ≡ takings_of s i (entries_of seen)
  takings_of-others s = ap (takings_of s i) (entries_of-append seen more)
      ∙ takings_of-beyond s i (entries_of seen) (entries_of more) (takes_of-others i more allowed others)

module _ (adds : List Event → List Event) (old new : SeatValue Event) (between : List (TurnOf Event)) (has : HasCardTurn adds old new between) where
  abbrev at_turn : List Event
  at_turn = events_before old between

  pub between_allowed : IsAllowed MayAdd between
  between_allowed =
      let own : TurnOf Event = record { seat = old.number; entries = adds at_turn } in
      let all : IsAllowed MayAdd ((old.seen ++ between) ++ own ∷ []) = subst (IsAllowed MayAdd) (ap (λ s. s.seen) has.turn) has.allowed in
      (IsAllowed-append MayAdd old.seen between (IsAllowed-append MayAdd (old.seen ++ between) (own ∷ []) all).0).1

  pub HasCardTurn-events : events_seen new ≡ at_turn ++ adds at_turn
  HasCardTurn-events = ap events_seen has.turn ∙ entries_of-snoc (old.seen ++ between) (record { seat = old.number; entries = adds at_turn })

  pub HasCardTurn-posts : posts_of old.number (events_seen new) ≡ posts_of old.number (events_seen old) ++ posts_of old.number (adds at_turn)
  HasCardTurn-posts =
      ap (posts_of old.number) HasCardTurn-events ∙ posts_of-append old.number at_turn (adds at_turn)
      ∙ ap (λ ps. ps ++ posts_of old.number (adds at_turn)) (posts_of-beyond old.number old.seen between between_allowed has.others)

  pub HasCardTurn-takes : takes_of old.number (events_seen new) ≡ slot_of old + takes_of old.number (adds at_turn)
  HasCardTurn-takes =
      ap (takes_of old.number) HasCardTurn-events ∙ takes_of-append old.number at_turn (adds at_turn)
      ∙ ap (λ k. k + takes_of old.number (adds at_turn)) (takes_of-beyond old.number old.seen between between_allowed has.others)

  pub HasCardTurn-setup : setup_at new ≡ setup_at old
  HasCardTurn-setup = ap setup_at has.turn

  pub HasCardTurn-number : new.number ≡ old.number
  HasCardTurn-number = ap (λ s. s.number) has.turn

  -- what it took before the turn is what it had taken
  pub HasCardTurn-taken : takings_of (setup_at old) old.number at_turn ≡ takings_of (setup_at old) old.number (events_seen old)
  HasCardTurn-taken = takings_of-others old.number old.seen between between_allowed has.others (setup_at old)

  -- the new column, by its posts and its takings
  pub HasCardTurn-column : (posts : List CardPost) (takings : List Taken) → posts_of old.number (events_seen new) ≡ posts
      → takings_of (setup_at old) old.number (at_turn ++ adds at_turn) ≡ takings → column_at new ≡ record { posts = posts; takings = takings }
  HasCardTurn-column posts takings posts_are takings_are =
      rw (HasCardTurn-setup, HasCardTurn-number, posts_are, HasCardTurn-events, takings_are) refl

module _ (post : CardPost) (old new : SeatValue Event) (has : HasPosted post old new) where
  abbrev before : List Event
  before = events_before old has.between

  abbrev decided : Bool
  decided = is_allowed (setup_at old) (before ++ Post old.number post ∷ []) Decide

  -- its posts are one more
  pub HasPosted-posts : posts_of old.number (events_seen new) ≡ posts_of old.number (events_seen old) ++ post ∷ []
  HasPosted-posts =
      let i = old.number in
      let mine : (i == i) ≡ true = eq-eqb i i refl in
      let rest = decision_entries (setup_at old) (before ++ Post i post ∷ []) in
      let own : posts_of i (post_entries (setup_at old) before i post) ≡ post ∷ [] = ap (λ b. if b then post ∷ posts_of i rest else posts_of i rest) mine
      ∙ ap (λ ps. post ∷ ps) (posts_of-decision i decided) in
      HasCardTurn-posts (λ events. post_entries (setup_at old) events i post) old new has.between has.turn ∙ ap (λ ps. posts_of i (events_seen old) ++ ps) own

  pub HasPosted-takes : takes_of old.number (events_seen new) ≡ slot_of old
  HasPosted-takes =
      let takes = HasCardTurn-takes (λ events. post_entries (setup_at old) events old.number post) old new has.between has.turn in
      let none = takes_of-decision old.number decided in
      omega arith

  pub HasPosted-column : column_at new ≡ with_post (column_at old) post
  HasPosted-column =
      let adds : List Event → List Event = λ events. post_entries (setup_at old) events old.number post in
      let none = takings_of-beyond (setup_at old) old.number before (adds before) (takes_of-decision old.number decided) in
      HasCardTurn-column adds old new has.between has.turn (posts_of old.number (events_seen old) ++ post ∷ [])
      (takings_of (setup_at old) old.number (events_seen old)) HasPosted-posts
      (none ∙ HasCardTurn-taken adds old new has.between has.turn)

module _ (taken : Taken) (old new : SeatValue Event) (has : HasTaken taken old new) where
  pub HasTaken-posts : posts_of old.number (events_seen new) ≡ posts_of old.number (events_seen old)
  HasTaken-posts = HasCardTurn-posts (λ events. Take old.number ∷ []) old new has.between has.turn ∙ append-nil (posts_of old.number (events_seen old))

  -- its takings are one more
  pub HasTaken-takes : takes_of old.number (events_seen new) ≡ slot_of old + 1
  HasTaken-takes =
      let mine : (old.number == old.number) ≡ true = eq-eqb old.number old.number refl in
      HasCardTurn-takes (λ events. Take old.number ∷ []) old new has.between has.turn ∙ ap (λ b. slot_of old + (if b then 0 + 1 else 0)) mine

  pub HasTaken-column : column_at new ≡ with_taking (column_at old) taken
  HasTaken-column =
      let adds : List Event → List Event = λ events. Take old.number ∷ [] in
      let before = events_before old has.between in
      HasCardTurn-column adds old new has.between has.turn (posts_of old.number (events_seen old))
      (takings_of (setup_at old) old.number (events_seen old) ++ taken ∷ []) HasTaken-posts
      (takings_of-take (setup_at old) old.number before
      ∙ ap (λ takings. takings ++ taken_at (setup_at old) (posted before) old.number (takes_of old.number before) ∷ [])
      (HasCardTurn-taken adds old new has.between has.turn) ∙ ap (λ t. takings_of (setup_at old) old.number (events_seen old) ++ t ∷ []) (sym has.answer))

module _ (ports : ℕ) (old new : SeatValue Event) (has : IsUndecided ports old new) where
  pub IsUndecided-posts : posts_of old.number (events_seen new) ≡ posts_of old.number (events_seen old)
  IsUndecided-posts = HasCardTurn-posts (λ events. []) old new has.between has.turn ∙ append-nil (posts_of old.number (events_seen old))

  pub IsUndecided-column : column_at new ≡ column_at old
  IsUndecided-column =
      let adds : List Event → List Event = λ events. [] in
      let before = events_before old has.between in
      HasCardTurn-column adds old new has.between has.turn (posts_of old.number (events_seen old))
      (takings_of (setup_at old) old.number (events_seen old)) IsUndecided-posts
      (ap (takings_of (setup_at old) old.number) (append-nil before) ∙ HasCardTurn-taken adds old new has.between has.turn)

-- a seat's column is that of the whole history, which goes on without it
module _ (history : List (TurnOf Event)) (allowed : IsAllowed MayAdd history) (i : ℕ) (seat : SeatValue Event) (seen : IsPrefixOf seat.seen history)
    (own : turns_of i history ≡ turns_of i seat.seen) where
  abbrev further : List (TurnOf Event)
  further = seen.0

  further_allowed : IsAllowed MayAdd further
  further_allowed = (IsAllowed-append MayAdd seat.seen further (subst (IsAllowed MayAdd) seen.1 allowed)).1

  of_others : turns_of i further ≡ []
  of_others = append_same-nil (turns_of i seat.seen) (turns_of i further) (sym (turns_of-append i seat.seen further) ∙ ap (turns_of i) (sym seen.1) ∙ own)

  pub column_of-history : (s : Setup) (events : List Event) → s ≡ setup_at seat → events ≡ entries_of history → seat.number ≡ i
      → column_of s i events ≡ column_at seat
  column_of-history s events setup events_are number =
      ap (column_of s i) (events_are ∙ ap entries_of seen.1)
      ∙ ap (λ posts. record { posts = posts; takings = takings_of s i (entries_of (seat.seen ++ further)) })
      (posts_of-beyond i seat.seen further further_allowed of_others)
      ∙ ap (λ takings. record { posts = posts_of i (events_seen seat); takings = takings }) (takings_of-others i seat.seen further further_allowed of_others s)
      ∙ ap (λ s. column_of s i (events_seen seat)) setup
      ∙ ap (λ number. column_of (setup_at seat) number (events_seen seat)) (sym number)
