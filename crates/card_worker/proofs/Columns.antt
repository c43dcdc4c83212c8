-- A card's column after one event more, and the hand that agrees with it.
use Rattle.std.proofs.Common.{◌≡◌, ◌≢◌, ◌∙◌, ℕ, ◌+◌, ◌<◌, ◌≤◌, true, false, List, [], ◌∷◌, ◌++◌, length, refl, sym, ap, subst, arith, inl, inr}
use Rattle.std.specs.Prelude.{Option, None, if◌then◌else◌}
use Rattle.std.proofs.lemmas.Bool.{both_ways, cases_lt, ne_eqb}
use Rattle.std.proofs.lemmas.List.{length_push}
use Rattle.slot_match.specs.declared.rows.Row.{Row}
use Rattle.slot_match.specs.declared.matching.Served.{Served}
use Rattle.crossbar.specs.declared.cards.Post.{Post as CardPost}
use Rattle.crossbar.specs.declared.cards.Taken.{Taken}
use Rattle.slot_histories.specs.declared.events.Event.{Event}
use Rattle.slot_histories.specs.declared.events.Event.TheVariants.{Post, Decide, Take}
use Rattle.slot_histories.specs.Events.{Setup, posts_of, takes_of, posted}
use Rattle.slot_histories.specs.Slots.{is_done_before, taken_at, row_before, served_before}
use Rattle.slot_histories.specs.Legal.{IsAccepted, MayPost, IsLegal}
use Rattle.slot_histories.proofs.Appending.{posts_of-same, posts_of-other, posts_of-decide, posts_of-take}
use Rattle.board_state.specs.Boards.{IsSetup}
use Rattle.slot_board.specs.States.{StateValue}
use Rattle.slot_histories.specs.Columns.{Column, column_of, with_post, with_taking, row_told, served_told, IsTold}
use Rattle.slot_histories.proofs.Takings.{takings_of-beyond, takings_of-take}
use Rattle.slot_histories.proofs.Telling.{IsTold-legal}
use Rattle.card_core.specs.Cards.{CardState}
use Rattle.card_core.specs.Posts.{IsServable}
use Rattle.card_worker.specs.declared.hands.Hand.{Hand}
use Rattle.card_worker.specs.Agreeing.{IsDriven, IsLevel, IsAhead, IsInStep}
use Rattle.card_worker.specs.AgreeingSteps.{CanPost, AfterGiving}
use Rattle.card_worker.specs.Alone.{IsHandOf}
use Rattle.card_worker.specs.AloneSteps.{with_event, AfterAct}
use Rattle.card_worker.proofs.Accepting.{accepted_at, servable_told}
use Rattle.card_worker.proofs.Steps.{next_post, IsLevel-posted, IsDriven-posted, IsLevel-taken, IsDriven-taken, level_of, slot_is, good_plan}
use Rattle.card_worker.proofs.Steps.{servable_card, CanPost-of}

abbrev column_with : List CardPost → List Taken → Column
column_with posts takings = record { posts = posts; takings = takings }

column_from : (posts more : List CardPost) (takings others : List Taken) → posts ≡ more → takings ≡ others → column_with posts takings ≡ column_with more others
column_from posts more takings others same too = ap (λ ps. column_with ps takings) same ∙ ap (column_with more) too

module _ (s : Setup) (events : List Event) where
  pub column-post : (i : ℕ) (post : CardPost) → column_of s i (events ++ Post i post ∷ []) ≡ with_post (column_of s i events) post
  column-post i post = column_from _ _ _ _ (posts_of-same events i post) (takings_of-beyond s i events (Post i post ∷ []) refl)

  pub column-post-other : (i j : ℕ) (post : CardPost) → i ≢ j → column_of s j (events ++ Post i post ∷ []) ≡ column_of s j events
  column-post-other i j post ne = column_from _ _ _ _ (posts_of-other events i j post ne) (takings_of-beyond s j events (Post i post ∷ []) refl)

  pub column-take : (i : ℕ) → column_of s i (events ++ Take i ∷ []) ≡ with_taking (column_of s i events) (taken_at s (posted events) i (takes_of i events))
  column-take i = column_from _ _ _ _ (posts_of-take events i i) (takings_of-take s i events)

  pub column-take-other : (i j : ℕ) → i ≢ j → column_of s j (events ++ Take i ∷ []) ≡ column_of s j events
  column-take-other i j ne =
      let none : takes_of j (Take i ∷ []) ≡ 0 = ap (λ b. if b then 0 + 1 else 0) (ne_eqb i j ne) in
      column_from _ _ _ _ (posts_of-take events i j) (takings_of-beyond s j events (Take i ∷ []) none)

  pub column-decide : (j : ℕ) → column_of s j (events ++ Decide ∷ []) ≡ column_of s j events
  column-decide j = column_from _ _ _ _ (posts_of-decide events j) (takings_of-beyond s j events (Decide ∷ []) refl)

module _ (s : Setup) (i : ℕ) (events : List Event) (setup : IsSetup s) (legal : IsLegal s events) (inside : i < s.ports) (hand : Hand)
    (is : IsHandOf hand s i events) where
  abbrev column : Column
  column = column_of s i events

  told : IsTold s i events column
  told = IsTold-legal s i events legal inside

  slots_few : length column.posts ≤ 262145
  slots_few = let room = told.room in let few = setup.slots_few in omega arith

  -- a card that has not posted its slot
  module _ (free : takes_of i events < length (posts_of i events) → ⊥) where
    pub posts_same : length column.posts ≡ length column.takings
    posts_same =
        let from = told.posts_from in
        let slot = told.slot in
        elim (cases_lt (takes_of i events) (length (posts_of i events))) [ inl less ↦ absurd (free less) | inr most ↦ omega arith ]

    -- and may
    module _ (going : is_done_before s.ports (posted events) (takes_of i events) ≡ false) (room : takes_of i events < s.max_slots) where
      pub can_post : CanPost hand.kept hand.card
      can_post =
          let few = setup.slots_few in
          let slot = told.slot in
          CanPost-of hand.kept hand.card column is.step posts_same (sym told.done ∙ going) (omega arith)

      pub may_post : (post : CardPost) → post ≡ next_post hand.card.sends.plan column → MayPost s events i post
      may_post post mine =
          let n = s.ports in
          let plan = hand.card.sends.plan in
          let next = next_post plan column in
          let by_law : IsAccepted n i (row_told column) (served_told column) next =
          accepted_at hand s i events (good_plan hand.kept hand.card column is.step) legal is posts_same in
          let by_row : IsAccepted n i (row_before (posted events) i (takes_of i events)) (served_told column) next =
          subst (λ (row : Row). IsAccepted n i row (served_told column) next) (sym told.row) by_law in
          let by_part : IsAccepted n i (row_before (posted events) i (takes_of i events)) (served_before s (posted events) i (takes_of i events)) next =
          subst (λ (part : Option Served). IsAccepted n i (row_before (posted events) i (takes_of i events)) part next) (sym told.served) by_row in
          let slot = told.slot in
          let same = posts_same in
          record {
            card_in = inside;
            taken = omega arith;
            room = omega arith;
            not_done = going;
            accepted = subst (λ (p : CardPost). IsAccepted n i (row_before (posted events) i (takes_of i events))
                (served_before s (posted events) i (takes_of i events)) p) (sym mine) by_part;
          }

    -- the hand after its post
    pub hand-posted : (card : CardState) (post : CardPost) → card.sends.plan ≡ hand.card.sends.plan → IsAhead post card column
        → IsHandOf (record { card = card; kept = None }) s i (events ++ Post i post ∷ [])
    hand-posted card post plan ahead =
        let to = column-post s events i post in
        let mine : post ≡ next_post hand.card.sends.plan column = ahead.is ∙ ap (λ p. next_post p column) plan in
        record {
          ports = ap (λ p. p.ports) plan ∙ is.ports;
          card = ap (λ p. p.card) plan ∙ is.card;
          driven = subst (λ p. IsDriven p (column_of s i (events ++ Post i post ∷ []))) (sym plan)
              (subst (IsDriven hand.card.sends.plan) (sym to) (IsDriven-posted hand.card.sends.plan post column is.driven posts_same mine));
          step = subst (IsLevel card) (sym to) (IsLevel-posted post card column ahead);
        }

  -- a card that has posted its slot
  module _ (it : takes_of i events < length (posts_of i events)) where
    less : length column.takings < length column.posts
    less = let slot = told.slot in omega arith

    pub level : (hand.kept ≡ None) × IsLevel hand.card column × (hand.card.sends.posted ≡ true)
    level = level_of hand.kept hand.card column is.step less

    pub card_slot : hand.card.sends.slot ≡ takes_of i events
    card_slot = slot_is hand.card column level.1 ∙ sym told.slot

    -- what its slot gives may be served of the card's row
    pub servable : (taken : Taken) → taken ≡ taken_at s (posted events) i (takes_of i events) → IsLegal s (events ++ Take i ∷ [])
        → IsServable hand.card.sends.row taken.served
    servable taken mine next =
        let to : column_of s i (events ++ Take i ∷ []) ≡ with_taking column taken = column-take s events i ∙ ap (with_taking column) (sym mine) in
        let may = servable_told s i (events ++ Take i ∷ []) setup.ports_some setup.ports_few next inside in
        servable_card hand.card column taken level.1 level.2 is.driven less (subst (λ (c : Column). IsServable (row_told c) (served_told c)) to may)

    -- the hand after its take
    pub hand-taken : (card : CardState) (taken : Taken) → taken ≡ taken_at s (posted events) i (takes_of i events) → AfterGiving taken hand.card card
        → IsHandOf (record { card = card; kept = hand.kept }) s i (events ++ Take i ∷ [])
    hand-taken card taken mine give =
        let plan = give.plan in
        let to : column_of s i (events ++ Take i ∷ []) ≡ with_taking column taken = column-take s events i ∙ ap (with_taking column) (sym mine) in
        let step : IsLevel card (with_taking column taken) = IsLevel-taken hand.card card column taken level.1 level.2 give in
        record {
          ports = ap (λ p. p.ports) plan ∙ is.ports;
          card = ap (λ p. p.card) plan ∙ is.card;
          driven = subst (λ p. IsDriven p (column_of s i (events ++ Take i ∷ []))) (sym plan)
              (subst (IsDriven hand.card.sends.plan) (sym to) (IsDriven-taken hand.card.sends.plan column taken is.driven told.posts_to));
          step = subst (λ k. IsInStep k card (column_of s i (events ++ Take i ∷ []))) (sym level.0) (subst (IsLevel card) (sym to) step);
        }

-- what the event makes of the board
pub AfterAct-post : (i : ℕ) (board : StateValue) (post : CardPost) → AfterAct i board (with_event board (Post i post)) true
AfterAct-post i board post =
    record {
      setup = refl;
      refused = refl;
      count = length_push board.events (Post i post);
      goes_on = (Post i post ∷ [], refl);
      others = λ j ne. column-post-other board.setup board.events i j post (λ same. ne (sym same));
      still = λ no. absurd (both_ways true no refl);
    }

pub AfterAct-take : (i : ℕ) (board : StateValue) → AfterAct i board (with_event board (Take i)) true
AfterAct-take i board =
    record {
      setup = refl;
      refused = refl;
      count = length_push board.events (Take i);
      goes_on = (Take i ∷ [], refl);
      others = λ j ne. column-take-other board.setup board.events i j (λ same. ne (sym same));
      still = λ no. absurd (both_ways true no refl);
    }
