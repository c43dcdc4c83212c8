-- A join keeps the rule: one view keeps what another had seen, and has its numbers, and the other is spent.
use Rattle.std.proofs.Common.{◌≡◌, ◌≢◌, ◌<◌, inl, inr, ⊎_elim, ℕ, false, List, [], ◌∷◌, ◌++◌, length, set, Option, refl, sym, ◌∙◌, subst}
use mathlib.Core.Option.{some}
use lib.ListN.{get_elem?}
use Rattle.atomic_table.specs.Table.{State, Joins}
use Rattle.atomic_table.proofs.Lists.{set_else}
use Rattle.turn_lock.specs.declared.history.TurnOf.{TurnOf}
use Rattle.turn_lock.specs.declared.history.Opening.{Opening}
use Rattle.turn_lock.specs.declared.view.View.{View}
use Rattle.turn_lock.specs.declared.view.JoinedSeat.{JoinedSeat}
use Rattle.turn_lock.specs.declared.rule.Stamped.{Stamped}
use Rattle.turn_lock.specs.declared.view.Phase.TheVariants.{Idle, Begun}
use Rattle.turn_lock.specs.Views.{joined_with, spent_view}
use Rattle.turn_lock.specs.Rule.{Live, HasSeen, IsOvertaken, JoinedHaveSeen, Fits, Keeps, IsFree, IsTaken, IsAt}
use Rattle.turn_lock.proofs.JoinedNumbers.{each_after_join, numbered_after_join}
use Rattle.turn_lock.proofs.Splitting.{not_who}

-- What holds of the seats `early`, of `seat` and of the seats `late` holds of all of them in one list.
have_seen_three : {E : Type 0} (history : List (TurnOf E)) (may_grow : Type 0) (early : List (JoinedSeat E)) (seat : JoinedSeat E)
    (late : List (JoinedSeat E)) → JoinedHaveSeen history may_grow early → HasSeen history seat.number seat.seen
    → IsOvertaken history may_grow seat.seen seat.since → JoinedHaveSeen history may_grow late → JoinedHaveSeen history may_grow (early ++ seat ∷ late)
have_seen_three history may_grow [] seat late of_early seen overtaken of_late = (seen, overtaken, of_late)
have_seen_three history may_grow (next ∷ early) seat late of_early seen overtaken of_late =
    (of_early.0, of_early.1, have_seen_three history may_grow early seat late of_early.2 seen overtaken of_late)

module _ {V E : Type 0} (entries : V → List E) (numbers : V → List ℕ) (may : ℕ → List E → Type 0) (opening : Opening E) where
  -- Where two views fit a history, the view of both does.
  both_fit : (history : List (TurnOf E)) (first second : View E) (beside_first beside_second not_raised : Type 0)
      → Fits opening history beside_first not_raised first → Fits opening history beside_second not_raised second
      → IsOvertaken history not_raised second.seen second.since → Fits opening history beside_first not_raised (joined_with first second)
  both_fit history first second beside_first beside_second not_raised fits also overtaken = record {
    opening = fits.opening;
    seen = fits.seen;
    joined = have_seen_three history not_raised first.joined (record { number = second.number; seen = second.seen; since = second.since })
        second.joined fits.joined also.seen overtaken also.joined;
    overtaken = fits.overtaken;
  }

  -- Beside a view in a turn another has seen less than the whole, once that turn is raised.
  overtaken_beside : (state : State (Option (Stamped V)) (View E)) (history : List (TurnOf E)) (taken : IsTaken entries numbers may opening history state)
      (j : ℕ) (view : View E) → Live state.views j view → j ≢ taken.who → IsOvertaken history (taken.there.0.phase ≡ Begun) view.seen view.since
  overtaken_beside state history taken j view live not_who finds =
      ⊎_elim (λ begun. inr (inl begun.0)) (λ raised. inl (raised.2 j view live not_who)) (taken.stage taken.there.0 taken.there.1.0)

  -- The view `first` at `id` and the view `second` at `other`, both live and in no turn, are joined.
  module _ (state : State (Option (Stamped V)) (View E)) (history : List (TurnOf E)) (id other : ℕ) (first second : View E)
      (first_at : Live state.views id first) (second_at : Live state.views other second) (first_idle : first.phase ≡ Idle)
      (second_idle : second.phase ≡ Idle) where
    abbrev both : View E
    both = joined_with first second

    abbrev state_after : State (Option (Stamped V)) (View E)
    state_after = record { words = state.words; homes = state.homes; views = set (set state.views id both) other spent_view }

    -- What holds of the view of both and of all live views before the join holds of each live view after it.
    each_live : (P : ℕ → View E → Type 0) → P id both → ((j : ℕ) (view : View E) → Live state.views j view → P j view)
        → (j : ℕ) (view : View E) → Live state_after.views j view → P j view
    each_live P of_both of_live j view live =
        each_after_join (λ i next. next.spent ≡ false → P i next) state.views id other both spent_view (λ _. of_both) (λ is_live. absurd (cc))
        (λ i next not_id not_other at is_live. of_live i next (at, is_live)) j view live.0 live.1

    -- A state where no view is in a turn stays one.
    free_after : IsFree entries numbers may opening history state → IsFree entries numbers may opening history state_after
    free_after free = record {
      words = free.words;
      fits =
          let also = free.fits other second second_at in
          each_live (λ _ next. Fits opening history ⊥ ⊥ next)
          (both_fit history first second ⊥ ⊥ ⊥ (free.fits id first first_at) also also.overtaken) free.fits;
      idle = each_after_join (λ _ next. next.phase ≡ Idle) state.views id other both spent_view first_idle refl
          (λ i next not_id not_other at. free.idle i next at);
      value = free.value;
      home = free.home;
      stands = free.stands;
    }

    -- A state where some view is in a turn stays one, and that view is neither of the two.
    module _ (taken : IsTaken entries numbers may opening history state) where
      first_is_not : id ≢ taken.who
      first_is_not = not_who entries numbers may opening state history taken id first first_at.0 first_idle

      second_is_not : other ≢ taken.who
      second_is_not = not_who entries numbers may opening state history taken other second second_at.0 second_idle

      abbrev not_raised : Type 0
      not_raised = taken.there.0.phase ≡ Begun

      -- What is known of the view in its turn stays so: beside a raised turn the view of both too has seen less than the whole.
      stage_after : (view : View E) → IsAt entries numbers may opening history state taken.who view
          → IsAt entries numbers may opening history state_after taken.who view
      stage_after view stage =
          ⊎_elim (λ begun. inl begun)
          (λ raised. inr (
            raised.0,
            raised.1,
            each_live (λ j next. j ≢ taken.who → length next.seen < length history) (raised.2 id first first_at) raised.2,
            raised.3,
            raised.4,
          )) stage

      taken_after : IsTaken entries numbers may opening history state_after
      taken_after = record {
        who = taken.who;
        words = taken.words;
        there = (
          taken.there.0,
          (
            set_else (set state.views id both) other taken.who spent_view (λ same. second_is_not (sym same))
                ∙ (set_else state.views id taken.who both (λ same. first_is_not (sym same)) ∙ taken.there.1.0),
            taken.there.1.1,
          ),
        );
        fits = each_live (λ i next. Fits opening history (i ≢ taken.who) not_raised next)
            (both_fit history first second (id ≢ taken.who) (other ≢ taken.who) not_raised (taken.fits id first first_at)
            (taken.fits other second second_at) (overtaken_beside state history taken other second second_at second_is_not)) taken.fits;
        idle = each_after_join (λ i next. i ≢ taken.who → next.phase ≡ Idle) state.views id other both spent_view (λ _. first_idle) (λ _. refl)
            (λ i next not_id not_other at. taken.idle i next at);
        stage = λ view at.
            each_after_join (λ i next. i ≡ taken.who → IsAt entries numbers may opening history state_after taken.who next) state.views id other
            both spent_view (λ same. absurd (first_is_not same)) (λ same. absurd (second_is_not same))
            (λ i next not_id not_other found same.
            stage_after next (taken.stage next (subst (λ j. get_elem? state.views j ≡ some next) same found))) taken.who view at refl;
        home = taken.home;
      }

  -- A join of two live views, both in no turn, keeps the rule.
  pub joins : (id other : ℕ) (first second : View E) → first.spent ≡ false → first.phase ≡ Idle → second.spent ≡ false → second.phase ≡ Idle
      → Joins (Keeps entries numbers may opening) id first other second (joined_with first second) spent_view
  joins id other first second first_live first_idle second_live second_idle state keeps at apart at_other =
      let history = keeps.history in
      let before : get_elem? state.views other ≡ some second = sym (set_else state.views id other (joined_with first second) apart) ∙ at_other in
      record {
        history = history;
        numbered = numbered_after_join history state.views id other first second (at, first_live) (before, second_live) keeps.numbered;
        in_range = keeps.in_range;
        allowed = keeps.allowed;
        turn = ⊎_elim
            (λ (free : IsFree entries numbers may opening history state).
            inl (free_after state history id other first second (at, first_live) (before, second_live) first_idle second_idle free))
            (λ (taken : IsTaken entries numbers may opening history state).
            inr (taken_after state history id other first second (at, first_live) (before, second_live) first_idle second_idle taken))
            keeps.turn;
      }
