-- After one view was joined into another, the numbers of two live views still differ, all are below the next number to give, and one view at most gives.
use Rattle.std.proofs.Common.{◌≡◌, ◌≢◌, ◌<◌, ◌⊎◌, inl, inr, ⊎_elim, ℕ, false, List, [], ◌∷◌, ◌++◌, set, refl, sym, ◌∙◌, subst, arith}
use mathlib.Core.Option.{some}
use lib.ListN.{get_elem?}
use Rattle.turn_lock.specs.declared.history.TurnOf.{TurnOf}
use Rattle.turn_lock.specs.declared.view.View.{View}
use Rattle.turn_lock.specs.declared.view.JoinedSeat.{JoinedSeat}
use Rattle.turn_lock.specs.Histories.{IsBelow}
use Rattle.turn_lock.specs.Views.{joined_with, spent_view, numbers_of, joined_numbers}
use Rattle.turn_lock.specs.Rule.{IsIn, Live, Numbered}
use Rattle.turn_lock.proofs.Changed.{after_one}

module _ {E : Type 0} where
  -- A number of the seats `early`, `seat` and `late` in one list is one of `early`, that of `seat` or one of `late`.
  number_of_three : (number : ℕ) (early : List (JoinedSeat E)) (seat : JoinedSeat E) (late : List (JoinedSeat E))
      → IsIn number (joined_numbers (early ++ seat ∷ late))
      → IsIn number (joined_numbers early) ⊎ ((number ≡ seat.number) ⊎ IsIn number (joined_numbers late))
  number_of_three number [] seat late is_in = inr is_in
  number_of_three number (next ∷ early) seat late (inl same) = inl (inl same)
  number_of_three number (next ∷ early) seat late (inr is_in) =
      ⊎_elim
      (λ (of_early : IsIn number (joined_numbers early)). inl (inr of_early))
      (λ (of_others : (number ≡ seat.number) ⊎ IsIn number (joined_numbers late)). inr of_others)
      (number_of_three number early seat late is_in)

  -- A number of the view that two make is a number of one of the two.
  number_of_either : (number : ℕ) (first second : View E) → IsIn number (numbers_of (joined_with first second))
      → IsIn number (numbers_of first) ⊎ IsIn number (numbers_of second)
  number_of_either number first second (inl same) = inl (inl same)
  number_of_either number first second (inr is_in) =
      ⊎_elim
      (λ (of_first : IsIn number (joined_numbers first.joined)). inl (inr of_first))
      (λ (of_second : (number ≡ second.number) ⊎ IsIn number (joined_numbers second.joined)). inr of_second)
      (number_of_three number first.joined (record { number = second.number; seen = second.seen; since = second.since }) second.joined is_in)

  -- What holds of the view of both, of the spent view and of all others before the join holds of each view after it.
  pub each_after_join : (P : ℕ → View E → Type 0) (views : List (View E)) (id other : ℕ) (both spent : View E) → P id both → P other spent
      → ((j : ℕ) (view : View E) → j ≢ id → j ≢ other → get_elem? views j ≡ some view → P j view)
      → (j : ℕ) (view : View E) → get_elem? (set (set views id both) other spent) j ≡ some view → P j view
  each_after_join P views id other both spent of_both of_spent of_others j view at =
      after_one P (set views id both) other spent of_spent
      (λ i next not_other found.
      after_one (λ k other_view. k ≢ other → P k other_view) views id both (λ _. of_both)
      (λ k other_view not_id found_before not_this. of_others k other_view not_id not_this found_before) i next found not_other)
      j view at

  -- The view `first` at `id` and the view `second` at `other` of one numbering are joined.
  module _ (history : List (TurnOf E)) (views : List (View E)) (id other : ℕ) (first second : View E) (first_at : Live views id first)
      (second_at : Live views other second) (numbered : Numbered history views) where
    abbrev pub views_after : List (View E)
    views_after = set (set views id (joined_with first second)) other spent_view

    -- where a live view after the join comes from: it has the numbers of both, or it is a live view of before
    abbrev ComesFrom : ℕ → View E → Type 0
    ComesFrom j view =
        ((j ≡ id) × (numbers_of view ≡ numbers_of (joined_with first second)) × (view.given ≡ first.given))
        ⊎ ((j ≢ id) × (j ≢ other) × Live views j view)

    -- Each live view after the join comes from there.
    comes_from : (j : ℕ) (view : View E) → Live views_after j view → ComesFrom j view
    comes_from j view live =
        each_after_join (λ i next. next.spent ≡ false → ComesFrom i next) views id other (joined_with first second) spent_view
        (λ _. inl (refl, refl, refl)) (λ is_live. absurd (cc)) (λ i next not_id not_other at is_live. inr (not_id, not_other, (at, is_live)))
        j view live.0 live.1

    -- A view that was not joined has no number of the view of both.
    shares_none : (i : ℕ) (view : View E) → i ≢ id → i ≢ other → Live views i view
        → (number : ℕ) → IsIn number (numbers_of view) → IsIn number (numbers_of (joined_with first second)) → ⊥
    shares_none i view not_id not_other live number its of_both =
        ⊎_elim
        (λ (of_first : IsIn number (numbers_of first)). not_id (numbered.apart i id view first live first_at number its of_first))
        (λ (of_second : IsIn number (numbers_of second)). not_other (numbered.apart i other view second live second_at number its of_second))
        (number_of_either number first second of_both)

    -- Two live views after the join that share a number are one.
    apart_after : (i j : ℕ) (view next : View E) → ComesFrom i view → ComesFrom j next
        → (number : ℕ) → IsIn number (numbers_of view) → IsIn number (numbers_of next) → i ≡ j
    apart_after i j view next (inl joined) (inl also) number its of_next = joined.0 ∙ sym also.0
    apart_after i j view next (inl joined) (inr kept) number its of_next =
        absurd (shares_none j next kept.0 kept.1 kept.2 number of_next (subst (IsIn number) joined.1 its))
    apart_after i j view next (inr kept) (inl joined) number its of_next =
        absurd (shares_none i view kept.0 kept.1 kept.2 number its (subst (IsIn number) joined.1 of_next))
    apart_after i j view next (inr kept) (inr also) number its of_next = numbered.apart i j view next kept.2 also.2 number its of_next

    -- Where all numbers before the join are below a bound, those after it are.
    below_after : (bound : ℕ) → ((j : ℕ) (view : View E) → Live views j view → (number : ℕ) → IsIn number (numbers_of view) → number < bound)
        → (j : ℕ) (view : View E) → ComesFrom j view → (number : ℕ) → IsIn number (numbers_of view) → number < bound
    below_after bound below j view (inl joined) number its =
        ⊎_elim
        (λ (of_first : IsIn number (numbers_of first)). below id first first_at number of_first)
        (λ (of_second : IsIn number (numbers_of second)). below other second second_at number of_second)
        (number_of_either number first second (subst (IsIn number) joined.1 its))
    below_after bound below j view (inr kept) number its = below j view kept.2 number its

    -- In the place of a live view after the join a live view stood before, which had given as many numbers.
    given_before : (i : ℕ) (view : View E) → ComesFrom i view → (before : View E) × Live views i before × (before.given ≡ view.given)
    given_before i view (inl joined) = (first, subst (λ j. Live views j first) (sym joined.0) first_at, sym joined.2)
    given_before i view (inr kept) = (view, kept.2, refl)

    -- The views after the join are numbered as those before it.
    pub numbered_after_join : Numbered history views_after
    numbered_after_join = record {
      apart = λ i j view next live next_live. apart_after i j view next (comes_from i view live) (comes_from j next next_live);
      below = λ i view live gives.
          let before = given_before i view (comes_from i view live) in
          let given : before.0.given ≡ view.given = before.2 in
          let below = numbered.below i before.0 before.1 (omega arith) in (
            subst (λ bound. IsBelow bound history) given below.0,
            λ j next next_live number its.
                subst (λ bound. number < bound) given (below_after before.0.given below.1 j next (comes_from j next next_live) number its),
          );
      one_dealer = λ i j view next live next_live gives next_gives.
          let before = given_before i view (comes_from i view live) in
          let next_before = given_before j next (comes_from j next next_live) in
          let given : before.0.given ≡ view.given = before.2 in
          let next_given : next_before.0.given ≡ next.given = next_before.2 in
          numbered.one_dealer i j before.0 next_before.0 before.1 next_before.1 (omega arith) (omega arith);
    }
