-- A card's column tells all of the card.
use Rattle.std.proofs.Common.{◌≡◌, ◌∙◌, ℕ, zero, suc, ◌+◌, ◌<◌, ◌≤◌, ◌||◌, Bool, true, false, List, [], ◌∷◌, ◌++◌, length, map, Some, refl, sym, ap}
use Rattle.std.proofs.Common.{subst, arith, append_assoc, inl, inr, slice_index_or}
use Rattle.std.specs.Prelude.{slice_get}
use Rattle.std.specs.List.{range_with_len, list_any}
use Rattle.std.specs.Option.{option_and_then}
use Rattle.std.proofs.lemmas.Bool.{cases_eq}
use Rattle.std.proofs.lemmas.List.{append-nil}
use Rattle.std.proofs.lemmas.List.Folds.{list_any-append}
use Rattle.std.proofs.lemmas.List.FromFn.{length-map-range_with_len, get_or-map-range_with_len, map-range_with_len_more}
use Rattle.std.proofs.lemmas.Option.{slice_get-get_or}
use Rattle.crossbar.specs.declared.cards.Post.{Post as CardPost}
use Rattle.crossbar.specs.declared.cards.Taken.{Taken}
use Rattle.eslip_rounds.specs.Schedulers.{Scheduler}
use Rattle.eslip_rounds.specs.Decisions.{decision_of}
use Rattle.slot_histories.specs.declared.events.Event.{Event}
use Rattle.slot_histories.specs.declared.events.Event.TheVariants.{Post, Decide, Take}
use Rattle.slot_histories.specs.Events.{Setup, posts_of, takes_of, posted, no_post}
use Rattle.slot_histories.specs.Slots.{is_done_at, is_done_before, taken_under, taken_at, row_before, served_before_under}
use Rattle.slot_histories.specs.Legal.{Allows, IsLegalAfter, IsLegal}
use Rattle.slot_histories.specs.Answers.{takings_of}
use Rattle.slot_histories.proofs.Appending.{posts_of-other, posts_of-decide, posts_of-take, takes_of-same, takes_of-other, takes_of-post}
use Rattle.slot_histories.proofs.Appending.{takes_of-decide, posted_more}
use Rattle.slot_histories.proofs.LegalLists.{AreInStep-legal, AreAccepted-legal}
use Rattle.slot_histories.proofs.Ordering.{takings_of-slots}
use Rattle.slot_histories.specs.Columns.{column_of, slots_taken, has_ended, part_told, IsTold}

-- A card posts at most one slot more than it took.
abbrev IsOneAhead : ℕ → List Event → Type 0
IsOneAhead i events = length (posts_of i events) ≤ takes_of i events + 1

one_ahead_more : (s : Setup) (i : ℕ) (events : List Event) (event : Event) → IsOneAhead i events → Allows s events event → IsOneAhead i (events ++ event ∷ [])
one_ahead_more s i events (Post card post) before may =
    elim (cases_eq card i) [
      | inl is ↦
          subst (λ j. IsOneAhead j (events ++ Post card post ∷ [])) is
          (omega (arith, posted_more events card post, takes_of-post events card card post, may.taken))
      | inr ne ↦ omega (arith, ap length (posts_of-other events card i post ne), takes_of-post events card i post, before)
    ]
one_ahead_more s i events Decide before may = omega (arith, ap length (posts_of-decide events i), takes_of-decide events i, before)
one_ahead_more s i events (Take card) before may =
    elim (cases_eq card i) [
      | inl is ↦
          subst (λ j. IsOneAhead j (events ++ Take card ∷ [])) is
          (omega (arith, ap length (posts_of-take events card card), takes_of-same events card, subst (λ j. IsOneAhead j events) (sym is) before))
      | inr ne ↦ omega (arith, ap length (posts_of-take events card i), takes_of-other events card i ne, before)
    ]

one_ahead_after : (s : Setup) (i : ℕ) (before events : List Event) → IsOneAhead i before → IsLegalAfter s before events → IsOneAhead i (before ++ events)
one_ahead_after s i before [] is legal = subst (IsOneAhead i) (sym (append-nil before)) is
one_ahead_after s i before (event ∷ events) is legal =
    subst (IsOneAhead i) (append_assoc before (event ∷ []) events)
    (one_ahead_after s i (before ++ event ∷ []) events (one_ahead_more s i before event is legal.0) legal.1)

or_end : (a b : Bool) → (a || (b || false)) ≡ (a || b)
or_end true true = refl
or_end true false = refl
or_end false true = refl
or_end false false = refl

-- what a card takes of the first slots under any scheduler
module _ (scheduler : Scheduler) (s : Setup) (f : ℕ → ℕ → CardPost) (i : ℕ) where
  abbrev takings : ℕ → List Taken
  takings k = map (taken_under scheduler s f i) (range_with_len 0 k)

  takings-more : (k : ℕ) → takings (suc k) ≡ takings k ++ taken_under scheduler s f i k ∷ []
  takings-more k = let next : suc k ≡ k + 1 = omega arith in ap takings next ∙ map-range_with_len_more (taken_under scheduler s f i) 0 k k (omega arith)

  pub done-told : (k : ℕ) → is_done_before s.ports f k ≡ list_any (λ taken. taken.done) (takings k)
  done-told zero = refl
  done-told (suc k) =
      ap (λ b. b || is_done_at s.ports f k) (done-told k)
      ∙ sym (or_end (list_any (λ taken. taken.done) (takings k)) (is_done_at s.ports f k))
      ∙ sym (list_any-append (λ (taken : Taken). taken.done) (takings k) (taken_under scheduler s f i k ∷ []))
      ∙ ap (list_any (λ taken. taken.done)) (sym (takings-more k))

  pub part-told : (k : ℕ) → served_before_under scheduler s f i k ≡ part_told k (takings k)
  part-told zero = refl
  part-told (suc k) =
      let long = length-map-range_with_len (taken_under scheduler s f i) 0 (suc k) in
      let at : slice_get (takings (suc k)) k ≡ Some (taken_under scheduler s f i k) =
      slice_get-get_or (takings (suc k)) k (taken_under scheduler s f i k) (omega arith)
      ∙ ap Some (get_or-map-range_with_len (taken_under scheduler s f i) 0 (suc k) k k (taken_under scheduler s f i k) (omega arith) (omega arith)) in
      sym (ap (option_and_then (λ taken. taken.served)) at)

row_told-same : (f g : ℕ → ℕ → CardPost) (i j k : ℕ) → ((t : ℕ) → f i t ≡ g j t) → row_before f i k ≡ row_before g j k
row_told-same f g i j zero same = refl
row_told-same f g i j (suc t) same = ap (λ p. p.row) (same t)

pub IsTold-legal : (s : Setup) (i : ℕ) (events : List Event) → IsLegal s events → i < s.ports → IsTold s i events (column_of s i events)
IsTold-legal s i events legal inside =
    let k = takes_of i events in
    let step = AreInStep-legal s events legal in
    let all : takings_of s i events ≡ takings decision_of s (posted events) i k = takings_of-slots s events legal i inside in
    let slot : k ≡ slots_taken (column_of s i events) = sym (ap length all ∙ length-map-range_with_len (taken_at s (posted events) i) 0 k) in
    let done : is_done_before s.ports (posted events) k ≡ has_ended (column_of s i events) = done-told decision_of s (posted events) i k
    ∙ ap (list_any (λ taken. taken.done)) (sym all) in
    let ahead : IsOneAhead i events = one_ahead_after s i [] events (omega arith) legal in
    let taken_decided = step.taken_decided i inside in
    let decided_posted = step.decided_posted i inside in
    record {
      slot = slot;
      done = done;
      row = row_told-same (posted events) (λ j t. slice_index_or (posts_of i events) t no_post) i 0 k (λ t. refl)
          ∙ ap (row_before (λ j t. slice_index_or (posts_of i events) t no_post) 0) slot;
      served = part-told decision_of s (posted events) i k ∙ ap (part_told k) (sym all) ∙ ap (λ n. part_told n (takings_of s i events)) slot;
      posts_from = omega arith;
      posts_to = omega arith;
      room = step.posts_within i inside;
      going = λ less. sym done ∙ (AreAccepted-legal s events legal).going i k inside (omega arith);
    }
