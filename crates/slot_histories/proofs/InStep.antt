-- After a legal list of events the cards are in step with the decided slots.
use Rattle.std.proofs.Common.{◌≡◌, ◌≢◌, ℕ, ◌+◌, ◌*◌, ◌<◌, ◌≤◌, List, [], ◌∷◌, ◌++◌, length, ap, subst, arith, inl, inr}
use Rattle.std.specs.List.{range_with_len, sum_by}
use Rattle.std.proofs.lemmas.Bool.{cases_eq}
use Rattle.std.proofs.lemmas.List.{length_push}
use Rattle.std_lemmas.proofs.RangeSums.{sum_by-range_same, sum_by-range_one, sum_by-range_le}
use Rattle.crossbar.specs.declared.cards.Post.{Post as CardPost}
use Rattle.slot_histories.specs.declared.events.Event.{Event}
use Rattle.slot_histories.specs.declared.events.Event.TheVariants.{Post, Decide, Take}
use Rattle.slot_histories.specs.Events.{Setup, posts_of, takes_of, decides, posted}
use Rattle.slot_histories.specs.Legal.{MayPost, MayDecide, MayTake, Allows}
use Rattle.slot_histories.proofs.Appending.{posted-append, posts_of-other, posts_of-decide, posts_of-take, takes_of-same, takes_of-other, takes_of-post}
use Rattle.slot_histories.proofs.Appending.{takes_of-decide, decides-post, decides-decide, decides-take, posted_more}

-- how many posts and takes of the card stand in the list
abbrev pub acts_of : List Event → ℕ → ℕ
acts_of events i = length (posts_of i events) + takes_of i events

-- The cards and the decided slots are in step: each card has posted all decided slots and at most one more,
-- and has taken none but decided ones; and every event is a post, a take or a decided slot.
pub record AreInStep (s : Setup) (events : List Event) : Type 0 where
  pub posts_within : (i : ℕ) → i < s.ports → length (posts_of i events) ≤ s.max_slots
  pub decided_posted : (i : ℕ) → i < s.ports → decides events ≤ length (posts_of i events)
  pub posted_next : (i : ℕ) → i < s.ports → length (posts_of i events) ≤ decides events + 1
  pub taken_decided : (i : ℕ) → i < s.ports → takes_of i events ≤ decides events
  pub total : length events ≡ sum_by (acts_of events) (range_with_len 0 s.ports) + decides events

pub AreInStep-none : (s : Setup) → AreInStep s []
AreInStep-none s =
    record {
      posts_within = λ i below. omega arith;
      decided_posted = λ i below. omega arith;
      posted_next = λ i below. omega arith;
      taken_decided = λ i below. omega arith;
      total = let none = sum_by-range_le 0 s.ports (acts_of []) 0 (λ i from below. omega arith) in omega arith;
    }

pub AreInStep-post : (s : Setup) (events : List Event) (card : ℕ) (post : CardPost) → AreInStep s events → MayPost s events card post
    → AreInStep s (events ++ Post card post ∷ [])
AreInStep-post s events card post step may =
    let same = posted_more events card post in
    let other : (i : ℕ) → card ≢ i → length (posts_of i (events ++ Post card post ∷ [])) ≡ length (posts_of i events) =
    λ i ne. ap length (posts_of-other events card i post ne) in
    let slots = decides-post events card post in
    let takes : (i : ℕ) → takes_of i (events ++ Post card post ∷ []) ≡ takes_of i events = λ i. takes_of-post events card i post in
    record {
      posts_within = λ i below. elim (cases_eq card i) [
        | inl is ↦ subst (λ j. length (posts_of j (events ++ Post card post ∷ [])) ≤ s.max_slots) is (omega (arith, same, may.room))
        | inr ne ↦ omega (arith, other i ne, step.posts_within i below)
      ];
      decided_posted = λ i below. elim (cases_eq card i) [
        | inl is ↦ subst (λ j. decides (events ++ Post card post ∷ []) ≤ length (posts_of j (events ++ Post card post ∷ []))) is
            (omega (arith, same, slots, step.decided_posted card may.card_in))
        | inr ne ↦ omega (arith, other i ne, slots, step.decided_posted i below)
      ];
      posted_next = λ i below. elim (cases_eq card i) [
        | inl is ↦ subst (λ j. length (posts_of j (events ++ Post card post ∷ [])) ≤ decides (events ++ Post card post ∷ []) + 1) is
            (omega (arith, same, slots, may.taken, step.taken_decided card may.card_in))
        | inr ne ↦ omega (arith, other i ne, slots, step.posted_next i below)
      ];
      taken_decided = λ i below. omega (arith, takes i, slots, step.taken_decided i below);
      total =
          let sums = sum_by-range_one 0 s.ports (acts_of events) (acts_of (events ++ Post card post ∷ [])) card (omega arith) (omega (arith, may.card_in))
          (omega (arith, same, takes card)) (λ i from below ne. omega (arith, other i ne, takes i)) in
          omega (arith, sums, slots, step.total, length_push events (Post card post));
    }

pub AreInStep-decide : (s : Setup) (events : List Event) → AreInStep s events → MayDecide s events → AreInStep s (events ++ Decide ∷ [])
AreInStep-decide s events step may =
    let lengths : (i : ℕ) → length (posts_of i (events ++ Decide ∷ [])) ≡ length (posts_of i events) = λ i. ap length (posts_of-decide events i) in
    let slots = decides-decide events in
    let takes : (i : ℕ) → takes_of i (events ++ Decide ∷ []) ≡ takes_of i events = λ i. takes_of-decide events i in
    record {
      posts_within = λ i below. omega (arith, lengths i, step.posts_within i below);
      decided_posted = λ i below. omega (arith, lengths i, slots, may i below);
      posted_next = λ i below. omega (arith, lengths i, slots, step.posted_next i below);
      taken_decided = λ i below. omega (arith, takes i, slots, step.taken_decided i below);
      total =
          let sums = sum_by-range_same 0 s.ports (acts_of events) (acts_of (events ++ Decide ∷ [])) (λ i from below. omega (arith, takes i, lengths i)) in
          omega (arith, sums, slots, step.total, length_push events Decide);
    }

pub AreInStep-take : (s : Setup) (events : List Event) (card : ℕ) → AreInStep s events → MayTake s events card → AreInStep s (events ++ Take card ∷ [])
AreInStep-take s events card step may =
    let lengths : (i : ℕ) → length (posts_of i (events ++ Take card ∷ [])) ≡ length (posts_of i events) = λ i. ap length (posts_of-take events card i) in
    let slots = decides-take events card in
    let same = takes_of-same events card in
    record {
      posts_within = λ i below. omega (arith, lengths i, step.posts_within i below);
      decided_posted = λ i below. omega (arith, lengths i, slots, step.decided_posted i below);
      posted_next = λ i below. omega (arith, lengths i, slots, step.posted_next i below);
      taken_decided = λ i below. elim (cases_eq card i) [
        | inl is ↦ subst (λ j. takes_of j (events ++ Take card ∷ []) ≤ decides (events ++ Take card ∷ [])) is (omega (arith, same, slots, may.decided))
        | inr ne ↦ omega (arith, slots, takes_of-other events card i ne, step.taken_decided i below)
      ];
      total =
          let sums = sum_by-range_one 0 s.ports (acts_of events) (acts_of (events ++ Take card ∷ [])) card (omega arith) (omega (arith, may.card_in))
          (omega (arith, same, lengths card)) (λ i from below ne. omega (arith, takes_of-other events card i ne, lengths i)) in
          omega (arith, sums, slots, step.total, length_push events (Take card));
    }

pub AreInStep-more : (s : Setup) (events : List Event) (event : Event) → AreInStep s events → Allows s events event → AreInStep s (events ++ event ∷ [])
AreInStep-more s events (Post card post) step may = AreInStep-post s events card post step may
AreInStep-more s events Decide step may = AreInStep-decide s events step may
AreInStep-more s events (Take card) step may = AreInStep-take s events card step may

-- how long such a list is at most
pub length-in_step : (s : Setup) (events : List Event) → 0 < s.ports → AreInStep s events → length events ≤ (2 * s.ports + 1) * s.max_slots
length-in_step s events some step =
    let sums = sum_by-range_le 0 s.ports (acts_of events) (2 * s.max_slots)
    (λ i from below. omega (arith, step.posts_within i (omega arith), step.taken_decided i (omega arith), step.decided_posted i (omega arith))) in
    omega (arith, sums, step.total, step.posts_within 0 some, step.decided_posted 0 some)

-- a post of a decided slot stays with more events
pub posted-stays : (s : Setup) (events more : List Event) → AreInStep s events → (i t : ℕ) → i < s.ports → t < decides events
    → posted events i t ≡ posted (events ++ more) i t
posted-stays s events more step i t inside below = posted-append events more i t (omega (arith, step.decided_posted i inside))
