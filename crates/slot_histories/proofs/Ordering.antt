-- Whatever the order of events, a card takes what its slots give.
use Rattle.std.proofs.Common.{◌≡◌, ◌∙◌, ℕ, ◌+◌, ◌<◌, Bool, true, false, List, [], ◌∷◌, ◌++◌, map, ap, sym, subst, arith, ◌==◌, slice_index_or}
use Rattle.std.proofs.Common.{append_assoc, add-one, refl}
use Rattle.std.proofs.lemmas.Bool.{eqb-true}
use Rattle.std.specs.List.{range_with_len}
use Rattle.std_lemmas.proofs.Ranges.{map_range-same}
use Rattle.slot_histories.specs.declared.events.Event.{Event}
use Rattle.slot_histories.specs.declared.events.Event.TheVariants.{Post, Decide, Take}
use Rattle.slot_histories.specs.Events.{Setup, posts_of, takes_of, decides, posted, no_post}
use Rattle.slot_histories.specs.Slots.{taken_at}
use Rattle.slot_histories.specs.Legal.{MayTake, IsLegalAfter, IsLegal}
use Rattle.slot_histories.specs.Answers.{takings_after, takings_of, journal_slot, journal_of}
use Rattle.slot_histories.proofs.Appending.{takes_of-append, takes_of-post, takes_of-decide}
use Rattle.slot_histories.proofs.Agreeing.{taken_at-same, slot_posts-same, decision_at-same}
use Rattle.slot_histories.proofs.InStep.{AreInStep, AreInStep-none, AreInStep-more, posted-stays}

-- what a take adds, whoever took
take_step :
    (s : Setup) (events more : List Event) (card i : ℕ) (b : Bool) → (card == i) ≡ b → AreInStep s events → MayTake s events card →
    takings_after s i (events ++ Take card ∷ []) more ≡ map (taken_at s (posted ((events ++ Take card ∷ []) ++ more)) i)
    (range_with_len (takes_of i (events ++ Take card ∷ [])) (takes_of i more)) →
    takings_after s i events (Take card ∷ more) ≡ map (taken_at s (posted (events ++ Take card ∷ more)) i)
    (range_with_len (takes_of i events) (takes_of i (Take card ∷ more)))
take_step s events more card i true is step may rest =
    let same = eqb-true card i is in
    let flat = append_assoc events (Take card ∷ []) more in
    let one : takes_of i (Take card ∷ []) ≡ 1 = rw is refl in
    let count : takes_of i (events ++ Take card ∷ []) ≡ takes_of i events + 1 = omega (arith, takes_of-append i events (Take card ∷ []), one) in
    let below : takes_of i events < decides events = subst (λ j. takes_of j events < decides events) same may.decided in
    let first = taken_at-same s (posted events) (posted (events ++ Take card ∷ more)) (decides events)
    (λ j t inside before. posted-stays s events (Take card ∷ more) step j t inside before) i (takes_of i events) below in
    let others = rw (flat, count) at rest in
    rw (is, add-one) (cc (first, others))
take_step s events more card i false is step may rest =
    let flat = append_assoc events (Take card ∷ []) more in
    let none : takes_of i (Take card ∷ []) ≡ 0 = rw is refl in
    let count : takes_of i (events ++ Take card ∷ []) ≡ takes_of i events = omega (arith, takes_of-append i events (Take card ∷ []), none) in
    let others = rw (flat, count) at rest in
    rw is others

-- a card takes slot after slot what the slots give
pub takings_after-slots : (s : Setup) (events more : List Event) → AreInStep s events → IsLegalAfter s events more → (i : ℕ) → i < s.ports
    → takings_after s i events more ≡ map (taken_at s (posted (events ++ more)) i) (range_with_len (takes_of i events) (takes_of i more))
takings_after-slots s events [] step legal i inside = refl
takings_after-slots s events (Post card post ∷ more) step legal i inside =
    let rest = takings_after-slots s (events ++ Post card post ∷ []) more (AreInStep-more s events (Post card post) step legal.0) legal.1 i inside in
    let flat = append_assoc events (Post card post ∷ []) more in
    let count = takes_of-post events card i post in
    rw (← flat, ← count) rest
takings_after-slots s events (Decide ∷ more) step legal i inside =
    let rest = takings_after-slots s (events ++ Decide ∷ []) more (AreInStep-more s events Decide step legal.0) legal.1 i inside in
    let flat = append_assoc events (Decide ∷ []) more in
    let count = takes_of-decide events i in
    rw (← flat, ← count) rest
takings_after-slots s events (Take card ∷ more) step legal i inside =
    let rest = takings_after-slots s (events ++ Take card ∷ []) more (AreInStep-more s events (Take card) step legal.0) legal.1 i inside in
    take_step s events more card i (card == i) refl step legal.0 rest

pub takings_of-slots : (s : Setup) (events : List Event) → IsLegal s events → (i : ℕ) → i < s.ports
    → takings_of s i events ≡ map (taken_at s (posted events) i) (range_with_len 0 (takes_of i events))
takings_of-slots s events legal i inside = takings_after-slots s [] events (AreInStep-none s) legal i inside

-- two legal lists in which each card posts the same and takes as often, and as many slots are decided
module _ (s : Setup) (a b : List Event) (legal_a : IsLegal s a) (legal_b : IsLegal s b) (slots : decides a ≡ decides b)
    (posts : (i : ℕ) → i < s.ports → posts_of i a ≡ posts_of i b) (takes : (i : ℕ) → i < s.ports → takes_of i a ≡ takes_of i b) where
  posted-same : (i t : ℕ) → i < s.ports → posted a i t ≡ posted b i t
  posted-same i t inside = ap (λ list. slice_index_or list t no_post) (posts i inside)

  pub takings_of-same : (i : ℕ) → i < s.ports → takings_of s i a ≡ takings_of s i b
  takings_of-same i inside =
      takings_of-slots s a legal_a i inside
      ∙ map_range-same (taken_at s (posted a) i) (taken_at s (posted b) i) 0 (takes_of i a)
      (λ t below. taken_at-same s (posted a) (posted b) (takes_of i a) (λ j u within before. posted-same j u within) i t (omega arith))
      ∙ rw (takes i inside) (sym (takings_of-slots s b legal_b i inside))

  pub journal_of-same : journal_of s a ≡ journal_of s b
  journal_of-same =
      rw (← slots)
      (map_range-same (journal_slot s (posted a)) (journal_slot s (posted b)) 0 (decides a) (λ t below.
      let slot = slot_posts-same s (posted a) (posted b) (decides a) (λ j u within before. posted-same j u within) t (omega arith) in
      let decision = decision_at-same s (posted a) (posted b) (decides a) (λ j u within before. posted-same j u within) t (omega arith) in
      cc))
