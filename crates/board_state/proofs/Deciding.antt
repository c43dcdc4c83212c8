-- The decided slots, with one event more.
use Rattle.std.proofs.Common.{◌≡◌, ◌∙◌, inl, inr, ℕ, ◌+◌, ◌<◌, ◌≤◌, ◌==◌, ◌&&◌, Bool, false, List, [], ◌∷◌, ◌++◌, length, refl, ap, sym, subst, arith}
use Rattle.std.proofs.Common.{add-one, slice_index_or}
use Rattle.std.proofs.lemmas.Bool.{cases_eq, eq-eqb, ne_eqb}
use Rattle.std.proofs.Math.Bool.{and-true, and-false}
use Rattle.std.proofs.Math.Seq.{get_or-append_seam}
use Rattle.std.proofs.Math.ListN.{get_or-append}
use Rattle.islip_rounds.specs.Numbers.{numbers_of}
use Rattle.eslip_rounds.specs.Slots.{Decision}
use Rattle.slot_histories.specs.declared.events.Event.{Event}
use Rattle.slot_histories.specs.declared.events.Event.TheVariants.{Decide}
use Rattle.slot_histories.specs.Events.{Setup, posts_of, decides, posted, no_post}
use Rattle.slot_histories.specs.Slots.{decision_at, is_done_at, is_done_before}
use Rattle.slot_histories.specs.Legal.{IsLegal, MayDecide}
use Rattle.std.proofs.lemmas.List.{length_push}
use Rattle.slot_histories.proofs.Appending.{posts_of-decide, decides-decide}
use Rattle.slot_histories.proofs.Agreeing.{places_at-same, decision_at-same, is_done_at-same, is_done_before-same}
use Rattle.slot_histories.proofs.InStep.{AreInStep, posted-stays}
use Rattle.slot_histories.proofs.LegalLists.{AreInStep-legal, AreAccepted-legal}
use Rattle.board_state.specs.KeepingSteps.{Decisions, AreDecided}

-- a decision adds no post
unposted : (events : List Event) (i t : ℕ) → posted events i t ≡ posted (events ++ Decide ∷ []) i t
unposted events i t = ap (λ list. slice_index_or list t no_post) (sym (posts_of-decide events i))

-- what stands at each place of a list with one more
read_more :
    {X : Type 0} (xs : List X) (x d : X) (k : ℕ) (of : ℕ → X) → length xs ≡ k → x ≡ of k →
    ((t : ℕ) → t < k → slice_index_or xs t d ≡ of t) → (t : ℕ) → t < k + 1 → slice_index_or (xs ++ x ∷ []) t d ≡ of t
read_more xs x d k of long is each t inside =
    elim (cases_eq t k) [
      | inl last ↦
          let here = get_or-append_seam xs x [] d ∙ is ∙ ap of (sym long) in
          subst (λ u. slice_index_or (xs ++ x ∷ []) u d ≡ of u) (long ∙ sym last) here
      | inr before ↦ get_or-append xs (x ∷ []) d t (omega arith) ∙ each t (omega arith)
    ]

-- no slot before one that may be decided is done
none_done :
    (s : Setup) (events : List Event) → 0 < s.ports → IsLegal s events → (t : ℕ) → t < length (posts_of 0 events) →
    is_done_before s.ports (posted events) t ≡ false
none_done s events some legal t below = (AreAccepted-legal s events legal).going 0 t some below

-- what is kept after one decision more, by which the slot is done or not
abbrev pub with_decided : Decisions → Decision → Bool → Decisions
with_decided kept decision done = record {
  pointers = decision.places;
  done = done;
  matches = kept.matches ++ decision.matched ∷ [];
  numbers = kept.numbers ++ decision.numbers ∷ [];
}

module _ {s : Setup} {kept : Decisions} {events : List Event} (decided : AreDecided s kept events) where
  -- ---- an event that decides nothing
  pub AreDecided-idle :
      (event : Event) → AreInStep s events → decides (events ++ event ∷ []) ≡ decides events →
      AreDecided s kept (events ++ event ∷ [])
  AreDecided-idle event step idle =
      let these = posted events in
      let those = posted (events ++ event ∷ []) in
      let k = decides events in
      let same = posted-stays s events (event ∷ []) step in
      let slot = decision_at-same s these those k same in
      record {
        decided = rw idle decided.decided;
        numbered = rw idle decided.numbered;
        matches_are = rw idle (λ t below. decided.matches_are t below ∙ ap (λ d. d.matched) (slot t below));
        numbers_are = rw idle (λ t below. decided.numbers_are t below ∙ ap (λ d. d.numbers) (slot t below));
        pointers_are = rw idle (decided.pointers_are ∙ places_at-same s these those k same k (omega arith));
        done_is = rw idle (decided.done_is ∙ is_done_before-same s these those k same k (omega arith));
      }

  -- ---- a decision
  pub AreDecided-decide :
      (decision : Decision) (last : Bool) → 0 < s.ports → IsLegal s events → MayDecide s events →
      decision ≡ decision_at s (posted events) (decides events) → last ≡ is_done_at s.ports (posted events) (decides events) →
      AreDecided s (with_decided kept decision last) (events ++ Decide ∷ [])
  AreDecided-decide decision last some legal may is is_last =
      let these = posted events in
      let those = posted (events ++ Decide ∷ []) in
      let k = decides events in
      let more = decides-decide events in
      let same = λ (i t : ℕ) (inside : i < s.ports) (below : t < k + 1). unposted events i t in
      let all = λ (t : ℕ) (below : t < k + 1). decision_at-same s these those (k + 1) same t below in
      let matched =
      let of = λ (t : ℕ). (decision_at s these t).matched in
      read_more kept.matches decision.matched [] k of decided.decided (ap (λ d. d.matched) is) decided.matches_are in
      let numbered =
      let of = λ (t : ℕ). (decision_at s these t).numbers in
      read_more kept.numbers decision.numbers (numbers_of []) k of decided.numbered (ap (λ d. d.numbers) is) decided.numbers_are in
      record {
        decided = length_push kept.matches decision.matched ∙ ap (λ x. x + 1) decided.decided ∙ sym more;
        numbered = length_push kept.numbers decision.numbers ∙ ap (λ x. x + 1) decided.numbered ∙ sym more;
        matches_are = λ t inside. let below : t < k + 1 = omega (arith, more) in matched t below ∙ ap (λ d. d.matched) (all t below);
        numbers_are = λ t inside. let below : t < k + 1 = omega (arith, more) in numbered t below ∙ ap (λ d. d.numbers) (all t below);
        pointers_are = rw (more, add-one) (ap (λ d. d.places) (is ∙ all k (omega arith)));
        done_is =
            let none = none_done s events some legal k (omega (arith, may 0 some)) in
            let before = sym (is_done_before-same s these those (k + 1) same k (omega arith)) ∙ none in
            rw (more, add-one, before) (is_last ∙ is_done_at-same s these those (k + 1) same k (omega arith));
      }

-- ---- what the one flag says of each slot
module _ (s : Setup) (events : List Event) (some : 0 < s.ports) (legal : IsLegal s events) where
  step : AreInStep s events
  step = AreInStep-legal s events legal

  pub done_before :
      (done : Bool) (k : ℕ) → done ≡ is_done_before s.ports (posted events) (decides events) → k ≤ decides events →
      (done && (k == decides events)) ≡ is_done_before s.ports (posted events) k
  done_before done k is few =
      elim (cases_eq k (decides events)) [
        | inl all ↦ rw (eq-eqb k (decides events) all) (and-true done ∙ is ∙ ap (is_done_before s.ports (posted events)) (sym all))
        | inr ne ↦
            let none = none_done s events some legal k (omega (arith, step.decided_posted 0 some)) in
            rw (ne_eqb k (decides events) ne) (and-false done ∙ sym none)
      ]

  -- a decided slot is done exactly where one of the slots up to it is
  pub done_at : (t : ℕ) → t < decides events → is_done_before s.ports (posted events) (t + 1) ≡ is_done_at s.ports (posted events) t
  done_at t below = rw (add-one, none_done s events some legal t (omega (arith, step.decided_posted 0 some))) refl
