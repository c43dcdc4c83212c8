-- Legal lists of events: one event more, and what is true of all of them.
use Rattle.std.proofs.Common.{◌≡◌, ℕ, suc, ◌+◌, ◌<◌, true, List, [], ◌∷◌, ◌++◌, sym, subst, append_assoc, arith, inl, inr}
use Rattle.std.proofs.lemmas.Bool.{cases_lt, or_parts, both_ways}
use Rattle.std.proofs.lemmas.List.{append-nil}
use Rattle.slot_histories.specs.declared.events.Event.{Event}
use Rattle.slot_histories.specs.Events.{Setup, decides, posted}
use Rattle.slot_histories.specs.Slots.{is_done_at, is_done_before}
use Rattle.slot_histories.specs.Legal.{Allows, IsLegalAfter, IsLegal}
use Rattle.slot_histories.proofs.InStep.{AreInStep, AreInStep-none, AreInStep-more}
use Rattle.slot_histories.proofs.AcceptedPosts.{AreAccepted, AreAccepted-none, AreAccepted-more}

-- a legal list with an event more that may come
pub IsLegalAfter-more : (s : Setup) (before events : List Event) (event : Event) → IsLegalAfter s before events → Allows s (before ++ events) event
    → IsLegalAfter s before (events ++ event ∷ [])
IsLegalAfter-more s before [] event legal may = (subst (λ b. Allows s b event) (append-nil before) may, tt)
IsLegalAfter-more s before (first ∷ events) event legal may = (legal.0, IsLegalAfter-more s (before ++ first ∷ []) events event legal.1 (rw append_assoc may))

pub IsLegal-more : (s : Setup) (events : List Event) (event : Event) → IsLegal s events → Allows s events event → IsLegal s (events ++ event ∷ [])
IsLegal-more s events event legal may = IsLegalAfter-more s [] events event legal may

in_step_after : (s : Setup) (before events : List Event) → AreInStep s before → IsLegalAfter s before events → AreInStep s (before ++ events)
in_step_after s before [] step legal = subst (AreInStep s) (sym (append-nil before)) step
in_step_after s before (event ∷ events) step legal =
    subst (AreInStep s) (append_assoc before (event ∷ []) events)
    (in_step_after s (before ++ event ∷ []) events (AreInStep-more s before event step legal.0) legal.1)

pub AreInStep-legal : (s : Setup) (events : List Event) → IsLegal s events → AreInStep s events
AreInStep-legal s events legal = in_step_after s [] events (AreInStep-none s) legal

accepted_after : (s : Setup) (before events : List Event) → AreInStep s before → AreAccepted s before → IsLegalAfter s before events
    → AreAccepted s (before ++ events)
accepted_after s before [] step stand legal = subst (AreAccepted s) (sym (append-nil before)) stand
accepted_after s before (event ∷ events) step stand legal =
    subst (AreAccepted s) (append_assoc before (event ∷ []) events)
    (accepted_after s (before ++ event ∷ []) events (AreInStep-more s before event step legal.0)
    (AreAccepted-more s before event step stand legal.0) legal.1)

pub AreAccepted-legal : (s : Setup) (events : List Event) → IsLegal s events → AreAccepted s events
AreAccepted-legal s events legal = accepted_after s [] events (AreInStep-none s) (AreAccepted-none s) legal

-- a slot that is done is the last one that is decided
pub done_is_last : (s : Setup) (events : List Event) → 0 < s.ports → IsLegal s events → (t : ℕ) → t < decides events
    → is_done_at s.ports (posted events) t ≡ true → decides events ≡ t + 1
done_is_last s events some legal t below done =
    elim (cases_lt (t + 1) (decides events)) [
      | inl more ↦
          let step = AreInStep-legal s events legal in
          let going = (AreAccepted-legal s events legal).going 0 (suc t) some (omega (arith, step.decided_posted 0 some)) in
          absurd (both_ways (is_done_at s.ports (posted events) t)
          (or_parts (is_done_before s.ports (posted events) t) (is_done_at s.ports (posted events) t) going).1 done)
      | inr last ↦ omega arith
    ]
