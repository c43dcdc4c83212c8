-- What a card takes in a list of events, part by part.
use Rattle.std.proofs.Common.{◌≡◌, ◌∙◌, ℕ, ◌+◌, Bool, true, false, List, [], ◌∷◌, ◌++◌, refl, sym, ap, arith, ◌==◌}
use Rattle.std.specs.Prelude.{if◌then◌else◌}
use Rattle.std.proofs.lemmas.Bool.{eq-eqb}
use Rattle.std.proofs.lemmas.List.{append-nil}
use Rattle.std.proofs.Math.Seq.{append_snoc}
use Rattle.crossbar.specs.declared.cards.Taken.{Taken}
use Rattle.slot_histories.specs.declared.events.Event.{Event}
use Rattle.slot_histories.specs.declared.events.Event.TheVariants.{Post, Decide, Take}
use Rattle.slot_histories.specs.Events.{Setup, takes_of, posted}
use Rattle.slot_histories.specs.Slots.{taken_at}
use Rattle.slot_histories.specs.Answers.{takings_after, takings_of}

first_in : (b : Bool) (taken : Taken) (all some rest : List Taken) → all ≡ some ++ rest
    → (if b then taken ∷ all else all) ≡ (if b then taken ∷ some else some) ++ rest
first_in true taken all some rest is = ap (λ takings. taken ∷ takings) is
first_in false taken all some rest is = is

-- in two lists, one after the other
pub takings_after-append : (s : Setup) (i : ℕ) (events more rest : List Event) → takings_after s i events (more ++ rest) ≡ takings_after s i events more
    ++ takings_after s i (events ++ more) rest
takings_after-append s i events [] rest = ap (λ before. takings_after s i before rest) (sym (append-nil events))
takings_after-append s i events (Post card post ∷ more) rest =
    takings_after-append s i (events ++ Post card post ∷ []) more rest
    ∙ ap (λ before. takings_after s i (events ++ Post card post ∷ []) more ++ takings_after s i before rest) (append_snoc events (Post card post) more)
takings_after-append s i events (Decide ∷ more) rest =
    takings_after-append s i (events ++ Decide ∷ []) more rest
    ∙ ap (λ before. takings_after s i (events ++ Decide ∷ []) more ++ takings_after s i before rest) (append_snoc events Decide more)
takings_after-append s i events (Take card ∷ more) rest =
    first_in (card == i) (taken_at s (posted events) i (takes_of i events)) (takings_after s i (events ++ Take card ∷ []) (more ++ rest))
    (takings_after s i (events ++ Take card ∷ []) more) (takings_after s i (events ++ Take card ∷ more) rest)
    (takings_after-append s i (events ++ Take card ∷ []) more rest
    ∙ ap (λ before. takings_after s i (events ++ Take card ∷ []) more ++ takings_after s i before rest) (append_snoc events (Take card) more))

no_take : (b : Bool) (k : ℕ) → (if b then k + 1 else k) ≡ 0 → (b ≡ false) × (k ≡ 0)
no_take true k none = absurd (omega (arith, none))
no_take false k none = (refl, none)

-- where the card has no take
takings_after-none : (s : Setup) (i : ℕ) (events more : List Event) → takes_of i more ≡ 0 → takings_after s i events more ≡ []
takings_after-none s i events [] none = refl
takings_after-none s i events (Post card post ∷ more) none = takings_after-none s i (events ++ Post card post ∷ []) more none
takings_after-none s i events (Decide ∷ more) none = takings_after-none s i (events ++ Decide ∷ []) more none
takings_after-none s i events (Take card ∷ more) none =
    let parts = no_take (card == i) (takes_of i more) none in
    rw parts.0 (takings_after-none s i (events ++ Take card ∷ []) more parts.1)

-- Further events without a take of the card leave what it took.
pub takings_of-beyond : (s : Setup) (i : ℕ) (events more : List Event) → takes_of i more ≡ 0 → takings_of s i (events ++ more) ≡ takings_of s i events
takings_of-beyond s i events more none =
    takings_after-append s i [] events more ∙ ap (λ takings. takings_of s i events ++ takings) (takings_after-none s i events more none)
    ∙ append-nil (takings_of s i events)

-- A take of the card comes to the end of it.
pub takings_of-take : (s : Setup) (i : ℕ) (events : List Event) → takings_of s i (events ++ Take i ∷ []) ≡ takings_of s i events
    ++ taken_at s (posted events) i (takes_of i events) ∷ []
takings_of-take s i events =
    takings_after-append s i [] events (Take i ∷ [])
    ∙ ap (λ mine. takings_of s i events ++ (if mine then taken_at s (posted events) i (takes_of i events) ∷ [] else [])) (eq-eqb i i refl)
