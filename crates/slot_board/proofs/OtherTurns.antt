-- What turns of other seats add: nothing of the card.
use Rattle.std.proofs.Common.{◌≡◌, ◌≢◌, ◌∙◌, ℕ, Bool, true, false, List, [], ◌∷◌, ◌++◌, refl, sym, ap, arith}
use Rattle.std.specs.Prelude.{if◌then◌else◌}
use Rattle.std.proofs.lemmas.Bool.{ne_eqb}
use Rattle.slot_histories.specs.declared.events.Event.{Event}
use Rattle.slot_histories.specs.declared.events.Event.TheVariants.{Post, Decide, Take}
use Rattle.slot_histories.specs.Events.{posts_of, takes_of}
use Rattle.slot_histories.proofs.Appending.{posts_of-append, takes_of-append}
use Rattle.turn_lock.specs.declared.history.TurnOf.{TurnOf}
use Rattle.turn_lock.specs.Histories.{entries_of, turns_of, IsAllowed}
use Rattle.turn_lock.proofs.HistoryLemmas.{turns_of-nil}
use Rattle.slot_board.specs.Turns.{MayAdd}

-- all posts and takings are the card's
abbrev AreOfCard : ℕ → List Event → Type 0
AreOfCard i [] = Unit {0}
AreOfCard i (Post card post ∷ events) = (card ≡ i) × AreOfCard i events
AreOfCard i (Decide ∷ events) = AreOfCard i events
AreOfCard i (Take card ∷ events) = (card ≡ i) × AreOfCard i events

-- so are those that a turn of the card adds
AreOfCard-may : (i : ℕ) (events : List Event) → MayAdd i events → AreOfCard i events
AreOfCard-may i [] may = tt
AreOfCard-may i (Post card post ∷ []) may = (may, tt)
AreOfCard-may i (Post card post ∷ Decide ∷ []) may = (may, tt)
AreOfCard-may i (Post card post ∷ Decide ∷ (event ∷ events)) may = absurd may
AreOfCard-may i (Post card post ∷ Post other second ∷ events) may = absurd may
AreOfCard-may i (Post card post ∷ Take other ∷ events) may = absurd may
AreOfCard-may i (Take card ∷ []) may = (may, tt)
AreOfCard-may i (Take card ∷ (event ∷ events)) may = absurd may
AreOfCard-may i (Decide ∷ events) may = absurd may

-- the entries of another card's turn have no post of the card
posts_of-other_turn : (i j : ℕ) (events : List Event) → j ≢ i → AreOfCard j events → posts_of i events ≡ []
posts_of-other_turn i j [] other may = refl
posts_of-other_turn i j (Post card post ∷ events) other may =
    let no : card ≢ i = λ e. other (sym may.0 ∙ e) in
    rw (ne_eqb card i no) (posts_of-other_turn i j events other may.1)
posts_of-other_turn i j (Decide ∷ events) other may = posts_of-other_turn i j events other may
posts_of-other_turn i j (Take card ∷ events) other may = posts_of-other_turn i j events other may.1

-- and no taking
takes_of-other_turn : (i j : ℕ) (events : List Event) → j ≢ i → AreOfCard j events → takes_of i events ≡ 0
takes_of-other_turn i j [] other may = refl
takes_of-other_turn i j (Post card post ∷ events) other may = takes_of-other_turn i j events other may.1
takes_of-other_turn i j (Decide ∷ events) other may = takes_of-other_turn i j events other may
takes_of-other_turn i j (Take card ∷ events) other may =
    let no : card ≢ i = λ e. other (sym may.0 ∙ e) in
    rw (ne_eqb card i no) (takes_of-other_turn i j events other may.1)

-- turns among which none is the card's have no post of it
pub posts_of-others : (i : ℕ) (turns : List (TurnOf Event)) → IsAllowed MayAdd turns → turns_of i turns ≡ [] → posts_of i (entries_of turns) ≡ []
posts_of-others i [] allowed none = refl
posts_of-others i (turn ∷ turns) allowed none =
    let parts = turns_of-nil i turn turns none in
    let first = posts_of-other_turn i turn.seat turn.entries parts.0 (AreOfCard-may turn.seat turn.entries allowed.0) in
    posts_of-append i turn.entries (entries_of turns) ∙ ap (λ ps. ps ++ posts_of i (entries_of turns)) first ∙ posts_of-others i turns allowed.1 parts.1

-- and no taking
pub takes_of-others : (i : ℕ) (turns : List (TurnOf Event)) → IsAllowed MayAdd turns → turns_of i turns ≡ [] → takes_of i (entries_of turns) ≡ 0
takes_of-others i [] allowed none = refl
takes_of-others i (turn ∷ turns) allowed none =
    let parts = turns_of-nil i turn turns none in
    let first = takes_of-other_turn i turn.seat turn.entries parts.0 (AreOfCard-may turn.seat turn.entries allowed.0) in
    let rest = takes_of-others i turns allowed.1 parts.1 in
    omega (arith, takes_of-append i turn.entries (entries_of turns))

-- a decision is no post and no taking
pub posts_of-decision : (i : ℕ) (decided : Bool) → posts_of i (if decided then Decide ∷ [] else []) ≡ []
posts_of-decision i true = refl
posts_of-decision i false = refl

pub takes_of-decision : (i : ℕ) (decided : Bool) → takes_of i (if decided then Decide ∷ [] else []) ≡ 0
takes_of-decision i true = refl
takes_of-decision i false = refl
