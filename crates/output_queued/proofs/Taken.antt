-- An input after a slot: what was served is off its queues.
use Rattle.std.proofs.Common.{◌≡◌, ℕ, ◌+◌, true, List, [], ◌∷◌, ◌++◌, length, Option, None, Some, refl, sym, ap, subst}
use Rattle.slot_match.specs.declared.matching.Served.{Served}
use Rattle.card_core.specs.Plans.{Plan}
use Rattle.card_core.specs.Queues.{before, admitted, dropped}
use Rattle.card_core.specs.Posts.{row_at, granted_at, IsServable}
use Rattle.card_core.specs.States.{State, HasSent, IsNext, AreQueues, state_of}
use Rattle.card_core.specs.StateSteps.{row_of}
use Rattle.card_core.proofs.After.{may_leave, take_none, take_some}
use Rattle.card_core.proofs.Posted.{row-is}
use Rattle.output_queued.specs.Switches.{card_for}
use Rattle.output_queued.specs.NotingSteps.{Source, IsBefore, IsIn}
use Rattle.output_queued.specs.Steps.{IsPart, MayTake, HasTaken}
use Rattle.output_queued.proofs.Sources.{good-card}

module _ (n depth : ℕ) (source : Source) (served : List (Option Served)) (part : IsPart n depth source.coming)
    (is : IsIn (card_for n depth source.coming) source served) where
  abbrev card : Plan
  card = card_for n depth source.coming

  -- the card with these queues
  abbrev state : State
  state =
      state_of (card_for n depth source.coming) source.next (length served) true (granted_at (card_for n depth source.coming) served (length served))
      (row_at (card_for n depth source.coming) served (length served))
      (admitted (card_for n depth source.coming) served (length served + 1))
      (dropped (card_for n depth source.coming) served (length served + 1)) source.banks source.fans

  was : HasSent state served true
  was = record {
    plan = good-card n depth source.coming part;
    slot = refl;
    phase = refl;
    granted = refl;
    row = refl;
    next = is.next;
    admitted = refl;
    dropped = refl;
    queues = is.queues;
  }

  -- its row is that of the slot
  pub row_now : row_of source.banks source.fans ≡ row_at card served (length served)
  row_now = row-is card served (length served) source.next source.banks source.fans is.queues

  pub may_take : (given : Option Served) → IsServable (row_at card served (length served)) given → MayTake given source
  may_take None may = tt
  may_take (Some given) may = may_leave state served was given may

  pub coming_same : (given : Option Served) (new : Source) → HasTaken given source new → new.coming ≡ source.coming
  coming_same None new same = ap (λ (s : Source). s.coming) same
  coming_same (Some given) new taken = taken.0.coming

  pub taken_off : (given : Option Served) (new : Source) → IsServable (row_at card served (length served)) given → HasTaken given source new
      → IsBefore card new (served ++ given ∷ [])
  taken_off None new may same =
      let sent = take_none state served was in
      subst (λ (s : Source). IsBefore card s (served ++ None ∷ [])) (sym same) (record { next = sent.next; queues = sent.queues })
  taken_off (Some given) new may taken =
      let (name, left) = taken.1 in
      let sent = take_some state served was given name new.banks new.fans may left in
      record {
        next = subst (IsNext card.packets (length (served ++ Some given ∷ []))) (sym taken.0.next) sent.next;
        queues = subst (λ k. AreQueues card (λ q. before card q (served ++ Some given ∷ []) (length (served ++ Some given ∷ []))) k new.banks new.fans)
            (sym taken.0.next) sent.queues;
      }
