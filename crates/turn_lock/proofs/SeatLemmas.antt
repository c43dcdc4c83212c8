-- What a call's contract says of a seat: it has seen the turns between and its own, and these are allowed.
use Rattle.std.proofs.Common.{◌≡◌, ◌+◌, ℕ, List, [], ◌∷◌, ◌++◌, ap, subst}
use Rattle.turn_lock.specs.declared.history.TurnOf.{TurnOf}
use Rattle.turn_lock.specs.Histories.{IsAllowed}
use Rattle.turn_lock.specs.Seats.{SeatValue, HasTurn, entries_before}
use Rattle.turn_lock.proofs.HistoryLemmas.{IsAllowed-append}

module _ {E : Type 0} (may : ℕ → List E → Type 0) (adds : List ℕ → List E → List E) (answered : List ℕ → List E → Type 0) (old new : SeatValue E)
    (has : HasTurn may adds answered old new) where
  abbrev pub its_entries : List E
  its_entries = adds old.turn.numbers (entries_before old has.between)

  abbrev pub its_turn : TurnOf E
  its_turn = record { seat = old.number; entries = its_entries }

  pub HasTurn-seen : new.seen ≡ (old.seen ++ has.between) ++ its_turn ∷ []
  HasTurn-seen = ap (λ s. s.seen) has.turn

  -- the turns between have only entries that their seats may add
  pub HasTurn-between : IsAllowed may has.between
  HasTurn-between = (IsAllowed-append may old.seen has.between
      (IsAllowed-append may (old.seen ++ has.between) (its_turn ∷ []) (subst (λ ts. IsAllowed may ts) HasTurn-seen has.allowed)).0).1
