-- What one try of a member makes of it.
use Rattle.std.specs.Prelude.{◌≡◌, ◌+◌, ℕ, Bool, false, if◌then◌else◌}
use Rattle.slot_histories.specs.declared.events.Event.{Event}
use Rattle.turn_lock.specs.Seats.{TurnValue}
use Rattle.slot_board.specs.Seats.{is_due}
use Rattle.card_worker.specs.declared.hands.Member.{Member}
use Rattle.card_worker.specs.Trying.{IsSound, acts_of, tries_of}

abbrev pub one_if : Bool → ℕ
one_if acted = if acted then 1 else 0

-- one try of the member, which made an event or was refused
pub record AfterTry (board : TurnValue Event) (old new : Member) (acted : Bool) : Type 0 where
  pub sound : IsSound board new
  pub plan : new.hand.card.sends.plan ≡ old.hand.card.sends.plan
  pub number : new.seat.number ≡ old.seat.number
  pub acts : acts_of new ≡ acts_of old + one_if acted
  pub tries : tries_of new ≡ tries_of old + 1
  pub due : acted ≡ false → is_due new.seat ≡ is_due old.seat
