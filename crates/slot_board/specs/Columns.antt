-- What a seat keeps of its card, beside the events that it has seen.
use Rattle.std.specs.Prelude.{◌≡◌, ℕ, ◌+◌, Bool, [], if◌then◌else◌}
use Rattle.board_state.specs.Boards.{IsSetup}
use Rattle.slot_histories.specs.declared.events.Event.{Event}
use Rattle.turn_lock.specs.Seats.{TurnValue}
use Rattle.slot_board.specs.Turns.{numbers_of, setup_of}

-- how many slots a card has posted: one more than it took, where it has posted and not taken
abbrev pub slots_posted : Bool → ℕ → ℕ
slots_posted has_posted slot = if has_posted then slot + 1 else slot

-- the board began with no event, and its setup is within the limits
pub record IsBoard (turn : TurnValue Event) : Type 0 where
  pub first : turn.first ≡ []
  pub numbers : turn.numbers ≡ numbers_of (setup_of turn.numbers)
  pub seats : turn.seats ≡ (setup_of turn.numbers).ports
  pub setup : IsSetup (setup_of turn.numbers)
