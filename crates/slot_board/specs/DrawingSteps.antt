-- What a try to take is answered, as the act hands it out.
use Rattle.std.specs.Prelude.{ℕ, List, if◌then◌else◌, Result, Ok, Err}
use Rattle.crossbar.specs.declared.cards.Taken.{Taken}
use Rattle.slot_histories.specs.declared.events.Event.{Event}
use Rattle.slot_histories.specs.Events.{Setup}
use Rattle.slot_board.specs.declared.acts.Drawn.{Drawn}
use Rattle.slot_board.specs.Turns.{TakeAnswers}

-- the card's part of its slot where it is ready, else the cards that have posted it
abbrev pub drawn_answer : Drawn → Result Taken ℕ
drawn_answer drawn = if drawn.ready then Ok drawn.taken else Err drawn.posted

-- it is what a try to take is answered
abbrev pub DrawnAnswers : Setup → ℕ → List Event → Drawn → Type 0
DrawnAnswers s card events drawn = TakeAnswers s card events (drawn_answer drawn)
