use Rattle.slot_board.proofs.DecidedSlots.{window_of_history}
use Rattle.slot_board.proofs.laws.histories_have_windows.Goals as goal

pub returns : goal.returns
returns c = window_of_history
