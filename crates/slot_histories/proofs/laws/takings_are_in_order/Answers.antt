use Rattle.slot_histories.proofs.Ordering.{takings_of-slots}
use Rattle.slot_histories.proofs.laws.takings_are_in_order.Goals as goal

pub returns : goal.returns
returns c s events i legal inside = takings_of-slots s events legal i inside
