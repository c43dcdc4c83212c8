use Rattle.service_bound.proofs.Comparing.{longest-half, longest-cube, longest_in_one-least}
use Rattle.service_bound.proofs.laws.bounds_are_within.Goals as goal

pub returns : goal.returns
returns c = record { one_round = longest_in_one-least; half = longest-half; cube = longest-cube }
