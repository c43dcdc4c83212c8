use Rattle.switch_plan.proofs.MadeCaptures.{made_is_capture}
use Rattle.switch_plan.proofs.laws.made_captures_are_captures.Goals as goal

pub returns : goal.returns
returns c job port count ports = made_is_capture job port count ports
