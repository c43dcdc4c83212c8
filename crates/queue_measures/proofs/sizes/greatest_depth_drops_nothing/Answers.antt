use Rattle.queue_measures.proofs.GreatestDepth.{DropsNothing-room, DropsNothing-greatest}
use Rattle.queue_measures.proofs.sizes.greatest_depth_drops_nothing.Goals as goal

pub returns : goal.returns
returns c = record { any = DropsNothing-room; burst = DropsNothing-greatest }
