use Rattle.std.proofs.Common.{◌∙◌, Some, ap}
use Rattle.queue_lengths.proofs.Leaving.{place_unicast}
use Rattle.queue_lengths.proofs.counters.leaving.Goals as goal

pub returns-in-Uni : goal.returns-in-Uni
returns-in-Uni c =
    ap Some c.queue_place.ensures.place
    ∙ place_unicast c.args.ports c.args.row.now c.args.part c.requires.size c.in-Uni.is (c.requires.among c.in-Uni.is) c.requires.part
