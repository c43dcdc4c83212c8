use Rattle.std.proofs.Common.{◌↔◌, subst}
use Rattle.rotating_pick.specs.PortSets.{Has}
use Rattle.slot_match.specs.Matches.{IsMulticasting}
use Rattle.slot_match.proofs.Kept.{Serves-iff_multicasting}
use Rattle.slot_match.proofs.matching.Match.multicasting.Goals as goal

pub returns : goal.returns
returns c i =
    let inside = c.self.inside in
    let feeds = c.multicasting.ensures i in
    let on = Serves-iff_multicasting inside.ports inside.count inside.fed inside.free_inputs inside.free_outputs c.self.invariant i c.args.level in
    subst (λ m. Has c.multicasting.result i ↔ IsMulticasting m i c.args.level) c.self.view_is (λ has. on.0 (feeds.0 has), λ m. feeds.1 (on.1 m))
