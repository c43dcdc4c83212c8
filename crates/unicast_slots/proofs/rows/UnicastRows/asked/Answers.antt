use Rattle.std.proofs.Common.{ℕ, ◌<◌, ◌↔◌, List, subst}
use Rattle.rotating_pick.specs.PortSets.{Has}
use Rattle.rotating_pick.specs.declared.limits.TheConstants.{MAX_PORTS}
use Rattle.slot_match.specs.declared.rows.Row.{Row}
use Rattle.unicast_slots.specs.RowSteps.{IsAsked}
use Rattle.unicast_slots.proofs.Keeping.{asked-are}
use Rattle.unicast_slots.proofs.rows.UnicastRows.asked.Goals as goal

pub returns : goal.returns
returns c j =
    let s = c.self.inside in
    subst (λ (rows : List Row). Has s.asked j ↔ ((j < MAX_PORTS) × ((i : ℕ) × IsAsked rows i j))) c.self.view_is
    (asked-are s.rows.items s.columns s.asked c.self.invariant j)
