-- The routes of a table that was read for a switch of n ports.
use Rattle.std.specs.Prelude.{ℕ, ◌<◌, List, All}
use Rattle.rotating_pick.specs.PortSets.{IsAmong}
use Rattle.rotating_pick.specs.declared.limits.TheConstants.{LEVELS}
use Rattle.forward_table.specs.declared.route_lines.Route.{Route}
use Rattle.forward_table.specs.declared.route_lines.RouteLine.{RouteLine}

-- a fan-out: one port at least, each of them one of the n ports
pub record IsFan (n fan : ℕ) : Type 0 where
  pub some : 0 < fan
  pub among : IsAmong n fan

pub record IsRouteOf (n : ℕ) (route : Route) : Type 0 where
  pub fan : IsFan n route.fan
  pub level : route.level < LEVELS

abbrev pub AreRoutesOf : ℕ → List RouteLine → Type 0
AreRoutesOf n table = All (λ line. IsRouteOf n line.route) table
