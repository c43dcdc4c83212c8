-- The routes that a cache keeps.
use Rattle.std.specs.Prelude.{◌≡◌, List, All, Some}
use Rattle.forward_table.specs.declared.route_lines.RouteLine.{RouteLine}
use Rattle.forward_table.specs.declared.route_cache.Kept.{Kept}
use Rattle.forward_table.specs.Routing.{route_of}

-- each is the route of its address by the table
abbrev pub AreRoutesBy : List RouteLine → List Kept → Type 0
AreRoutesBy table kept = All (λ k. k.route ≡ route_of table (Some k.address)) kept
