use Rattle.std.proofs.Common.{◌≡◌, Some}
use Rattle.std.proofs.lemmas.List.Elements.{All-replicate}
use Rattle.forward_table.specs.declared.route_cache.Kept.{Kept}
use Rattle.forward_table.specs.Routing.{route_of}
use Rattle.forward_table.proofs.route_cache.RouteCache.new.Goals as goal

pub invariant_of-result : goal.invariant_of-result
invariant_of-result c =
    let first : Kept = record { address = 0; route = c.route.result } in
    All-replicate (λ (k : Kept). k.route ≡ route_of c.args.table.now (Some k.address)) 256 first c.route.ensures.route
