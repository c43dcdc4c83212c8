use Rattle.std.proofs.Common.{◌≡◌, ◌∙◌, ℕ, ◌-◌, ◌%◌, ◌^◌, ◌≤◌, Some, ap, subst, sym}
use Rattle.rotating_pick.specs.PortSets.{Has}
use Rattle.forward_table.specs.Routing.{route_of}
use Rattle.forward_table.proofs.Blocks.{block_route, least_open}
use Rattle.forward_table.proofs.lookup.Table.block_of.Goals as goal

pub returns : goal.returns
returns c =
    let inside = c.self.inside in
    let k = c.unwrap_or-host_bits.result in
    let least : (j : ℕ) → Has inside.lengths j → k ≤ j = λ j has.
    subst (λ (n : ℕ). n ≤ j) (sym c.unwrap_or-host_bits.ensures)
    (least_open c.lowest.result inside.lengths c.lowest.ensures.none.0 c.lowest.ensures.least j has) in
    ap (λ (a : ℕ). route_of c.args.self.now (Some a)) c.without_host_bits.ensures
    ∙ subst (λ table. route_of table (Some (c.args.address - c.args.address % 2 ^ k)) ≡ route_of table (Some c.args.address)) c.self.view_is
    (block_route inside.lines.items inside.lengths c.args.address k c.self.invariant.0.prefixes c.self.invariant.1 least)
