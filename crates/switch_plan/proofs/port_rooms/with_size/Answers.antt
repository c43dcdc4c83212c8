use Rattle.std.proofs.Common.{◌≤◌, length, sym, arith}
use Rattle.std.specs.Prelude.{max, slice_index}
use Rattle.std.proofs.lemmas.List.{set_past}
use Rattle.switch_plan.proofs.port_rooms.with_size.Goals as goal

pub returns-else-flow-lt-FLOWS_PER_INPUT : goal.returns-else-flow-lt-FLOWS_PER_INPUT
returns-else-flow-lt-FLOWS_PER_INPUT c =
    let past : length c.args.sizes ≤ c.args.flow = omega arith in
    sym (set_past c.args.sizes c.args.flow (max (slice_index c.args.sizes c.args.flow) c.args.length) past)
