use Rattle.std.proofs.Common.{rules, ◌≡◌, length, ap, arith}
use Rattle.queue_lengths.proofs.counters.QueueLengths.make.Goals as goal

pub invariant_of-result : goal.invariant_of-result
invariant_of-result c =
    let few = c.requires.few in
    let same : c.in_ok-packets.packets.items ≡ c.args.plan.now.packets.items = search rules in
    omega (arith, few, ap length same)
