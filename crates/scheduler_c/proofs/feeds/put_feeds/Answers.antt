use Rattle.std.proofs.Common.{subst, arith}
use Rattle.slot_match.specs.Matches.{IsMatch}
use Rattle.scheduler_c.proofs.Copies.{matched_from-written}
use Rattle.scheduler_c.proofs.feeds.put_feeds.Goals as goal

pub returns-then-is_subset-clause-matched : goal.returns-then-is_subset-clause-matched
returns-then-is_subset-clause-matched c =
    let matched = c.args.matched.now in
    let ports = c.ports.ensures in
    let value = ports.value in
    let below = ports.size in
    (matched_from-written matched c.put_best.new.feeds (omega arith) (subst (λ n. IsMatch n matched) ports.value ports.whole) c.put_best.ensures).0

pub returns-then-is_subset-clause-feeds : goal.returns-then-is_subset-clause-feeds
returns-then-is_subset-clause-feeds c =
    let matched = c.args.matched.now in
    let ports = c.ports.ensures in
    let value = ports.value in
    let below = ports.size in
    (matched_from-written matched c.put_best.new.feeds (omega arith) (subst (λ n. IsMatch n matched) ports.value ports.whole) c.put_best.ensures).1

pub returns-else-is_subset-clause-matched : goal.returns-else-is_subset-clause-matched
returns-else-is_subset-clause-matched c =
    let matched = c.args.matched.now in
    let ports = c.ports.ensures in
    let value = ports.value in
    let below = ports.size in
    (matched_from-written matched c.put_each.new.feeds (omega arith) (subst (λ n. IsMatch n matched) ports.value ports.whole) c.put_each.ensures).0

pub returns-else-is_subset-clause-feeds : goal.returns-else-is_subset-clause-feeds
returns-else-is_subset-clause-feeds c =
    let matched = c.args.matched.now in
    let ports = c.ports.ensures in
    let value = ports.value in
    let below = ports.size in
    (matched_from-written matched c.put_each.new.feeds (omega arith) (subst (λ n. IsMatch n matched) ports.value ports.whole) c.put_each.ensures).1
