use Rattle.std.proofs.Common.{◌≢◌, ◌∙◌, ◌≤◌, sym, subst, arith}
use Rattle.std.proofs.Math.Nat.{mul-le-mul}
use Rattle.switch_plan.proofs.Summing.{ones_within, cells_forwarded}
use Rattle.switch_plan.proofs.port_rooms.work_of.Goals as goal

pub returns-clause-few : goal.returns-clause-few
returns-clause-few c =
    let packet = c.args.packet.now in
    let some : packet.fan ≢ 0 = λ none. let yes_ = c.is_empty.ensures.zero.1 none in let no_ = c.if-is_empty.false in cc in
    let ones = ones_within 64 packet.fan (omega arith) in
    let cells : c.from.result ≤ 1171 = subst (λ n. n ≤ 1171) (sym (c.from.ensures ∙ c.cells_of.ensures)) (cells_forwarded packet.len (c.requires some)) in
    let outputs : c.from-2.result ≤ 64 = subst (λ n. n ≤ 64) (sym c.from-2.ensures) ones in
    mul-le-mul cells outputs
