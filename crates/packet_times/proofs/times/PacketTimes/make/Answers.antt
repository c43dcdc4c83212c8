use Rattle.std.proofs.Common.{◌≡◌, ◌∙◌, ◌*◌, ℕ, [], length, refl, ap, sym, arith, replicate}
use Rattle.reassembly.specs.declared.limits.TheConstants.{FLOWS_PER_INPUT}
use Rattle.switch_plan.specs.GoodPlans.{switch_plan_of}
use Rattle.run_laws.specs.Runs.{ports_of}
use Rattle.packet_times.specs.contracts.times.PacketTimes.{the_view}
use Rattle.packet_times.proofs.Noted.{ports-are, first-noted}
use Rattle.packet_times.proofs.times.PacketTimes.make.Goals as goal

pub returns : goal.returns
returns c scheduler =
    let plan = switch_plan_of c.args.plan.now in
    let long : c.len.result ≡ length c.args.plan.now.cards.items = omega arith in
    let ports : c.len.result ≡ ports_of plan = long ∙ sym (ports-are plan c.args.plan.now.cards.items refl) in
    let times = the_view (record { inputs = c.in_ok-inputs.inputs; ends = c.in_ok-ends.ends; feeds = c.in_ok-feeds.feeds; parts = [] }) in
    first-noted scheduler plan times c.requires.good (c.in_ok-inputs.ensures scheduler)
    (c.in_ok-ends.ensures ∙ ap (λ (n : ℕ). replicate (FLOWS_PER_INPUT * (n * n)) []) ports) c.in_ok-feeds.ensures.items
