-- Why a job is refused once its captures are read, of one link type: for the first limit that its ports pass.
use Rattle.std.proofs.Common.{◌≡◌, ◌∙◌, ℕ, List, length, None, ap, sym, arith}
use Rattle.std.specs.Prelude.{map}
use Rattle.std.specs.Option.{option_or}
use Rattle.std.proofs.lemmas.List.{length-map}
use Rattle.line_pace.specs.declared.pace.Pace.{Pace}
use Rattle.pcap_records.specs.declared.capture.Capture.{Capture}
use Rattle.forward_table.specs.declared.route_lines.RouteLine.{RouteLine}
use Rattle.switch_plan.specs.declared.port_plans.PortPlan.{PortPlan}
use Rattle.switch_plan.specs.Traffic.{file_of, pace_of, traffic_of}
use Rattle.switch_plan.specs.Refusals.{Terms, first_link, mixed_links, limits_for, over_traffic, refusal_of}
use Rattle.switch_plan.specs.PortSteps.{ArePortPlansOf}
use Rattle.switch_plan.specs.JobSteps.{over_ports}
use Rattle.switch_plan.proofs.Alike.{traffic_same}
use Rattle.switch_plan.proofs.OverLimits.{over_same}
use Rattle.switch_plan.proofs.JobPorts.{limits_short}

pub refusal_is : (table : List RouteLine) (terms : Terms) (pace : Pace) (n : ℕ) (captures : List Capture) (ports : List PortPlan) → n ≡ length captures
    → pace ≡ pace_of terms.speed (map file_of captures) → mixed_links (map file_of captures) ≡ None → ArePortPlansOf table pace captures ports
    → refusal_of terms table (map file_of captures) ≡ over_ports (limits_for terms.long n) ports
refusal_is table terms pace n captures ports n_is pace_is unmixed are =
    let files = map file_of captures in
    let traffic = traffic_of table (first_link files) terms.speed files in
    let short = limits_short terms.long n in
    ap (λ mixed. option_or mixed (over_traffic (limits_for terms.long (length files)) traffic)) unmixed
    ∙ ap (λ count. over_traffic (limits_for terms.long count) traffic) (length-map captures file_of ∙ sym n_is)
    ∙ ap (over_traffic (limits_for terms.long n)) (sym (traffic_same table terms.speed pace captures pace_is unmixed))
    ∙ over_same table pace captures ports are (limits_for terms.long n) (omega (arith, short))
