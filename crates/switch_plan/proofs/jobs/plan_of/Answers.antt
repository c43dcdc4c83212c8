use Rattle.std.proofs.Common.{◌≡◌, ◌∙◌, List, length, None, refl, ap, sym, subst, arith, inr}
use Rattle.std.specs.Prelude.{map}
use Rattle.std.proofs.lemmas.Result.{err_from_is_err_and}
use Rattle.pcap_records.specs.declared.capture.Capture.{Capture}
use Rattle.forward_table.specs.Routes.{AreRoutesOf}
use Rattle.switch_plan.specs.declared.port_plans.PortPlan.{PortPlan}
use Rattle.switch_plan.specs.Traffic.{file_of, is_nano, pace_of}
use Rattle.switch_plan.specs.Refusals.{first_link, mixed_links, terms_of}
use Rattle.switch_plan.specs.JobSteps.{over_ports}
use Rattle.switch_plan.proofs.Alike.{can_be_planned}
use Rattle.switch_plan.proofs.PortSums.{ports_bring}
use Rattle.switch_plan.proofs.JobPorts.{AreOfJob, planned_all, ports_fit}
use Rattle.switch_plan.proofs.WhyRefused.{refusal_is}
use Rattle.switch_plan.proofs.Goods.{job_plan}
use Rattle.switch_plan.proofs.jobs.plan_of.Goals as goal

pub port_plans-requires-clause-captures : goal.port_plans-requires-clause-captures
port_plans-requires-clause-captures g c κs alive =
    let speed = c.args.settings.now.speed in
    let captures = c.args.captures.items in
    let pace_is : c.pace_of-pace.result ≡ pace_of speed (map file_of captures) = c.pace_of-pace.ensures
    ∙ ap (λ (all : List Capture). pace_of speed (map file_of all)) c.deref-3.ensures.value in
    can_be_planned speed c.pace_of-pace.result captures pace_is c.requires.read

pub are_within-requires-clause-few : goal.are_within-requires-clause-few
are_within-requires-clause-few g c =
    let count = c.in_ok-ports.ensures.count in
    let few = c.requires.few in
    let ok = c.args.captures.ok.0 in
    let same = ap (λ (all : List PortPlan). length all) c.deref-5.ensures.value in
    omega arith

pub are_within-requires-clause-brought : goal.are_within-requires-clause-brought
are_within-requires-clause-brought g c =
    let ports = c.in_ok-ports.ports.items in
    ports_bring ports c.deref-5.result.now c.deref-6.result.now
    (planned_all c.args.table.now c.pace_of-pace.result c.args.captures.items ports c.in_ok-ports.ensures) c.deref-5.ensures.value
    (c.deref-6.ensures.value ∙ c.in_ok-brought.ensures ∙ ap (λ (all : List PortPlan). map (λ (port : PortPlan). port.brought) all) c.deref-4.ensures.value)

pub plan_with-requires-clause-brought : goal.plan_with-requires-clause-brought
plan_with-requires-clause-brought g c =
    let ports = c.in_ok-ports.ports.items in
    ports_bring ports ports c.deref-7.result.now
    (planned_all c.args.table.now c.pace_of-pace.result c.args.captures.items ports c.in_ok-ports.ensures) refl
    (c.deref-7.ensures.value ∙ c.in_ok-brought.ensures ∙ ap (λ (all : List PortPlan). map (λ (port : PortPlan). port.brought) all) c.deref-4.ensures.value)

pub returns-in_err-are_within-clause-refused : goal.returns-in_err-are_within-clause-refused
returns-in_err-are_within-clause-refused g c =
    let settings = c.args.settings.now in
    let captures = c.args.captures.items in
    let n = c.len.result in
    let n_is : n ≡ length captures = let ok = c.args.captures.ok.0 in let len = c.len.ensures in omega arith in
    let pace_is : c.pace_of-pace.result ≡ pace_of settings.speed (map file_of captures) = c.pace_of-pace.ensures
    ∙ ap (λ (all : List Capture). pace_of settings.speed (map file_of all)) c.deref-3.ensures.value in
    let unmixed : mixed_links (map file_of captures) ≡ None = ap (λ (all : List Capture). mixed_links (map file_of all)) (sym c.deref.ensures.value)
    ∙ c.in_ok-link.ensures.same in
    let fault = err_from_is_err_and c.from_residual-in_err-are_within.result c.from_residual-in_err-are_within.ensures.1 in
    rw (fault.1, fault.2)
    (inr (refusal_is c.args.table.now (terms_of settings) c.pace_of-pace.result n captures c.in_ok-ports.ports.items n_is pace_is unmixed c.in_ok-ports.ensures
    ∙ ap (λ limits. over_ports limits c.in_ok-ports.ports.items) (sym c.of-limits.ensures)
    ∙ ap (λ (all : List PortPlan). over_ports c.of-limits.result all) (sym c.deref-5.ensures.value)
    ∙ c.in_err-are_within.ensures.over))

pub plan_with-requires-clause-ports : goal.plan_with-requires-clause-ports
plan_with-requires-clause-ports g c =
    let settings = c.args.settings.now in
    let captures = c.args.captures.items in
    let n_is : c.len.result ≡ length captures = let ok = c.args.captures.ok.0 in let len = c.len.ensures in omega arith in
    let job : AreOfJob c.args.table.now settings c.pace_of-pace.result c.len.result captures c.in_ok-ports.ports.items = record {
      count = n_is;
      few = let few = c.requires.few in let ok = c.args.captures.ok.0 in omega (arith, n_is);
      pace_is = c.pace_of-pace.ensures ∙ ap (λ (all : List Capture). pace_of settings.speed (map file_of all)) c.deref-3.ensures.value;
      unmixed = ap (λ (all : List Capture). mixed_links (map file_of all)) (sym c.deref.ensures.value) ∙ c.in_ok-link.ensures.same;
      routes = subst (λ n. AreRoutesOf n c.args.table.now) (c.args.captures.ok.0 ∙ sym n_is) c.requires.routes;
      read = c.requires.read;
      ports_are = c.in_ok-ports.ensures;
      within = ap (λ limits. over_ports limits c.in_ok-ports.ports.items) (sym c.of-limits.ensures)
          ∙ ap (λ (all : List PortPlan). over_ports c.of-limits.result all) (sym c.deref-5.ensures.value)
          ∙ c.in_ok-are_within.ensures.within;
    } in
    ports_fit job

pub returns-clause-plan : goal.returns-clause-plan
returns-clause-plan g c =
    let settings = c.args.settings.now in
    let captures = c.args.captures.items in
    let n_is : c.len.result ≡ length captures = let ok = c.args.captures.ok.0 in let len = c.len.ensures in omega arith in
    let job : AreOfJob c.args.table.now settings c.pace_of-pace.result c.len.result captures c.in_ok-ports.ports.items = record {
      count = n_is;
      few = let few = c.requires.few in let ok = c.args.captures.ok.0 in omega (arith, n_is);
      pace_is = c.pace_of-pace.ensures ∙ ap (λ (all : List Capture). pace_of settings.speed (map file_of all)) c.deref-3.ensures.value;
      unmixed = ap (λ (all : List Capture). mixed_links (map file_of all)) (sym c.deref.ensures.value) ∙ c.in_ok-link.ensures.same;
      routes = subst (λ n. AreRoutesOf n c.args.table.now) (c.args.captures.ok.0 ∙ sym n_is) c.requires.routes;
      read = c.requires.read;
      ports_are = c.in_ok-ports.ensures;
      within = ap (λ limits. over_ports limits c.in_ok-ports.ports.items) (sym c.of-limits.ensures)
          ∙ ap (λ (all : List PortPlan). over_ports c.of-limits.result all) (sym c.deref-5.ensures.value)
          ∙ c.in_ok-are_within.ensures.within;
    } in
    job_plan job c.requires.settings (let some = c.requires.some in let ok = c.args.captures.ok.0 in omega (arith, n_is))
    c.is_nano-nano.result c.in_ok-link.link c.in_ok-plan_with.field-0 c.in_ok-plan_with.ensures
    (c.is_nano-nano.ensures ∙ ap (λ (all : List Capture). is_nano (map file_of all)) c.deref-2.ensures.value)
    (c.in_ok-link.ensures.link ∙ ap (λ (all : List Capture). first_link (map file_of all)) c.deref.ensures.value)
