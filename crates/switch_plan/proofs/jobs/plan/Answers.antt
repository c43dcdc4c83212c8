use Rattle.std.proofs.Common.{◌≡◌, ◌∙◌, ℕ, List, length, Ok, ap, sym, subst, arith}
use Rattle.std.specs.Prelude.{vec_len}
use Rattle.std.proofs.lemmas.Result.{err_from_is_err_and, IfOk-weaker}
use Rattle.forward_table.specs.Reading.{reading_of}
use Rattle.forward_table.specs.Routes.{AreRoutesOf}
use Rattle.switch_plan.specs.Refusals.{terms_of, limits_for}
use Rattle.switch_plan.specs.ReadingSteps.{bytes_of_files}
use Rattle.switch_plan.specs.GoodPlans.{switch_plan_of, IsGood, IsBurst, IsWithin}
use Rattle.switch_plan.specs.JobSteps.{IsJobPlan}
use Rattle.switch_plan.proofs.Endings.{own_bytes, files_long, told_once, capture_refused, planned_result, refused_result, every_from}
use Rattle.switch_plan.proofs.jobs.plan.Goals as goal

pub returns-in_err-captures-clause-every_refusal : goal.returns-in_err-captures-clause-every_refusal
returns-in_err-captures-clause-every_refusal g c fault is =
    let settings = c.args.settings.now in
    let text = c.args.table.items in
    let files = bytes_of_files c.args.captures in
    let ports = c.len.result in
    let table = c.in_ok-table.table in
    let ports_is : ports ≡ length files = let ok = c.args.captures.ok.0 in let len = c.len.ensures in omega (arith, files_long c.args.captures) in
    let good : reading_of ports text ≡ Ok table = ap (λ (xs : List ℕ). reading_of ports xs) (sym c.deref.ensures.value) ∙ c.in_ok-table.ensures.table in
    let answer = c.in_err-captures.field-0.0 in
    let p = err_from_is_err_and c.from_residual-in_err-captures.result c.from_residual-in_err-captures.ensures.1 in
    rw (p.1, p.2)
    (told_once (terms_of settings) text files answer fault
    (capture_refused (terms_of settings) text files ports table answer ports_is good c.in_err-captures.ensures.refused) is)

pub plan_of-requires-clause-routes : goal.plan_of-requires-clause-routes
plan_of-requires-clause-routes g c κs alive =
    let captures = c.in_ok-captures.captures in
    let read = c.in_ok-captures.ensures.read.count in
    let same : c.len.result ≡ vec_len captures = let ok = c.args.captures.ok.0 in let read_ok = captures.ok.0 in let len = c.len.ensures in
    omega (arith, read, files_long c.args.captures) in
    subst (λ n. AreRoutesOf n c.in_ok-table.table) same c.in_ok-table.ensures.routes

pub plan_of-requires-clause-read : goal.plan_of-requires-clause-read
plan_of-requires-clause-read g c κs alive =
    own_bytes (bytes_of_files c.args.captures) c.in_ok-captures.captures.items c.in_ok-captures.ensures.read

pub returns-clause-good : goal.returns-clause-good
returns-clause-good g c =
    IfOk-weaker c.plan_of.result (IsJobPlan c.args.settings.now c.in_ok-table.table c.in_ok-captures.captures.items) (λ plan. IsGood (switch_plan_of plan))
    (λ plan is. is.good) c.plan_of.ensures.plan

pub returns-clause-within : goal.returns-clause-within
returns-clause-within g c =
    let captures = c.in_ok-captures.captures.items in
    let read = c.in_ok-captures.ensures.read.count in
    let same : length captures ≡ vec_len c.args.captures = let ok = c.args.captures.ok.0 in omega (arith, read, ok, files_long c.args.captures) in
    IfOk-weaker c.plan_of.result (IsJobPlan c.args.settings.now c.in_ok-table.table captures)
    (λ plan. IsWithin (limits_for c.args.settings.now.long (vec_len c.args.captures)) (switch_plan_of plan))
    (λ plan is. subst (λ ports. IsWithin (limits_for c.args.settings.now.long ports) (switch_plan_of plan)) same is.within) c.plan_of.ensures.plan

pub returns-clause-burst : goal.returns-clause-burst
returns-clause-burst g c short =
    IfOk-weaker c.plan_of.result (IsJobPlan c.args.settings.now c.in_ok-table.table c.in_ok-captures.captures.items) (λ plan. IsBurst (switch_plan_of plan))
    (λ plan is. is.burst short) c.plan_of.ensures.plan

pub returns-clause-planned : goal.returns-clause-planned
returns-clause-planned g c =
    let settings = c.args.settings.now in
    let text = c.args.table.items in
    let files = bytes_of_files c.args.captures in
    let ports = c.len.result in
    let table = c.in_ok-table.table in
    let ports_is : ports ≡ length files = let ok = c.args.captures.ok.0 in let len = c.len.ensures in omega (arith, files_long c.args.captures) in
    let good : reading_of ports text ≡ Ok table = ap (λ (xs : List ℕ). reading_of ports xs) (sym c.deref.ensures.value) ∙ c.in_ok-table.ensures.table in
    let captures = c.in_ok-captures.captures.items in
    let are = c.in_ok-captures.ensures.read in
    planned_result settings text files ports table captures ports_is good are c.plan_of.result c.plan_of.ensures.plan

pub returns-clause-refused : goal.returns-clause-refused
returns-clause-refused g c =
    let settings = c.args.settings.now in
    let text = c.args.table.items in
    let files = bytes_of_files c.args.captures in
    let ports = c.len.result in
    let table = c.in_ok-table.table in
    let ports_is : ports ≡ length files = let ok = c.args.captures.ok.0 in let len = c.len.ensures in omega (arith, files_long c.args.captures) in
    let good : reading_of ports text ≡ Ok table = ap (λ (xs : List ℕ). reading_of ports xs) (sym c.deref.ensures.value) ∙ c.in_ok-table.ensures.table in
    let captures = c.in_ok-captures.captures.items in
    let are = c.in_ok-captures.ensures.read in
    refused_result settings text files ports table captures ports_is good are c.plan_of.result c.plan_of.ensures.refused

pub returns-clause-every_refusal : goal.returns-clause-every_refusal
returns-clause-every_refusal g c fault is =
    let settings = c.args.settings.now in
    let text = c.args.table.items in
    let files = bytes_of_files c.args.captures in
    let ports = c.len.result in
    let table = c.in_ok-table.table in
    let ports_is : ports ≡ length files = let ok = c.args.captures.ok.0 in let len = c.len.ensures in omega (arith, files_long c.args.captures) in
    let good : reading_of ports text ≡ Ok table = ap (λ (xs : List ℕ). reading_of ports xs) (sym c.deref.ensures.value) ∙ c.in_ok-table.ensures.table in
    let captures = c.in_ok-captures.captures.items in
    let are = c.in_ok-captures.ensures.read in
    every_from settings text files ports table captures ports_is good are c.plan_of.result c.plan_of.ensures.plan c.plan_of.ensures.refused fault is
