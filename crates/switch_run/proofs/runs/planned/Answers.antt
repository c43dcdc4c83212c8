use Rattle.std.proofs.Common.{◌≡◌, ◌<◌, ℕ, List, length, map, get_or, Vec, Global, ap, arith}
use Rattle.std.proofs.lemmas.List.{get_or-map, length-map}
use Rattle.switch_plan.specs.GoodPlans.{switch_plan_of}
use Rattle.switch_run.proofs.RunsMade.{countable_of}
use Rattle.switch_run.proofs.runs.planned.Goals as goal

pub plan-requires-clause-files : goal.plan-requires-clause-files
plan-requires-clause-files g c κs alive k d k_in =
    let files = c.args.inputs.captures.items in
    let items : Vec ℕ Global → List ℕ = λ file. file.items in
    let within : k < length (map items files) = omega (arith, k_in, length-map files items) in
    let short = c.requires.size.captures_fit k d.items within in
    let same : get_or (map items files) k d.items ≡ (get_or files k d).items = get_or-map items files k d d.items k_in in
    omega (arith, short, ap length same, (get_or files k d).ok.0)

pub returns-in-Ok-clause-planned : goal.returns-in-Ok-clause-planned
returns-in-Ok-clause-planned g c =
    let is = c.in-Ok.ensures in
    let plan = switch_plan_of c.in-Ok.plan in
    let (lines, captures, read, allowed, planned) = is.planned in
    let laws = c.plans_are_countable.ensures in
    record {
      lines = lines;
      captures = captures;
      read = read;
      allowed = allowed;
      good = is.good;
      countable = countable_of c.args.settings.now.long _ plan is.within is.burst (laws.burst plan is.good) (laws.long plan is.good);
      burst = is.burst;
      planned = planned;
    }
