use Rattle.std.proofs.Common.{◌≡◌, ◌≢◌, ◌∙◌, ℕ, ◌≤◌, Bool, true, false, Option, None, if◌then◌else◌, length, ap, subst, refl, arith}
use Rattle.std.specs.Prelude.{nat_lt}
use Rattle.std.proofs.lemmas.Bool.Decides.{nat_tests}
use Rattle.forward_table.specs.declared.route_lines.Route.{Route}
use Rattle.forward_table.specs.Routing.{route_of}
use Rattle.frame_fields.specs.Destination.{destination_of}
use Rattle.switch_plan.specs.Traffic.{fan_of, is_oversize}
use Rattle.switch_plan.proofs.port_plans.planned.Goals as goal

-- a frame that goes anywhere is not oversize
goes_short : (long : Bool) (n : ℕ) (route : Option Route) → nat_lt 65535 n ≡ long → fan_of (if long then None else route) ≢ 0 → n ≤ 65535
goes_short true n route test goes = absurd (goes refl)
goes_short false n route test goes = grind (arith, nat_tests, test)

pub returns-clause-forwarded : goal.returns-clause-forwarded
returns-clause-forwarded c goes =
    let frame = c.args.frame.now in
    let short = goes_short (is_oversize frame) (length frame) (route_of c.args.routes.now (destination_of c.args.link frame)) refl
    (λ none. goes (c.fan_of.ensures ∙ ap fan_of c.route_for-route.ensures.route ∙ none)) in
    subst (λ n. n ≤ 65535) c.requires short
