use Rattle.std.proofs.Common.{◌≡◌, ◌∙◌, ◌<◌, ◌≤◌, Some, length, map, ap, arith}
use Rattle.std.specs.Prelude.{slice_get}
use Rattle.std.specs.Option.{option_map}
use Rattle.std.proofs.lemmas.List.{length-map}
use Rattle.std.proofs.lemmas.Option.{slice_get-map}
use Rattle.card_core.specs.Plans.{plan_of}
use Rattle.switch_plan.specs.GoodPlans.{switch_plan_of}
use Rattle.run_laws.proofs.Limits.{slots_some, slots_few, slots_halved}
use Rattle.switch_jobs.proofs.jobs.ready.Goals as goal

pub make-requires-clause-slots : goal.make-requires-clause-slots
make-requires-clause-slots c =
    let plan = switch_plan_of c.args.plan in
    let few = slots_few plan c.requires.good c.requires.burst in
    let halved : 32 < length plan.cards → plan.max_slots ≤ 131073 = slots_halved plan c.requires.good c.requires.burst in
    let long = length-map c.args.plan.cards.items plan_of in
    let count = c.len-ports.ensures in
    let held = c.args.plan.cards.ok.0 in
    (slots_some plan c.requires.good c.requires.burst, few, λ many. halved (omega arith))

pub members_of-requires-clause-good : goal.members_of-requires-clause-good
members_of-requires-clause-good c = λ port card at.
    let found : slice_get (map plan_of c.args.plan.cards.items) port ≡ Some (plan_of card) = slice_get-map plan_of c.args.plan.cards.items port
    ∙ ap (option_map plan_of) at in
    (c.requires.good.cards port (plan_of card) found).good

pub members_of-requires-clause-small : goal.members_of-requires-clause-small
members_of-requires-clause-small c = λ port card at.
    let found : slice_get (map plan_of c.args.plan.cards.items) port ≡ Some (plan_of card) = slice_get-map plan_of c.args.plan.cards.items port
    ∙ ap (option_map plan_of) at in
    c.requires.burst.cards port (plan_of card) found

pub members_of-requires-clause-sized : goal.members_of-requires-clause-sized
members_of-requires-clause-sized c = λ port card at.
    let found : slice_get (map plan_of c.args.plan.cards.items) port ≡ Some (plan_of card) = slice_get-map plan_of c.args.plan.cards.items port
    ∙ ap (option_map plan_of) at in
    let is = c.requires.good.cards port (plan_of card) found in
    (is.number, is.ports ∙ length-map c.args.plan.cards.items plan_of)
