use Rattle.std.proofs.Common.{◌≡◌, ◌∙◌, length, refl, ap, sym, subst}
use Rattle.std.specs.Prelude.{Some, None}
use Rattle.card_core.specs.Posts.{row_at}
use Rattle.queue_lengths.specs.Counters.{arrival_in}
use Rattle.packet_times.specs.NotingSteps.{Input, IsNoted}
use Rattle.packet_times.specs.contracts.inputs.Input.{the_view}
use Rattle.packet_times.proofs.Arriving.{noted-none, noted-some, failed}
use Rattle.packet_times.proofs.inputs.Input.note.Goals as goal

pub leave-requires : goal.leave-requires
leave-requires c =
    let (plan, served, noted, long, row, may) = c.requires in
    let was : IsNoted plan (the_view c.self.inside) served = subst (λ (s : Input). IsNoted plan s served) (sym c.self.view_is) noted in
    (plan, served, c.arrive-arrival.ensures.counts plan served was.counts long, row ∙ ap (row_at plan served) (sym long), may)

pub returns-in_ok-push : goal.returns-in_ok-push
returns-in_ok-push c plan served noted long row may =
    let old = the_view c.self.inside in
    let was : IsNoted plan old served = subst (λ (s : Input). IsNoted plan s served) (sym c.self.view_is) noted in
    let counts = c.arrive-arrival.ensures.counts plan served was.counts long in
    let after = c.leave.ensures plan served counts (row ∙ ap (row_at plan served) (sym long)) may in
    let new = the_view (record { queues = c.leave.new.self; admitted = c.push.new.self }) in
    let arrives : Some c.in-Some.arrival ≡ arrival_in plan served (length served) = c.in-Some.ensures.arrival plan served was.counts long
    ∙ ap (arrival_in plan served) (sym long) in
    noted-some plan old new c.arrive-arrival.new.self served c.args.part was counts after c.in-Some.arrival arrives c.in_ok-push.ensures.items

pub returns-in_default : goal.returns-in_default
returns-in_default c plan served noted long row may =
    let old = the_view c.self.inside in
    let was : IsNoted plan old served = subst (λ (s : Input). IsNoted plan s served) (sym c.self.view_is) noted in
    let counts = c.arrive-arrival.ensures.counts plan served was.counts long in
    let after = c.leave.ensures plan served counts (row ∙ ap (row_at plan served) (sym long)) may in
    let new = the_view (record { queues = c.leave.new.self; admitted = c.self.inside.admitted }) in
    let arrives : None ≡ arrival_in plan served (length served) = c.in_default.ensures.arrival plan served was.counts long
    ∙ ap (arrival_in plan served) (sym long) in
    noted-none plan old new c.arrive-arrival.new.self served c.args.part was counts after arrives refl

pub arrive-arrival-requires : goal.arrive-arrival-requires
arrive-arrival-requires c =
    let (plan, served, noted, long, row, may) = c.requires in
    let was : IsNoted plan (the_view c.self.inside) served = subst (λ (s : Input). IsNoted plan s served) (sym c.self.view_is) noted in
    (plan, served, was.counts, long)

pub returns-in_err-push : goal.returns-in_err-push
returns-in_err-push c plan served noted long row may = failed _ c.from_residual.result c.from_residual.ensures.0
