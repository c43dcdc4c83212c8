use Rattle.std.proofs.Common.{◌≡◌, ℕ, ◌<◌, false, sym, subst, arith}
use Rattle.std.specs.Option.{unwrap_or}
use Rattle.slot_histories.specs.Slots.{is_done_before}
use Rattle.run_laws.specs.Runs.{ports_of, posts_under}
use Rattle.descriptor_runs.proofs.Endings.{before-end}
use Rattle.descriptor_runs.proofs.Gaps.{not-earlier, goes-to, gap-is, past-gap}
use Rattle.descriptor_runs.proofs.switch.Switch.skip_gap.Goals as goal

pub overflow_sub-next : goal.overflow_sub-next
overflow_sub-next g c =
    let (scheduler, plan, t, slot, scheduling, quiet, good, going, idle, before, noted, each) = c.requires in
    let late = not-earlier scheduler plan c.args.slot c.args.self.now.inputs before.inputs c.first_arrival.result c.first_arrival.ensures.there in
    let is = c.unwrap_or-next.ensures in
    omega arith

pub skip-requires-2 : goal.skip-requires-2
skip-requires-2 g c =
    let (scheduler, plan, t, slot, scheduling, quiet, good, going, idle, before, noted, each) = c.requires in
    let first = c.first_arrival.result in
    let next : ℕ = c.unwrap_or-next.result in
    let is : next ≡ unwrap_or first c.args.slot = c.unwrap_or-next.ensures in
    let late = not-earlier scheduler plan c.args.slot c.args.self.now.inputs before.inputs first c.first_arrival.ensures.there in
    let some : t < next = omega arith in
    let skipped = gap-is scheduler plan c.args.slot c.args.self.now.inputs before.inputs first c.first_arrival.ensures.least t next slot is some
    (c.idle_slots_change_nothing.ensures scheduler plan t next scheduling quiet good some idle)
    (c.gaps_can_be_skipped.ensures scheduler plan t next scheduling quiet good some idle) in
    let end = c.runs_end.ensures.ends scheduler plan scheduling good in
    let later = goes-to scheduler plan c.args.slot c.args.self.now.inputs before.inputs first c.first_arrival.ensures.there
    (c.runs_do_not_end_in_gaps.ensures scheduler plan) going in
    let below = before-end scheduler plan end.0 next end.1
    (subst (λ u. is_done_before (ports_of plan) (posts_under scheduler plan) u ≡ false) (sym is) later) in
    (scheduler, plan, end.0, scheduling, end.1, below, noted, skipped, each)

pub returns-clause-later : goal.returns-clause-later
returns-clause-later g c =
    let (scheduler, plan, t, slot, scheduling, quiet, good, going, idle, before, noted, each) = c.requires in
    let late = not-earlier scheduler plan c.args.slot c.args.self.now.inputs before.inputs c.first_arrival.result c.first_arrival.ensures.there in
    let is = c.unwrap_or-next.ensures in
    omega arith

pub returns-clause-next : goal.returns-clause-next
returns-clause-next g c = λ scheduler plan t slot scheduling quiet good idle before noted.
    let first = c.first_arrival.result in
    let next : ℕ = c.unwrap_or-next.result in
    let is : next ≡ unwrap_or first c.args.slot = c.unwrap_or-next.ensures in
    let late = not-earlier scheduler plan c.args.slot c.args.self.now.inputs before.inputs first c.first_arrival.ensures.there in
    let some : t < next = omega arith in
    let skipped = gap-is scheduler plan c.args.slot c.args.self.now.inputs before.inputs first c.first_arrival.ensures.least t next slot is some
    (c.idle_slots_change_nothing.ensures scheduler plan t next scheduling quiet good some idle)
    (c.gaps_can_be_skipped.ensures scheduler plan t next scheduling quiet good some idle) in (
      past-gap scheduler plan c.args.slot next skipped c.args.self.now before c.skip.new.self c.skip.ensures.ports c.skip.ensures.count
          c.skip.ensures.noted,
      c.skip-2.ensures.noted scheduler plan scheduling noted skipped,
    )

pub returns-clause-going : goal.returns-clause-going
returns-clause-going g c = λ scheduler plan before going.
    subst (λ u. is_done_before (ports_of plan) (posts_under scheduler plan) u ≡ false) (sym c.unwrap_or-next.ensures)
    (goes-to scheduler plan c.args.slot c.args.self.now.inputs before.inputs c.first_arrival.result c.first_arrival.ensures.there
    (c.runs_do_not_end_in_gaps.ensures scheduler plan) going)
