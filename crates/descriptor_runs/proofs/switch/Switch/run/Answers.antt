use Rattle.std.proofs.Common.{◌∙◌, Vec, Global, refl, ap, arith}
use Rattle.std.proofs.lemmas.Bool.{both_ways}
use Rattle.slot_histories.specs.Slots.{is_done_at}
use Rattle.run_laws.specs.Runs.{ports_of, posts_under}
use Rattle.run_laws.proofs.FirstDone.{not_done}
use Rattle.descriptor_runs.specs.OutputSteps.{OutputValue, keeping}
use Rattle.descriptor_runs.proofs.Endings.{before-end, going-on, goes-on}
use Rattle.descriptor_runs.proofs.switch.Switch.run.Goals as goal

pub make_slot-requires : goal.make_slot-requires
make_slot-requires g c =
    let (scheduler, plan, scheduling, quiet, good, countable, most, first, none) = c.requires in
    let at = c.loop-slot.invariant.run scheduler plan scheduling quiet good most first none in
    let end = c.runs_end.ensures.ends scheduler plan scheduling good in
    (scheduler, plan, end.0, scheduling, good, countable, end.1, end.2, before-end scheduler plan end.0 c.loop-slot.slot end.1 at.1, at.0, at.2)

pub go_on-slot-requires : goal.go_on-slot-requires
go_on-slot-requires g c =
    let (scheduler, plan, scheduling, quiet, good, countable, most, first, none) = c.requires in
    let at = c.loop-slot.invariant.run scheduler plan scheduling quiet good most first none in
    let t = c.loop-slot.slot in
    let made = c.in_ok-activity.ensures.made scheduler plan scheduling good at.0 at.2 in
    let going = going-on (ports_of plan) (posts_under scheduler plan) t at.1
    (goes-on scheduler plan t c.in_ok-activity.activity c.in_default.not-Done made.0) in
    (scheduler, plan, t, refl, scheduling, quiet, good, going, made.0, made.1, made.2)

pub loop-slot-preserved : goal.loop-slot-preserved
loop-slot-preserved g c = record {
  run = λ scheduler plan scheduling quiet good most first none.
      let at = c.loop-slot.invariant.run scheduler plan scheduling quiet good most first none in
      let t = c.loop-slot.slot in
      let made = c.in_ok-activity.ensures.made scheduler plan scheduling good at.0 at.2 in
      let going = going-on (ports_of plan) (posts_under scheduler plan) t at.1
      (goes-on scheduler plan t c.in_ok-activity.activity c.in_default.not-Done made.0) in
      c.go_on-slot.ensures.next scheduler plan t refl scheduling quiet good going made.0 made.1 made.2;
  kept = ap (λ (outputs : Vec OutputValue Global). keeping outputs.items) c.go_on-slot.ensures.outputs
      ∙ (c.in_ok-activity.ensures.kept ∙ c.loop-slot.invariant.kept);
  wanted = c.go_on-slot.ensures.wanted ∙ (c.in_ok-activity.ensures.wanted ∙ c.loop-slot.invariant.wanted);
}

pub unreachable-requires : goal.unreachable-requires
unreachable-requires g c =
    let (scheduler, plan, scheduling, quiet, good, countable, most, first, none) = c.requires in
    let at = c.loop-slot.invariant.run scheduler plan scheduling quiet good most first none in
    let past = c.loop-slot-test.false in
    let end = c.runs_end.ensures.ends scheduler plan scheduling good in
    let count = end.1.count in
    let few = end.2 in
    both_ways (is_done_at (ports_of plan) (posts_under scheduler plan) end.1.last)
    (not_done (ports_of plan) (posts_under scheduler plan) c.loop-slot.slot end.1.last (omega arith) at.1) end.1.done
