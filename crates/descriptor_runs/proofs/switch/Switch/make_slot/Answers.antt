use Rattle.std.proofs.Common.{arith}
use Rattle.descriptor_runs.proofs.switch.Switch.make_slot.Goals as goal

pub decide-activity-requires : goal.decide-activity-requires
decide-activity-requires g c =
    let (scheduler, plan, slots, scheduling, good, countable, ends, within, below, before, noted) = c.requires in
    (scheduler, plan, scheduling, good, countable, omega arith, before)

pub note_slot-requires : goal.note_slot-requires
note_slot-requires g c =
    let (scheduler, plan, slots, scheduling, good, countable, ends, within, below, before, noted) = c.requires in
    let decided = c.decide-activity.ensures.decided scheduler plan scheduling good before in
    (scheduler, plan, slots, scheduling, good, ends, below, decided, noted)

pub serve-requires : goal.serve-requires
serve-requires g c =
    let (scheduler, plan, slots, scheduling, good, countable, ends, within, below, before, noted) = c.requires in
    let decided = c.decide-activity.ensures.decided scheduler plan scheduling good before in
    let after = c.in_ok-note_slot.ensures.noted scheduler plan scheduling good decided noted in
    (scheduler, plan, c.args.slot, scheduling, good, countable, omega arith, after.0)
