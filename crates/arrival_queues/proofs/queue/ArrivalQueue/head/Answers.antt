use Rattle.std.proofs.Common.{◌∙◌, Some, ap}
use Rattle.arrival_queues.specs.FieldSteps.{cell_told}
use Rattle.arrival_queues.proofs.Rings.{told-first, told-none}
use Rattle.arrival_queues.proofs.queue.ArrivalQueue.head.Goals as goal

pub returns-in_default : goal.returns-in_default
returns-in_default c =
    let s = c.self.inside in
    rw (← c.self.view_is) (told-none s.input s.output s.queueing s.slots.items s.ports.items c.in_default.ensures)

pub returns : goal.returns
returns c =
    let s = c.self.inside in
    rw (← c.self.view_is)
    (ap Some c.cell_told.ensures
    ∙ ap (λ port. Some (cell_told s.queueing s.input s.output c.in-Some.slot.now port)) c.port_at_front-port.ensures
    ∙ told-first s.input s.output s.queueing s.slots.items s.ports.items c.in-Some.slot.now c.in-Some.ensures)
