use Rattle.std.proofs.Common.{◌≡◌, ◌∙◌, ℕ, ◌+◌, ◌<◌, ◌≤◌, List, length, refl, ap, sym, inl, inr}
use Rattle.std.proofs.lemmas.Bool.{cases_lt, false≢true}
use Rattle.std.proofs.lemmas.List.{length_push}
use Rattle.circular_buffer.specs.Buffer.{Buffer}
use Rattle.arrival_queues.specs.declared.cell.ArrivedCell.{ArrivedCell}
use Rattle.arrival_queues.specs.FieldSteps.{QueueValue}
use Rattle.arrival_queues.proofs.Rings.{length-told, told-entered}
use Rattle.arrival_queues.proofs.queue.ArrivalQueue.enter.Goals as goal

pub returns-in_default-clause-full : goal.returns-in_default-clause-full
returns-in_default-clause-full c =
    let s = c.self.inside in
    let full : s.slots.capacity ≤ length s.slots.items = elim (cases_lt (length s.slots.items) s.slots.capacity) [
      | inl room ↦ absurd (false≢true (c.in_default.ensures.variant.1 room))
      | inr full ↦ full
    ] in
    rw (← c.self.view_is, c.in_default.ensures.err.1) (rw (length-told s.input s.output s.queueing s.slots.items s.ports.items) full, refl)

pub returns-clause-entered : goal.returns-clause-entered
returns-clause-entered c =
    let s = c.self.inside in
    let long = length-told s.input s.output s.queueing s.slots.items s.ports.items in
    let room : length s.slots.items < s.slots.capacity = c.in-Ok.ensures.variant.0 refl in
    let counted : c.len.result ≡ length s.slots.items + 1 =
    c.len.ensures.len ∙ ap (λ (b : Buffer ℕ). length b.items) c.in-Ok.ensures.ok ∙ length_push s.slots.items c.args.slot in
    rw (← c.self.view_is, c.in-Ok.ensures.ok, c.push_back.ensures.items) record {
      room = rw long room;
      longer = counted ∙ ap (λ n. n + 1) (sym long);
      queue = ap (λ (cells : List ArrivedCell). let queue : QueueValue = record
          { queueing = s.queueing; input = s.input; output = s.output; depth = s.slots.capacity; cells = cells } in queue)
          (told-entered s.input s.output s.queueing s.slots s.ports c.args.slot c.args.port c.self.invariant.beside room);
    }
