use Rattle.std.proofs.Common.{◌≡◌, ◌∙◌, ◌+◌, ◌*◌, ℕ, None, Some, ap, length, sym, subst}
use Rattle.std.specs.Prelude.{option_map}
use Rattle.rotating_pick.specs.declared.limits.TheConstants.{MAX_PORTS}
use Rattle.arrival_queues.specs.Queues.{queue_for, queue_of}
use Rattle.simulated_slots.specs.Jobs.{queueing_of}
use Rattle.simulated_slots.specs.Slots.{served_queue}
use Rattle.simulated_slots.specs.DepartureSteps.{AreDeparted}
use Rattle.simulated_slots.proofs.Serving.{HaveServed-none, HaveServed-some}
use Rattle.simulated_slots.proofs.departed.Departed.serve.Goals as goal
use Rattle.simulated_slots.proofs.departed.Departed.serve.Goals.{in-Some, in_default}

pub loop-output-preserved : goal.loop-output-preserved
loop-output-preserved c =
    let known = c.loop-output.invariant in
    let arbiter = c.args.arbiter.now in
    let before = c.args.queues.now in
    let now = c.loop-output.queues in
    let self = c.loop-output.self in
    let k = c.loop-output.output in
    let slot = c.args.slot in
    let of_input = λ (i : ℕ). queue_of (queueing_of arbiter.discipline) arbiter.places.ports i k in
    elim c.match-served.branch [
      | in_default w ↦
          let none = subst (λ (n : ℕ). served_queue arbiter.discipline n arbiter.matched k ≡ None) (sym c.requires.ports)
          (sym c.served.ensures.queue ∙ ap (option_map of_input) w.in_default.is) in
          rw (w.self-is, w.queues-is) (HaveServed-none slot c.args.batch arbiter.discipline arbiter.matched k _ before now c.args.self.now self known none)
      | in-Some w ↦
          let input = w.in-Some.input in
          let some : served_queue arbiter.discipline arbiter.places.ports arbiter.matched k ≡ Some (of_input input) =
          sym c.served.ensures.queue ∙ ap (option_map of_input) w.in-Some.is in
          let own : served_queue arbiter.discipline before.ports arbiter.matched k ≡ Some (queue_for now input k) =
          rw (known.queueing, known.ports, c.requires.queueing, c.requires.ports) some in
          let was : AreDeparted now.ports (length self.batches.delays) (MAX_PORTS * slot + k) self = rw (known.ports, known.sizes.delays) known.sizes in
          let made = w.leave.ensures.sizes (MAX_PORTS * slot + k) was in
          let sizes = subst (λ (n : ℕ). AreDeparted n (length c.args.self.now.batches.delays) (MAX_PORTS * slot + k + 1) w.leave.new.self) known.ports
          (subst (λ (b : ℕ). AreDeparted now.ports b (MAX_PORTS * slot + k + 1) w.leave.new.self) known.sizes.delays made) in
          rw (w.self-is, w.queues-is, w.leave.ensures.queues) (HaveServed-some slot c.args.batch arbiter.discipline arbiter.matched k _ (queue_for now input k)
          before now c.args.self.now self w.leave.new.self known own w.leave.ensures.departed sizes)
    ]
