use Rattle.std.proofs.Common.{◌≡◌, ◌∙◌, ◌+◌, ◌<◌, ◌≤◌, ◌^◌, ◌==◌, ap, arith, subst, sym, ℕ, Bool}
use Rattle.std.specs.Prelude.{Option, is_some}
use Rattle.eslip_rounds.specs.Slots.{Decision}
use Rattle.arrival_queues.specs.Queues.{held_count}
use Rattle.simulated_slots.specs.declared.job.Settings.{Settings}
use Rattle.simulated_slots.specs.Jobs.{is_measured, queueing_of}
use Rattle.simulated_slots.specs.DepartureSteps.{HaveServed}
use Rattle.simulated_runs.specs.declared.slot_counts.SlotCounts.{SlotCounts}
use Rattle.simulated_runs.specs.Numbers.{waiting_before}
use Rattle.simulated_runs.specs.SimulationSteps.{HasSummed, SimulationValue}
use Rattle.simulated_runs.specs.SlotSteps.{begun, ended, filled}
use Rattle.simulated_runs.proofs.NextSlots.{IsDecided-told}
use Rattle.simulated_runs.proofs.SlotCalls.{AreSources-of, IsFilled-told, IsServed-told, measured-is}
use Rattle.simulated_runs.proofs.Stepping.{HasCountedDeparted-more, HasSummed-more, HasTakenIn-more, counts_after}
use Rattle.simulated_runs.proofs.simulation.Simulation.step.Goals as goal

pub take_in-requires-clause-sources : goal.take_in-requires-clause-sources
take_in-requires-clause-sources c = AreSources-of c.self.inside.job c.self.inside.slot c.self.inside.arrivals.queues.ports c.self.inside.sources.items
    c.self.invariant.told c.self.invariant.taken.sizes.ports

pub serve-requires-clause-queueing : goal.serve-requires-clause-queueing
serve-requires-clause-queueing c =
    let job = c.self.inside.job in
    let t = c.self.inside.slot in
    let was = c.self.invariant in
    let batch = c.batch-batch.ensures.value in
    let measured : c.is_some.result ≡ is_measured job t = c.is_some.ensures ∙ (ap (λ (b : Option ℕ). is_some b) batch ∙ measured-is job t) in
    let come = IsFilled-told job t c.is_some.result c.self.inside.sources.items c.take_in.new.sources.items c.self.inside.arrivals c.take_in.new.arrivals
    was.taken was.told measured c.take_in.ensures.told in
    come.queueing ∙ ap queueing_of (sym (c.decide-used.ensures.kept.0 ∙ was.decided.discipline))

pub invariant_of-self : goal.invariant_of-self
invariant_of-self c =
    let job = c.self.inside.job in
    let t = c.self.inside.slot in
    let was = c.self.invariant in
    let left = c.self.inside.departed in
    let counts = c.self.inside.counts in
    let mid = c.take_in.new.arrivals in
    let arbiter = c.decide-used.new.self in
    let used = c.decide-used.result in
    let waiting = c.waiting-waiting.result in
    let batch = c.batch-batch.ensures.value in
    let measured : c.is_some.result ≡ is_measured job t = c.is_some.ensures ∙ (ap (λ (b : Option ℕ). is_some b) batch ∙ measured-is job t) in
    let ends : c.is_some-2.result ≡ is_measured job t = c.is_some-2.ensures ∙ (ap (λ (b : Option ℕ). is_some b) batch ∙ measured-is job t) in
    let come = IsFilled-told job t c.is_some.result c.self.inside.sources.items c.take_in.new.sources.items c.self.inside.arrivals mid
    was.taken was.told measured c.take_in.ensures.told in
    let decided = IsDecided-told job t c.self.inside.arbiter arbiter mid.queues c.rows.result.now used was.decided come.filled c.rows.ensures.value
    (record {
      kept = c.decide-used.ensures.kept;
      decision = c.decide-used.ensures.decision;
      picks = c.decide-used.ensures.picks;
      count = c.decide-used.ensures.count;
      noted = c.decide-used.ensures.noted;
    }) in
    let served = IsServed-told job t mid.queues c.serve.new.queues c.batch-batch.result arbiter.discipline arbiter.matched left c.serve.new.self
    (record {
      filled = come.filled;
      ports = come.sizes.ports;
      queueing = come.queueing;
      batch = batch;
      discipline = decided.arbiter.discipline;
      matched = ap (λ (d : Decision). d.matched) decided.decision;
    })
    (subst (λ (n : ℕ). HaveServed t c.batch-batch.result arbiter.discipline arbiter.matched mid.queues.ports n mid.queues c.serve.new.queues left
    c.serve.new.self)
    was.departed.sizes.delays c.serve.ensures.served) in
    let waits : waiting ≡ waiting_before job t =
    subst (λ (s : SimulationValue). waiting ≡ waiting_before s.job s.slot) (sym c.self.view_is) c.waiting-waiting.ensures in
    let fills : c.fill.new.self ≡ filled c.held.result (begun (t == job.settings.warm_up) waiting counts) =
    c.fill.ensures ∙ ap (filled c.held.result) (c.begin.ensures ∙ ap (λ (s : Settings). begun (t == s.warm_up) waiting counts) c.settings.ensures.value) in
    let all : c.end.new.self ≡ counts_after job t counts waiting used c.held.result c.held-2.result =
    c.end.ensures.counts ∙ (ap (λ (m : Bool). ended m used c.held-2.result c.fill.new.self) ends
    ∙ ap (λ (s : SlotCounts). ended (is_measured job t) used c.held-2.result s) fills) in
    let rounds : c.end.new.self.rounds_used ≤ counts.rounds_used + 2 ^ 32 =
    subst (λ (n : ℕ). c.end.new.self.rounds_used ≤ n + 2 ^ 32) (ap (λ (s : SlotCounts). s.rounds_used) fills) c.end.ensures.few_rounds in
    let pairs : c.end.new.self.first_pairs ≤ counts.first_pairs + 2 ^ 32 =
    subst (λ (n : ℕ). c.end.new.self.first_pairs ≤ n + 2 ^ 32) (ap (λ (s : SlotCounts). s.first_pairs) fills) c.end.ensures.few_pairs in
    let more : t < job.slots = subst (λ (s : SimulationValue). s.slot < s.job.slots) (sym c.self.view_is) c.requires in
    record {
      size = was.size;
      few = was.few;
      slots = omega (arith, more);
      told = come.sources;
      taken = HasTakenIn-more job t c.self.inside.arrivals mid c.serve.new.queues was.size was.taken come.come come.sizes
          served.queues served.ports served.queueing served.came;
      decided = decided.arbiter;
      departed = HasCountedDeparted-more job t left c.serve.new.self was.size was.departed served.departed served.sizes;
      summed = subst (HasSummed job (t + 1)) (sym all)
          (HasSummed-more job t counts waiting used c.held.result c.held-2.result was.summed waits
          (c.held.ensures.value ∙ ap held_count come.filled) (c.held-2.ensures.value ∙ ap held_count served.queues) c.held-2.ensures.within
          (ap (λ (d : Decision). d.numbers) decided.decision)
          (subst (λ (s : SlotCounts). s.rounds_used ≤ counts.rounds_used + 2 ^ 32) all rounds)
          (subst (λ (s : SlotCounts). s.first_pairs ≤ counts.first_pairs + 2 ^ 32) all pairs));
    }
