use Rattle.std.proofs.Common.{◌≡◌, ◌∙◌, ◌<◌, ap, map, subst, sym, ℕ}
use Rattle.std.specs.List.{range_with_len}
use Rattle.made_traffic.specs.Sources.{TrafficValue}
use Rattle.simulated_slots.specs.declared.job.Settings.{Settings}
use Rattle.simulated_runs.specs.Numbers.{batch_numbers, delay_of, departures, longest_wait_in, numbers_after, port_of, waiting_before}
use Rattle.simulated_runs.specs.SimulationSteps.{SimulationValue}
use Rattle.simulated_runs.proofs.Telling.{arrived-is, departed-is, dropped-is, told-is}
use Rattle.simulated_runs.proofs.simulation.Simulation.numbers.Goals as goal

pub returns : goal.returns
returns c =
    let job = c.self.inside.job in
    let t = c.self.inside.slot in
    let was = c.self.invariant in
    let delays = map delay_of (departures job t) in
    let later : job.settings.warm_up < t = subst (λ (s : SimulationValue). s.job.settings.warm_up < s.slot) (sym c.self.view_is) c.requires in
    let ports = c.ports.ensures.value ∙ ap (λ (traffic : TrafficValue). traffic.ports) c.traffic.ensures in
    let batches = ap (λ (s : Settings). s.batches) c.settings-settings.ensures.value in
    told-is job t _ (record {
      arrived = c.total.ensures ∙ arrived-is job t c.self.inside.arrivals was.taken;
      dropped = c.total-2.ensures ∙ dropped-is job t c.self.inside.arrivals was.taken;
      departed = c.total-3.ensures.value ∙ departed-is job t c.self.inside.departed was.departed;
      before = was.summed.before later;
      waiting = subst (λ (s : SimulationValue). c.waiting.result ≡ waiting_before s.job s.slot) (sym c.self.view_is) c.waiting.ensures;
      cell_slots = was.summed.cell_slots;
      delays = c.sum.ensures delays was.departed.delays;
      percentiles = c.percentiles.ensures delays was.departed.delays;
      longest_delay = c.longest.ensures delays was.departed.delays;
      rounds_used = was.summed.rounds_used;
      first_pairs = was.summed.first_pairs;
      peak = was.taken.peak;
      most = was.summed.most;
      longest_wait = subst (λ (s : SimulationValue). c.longest_wait.result ≡ longest_wait_in s.job s.slot) (sym c.self.view_is) c.longest_wait.ensures;
      ports = subst (λ (n : ℕ). c.in_ok-ports.field-0.items ≡ map (port_of job t) (range_with_len 0 n)) ports
          (c.in_ok-ports.ensures job t was.taken was.departed);
      batches = subst (λ (n : ℕ). c.in_ok-batches.field-0.items ≡ map (batch_numbers job t) (range_with_len 0 n)) batches
          (c.in_ok-batches.ensures job t was.departed);
      counts = c.in_ok-counts.ensures delays was.departed.delays;
    })
    ∙ ap (λ (s : SimulationValue). numbers_after s.job s.slot) c.self.view_is
