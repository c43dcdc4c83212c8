use Rattle.std.proofs.Common.{◌≡◌, ℕ, ◌+◌, ◌-◌, ◌*◌, ◌<◌, ◌≤◌, arith, subst}
use Rattle.departure_bounds.specs.Delays.{DepartWithin}
use Rattle.departure_bounds.proofs.laws.departures_are_bounded.Goals as goal

of_quarter : (c : ℕ) → 0 < c → 2 * c - 2 + 1 ≡ 2 * c - 1
of_quarter c some = omega arith

of_third : (c : ℕ) → 0 < c → (0 < 3 * c - 1) × (3 * c ≤ 3 * c - 1 + 1) × (2 * (3 * c - 1) + 1 ≡ 6 * c - 1)
of_third c some = (omega arith, omega arith, omega arith)

pub returns : goal.returns
returns c =
    let soon = c.packets_depart_soon.ensures in
    let short = c.run_delays_are_short.ensures in
    record {
      pairs = λ scheduler plan slots most run shaped ends. soon.all scheduler plan slots most run (short.pairs scheduler plan most run shaped) ends;
      curves = λ scheduler plan most_in most_out slots most run curves low ends.
          soon.all scheduler plan slots most run (short.curves scheduler plan most_in most_out most run curves low) ends;
      quarter = λ scheduler plan slots cells run some shaped ends.
          subst (DepartWithin scheduler plan slots) (of_quarter cells some)
          (soon.all scheduler plan slots (2 * cells - 2) run (short.window scheduler plan cells run some shaped) ends);
      third = λ scheduler plan slots cells run some shaped ends.
          let numbers = of_third cells some in
          subst (DepartWithin scheduler plan slots) numbers.2
          (soon.all scheduler plan slots (2 * (3 * cells - 1)) run
          (c.small_buffers_are_soon_empty.ensures.third scheduler plan (3 * cells - 1) cells run numbers.0 shaped numbers.1) ends);
      every = λ scheduler plan slots cells run few ends. soon.all scheduler plan slots (cells - 2) run (short.all scheduler plan cells run few) ends;
      queue = λ scheduler plan slots i j l cells run i_in j_in l_in few ends.
          soon.queue scheduler plan slots i j l (cells - 2) run
          (c.one_queue_waits_for_its_lines.ensures scheduler plan i j l cells run i_in j_in l_in few) ends;
    }
