use Rattle.arrival_bounds.specs.Waits.{IsUnicastRun}
use Rattle.departure_bounds.proofs.laws.arrivals_bound_runs.Goals as goal

pub returns : goal.returns
returns c scheduler plan slots fair good ends unicast rounds =
    let run : IsUnicastRun scheduler plan = record { scheduling = fair; good = good; unicast = unicast; rounds = rounds } in
    let holds = c.run_buffers_are_small.ensures in
    let drops = c.runs_drop_nothing.ensures in
    let bounded = c.departures_are_bounded.ensures in
    record {
      waits = λ most shaped. c.run_delays_are_short.ensures.pairs scheduler plan most run shaped;
      waits_held = λ held_in held_out most held few. c.small_buffers_are_soon_empty.ensures.held scheduler plan held_in held_out most run held few;
      queue_waits = λ i j l cells i_in j_in l_in few. c.one_queue_waits_for_its_lines.ensures scheduler plan i j l cells run i_in j_in l_in few;
      holds_recent = λ most waits. c.what_waits_came_recently.ensures.all scheduler plan most run waits;
      holds_few = λ window cells some shaped small. holds.any scheduler plan window cells run some shaped small;
      holds_by_line = λ most_in most_out slots_in slots_out curves windows.
          holds.lines scheduler plan most_in most_out slots_in slots_out run curves windows;
      enough_by_waits = λ most pairs queues. drops.queues scheduler plan most slots run pairs queues ends;
      enough_by_few = λ window cells some shaped small deep. drops.any scheduler plan window cells slots run some shaped small deep ends;
      enough_by_line = λ most_in most_out slots_in slots_out curves windows deep.
          drops.lines scheduler plan most_in most_out slots_in slots_out slots run curves windows deep ends;
      departs = λ most waits. c.packets_depart_soon.ensures.all scheduler plan slots most run waits ends;
      queue_departs = λ i j l most waits. c.packets_depart_soon.ensures.queue scheduler plan slots i j l most run waits ends;
      quarter = λ cells some shaped. bounded.quarter scheduler plan slots cells run some shaped ends;
      third = λ cells some shaped. bounded.third scheduler plan slots cells run some shaped ends;
      ends = λ most waits. c.runs_end_soon.ensures.waits scheduler plan most slots run waits ends;
    }
