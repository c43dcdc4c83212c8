use Rattle.std.proofs.Common.{ap, map, string_bytes, sym, ◌∙◌}
use Rattle.std.specs.Prelude.{Ok}
use Rattle.outside.specs.Contents.{held}
use Rattle.named_schedulers.specs.Named.{decision_named}
use Rattle.switch_run.specs.Causes.{Answers, scheduler_in}
use Rattle.switch_run.specs.Endings.{Command, command_of}
use Rattle.switch_run.proofs.Answering.{none_of, run_ends, run_good, run_plan, too_long_exact, usage_exact}
use Rattle.switch_run.proofs.Refusing.{journal_exact, packets_exact, refusal_exact}
use Rattle.switch_run.proofs.Completing.{complete}
use Rattle.switch_run.proofs.Bounds.{serves_in_time_named, serves_named, waits_named}
use Rattle.switch_run.proofs.Checking.{check_exact}
use Rattle.switch_run.proofs.MadeInputs.{gen_exact}
use Rattle.switch_run.proofs.DoneRuns.{has_run}
use Rattle.switch_run.proofs.command.switch_main.Goals as goal

pub returns-clause-theorem : goal.returns-clause-theorem
returns-clause-theorem g c d =
    let counts = g.F.Files.faults in
    let see = g.F.Files.seen d in
    let files = c.args.files.now in
    let left = c.end_of.new.files in
    let command : Command = command_of (map string_bytes c.args.words.now) (held (see files) (see left)) (see left) (counts files) (counts left) in
    let ending = c.end_of.result in
    let status = c.status.result in
    let answers : Answers command status ending = (c.status.ensures, c.end_of.ensures.meaning d) in
    record {
      meaning = (ending, answers);
      never_fall = c.end_of.ensures.never_fall;
      no_fault = λ same. c.end_of.ensures.no_fault (sym c.status.ensures ∙ same);
      refused = rw c.status.ensures c.end_of.ensures.refused;
      usage = usage_exact command status ending answers (λ none. c.end_of.ensures.unnamed (none_of _ none));
      too_long = too_long_exact command status ending answers;
      refusal = refusal_exact command status ending answers;
      journal_too_long = journal_exact command status ending answers;
      packets_too_long = packets_exact command status ending answers;
      checks = check_exact command status ending answers;
      complete = complete command status ending answers;
      made_inputs = gen_exact command status ending answers;
      has_run = has_run command status ending answers;
      -- the laws of runs, for the run behind the command
      runs = λ plan slots is.
          let name = scheduler_in is.job in
          let scheduler = decision_named name in
          let fair = c.each_is_a_scheduler.ensures name in
          let good = run_good is.job _ _ plan slots is.run in
          let ends = run_ends is.job _ _ plan slots is.run in
          let made = run_plan is.job _ _ plan slots is.run in
          let lawful = c.journals_of_runs_are_lawful.ensures in
          let firm = c.runs_are_as_promised.ensures plan slots good in
          record {
            delivers = c.admitted_packets_are_delivered.ensures.flows scheduler plan slots fair good ends;
            no_others = c.admitted_packets_are_delivered.ensures.no_others scheduler plan slots fair good;
            arrivals = c.arrivals_come_first.ensures scheduler plan slots ends;
            interleaves = c.flows_are_interleaved.ensures scheduler plan slots fair good ends;
            counts = c.packets_are_counted_once.ensures scheduler plan slots good ends;
            serves = serves_named name plan slots ends (c.waiting_queues_are_served.ensures plan slots good) firm;
            serves_in_time = serves_in_time_named name plan slots ends (c.waiting_queues_are_served_in_time.ensures plan slots good) firm;
            waits = waits_named name plan slots ends (c.best_level_waits_are_short.ensures plan slots good) firm;
            completes = c.multicast_completes_under_each.ensures name plan slots good;
            completes_in_time = c.multicast_completes_in_time_under_each.ensures name plan slots good ends;
            few_slots = c.runs_end.ensures.bound scheduler plan slots fair good ends;
            busy_slots = c.busy_slots_match.ensures scheduler plan fair good;
            never_ahead = λ j t. c.reference_is_never_behind.ensures scheduler plan slots j t fair good;
            serves_as_many = λ j. c.whole_runs_serve_the_same.ensures.count scheduler plan slots j fair good ends;
            ends_no_later = c.lines_tell_the_delays.ensures.ends scheduler plan slots fair good ends;
            delays = c.lines_tell_the_delays.ensures.delays scheduler plan slots fair good ends;
            journals = λ burst. lawful.answer scheduler plan slots fair good burst ends ∙ ap Ok (lawful.numbers scheduler plan slots);
            queues = c.lines_add_up.ensures scheduler plan slots good (c.arrivals_come_first.ensures scheduler plan slots ends);
            sized = c.runs_are_sized.ensures scheduler plan slots good ends;
            departures = c.runs_have_departures.ensures scheduler plan slots fair good ends;
            copies = c.departures_are_counted.ensures scheduler plan slots fair good ends;
            rows = c.rows_add_up.ensures scheduler made.0 is.captures made.1.lines made.1.captures plan slots fair good made.1.planned ends;
            bounds = c.arrivals_bound_runs.ensures scheduler plan slots fair good ends;
          };
    }

pub returns-clause-own : goal.returns-clause-own
returns-clause-own g c d e alike = c.end_of.ensures.own d e alike
