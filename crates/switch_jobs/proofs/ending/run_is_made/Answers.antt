use Rattle.std.proofs.Common.{◌≤◌, subst}
use Rattle.eslip_rounds.specs.Decisions.{decision_of}
use Rattle.eslip_rounds.proofs.Scheduling.{IsScheduler-decision_of}
use Rattle.slot_histories.specs.Events.{Setup}
use Rattle.slot_histories.specs.Legal.{IsLegal}
use Rattle.switch_jobs.proofs.Made.{run_made}
use Rattle.switch_jobs.proofs.ending.run_is_made.Goals as goal

pub returns : goal.returns
returns c = λ plan good setup planned.
    let state = c.args.state.now in
    let legal = subst (λ (s : Setup). IsLegal s state.events) setup c.legal.ensures.legal in
    run_made plan state c.args.hands.now setup c.requires.hands c.requires.over planned (record {
      journal = λ driven. c.driven_boards_make_the_run.ensures.journal plan state.events good legal driven;
      takings = λ driven. c.driven_boards_make_the_run.ensures.takings plan state.events good legal driven;
      ends = λ driven over. c.finished_boards_end_the_run.ensures.length plan state.events good legal driven over;
      taken = λ driven over. c.finished_boards_end_the_run.ensures.taken plan state.events good legal driven over;
      given = λ j slots given below are. c.all_takings_are_given.ensures plan j slots given good below are;
      most = λ slots ends.
          let end = c.runs_end.ensures.ends decision_of plan IsScheduler-decision_of good in
          subst (λ n. n ≤ plan.max_slots) (c.lengths_are_one.ensures decision_of plan end.0 slots end.1 ends) end.2;
    })
