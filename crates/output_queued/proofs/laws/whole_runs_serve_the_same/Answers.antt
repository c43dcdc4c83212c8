use Rattle.std.proofs.Common.{length, refl, sym}
use Rattle.output_queued.specs.Switches.{comes}
use Rattle.output_queued.specs.Lines.{ideal, ran, line_of}
use Rattle.output_queued.proofs.Ideals.{given-up, given-one, ends_first, delays_are}
use Rattle.output_queued.proofs.Runs.{ran-one, ran-up, ran-behind, ran-all, ran-ideal}
use Rattle.output_queued.proofs.laws.whole_runs_serve_the_same.Goals as goal

pub returns-clause-count : goal.returns-clause-count
returns-clause-count c cards matches j are run empty inside = ran-ideal cards matches are run j empty inside

pub returns-clause-all : goal.returns-clause-all
returns-clause-all c cards matches j are run empty inside = ran-all cards matches are run j empty inside

pub returns-clause-ends : goal.returns-clause-ends
unfolding line_of
returns-clause-ends c cards matches j are run empty inside =
    ends_first (ideal cards matches j) (ran matches j) (length matches) (given-up (comes cards matches j)) (ran-up matches j)
    (ran-behind cards matches are run j) (sym (ran-ideal cards matches are run j empty inside))

pub returns-clause-delays : goal.returns-clause-delays
unfolding line_of
returns-clause-delays c cards matches j are run empty inside =
    delays_are (ideal cards matches j) (ran matches j) refl refl (given-up (comes cards matches j)) (ran-up matches j) (given-one (comes cards matches j))
    (ran-one matches j)
    (length matches) (ran-behind cards matches are run j) (sym (ran-ideal cards matches are run j empty inside))
