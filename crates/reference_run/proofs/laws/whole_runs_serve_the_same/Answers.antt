use Rattle.std.proofs.Common.{◌≡◌, ◌+◌, length, refl, sym, subst}
use Rattle.std.specs.Prelude.{sum}
use Rattle.output_queued.specs.Ideal.{total}
use Rattle.output_queued.specs.Switches.{comes}
use Rattle.output_queued.specs.Lines.{ideal, ran, rises, line_of}
use Rattle.output_queued.proofs.Ideals.{given-up, given-one, ends_first, delays_are}
use Rattle.output_queued.proofs.Runs.{ran-one, ran-up, ran-behind, ran-all, ran-ideal}
use Rattle.reference_run.specs.RunLines.{run_matches_under}
use Rattle.reference_run.proofs.Matches.{matches-long, run-cards, run-served}
use Rattle.reference_run.proofs.Ended.{run-emptied}
use Rattle.reference_run.proofs.laws.whole_runs_serve_the_same.Goals as goal

pub returns-clause-count : goal.returns-clause-count
returns-clause-count c scheduler plan slots j scheduling good end inside =
    let ms = run_matches_under scheduler plan slots in
    subst (λ n. ran (run_matches_under scheduler plan slots) j n ≡ ideal plan.cards (run_matches_under scheduler plan slots) j n)
    (matches-long scheduler plan slots)
    (ran-ideal plan.cards ms (run-cards plan good) (run-served scheduler scheduling plan good slots) j
    (run-emptied scheduler scheduling plan good slots end) inside)

pub returns-clause-all : goal.returns-clause-all
returns-clause-all c scheduler plan slots j scheduling good end inside =
    let ms = run_matches_under scheduler plan slots in
    subst (λ n. ran (run_matches_under scheduler plan slots) j n ≡ total (comes plan.cards (run_matches_under scheduler plan slots) j) n)
    (matches-long scheduler plan slots)
    (ran-all plan.cards ms (run-cards plan good) (run-served scheduler scheduling plan good slots) j
    (run-emptied scheduler scheduling plan good slots end) inside)

pub returns-clause-ends : goal.returns-clause-ends
unfolding line_of
returns-clause-ends c scheduler plan slots j scheduling good end inside =
    let ms = run_matches_under scheduler plan slots in
    ends_first (ideal plan.cards ms j) (ran ms j) (length ms) (given-up (comes plan.cards ms j)) (ran-up ms j)
    (ran-behind plan.cards ms (run-cards plan good) (run-served scheduler scheduling plan good slots) j)
    (sym (ran-ideal plan.cards ms (run-cards plan good) (run-served scheduler scheduling plan good slots) j
    (run-emptied scheduler scheduling plan good slots end) inside))

pub returns-clause-delays : goal.returns-clause-delays
unfolding line_of
returns-clause-delays c scheduler plan slots j scheduling good end inside =
    let ms = run_matches_under scheduler plan slots in
    subst (λ n. (line_of plan.cards (run_matches_under scheduler plan slots) j).extra
    + sum (rises (ideal plan.cards (run_matches_under scheduler plan slots) j) n) ≡ sum (rises (ran (run_matches_under scheduler plan slots) j) n))
    (matches-long scheduler plan slots)
    (delays_are (ideal plan.cards ms j) (ran ms j) refl refl (given-up (comes plan.cards ms j)) (ran-up ms j) (given-one (comes plan.cards ms j))
    (ran-one ms j) (length ms)
    (ran-behind plan.cards ms (run-cards plan good) (run-served scheduler scheduling plan good slots) j)
    (sym (ran-ideal plan.cards ms (run-cards plan good) (run-served scheduler scheduling plan good slots) j
    (run-emptied scheduler scheduling plan good slots end) inside)))
