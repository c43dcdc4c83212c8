use Rattle.std.proofs.Common.{◌≡◌, ◌+◌, length, refl, sym, subst, arith}
use Rattle.std.specs.Prelude.{sum}
use Rattle.output_queued.specs.Lines.{ideal, ran, rises, line_of}
use Rattle.output_queued.specs.Switches.{comes}
use Rattle.output_queued.proofs.Ideals.{given-up, given-one, ends_first, delays_are}
use Rattle.output_queued.proofs.Runs.{ran-one, ran-up, ran-behind, ran-ideal}
use Rattle.reference_run.specs.RunLines.{run_matches_under}
use Rattle.reference_run.specs.Promises.{slots_given_under, slots_fed_under, run_line_under, AreNoEarlier}
use Rattle.reference_run.proofs.Delayed.{no_earlier, delays_sum}
use Rattle.reference_run.proofs.Matches.{matches-long, run-cards, run-served}
use Rattle.reference_run.proofs.Ended.{run-emptied}
use Rattle.reference_run.proofs.laws.lines_tell_the_delays.Goals as goal

pub returns-clause-ends : goal.returns-clause-ends
unfolding line_of
returns-clause-ends c scheduler plan slots scheduling good end j inside =
    let ms = run_matches_under scheduler plan slots in
    ends_first (ideal plan.cards ms j) (ran ms j) (length ms) (given-up (comes plan.cards ms j)) (ran-up ms j)
    (ran-behind plan.cards ms (run-cards plan good) (run-served scheduler scheduling plan good slots) j)
    (sym (ran-ideal plan.cards ms (run-cards plan good) (run-served scheduler scheduling plan good slots) j
    (run-emptied scheduler scheduling plan good slots end) inside))

pub returns-clause-delays : goal.returns-clause-delays
unfolding line_of
returns-clause-delays c scheduler plan slots scheduling good end j inside =
    let ms = run_matches_under scheduler plan slots in
    let first = ideal plan.cards ms j in
    let second = ran ms j in
    let up = given-up (comes plan.cards ms j) in
    let one = given-one (comes plan.cards ms j) in
    let behind = ran-behind plan.cards ms (run-cards plan good) (run-served scheduler scheduling plan good slots) j in
    let same : first (length ms) ≡ second (length ms) = sym
    (ran-ideal plan.cards ms (run-cards plan good) (run-served scheduler scheduling plan good slots) j
    (run-emptied scheduler scheduling plan good slots end) inside) in
    let later : AreNoEarlier (slots_given_under scheduler plan slots j) (slots_fed_under scheduler plan slots j) =
    subst (λ n. AreNoEarlier (rises (ideal plan.cards (run_matches_under scheduler plan slots) j) n) (rises (ran (run_matches_under scheduler plan slots) j) n))
    (matches-long scheduler plan slots) (no_earlier first second up (ran-up ms j) one (ran-one ms j) (length ms) refl refl behind same) in
    let sums : (run_line_under scheduler plan slots j).extra + sum (slots_given_under scheduler plan slots j) ≡ sum (slots_fed_under scheduler plan slots j) =
    subst (λ n. (line_of plan.cards (run_matches_under scheduler plan slots) j).extra
    + sum (rises (ideal plan.cards (run_matches_under scheduler plan slots) j) n) ≡ sum (rises (ran (run_matches_under scheduler plan slots) j) n))
    (matches-long scheduler plan slots)
    (delays_are first second refl refl up (ran-up ms j) one (ran-one ms j) (length ms) behind same) in
    let delays = delays_sum (slots_given_under scheduler plan slots j) (slots_fed_under scheduler plan slots j) later in
    record { later = later; extra = omega (arith, sums, delays) }
