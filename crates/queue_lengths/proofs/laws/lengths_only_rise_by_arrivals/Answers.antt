use Rattle.std.proofs.Common.{◌≡◌, ◌∙◌, suc, ◌+◌, ◌≤◌, ap, subst, arith, if◌then◌else◌}
use Rattle.card_core.specs.Plans.{size_of}
use Rattle.queue_lengths.specs.Lengths.{length_before, length_in}
use Rattle.queue_lengths.proofs.Lengths.{gain, in_count, next_fewer}
use Rattle.queue_lengths.proofs.laws.lengths_only_rise_by_arrivals.Goals as goal

pub returns-clause-served : goal.returns-clause-served
returns-clause-served c plan q served t good =
    let one : suc t ≡ t + 1 = omega arith in
    subst (λ u. length_before plan q served u ≤ length_in plan q served t) one (next_fewer plan q good served t)

pub returns-clause-none : goal.returns-clause-none
returns-clause-none c plan q served t good none =
    let came = ap (gain plan q served t) none in
    omega (arith, in_count plan q good served t, came)

pub returns-clause-stays : goal.returns-clause-stays
returns-clause-stays c plan q served t k packet good arrives stays =
    let came = ap (gain plan q served t) arrives ∙ ap (λ b. if b then size_of packet else 0) stays in
    omega (arith, in_count plan q good served t, came)

pub returns-clause-enters : goal.returns-clause-enters
returns-clause-enters c plan q served t k packet good arrives enters =
    in_count plan q good served t
    ∙ ap (λ n. length_before plan q served t + n) (ap (gain plan q served t) arrives ∙ ap (λ b. if b then size_of packet else 0) enters)
