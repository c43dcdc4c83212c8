use Rattle.std.proofs.Common.{◌≡◌, ℕ, ◌+◌, ◌-◌, ◌∙◌, sym, arith}
use Rattle.islip_rounds.specs.ExchangeSteps.{take_bit, take_above}
use Rattle.islip_rounds.proofs.Turning.{take_bit-lt, take_above-more}
use Rattle.islip_rounds.proofs.square.turn_square.Goals as goal

pub loop-step-preserved : goal.loop-step-preserved
loop-step-preserved c x y x_in y_in =
    let k = 5 - c.loop-step.step in
    let next : 6 - c.loop-step.step ≡ k + 1 = omega arith in
    let here : 6 - (c.loop-step.step + 1) ≡ k = omega arith in
    let before = c.loop-step.invariant (take_bit k x y) (take_bit k y x) (take_bit-lt k x y (omega arith) x_in) (take_bit-lt k y x (omega arith) y_in) in
    rw here (c.exchange.ensures x y x_in y_in ∙ (rw (next, take_above-more k x y, take_above-more k y x) at before))

pub returns : goal.returns
returns c i j i_in j_in =
    let done : 6 - c.loop-step.step ≡ 0 = omega arith in
    let none : (r c : ℕ) → take_above 0 r c ≡ c = λ r c. omega arith in
    let turned = rw (done, none j i, none i j) at (c.loop-step.invariant j i j_in i_in) in
    (λ has. sym turned ∙ has, λ has. turned ∙ has)
