use Rattle.std.proofs.Common.{◌≡◌, ℕ, ◌-◌, ◌<◌}
use Rattle.islip_rounds.specs.ExchangeSteps.{bit_of, take_above}
use Rattle.islip_rounds.proofs.square.turn_square.Given as goal

abbrev pub invariant-loop-step : goal.invariant-loop-step
invariant-loop-step l = (r c : ℕ) → r < 64 → c < 64 → bit_of l.rows r c ≡ bit_of l.fn.rows (take_above (6 - l.step) r c) (take_above (6 - l.step) c r)
