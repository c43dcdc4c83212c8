use Rattle.std.proofs.Common.{◌≢◌, arith, get_or-set_other}
use Rattle.std.proofs.Common.{◌≡◌, ℕ, ◌↔◌, Option, None, Some}
use Rattle.islip_rounds.specs.Choices.{IsChoice}
use Rattle.islip_rounds.proofs.Tables.{below-next}
use Rattle.islip_rounds.proofs.kernels.picks.Goals as goal

pub loop-k-preserved : goal.loop-k-preserved
loop-k-preserved c = record {
  choices = below-next (λ (k : ℕ) (chosen : Option ℕ). (x : ℕ) → (chosen ≡ Some x)
      ↔ IsChoice c.args.n c.args.from.now c.args.masks.now c.args.free k x) None c.loop-k.chosen c.loop-k.k c.choice.result (omega arith)
      (λ x. (
        λ some. let p = (c.choice.ensures x).0 some in (c.contains.ensures.0 p.0, p.1),
        λ p. (c.choice.ensures x).1 (c.contains.ensures.1 p.0, p.1),
      ))
      c.loop-k.invariant.choices;
  rest = λ k beyond. let other : k ≢ c.loop-k.k = omega arith in rw get_or-set_other (c.loop-k.invariant.rest k beyond);
}

pub returns-clause-choices : goal.returns-clause-choices
returns-clause-choices c k k_in x = c.loop-k.invariant.choices k (omega arith) x
