use Rattle.std.proofs.Common.{ℕ, ◌∙◌, inl, inr, subst, sym, arith}
use Rattle.std.proofs.lemmas.Bool.{cases_eq}
use Rattle.eslip_rounds.specs.Steps.{IsPassed}
use Rattle.eslip_rounds.proofs.Meeting.{IsPassed-from, IsPassed-to}
use Rattle.eslip_rounds.proofs.moves.pass_all.Goals as goal

pub loop-level-preserved : goal.loop-level-preserved
loop-level-preserved c =
    let level = c.loop-level.level in
    let known = c.loop-level.invariant in
    let rows = c.args.rows.now in
    let matched = c.args.matched.now in
    record {
      passed = λ m below. elim (cases_eq m level) [
        | inl same ↦
            let P : ℕ → Type 0 = λ z. IsPassed c.args.n rows matched c.args.p.now c.pass.new.p z in
            subst P (sym same) (IsPassed-from c.args.n rows matched c.loop-level.p c.args.p.now c.pass.new.p level
            (known.later level (omega arith)) c.pass.ensures.passed)
        | inr other ↦ IsPassed-to c.args.n rows matched c.args.p.now c.loop-level.p c.pass.new.p m (c.pass.ensures.others m other)
            (known.passed m (omega arith))
      ];
      later = λ m above. c.pass.ensures.others m (λ e. absurd (omega arith)) ∙ known.later m (omega arith);
      ports = c.pass.ensures.ports ∙ known.ports;
      grants = λ j m. c.pass.ensures.grants j m ∙ known.grants j m;
      accepts = λ i m. c.pass.ensures.accepts i m ∙ known.accepts i m;
      at_ports = c.pass.ensures.at_ports;
    }
