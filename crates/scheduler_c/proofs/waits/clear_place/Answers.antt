use Rattle.std.proofs.Common.{◌≡◌, ℕ, ◌+◌, ◌*◌, ◌<◌, ◌∙◌, length, slice_set, subst, sym, inl, inr, arith}
use Rattle.std.proofs.Common.{get_or-set_same, get_or-set_other}
use Rattle.std.proofs.lemmas.Bool.{cases_eq}
use Rattle.scheduler_c.specs.Waits.{word_at}
use Rattle.scheduler_c.proofs.waits.clear_place.Goals as goal

pub loop-output-preserved : goal.loop-output-preserved
loop-output-preserved c =
    let place = c.args.place in
    let output = c.loop-output.output in
    let waits = c.loop-output.waits in
    let inv = c.loop-output.invariant in
    let at = 64 * place + output in
    let new = slice_set waits at 0 in
    let room = c.requires.room in
    let kept = c.loop-output.auto.waits in
    let output_in = c.loop-output-test.true in
    let inside : at < length waits = omega arith in
    let here : word_at new place output ≡ 0 = get_or-set_same waits at 0 0 inside in
    let other = λ (k : ℕ) (apart : k ≡ at → ⊥). get_or-set_other waits at k 0 0 apart in
    record {
      cleared = λ j j_in. elim (cases_eq j output) [
        | inl same ↦ subst (λ m. word_at new place m ≡ 0) (sym same) here
        | inr apart ↦ other (64 * place + j) (λ e. apart (omega arith)) ∙ inv.cleared j (omega arith)
      ];
      others = λ k k_in. elim k_in [
        | inl before ↦ other k (λ e. omega arith) ∙ inv.others k (inl before)
        | inr after ↦ other k (λ e. omega arith) ∙ inv.others k (inr (omega arith))
      ];
    }
