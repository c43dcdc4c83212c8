use Rattle.std.proofs.Common.{◌≡◌, ℕ, ◌+◌, ◌*◌, ◌<◌, ◌≤◌, ◌==◌, ◌∙◌, length, max, slice_index, slice_set, ap, sym, subst, inl, inr, arith}
use Rattle.std.proofs.Common.{get_or-set_same, get_or-set_other}
use Rattle.std.specs.Int.{bit_at}
use Rattle.std.proofs.lemmas.Bool.{cases_eq, cases_lt}
use Rattle.std.proofs.lemmas.Bool.Decides.{same_from_decides, Decides-eqb}
use Rattle.scheduler_c.specs.Waits.{word_at, wait_next}
use Rattle.scheduler_c.proofs.waits.note_queues.Goals as goal

pub loop-output-preserved : goal.loop-output-preserved
loop-output-preserved c =
    let place = c.args.place in
    let output = c.loop-output.output in
    let outputs = c.args.outputs in
    let old = c.args.waits.now in
    let waits = c.loop-output.waits in
    let inv = c.loop-output.invariant in
    let at = 64 * place + output in
    let wait = c.wait_next-wait.result in
    let new = slice_set waits at wait in
    let room = c.requires.room in
    let kept = c.loop-output.auto.waits in
    let output_in = c.loop-output-test.true in
    let inside : at < length waits = omega arith in
    let here : word_at new place output ≡ wait = get_or-set_same waits at wait 0 inside in
    let other = λ (k : ℕ) (apart : k ≡ at → ⊥). get_or-set_other waits at k wait 0 apart in
    let waits_now = bit_at outputs output == 1 in
    let tests : c.contains.result ≡ waits_now = same_from_decides c.contains.result waits_now c.contains.ensures (Decides-eqb (bit_at outputs output) 1) in
    let as_told = ap (λ b. wait_next b (slice_index waits at)) tests in
    let as_first = ap (λ w. wait_next waits_now w) (inv.left at (omega arith)) in
    let is : wait ≡ wait_next waits_now (word_at old place output) = c.wait_next-wait.ensures ∙ (as_told ∙ as_first) in
    let longer : c.max-longest.result ≡ max c.loop-output.longest wait = c.max-longest.ensures in
    record {
      noted = λ j j_in. elim (cases_eq j output) [
        | inl same ↦ subst (λ m. word_at new place m ≡ wait_next (bit_at outputs m == 1) (word_at old place m)) (sym same) (here ∙ is)
        | inr apart ↦ other (64 * place + j) (λ e. apart (omega arith)) ∙ inv.noted j (omega arith)
      ];
      before = λ k k_in. other k (λ e. omega arith) ∙ inv.before k k_in;
      left = λ k k_in. other k (λ e. omega arith) ∙ inv.left k (omega arith);
      bound = λ j j_in. elim (cases_eq j output) [
        | inl same ↦ subst (λ m. word_at new place m ≤ c.max-longest.result) (sym same) (omega (arith, here, longer))
        | inr apart ↦ let as_before = other (64 * place + j) (λ e. apart (omega arith)) in let below = inv.bound j (omega arith) in omega arith
      ];
      reached = elim (cases_lt c.loop-output.longest wait) [
        | inl less ↦ inr (output, omega arith, (let same : c.max-longest.result ≡ wait = omega arith in same ∙ sym here))
        | inr more ↦
            let same : c.max-longest.result ≡ c.loop-output.longest = omega arith in
            elim inv.reached [
              | inl none ↦ inl (same ∙ none)
              | inr f ↦ let j_in = f.1 in inr (f.0, omega arith, same ∙ (f.2 ∙ sym (other (64 * place + f.0) (λ e. omega arith))))
            ]
      ];
    }
