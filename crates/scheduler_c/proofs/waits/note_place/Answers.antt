use Rattle.std.proofs.Common.{◌≡◌, ◌==◌, ◌∙◌, false, ap, sym, arith}
use Rattle.std.specs.Int.{bit_at}
use Rattle.std.proofs.lemmas.Bool.{ne_eqb}
use Rattle.std.proofs.lemmas.Nat.Bits.{bit_at-zero}
use Rattle.scheduler_c.specs.Waits.{word_at, wait_next}
use Rattle.scheduler_c.proofs.waits.note_place.Goals as goal

pub returns-then-is_empty-clause-noted : goal.returns-then-is_empty-clause-noted
returns-then-is_empty-clause-noted c j j_in =
    let none = c.is_empty.ensures.zero.0 c.if-is_empty.true in
    let clear = ap (λ set. bit_at set j) none ∙ bit_at-zero j in
    let waits_not : (bit_at c.args.outputs j == 1) ≡ false = ne_eqb (bit_at c.args.outputs j) 1 (λ e. omega (arith, clear)) in
    c.clear_place.ensures.cleared j j_in ∙ sym (ap (λ b. wait_next b (word_at c.args.waits.now c.args.place j)) waits_not)
