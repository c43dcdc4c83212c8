use Rattle.std.proofs.Common.{◌≡◌, ℕ, ◌-◌, ◌<◌, ◌↔◌, ◌∙◌, [], ◌∷◌, ◌++◌, refl, ap, subst, arith}
use Rattle.rotating_pick.specs.PortSets.{Has}
use Rattle.slot_match.specs.Matches.{unmatched, IsFreeOutput}
use Rattle.slot_match.proofs.Kept.{IsMatch-unmatched}
use Rattle.islip_rounds.specs.Numbers.{matched_count, numbers_of}
use Rattle.eslip_rounds.specs.Rounds.{IsRound}
use Rattle.eslip_rounds.proofs.Decided.{unmatched-count}
use Rattle.eslip_rounds.proofs.Enough.{settles}
use Rattle.eslip_rounds.proofs.Running.{SoFar, IsDecided-first, IsDecided-next, AreMade-from}
use Rattle.unicast_slots.proofs.scheduler.make_rounds.Goals as goal
use Rattle.unicast_slots.proofs.scheduler.make_rounds.Goals.{then-added-gt0, else-added-gt0}

pub loop-done-init : goal.loop-done-init
loop-done-init c =
    let n = c.args.n in
    let rows = c.args.rows.now in
    let places = c.args.p.now in
    let now = c.round.new.out in
    let counted = c.count-matched.ensures in
    let numbers = c.after_round-numbers in
    let met = c.difference-first_outputs.result in
    let free : (j : ℕ) → Has c.free_outputs.result j ↔ ((j < n) × IsFreeOutput now j) =
    subst (λ k. (j : ℕ) → Has c.free_outputs.result j ↔ ((j < k) × IsFreeOutput now j)) c.round.ensures.whole.count c.free_outputs.ensures in
    let mets : (j : ℕ) → Has met j ↔ ((j < n) × (IsFreeOutput now j → ⊥)) = λ j.
    let d = c.difference-first_outputs.ensures j in
    let all = c.all.ensures.members j in
    (λ has. let p = d.0 has in (all.0 p.0, λ vacant. p.1 ((free j).1 (all.0 p.0, vacant))), λ p. d.1 (all.1 p.0, λ has. p.1 ((free j).0 has).1)) in
    record {
      whole = c.round.ensures.whole;
      counted = counted;
      used = numbers.ensures.used;
      decided = λ t.
          let round = subst (λ m. IsRound n t rows places m now) c.new.ensures.value (c.round.ensures.round t) in
          let start = unmatched-count n in (
            IsDecided-first n t rows places (record { done = 1; now = now; numbers = numbers.result; met = met }) refl round
                (numbers.ensures.numbers [] refl c.none.ensures ∙ ap (λ d. numbers_of (d ∷ [])) counted) mets,
            λ none. settles n t rows places (unmatched n) now round (IsMatch-unmatched n).count (omega arith),
          );
    }

pub loop-done-preserved : goal.loop-done-preserved
loop-done-preserved c =
    let n = c.args.n in
    let places = c.args.p.now in
    let rows = c.args.rows.now in
    let now = c.loop-done.out in
    let after = c.after_round-numbers-in-loop-done in
    let known = c.loop-done.invariant in
    let so_far : SoFar = record { done = c.loop-done.done; now = now; numbers = c.loop-done.numbers; met = c.difference-first_outputs.result } in
    elim c.if-added-gt0.branch [
      | then-added-gt0 w ↦
          let next = w.round-then-added-gt0.new.out in
          let difference : w.saturating_sub-added.result ≡ matched_count next - matched_count now =
          let a = known.counted in let b = w.count-now.ensures in let e = w.saturating_sub-added.ensures in omega arith in
          rw (w.out-is, w.matched-is, w.added-is) (record {
            whole = w.round-then-added-gt0.ensures.whole;
            counted = w.count-now.ensures;
            used = after.ensures.used;
            decided = λ t.
                let round = w.round-then-added-gt0.ensures.round t in (
                  IsDecided-next n t rows places so_far next after.result (known.decided t).0 (record {
                    round = round;
                    numbered = λ each long e. after.ensures.numbers each long e ∙ ap (λ d. numbers_of (each ++ d ∷ [])) (w.added-is ∙ difference);
                  }),
                  λ none. settles n t rows places now next round known.whole.count (omega (arith, difference)),
                );
          })
      | else-added-gt0 w ↦
          let none : c.loop-done.added ≡ 0 = omega (arith, w.if-added-gt0.false) in
          let difference : c.loop-done.added ≡ matched_count now - matched_count now = omega arith in
          rw (w.out-is, w.matched-is, w.added-is) (record {
            whole = known.whole;
            counted = known.counted;
            used = after.ensures.used;
            decided = λ t.
                let was = known.decided t in (
                  IsDecided-next n t rows places so_far now after.result was.0 (record {
                    round = was.1 none;
                    numbered = λ each long e. after.ensures.numbers each long e ∙ ap (λ d. numbers_of (each ++ d ∷ [])) (w.added-is ∙ difference);
                  }),
                  was.1,
                );
          })
    ]

pub returns-clause-made : goal.returns-clause-made
returns-clause-made c t =
    AreMade-from c.args.n t c.args.rows.now c.args.p.now
    (record { done = c.loop-done.done; now = c.loop-done.out; numbers = c.loop-done.numbers; met = c.difference-first_outputs.result })
    c.args.rounds (omega arith) (c.loop-done.invariant.decided t).0
