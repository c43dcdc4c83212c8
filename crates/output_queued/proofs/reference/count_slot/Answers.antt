use Rattle.std.proofs.Common.{◌≡◌, ◌∙◌, ◌↔◌, ℕ, ◌<◌, ◌≤◌, List, length, length-set, slice_set, refl, sym, ap, subst, arith, inl, inr}
use Rattle.std.proofs.Common.{if◌then◌else◌}
use Rattle.std.specs.Prelude.{is_some}
use Rattle.std.proofs.lemmas.Bool.{cases_eq}
use Rattle.std.proofs.lemmas.List.{get_or-set_same, get_or-set_other, get_or_read}
use Rattle.std_lemmas.proofs.Bools.{one_if-le}
use Rattle.rotating_pick.specs.PortSets.{Has}
use Rattle.slot_match.specs.Matches.{fed_of}
use Rattle.output_queued.specs.declared.tally.Tally.{Tally}
use Rattle.output_queued.specs.NotingSteps.{no_tally, tally_at, IsUnserved}
use Rattle.output_queued.specs.Steps.{Ticks}
use Rattle.output_queued.proofs.Places.{set-case}
use Rattle.output_queued.proofs.reference.count_slot.Goals as goal
use Rattle.output_queued.proofs.reference.count_slot.Goals.{then-not-is_behind, else-not-is_behind}

pub without-unserved-requires : goal.without-unserved-requires
without-unserved-requires c = let inside =
    (c.requires.unserved.members c.in-Some.output).0 (c.loop-output.invariant.inside c.in-Some.output c.in-Some.ensures.member) in let size =
    c.requires.size in omega arith

pub without-left-requires : goal.without-left-requires
without-left-requires c = let inside =
    (c.requires.unserved.members c.in-Some.output).0 (c.loop-output.invariant.inside c.in-Some.output c.in-Some.ensures.member) in let size =
    c.requires.size in omega arith

-- one output is counted anew: it is in the set where the run has not served all that came
record IsCountedAnew (old new out : ℕ) (tally : Tally) : Type 0 where
  pub low : tally.ran ≤ tally.came
  pub others : (j : ℕ) → (j ≡ out → ⊥) → Has new j ↔ Has old j
  pub mine : Has new out ↔ (tally.ran < tally.came)

unserved-set : (old new : ℕ) (now : List Tally) (out : ℕ) (tally : Tally) → out < length now → IsUnserved old now → IsCountedAnew old new out tally
    → IsUnserved new (slice_set now out tally)
unserved-set old new now out tally below is anew = record {
  members = λ j. elim (cases_eq j out) [
    | inl same ↦ rw (same, get_or-set_same now out tally no_tally below, length-set now out tally) (λ m. (below, anew.mine.0 m), λ both. anew.mine.1 both.1)
    | inr other ↦ rw (get_or-set_other now out j tally no_tally other, length-set now out tally)
        (λ m. (is.members j).0 ((anew.others j other).0 m), λ both. (anew.others j other).1 ((is.members j).1 both))
  ];
  behind = λ j. set-case no_tally (λ k t. t.ran ≤ t.came) now out tally below anew.low j (λ other. is.behind j);
}

pub loop-output-preserved : goal.loop-output-preserved
loop-output-preserved c =
    let inv = c.loop-output.invariant in
    let out = c.in-Some.output in
    let now = c.loop-output.tallies.items in
    let old = c.args.tallies.now.items in
    let new = c.tick.new.self in
    let member = c.in-Some.ensures.member in
    let rest = c.without-left.ensures.members in
    let ours = (c.requires.unserved.members out).0 (inv.inside out member) in
    let long = inv.long in
    let below : out < length now = omega arith in
    let found : c.index_mut-tally.result.now ≡ tally_at now out =
    get_or_read now out c.index_mut-tally.result.now below c.index_mut-tally.ensures.value no_tally in
    let was : tally_at now out ≡ tally_at old out = inv.left out member in
    let fed : c.is_some.result ≡ is_some (fed_of c.args.matched.now out) = c.is_some.ensures ∙ ap is_some c.fed.ensures.value in
    let ticks = c.tick.ensures.ticks in
    let made : Ticks c.args.slot (if is_some (fed_of c.args.matched.now out) then 1 else 0) (tally_at old out) new =
    subst (λ b. Ticks c.args.slot (if b then 1 else 0) (tally_at old out) new) fed
    (subst (λ t. Ticks c.args.slot (if c.is_some.result then 1 else 0) t new) (found ∙ was) ticks) in
    let came = made.came in
    let ran = made.ran in
    let one = one_if-le (is_some (fed_of c.args.matched.now out)) in
    let behind = ours.1 in
    let low : new.ran ≤ new.came = omega arith in
    record {
      long = length-set now out new ∙ inv.long;
      inside = λ j has. inv.inside j ((rest j).0 has).1;
      left = λ j has. get_or-set_other now out j new no_tally ((rest j).0 has).0 ∙ inv.left j ((rest j).0 has).1;
      done = λ j has lacks. set-case no_tally
          (λ k t. Ticks c.args.slot (if is_some (fed_of c.args.matched.now k) then 1 else 0) (tally_at old k) t) now out new below made j
          (λ other. inv.done j has (λ on. lacks ((rest j).1 (other, on))));
      others = λ j lacks.
          get_or-set_other now out j new no_tally (λ e. lacks (subst (Has c.args.unserved) (sym e) (inv.inside out member))) ∙ inv.others j lacks;
      unserved = elim c.if-not-is_behind.branch [
        | then-not-is_behind w ↦
            let gone = w.without-unserved.ensures.members in
            let test = w.if-not-is_behind.true in
            rw w.unserved-is (unserved-set c.loop-output.unserved w.without-unserved.result now out new below inv.unserved (record {
              low = low;
              others = λ j other. (λ m. ((gone j).0 m).1, λ m. (gone j).1 (other, m));
              mine = (λ m. absurd (((gone out).0 m).0 refl), λ less. let yes_ = c.is_behind.ensures.1 less in absurd (cc));
            }))
        | else-not-is_behind w ↦
            let test = w.if-not-is_behind.false in
            let less : new.ran < new.came = c.is_behind.ensures.0 test in
            let still : Has c.loop-output.unserved out = (inv.unserved.members out).1 (below, subst (λ (t : Tally). t.ran < t.came) (sym was) behind) in
            rw w.unserved-is (unserved-set c.loop-output.unserved c.loop-output.unserved now out new below inv.unserved
            (record { low = low; others = λ j other. (λ m. m, λ m. m); mine = (λ m. less, λ _. still) }))
      ];
    }
