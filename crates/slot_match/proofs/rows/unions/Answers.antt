use Rattle.std.proofs.Common.{◌≡◌, slice_index, sym, subst, inl, inr, arith}
use Rattle.std.proofs.lemmas.Bool.{cases_lt}
use Rattle.std.proofs.lemmas.List.{get_or_past}
use Rattle.rotating_pick.specs.PortSets.{Has}
use Rattle.rotating_pick.specs.declared.limits.TheConstants.{LEVELS}
use Rattle.slot_match.proofs.Sets.{zero-has}
use Rattle.slot_match.proofs.rows.unions.Goals as goal

pub returns : goal.returns
returns c level j =
    let known = c.loop-level.invariant in
    elim (cases_lt level LEVELS) [
      | inl below ↦ known.done level j (omega arith)
      | inr above ↦
          let same = known.later level (omega arith) in
          let none : slice_index c.args.b.now level ≡ 0 = get_or_past c.args.b.now level 0 (omega arith) in (
            λ has. inl (subst (λ set. Has set j) same has),
            λ s. elim s [ inl has ↦ subst (λ set. Has set j) (sym same) has | inr has ↦ absurd (zero-has (slice_index c.args.b.now level) j none has) ],
          )
    ]
