use Rattle.std.proofs.Common.{ℕ, subst, inl, inr, arith, slice_index}
use Rattle.std.proofs.lemmas.Bool.{cases_eq}
use Rattle.rotating_pick.specs.PortSets.{Has}
use Rattle.eslip_rounds.proofs.asks.Asks.named.Goals as goal

pub loop-set-preserved : goal.loop-set-preserved
loop-set-preserved c j =
    let known = c.loop-set.invariant j in
    let set = c.loop-set.set in
    let both = c.union-named.ensures j in (
      λ has. elim (both.0 has) [
        | inl old ↦ let p = known.0 old in (p.0, (let below = p.1 in omega arith), p.2)
        | inr new ↦ (set, omega arith, new)
      ],
      λ p. both.1 (elim (cases_eq p.0 set) [
        | inl here ↦ let P : ℕ → Type 0 = λ s. Has (slice_index c.args.self.now.outputs s) j in inr (subst P here p.2)
        | inr apart ↦ inl (known.1 (p.0, (let below = p.1 in omega arith), p.2))
      ]),
    )
