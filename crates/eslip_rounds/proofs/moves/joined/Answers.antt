use Rattle.std.proofs.Common.{ℕ, refl, subst, inl, inr, slice_index}
use Rattle.std.proofs.lemmas.Bool.{cases_eq}
use Rattle.rotating_pick.specs.PortSets.{Has}
use Rattle.rotating_pick.proofs.Bits.{Has-lt, no_member-zero}
use Rattle.slot_match.proofs.Sets.{zero-has}
use Rattle.eslip_rounds.proofs.moves.joined.Goals as goal

pub bounds-columns-j : goal.bounds-columns-j
bounds-columns-j c = Has-lt 64 c.args.outputs c.in-Some.j c.ranges.outputs.fits (c.loop-j.invariant.left c.in-Some.j c.in-Some.ensures.member)

pub without-rest-requires : goal.without-rest-requires
without-rest-requires c = Has-lt 64 c.args.outputs c.in-Some.j c.ranges.outputs.fits (c.loop-j.invariant.left c.in-Some.j c.in-Some.ensures.member)

pub loop-j-init : goal.loop-j-init
loop-j-init c = record { left = λ y has. has; seen = λ i. (λ has. absurd (no_member-zero i has), λ p. absurd (p.1.1 p.1.0)) }

pub loop-j-preserved : goal.loop-j-preserved
loop-j-preserved c =
    let known = c.loop-j.invariant in
    let j = c.in-Some.j in
    let fewer = c.without-rest.ensures.members in
    record {
      left = λ y has. known.left y ((fewer y).0 has).1;
      seen = λ i.
          let both = c.union-all.ensures i in
          let before = known.seen i in (
            λ has. elim (both.0 has) [
              | inl old ↦ let p = before.0 old in (p.0, (p.1.0, λ waits. p.1.1 ((fewer p.0).0 waits).1), p.2)
              | inr new ↦ (j, (known.left j c.in-Some.ensures.member, λ waits. ((fewer j).0 waits).0 refl), new)
            ],
            λ p. both.1 (elim (cases_eq p.0 j) [
              | inl same ↦ let P : ℕ → Type 0 = λ y. Has (slice_index c.args.columns.now y) i in inr (subst P same p.2)
              | inr apart ↦ inl (before.1 (p.0, (p.1.0, λ waits. p.1.1 ((fewer p.0).1 (apart, waits))), p.2))
            ]),
          );
    }

pub returns : goal.returns
returns c i =
    let empty = c.in_default.ensures.none.0 refl in
    let seen = c.loop-j.invariant.seen i in
    (λ has. let p = seen.0 has in (p.0, p.1.0, p.2), λ p. seen.1 (p.0, (p.1, zero-has c.loop-j.rest p.0 empty), p.2))
