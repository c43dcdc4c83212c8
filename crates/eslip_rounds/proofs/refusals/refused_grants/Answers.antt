use Rattle.std.proofs.Common.{ℕ, ◌<◌, refl, subst, inl, inr}
use Rattle.std.proofs.lemmas.Bool.{cases_eq}
use Rattle.rotating_pick.specs.PortSets.{Has}
use Rattle.rotating_pick.proofs.Bits.{no_member-zero}
use Rattle.slot_match.proofs.Sets.{zero-has}
use Rattle.eslip_rounds.specs.Steps.{IsNamed, GrantsUnicast}
use Rattle.slot_match.specs.Matches.{unmatched}
use Rattle.eslip_rounds.proofs.Offering.{KeepsToPorts-ready}
use Rattle.eslip_rounds.proofs.refusals.refused_grants.Goals as goal

pub chosen-choice-requires-clause-ready : goal.chosen-choice-requires-clause-ready
chosen-choice-requires-clause-ready c =
    KeepsToPorts-ready c.args.n c.args.first_kind c.args.asks.now (unmatched c.args.n) c.all_ready-ready.result c.all_ready-ready.ensures

pub loop-j-init : goal.loop-j-init
loop-j-init c =
    let asked : (y : ℕ) → Has c.intersection-rest.result y → ((y < c.args.n) × (Has c.args.first_outputs y → ⊥)) × IsNamed c.args.asks.now y = λ y has.
    let both = (c.intersection-rest.ensures y).0 has in
    let first = (c.difference-left.ensures y).0 both.0 in
    (((c.all.ensures.members y).0 first.0, first.1), (c.named.ensures y).0 both.1) in
    record {
      left = asked;
      told = λ i y level. (
        λ tells. absurd (no_member-zero y tells.0),
        λ p.
            let left = (c.difference-left.ensures y).1 ((c.all.ensures.members y).1 p.0.0.0.0, p.0.0.0.1) in
            absurd (p.0.1 ((c.intersection-rest.ensures y).1 (left, (c.named.ensures y).1 p.0.0.1))),
      );
    }

pub note-requires-clause-rank_in : goal.note-requires-clause-rank_in
note-requires-clause-rank_in c f is = ((c.chosen-choice.ensures f).0 is).rank_in

pub note-requires-clause-new : goal.note-requires-clause-new
note-requires-clause-new c has = ((c.loop-j.invariant.told _ c.in-Some.j _).0 (has, refl, refl)).0.1 c.in-Some.ensures.member

pub loop-j-preserved : goal.loop-j-preserved
loop-j-preserved c =
    let known = c.loop-j.invariant in
    let j = c.in-Some.j in
    let fewer = c.without-rest.ensures.members in
    let here = known.left j c.in-Some.ensures.member in
    record {
      left = λ y has. known.left y ((fewer y).0 has).1;
      told = λ i y level.
          let told = known.told i y level in
          let noted = c.note.ensures i y level in (
            λ tells. elim (noted.0 tells) [
              | inl old ↦ let was = told.0 old in ((was.0.0, λ has. was.0.1 ((fewer y).0 has).1), was.1)
              | inr new ↦
                  let choice = new.1 in
                  let chosen : GrantsUnicast c.args.n c.args.first_kind c.args.asks.now c.all_ready-ready.result c.args.p.now i j level =
                  (choice.0, (c.chosen-choice.ensures _).0 choice.1, choice.2, choice.3) in
                  rw new.0 ((here, λ has. ((fewer j).0 has).0 refl), chosen)
            ],
            λ p. noted.1 (elim (cases_eq y j) [
              | inl same ↦
                  let grants : GrantsUnicast c.args.n c.args.first_kind c.args.asks.now c.all_ready-ready.result c.args.p.now i j level =
                  subst (λ x. GrantsUnicast c.args.n c.args.first_kind c.args.asks.now c.all_ready-ready.result c.args.p.now i x level) same p.1 in
                  inr (same, (grants.0, (c.chosen-choice.ensures _).1 grants.1, grants.2, grants.3))
              | inr apart ↦ inl (told.1 ((p.0.0, λ has. p.0.1 ((fewer y).1 (apart, has))), p.1))
            ]),
          );
    }

pub returns : goal.returns
returns c =
    let empty = c.in_default.ensures.none.0 refl in
    record {
      ready = c.all_ready-ready.result;
      readies = c.all_ready-ready.ensures;
      told = λ i y level.
          let told = c.loop-j.invariant.told i y level in
          (λ tells. let p = told.0 tells in (p.0.0, p.1), λ p. told.1 ((p.0, zero-has c.loop-j.rest y empty), p.1));
    }
