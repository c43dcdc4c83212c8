use Rattle.std.proofs.Common.{◌≡◌, ℕ, Option, Some, refl, sym, subst}
use Rattle.rotating_pick.specs.PortSets.{Has}
use Rattle.rotating_pick.specs.declared.kinds.Kind.TheVariants.{Uni}
use Rattle.slot_match.specs.declared.matching.Fed.{Fed}
use Rattle.slot_match.proofs.Sets.{zero-has}
use Rattle.eslip_rounds.specs.Steps.{AreMet}
use Rattle.eslip_rounds.proofs.Meeting.{AreMet-along, AreMet-next, gone_more}
use Rattle.eslip_rounds.proofs.moves.meet.Goals as goal

pub loop-j-preserved : goal.loop-j-preserved
loop-j-preserved c =
    let known = c.loop-j.invariant in
    let matched = c.args.matched.now in
    let before = c.args.p.now in
    let after = c.meet_one.new.p in
    let outputs = c.args.first_outputs in
    let rest = c.loop-j.rest in
    let j = c.in-Some.j in
    let has = c.in-Some.ensures.member in
    let left = known.left j has in
    let gone = gone_more outputs rest c.without-rest.result j has left c.without-rest.ensures.members in
    let Pairs : Option Fed → ℕ → ℕ → ℕ → Type 0 = λ fed i y level. (y ≡ j) × (fed ≡ Some (record { input = i; level = level; kind = Uni })) in
    record {
      left = λ y has. known.left y ((c.without-rest.ensures.members y).0 has).1;
      met = AreMet-along _ _ before after (λ i y level. (λ p. ((gone y).0 p.0, p.1), λ p. ((gone y).1 p.0, p.1)))
          (AreMet-next matched (λ y. Has outputs y × (Has rest y → ⊥)) j before c.loop-j.p after
          (λ i x level met s here. met.1 (subst (Has rest) (sym (c.requires.once i x j level met.0 left s here)) has)) known.met
          (subst (λ (fed : Option Fed). AreMet (Pairs fed) c.loop-j.p after) c.fed.ensures.value c.meet_one.ensures.met));
      at_ports = c.meet_one.ensures.at_ports;
    }

pub returns-clause-met : goal.returns-clause-met
returns-clause-met c =
    let empty = c.in_default.ensures.none.0 refl in
    AreMet-along _ _ c.args.p.now c.loop-j.p
    (λ i j level. (λ p. (p.0.0, p.1), λ q. ((q.0, λ has. zero-has c.loop-j.rest j empty has), q.1))) c.loop-j.invariant.met
