use Rattle.std.proofs.Common.{◌≡◌, ℕ, Some, ◌∙◌, ◌↔◌, sym, ap, refl}
use Rattle.std.proofs.lemmas.Option.{same_Some}
use Rattle.rotating_pick.specs.declared.kinds.Kind.TheVariants.{Uni}
use Rattle.slot_match.specs.declared.matching.Fed.{Fed}
use Rattle.slot_match.proofs.Pairs.{same_fed}
use Rattle.eslip_rounds.proofs.Meeting.{AreMet-along}
use Rattle.eslip_rounds.proofs.moves.meet_one.Goals as goal

pub returns-in-Uni-clause-met : goal.returns-in-Uni-clause-met
returns-in-Uni-clause-met c =
    let pair = c.in-Some.pair in
    let made : Fed = record { input = pair.input; level = pair.level; kind = Uni } in
    let whole : c.args.fed ≡ Some made = c.in-Some.is ∙ ap Some (same_fed pair made refl refl c.in-Uni.is) in
    let same : (i j level : ℕ) → ((i ≡ pair.input) × (j ≡ c.args.j) × (level ≡ pair.level))
    ↔ ((j ≡ c.args.j) × (c.args.fed ≡ Some (record { input = i; level = level; kind = Uni }))) = λ i j level. (
      λ p. (p.1, whole ∙ ap Some (same_fed made (record { input = i; level = level; kind = Uni }) (sym p.0) (sym p.2) refl)),
      λ p.
          let f : Fed = record { input = i; level = level; kind = Uni } in
          let one = same_Some f made (sym p.1 ∙ whole) in
          (ap (λ g. g.input) one, p.0, ap (λ g. g.level) one),
    ) in
    AreMet-along (λ i j level. (i ≡ pair.input) × (j ≡ c.args.j) × (level ≡ pair.level)) _ c.args.p.now c.met.new.self same
    (record {
      ports = c.met.ensures.ports;
      granted = λ i j level p. rw (p.0, p.1, p.2) c.met.ensures.grant;
      accepted = λ i j level p. rw (p.0, p.1, p.2) c.met.ensures.accept;
      grant_stays = λ j level none. c.met.ensures.grants j level (λ e f. none pair.input (refl, e, f));
      accept_stays = λ i level none. c.met.ensures.accepts i level (λ e f. none c.args.j (e, refl, f));
      shared = c.met.ensures.shared;
    })
