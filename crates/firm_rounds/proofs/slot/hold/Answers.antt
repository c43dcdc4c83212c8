use Rattle.std.proofs.Common.{◌≡◌, ℕ, ◌⊎◌, refl, sym, subst, inl, inr, slice_index}
use Rattle.std.proofs.lemmas.Bool.{cases_eq}
use Rattle.rotating_pick.specs.PortSets.{Has}
use Rattle.slot_match.proofs.Sets.{zero-has}
use Rattle.eslip_rounds.specs.Refusals.{Tells}
use Rattle.firm_rounds.proofs.Holding.{AreHeld-none, AreHeld-along, AreHeld-then}
use Rattle.firm_rounds.proofs.slot.hold.Goals as goal

pub loop-j-init : goal.loop-j-init
loop-j-init c =
    record {
      left = λ y has. has;
      held = AreHeld-none (λ i y level. Tells c.args.refused.now i y level × (Has c.args.refused.now.outputs y → ⊥)) c.args.p.now (λ i y level p. p.1 p.0.0);
      at_ports = c.requires.at_ports;
    }

pub loop-j-preserved : goal.loop-j-preserved
loop-j-preserved c =
    let refused = c.args.refused.now in
    let known = c.loop-j.invariant in
    let j = c.in-Some.j in
    let a = slice_index refused.inputs j in
    let at = slice_index refused.levels j in
    let rest = c.loop-j.rest in
    let later = c.without-rest.result in
    let fewer = c.without-rest.ensures.members in
    let waits = c.in-Some.ensures.member in
    let P : ℕ → ℕ → ℕ → Type 0 = λ i y level. Tells refused i y level × (Has rest y → ⊥) in
    let Q : ℕ → ℕ → ℕ → Type 0 = λ i y level. Tells refused i y level × (Has later y → ⊥) in
    record {
      left = λ y has. known.left y ((fewer y).0 has).1;
      held = AreHeld-along (λ i y level. P i y level ⊎ ((i ≡ a) × (y ≡ j) × (level ≡ at))) Q c.args.p.now c.held.new.self
          (λ i y level. (
            λ s. elim s [
              | inl p ↦ (p.0, λ has. p.1 ((fewer y).0 has).1)
              | inr q ↦ rw (q.0, q.1, q.2) ((known.left j waits, refl, refl), λ has. ((fewer j).0 has).0 refl)
            ],
            λ q. elim (cases_eq y j) [
              | inr apart ↦ inl (q.0, λ has. q.1 ((fewer y).1 (apart, has)))
              | inl same ↦
                  let told : Tells refused i j level = subst (λ x. Tells refused i x level) same q.0 in
                  inr (sym told.1, same, sym told.2)
            ],
          ))
          (AreHeld-then P (λ i y level. (i ≡ a) × (y ≡ j) × (level ≡ at)) c.args.p.now c.loop-j.p c.held.new.self
          (λ i x y level p q. p.1 (subst (Has rest) (sym q.1) waits)) known.held (record {
            ports = c.held.ensures.ports;
            held = λ i y level q. rw (q.0, q.1, q.2) c.held.ensures.grant;
            stays = λ y level none. c.held.ensures.grants y level (λ e f. none a (refl, e, f));
            accepts = c.held.ensures.accepts;
            shared = c.held.ensures.shared;
          }));
      at_ports = c.held.ensures.at_ports;
    }

pub returns-clause-held : goal.returns-clause-held
returns-clause-held c =
    let empty = c.in_default.ensures.none.0 refl in
    AreHeld-along (λ i y level. Tells c.args.refused.now i y level × (Has c.loop-j.rest y → ⊥)) (Tells c.args.refused.now) c.args.p.now c.loop-j.p
    (λ i y level. (λ p. p.0, λ tells. (tells, zero-has c.loop-j.rest y empty))) c.loop-j.invariant.held
