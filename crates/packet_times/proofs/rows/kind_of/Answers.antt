use Rattle.std.proofs.Common.{◌≡◌, ◌∙◌, ◌^◌, ◌==◌, ℕ, Bool, true, false, refl, sym, ap, if◌then◌else◌}
use Rattle.std.proofs.lemmas.Bool.{eq-eqb, eqb-true}
use Rattle.std.proofs.lemmas.Option.{none-some}
use Rattle.rotating_pick.specs.declared.kinds.Kind.TheVariants.{Uni, Multi}
use Rattle.card_core.specs.Plans.{OfOutput, OfLevel, last_port, kind_of}
use Rattle.card_core.proofs.After.{last-power}
use Rattle.packet_times.proofs.rows.kind_of.Goals as goal

uni-of : (x level : ℕ) (b : Bool) → b ≡ true → Uni ≡ kind_of (if b then OfOutput x level else OfLevel level)
uni-of x level true is = refl
uni-of x level false is = absurd (cc)

multi-of : (x level : ℕ) (b : Bool) → b ≡ false → Multi ≡ kind_of (if b then OfOutput x level else OfLevel level)
multi-of x level false is = refl
multi-of x level true is = absurd (cc)

pub returns-in-Some : goal.returns-in-Some
returns-in-Some c level =
    let fan = c.args.fan in
    let x = c.in-Some.field-0 in
    let one = c.in-Some.ensures.one in
    let last : last_port 64 fan ≡ x = ap (last_port 64) one.1 ∙ last-power x one.0 in
    uni-of (last_port 64 fan) level (fan == 2 ^ last_port 64 fan) (eq-eqb fan (2 ^ last_port 64 fan) (one.1 ∙ ap (λ n. 2 ^ n) (sym last)))

differs : (fan p : ℕ) (b : Bool) → (fan == p) ≡ b → (fan ≡ p → ⊥) → (fan == p) ≡ false
differs fan p true e ne = absurd (ne (eqb-true fan p e))
differs fan p false e ne = e

pub returns-in-None : goal.returns-in-None
returns-in-None c level =
    let fan = c.args.fan in
    let last = last_port 64 fan in
    multi-of last level (fan == 2 ^ last)
    (differs fan (2 ^ last) (fan == 2 ^ last) refl (λ e. none-some last (sym c.in-None.is ∙ (c.only.ensures.exact last).1 e)))
