use Rattle.std.proofs.Common.{ℕ, ◌↔◌, ◌∙◌, refl, sym, subst}
use Rattle.rotating_pick.specs.PortSets.{Has}
use Rattle.rotating_pick.specs.declared.kinds.Kind.{Kind}
use Rattle.slot_match.specs.declared.matching.Served.{Served}
use Rattle.slot_match.specs.Matches.{Serves, IsFreeInput, IsServed, IsMatch}
use Rattle.slot_match.proofs.Sets.{zero-has}
use Rattle.slot_match.proofs.Kept.{IsServed-from_fan}
use Rattle.slot_match.proofs.ServedParts.{served_of-free, served_of-only}
use Rattle.slot_match.proofs.matching.Match.served.Goals as goal

pub returns-then-contains-clause-value : goal.returns-then-contains-clause-value
returns-then-contains-clause-value c =
    let free = ((c.self.invariant.sets.inputs_left c.args.input).0 (c.contains.ensures.0 c.if-contains.true)).1 in
    sym (served_of-free c.args.self.now c.args.input (subst (λ m. IsFreeInput m c.args.input) c.self.view_is free))

pub returns-in_default-clause-free : goal.returns-in_default-clause-free
returns-in_default-clause-free c =
    (λ _ j level kind s. zero-has c.fed_by-outputs.result j (c.in_default.ensures.none.0 refl) ((c.fed_by-outputs.ensures j).1 (level, kind, s)), λ _. refl)

pub returns-in_default-clause-value : goal.returns-in_default-clause-value
returns-in_default-clause-value c = sym (served_of-free c.args.self.now c.args.input ((returns-in_default-clause-free c).0 refl))

pub returns-in-Some-get-clause-part : goal.returns-in-Some-get-clause-part
returns-in-Some-get-clause-part c =
    let inside = c.self.inside in
    let fan = c.fed_by-outputs.result in
    let i = c.args.input in
    let part : Served = record { outputs = fan; level = c.in-Some-get.fed.level; kind = c.in-Some-get.fed.kind } in
    let feeds : (j : ℕ) → Has fan j ↔ ((level : ℕ) × (kind : Kind) × Serves c.args.self.now i j level kind) = c.fed_by-outputs.ensures in
    let here = subst (λ m. (j : ℕ) → Has fan j ↔ ((level : ℕ) × (kind : Kind) × Serves m i j level kind)) (sym c.self.view_is) feeds in
    subst (λ m. IsServed m i part) c.self.view_is
    (IsServed-from_fan inside.ports inside.count inside.fed inside.free_inputs inside.free_outputs c.self.invariant i fan c.in-Some.output
    c.in-Some-get.fed here c.in-Some.ensures.member (sym c.get.ensures ∙ c.in-Some-get.is))

pub returns-in-Some-get-clause-value : goal.returns-in-Some-get-clause-value
returns-in-Some-get-clause-value c =
    let whole : IsMatch c.self.inside.ports c.args.self.now = subst (λ m. IsMatch c.self.inside.ports m) c.self.view_is c.self.invariant.sets.whole in
    sym (served_of-only c.self.inside.ports c.args.self.now whole c.args.input _ (returns-in-Some-get-clause-part c))

pub returns-in-Some-get-clause-free : goal.returns-in-Some-get-clause-free
returns-in-Some-get-clause-free c =
    let part = returns-in-Some-get-clause-part c in
    let there = (part.outputs part.some.0).0 part.some.1 in
    (λ e. absurd (cc), λ free. absurd (free part.some.0 _ _ there))
