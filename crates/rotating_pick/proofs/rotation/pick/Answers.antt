use Rattle.std.proofs.Common.{◌≡◌, ◌↔◌, ℕ, None, Some, IsNone, refl}
use Rattle.rotating_pick.specs.PortSets.{Has}
use Rattle.rotating_pick.specs.Rotation.{IsFirstFrom}
use Rattle.rotating_pick.proofs.Bits.{Has-lt}
use Rattle.rotating_pick.proofs.First.{IsTurned, first_from, zero_from_turned, turned_from_zero, Some-iff_first}
use Rattle.rotating_pick.proofs.rotation.pick.Goals as goal

pub returns-in_err-steps : goal.returns-in_err-steps
returns-in_err-steps c =
    let n = c.args.n in
    let from = c.args.from in
    let ports = c.args.ports in
    let t : IsTurned n from ports c.rotate.result = record { among = c.rotate.ensures.among; members = c.rotate.ensures.members } in
    let zero_set : ports ≡ 0 = zero_from_turned n from ports c.rotate.result c.requires.from_in c.requires.among t (c.in_err-steps.ensures.none.0 refl) in
    let none : IsNone {T = ℕ} None ↔ (ports ≡ 0) = (λ _. zero_set, λ _. refl) in
    rw c.from_residual.ensures
    (record { none = none; first = tt; exact = λ x. Some-iff_first n from ports None c.requires.from_in none tt x })

pub advance-requires-clause-steps_in : goal.advance-requires-clause-steps_in
advance-requires-clause-steps_in c = Has-lt c.args.n c.rotate.result c.in_ok-steps.steps c.rotate.ensures.among c.in_ok-steps.ensures.member

pub returns : goal.returns
returns c =
    let n = c.args.n in
    let from = c.args.from in
    let ports = c.args.ports in
    let t : IsTurned n from ports c.rotate.result = record { among = c.rotate.ensures.among; members = c.rotate.ensures.members } in
    let first : IsFirstFrom n from (Has ports) c.advance.result =
    rw c.advance.ensures
    (first_from n from ports c.rotate.result c.in_ok-steps.steps c.requires.from_in t c.in_ok-steps.ensures.member c.in_ok-steps.ensures.least) in
    let none : IsNone (Some c.advance.result) ↔ (ports ≡ 0) =
    (λ some. absurd (cc), λ zero_set. c.in_ok-steps.ensures.none.1 (turned_from_zero n from ports c.rotate.result t zero_set)) in
    record { none = none; first = first; exact = λ x. Some-iff_first n from ports (Some c.advance.result) c.requires.from_in none first x }
