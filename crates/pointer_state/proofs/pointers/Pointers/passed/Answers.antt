use Rattle.std.proofs.Common.{◌≡◌, slice_set, refl, subst, sym}
use Rattle.pointer_state.specs.Places.{Places, AreAtPorts, places_passed}
use Rattle.pointer_state.proofs.Moves.{AreAtPorts-passed}
use Rattle.pointer_state.proofs.pointers.Pointers.passed.Goals as goal

pub returns-clause-value : goal.returns-clause-value
unfolding places_passed
returns-clause-value c = rw (c.next.ensures.value, ← c.self.view_is) refl

pub returns-clause-at_ports : goal.returns-clause-at_ports
returns-clause-at_ports c =
    let at_ports : AreAtPorts c.args.self.now = subst AreAtPorts c.self.view_is c.self.invariant in
    rw (returns-clause-value c) (AreAtPorts-passed c.args.self.now at_ports c.args.level c.requires.level_in c.args.input)

pub invariant_of-self : goal.invariant_of-self
unfolding places_passed
invariant_of-self c =
    let at_ports : AreAtPorts c.args.self.now = subst AreAtPorts c.self.view_is c.self.invariant in
    let after : Places = record {
      ports = c.self.inside.ports;
      grant = c.self.inside.grant;
      accept = c.self.inside.accept;
      shared = slice_set c.self.inside.shared c.args.level c.next.result;
    } in
    let value : after ≡ places_passed c.args.self.now c.args.level c.args.input = rw (c.next.ensures.value, ← c.self.view_is) refl in
    subst AreAtPorts (sym value) (AreAtPorts-passed c.args.self.now at_ports c.args.level c.requires.level_in c.args.input)
