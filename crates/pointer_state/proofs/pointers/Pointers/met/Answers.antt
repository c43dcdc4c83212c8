use Rattle.std.proofs.Common.{◌≡◌, refl, subst, sym}
use Rattle.pointer_state.specs.Places.{Places, AreAtPorts, places_met}
use Rattle.pointer_state.proofs.Moves.{AreAtPorts-met}
use Rattle.pointer_state.proofs.pointers.Pointers.met.Goals as goal

pub returns-clause-value : goal.returns-clause-value
unfolding places_met
returns-clause-value c = rw (c.point.ensures, c.point-2.ensures, c.next.ensures.value, c.next-2.ensures.value, ← c.self.view_is) refl

pub returns-clause-at_ports : goal.returns-clause-at_ports
returns-clause-at_ports c =
    let at_ports : AreAtPorts c.args.self.now = subst AreAtPorts c.self.view_is c.self.invariant in
    rw (returns-clause-value c)
    (AreAtPorts-met c.args.self.now at_ports c.args.level c.requires.level_in c.args.input c.args.output c.requires.input_in c.requires.output_in)

pub invariant_of-self : goal.invariant_of-self
unfolding places_met
invariant_of-self c =
    let at_ports : AreAtPorts c.args.self.now = subst AreAtPorts c.self.view_is c.self.invariant in
    let after : Places = record { ports = c.self.inside.ports; grant = c.point.new.table; accept = c.point-2.new.table; shared = c.self.inside.shared } in
    let value : after ≡ places_met c.args.self.now c.args.input c.args.output c.args.level =
    rw (c.point.ensures, c.point-2.ensures, c.next.ensures.value, c.next-2.ensures.value, ← c.self.view_is) refl in
    subst AreAtPorts (sym value)
    (AreAtPorts-met c.args.self.now at_ports c.args.level c.requires.level_in c.args.input c.args.output c.requires.input_in c.requires.output_in)
