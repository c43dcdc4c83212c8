use Rattle.std.proofs.Common.{◌≡◌, [], ◌∷◌, refl, subst, sym, ap, ◌∙◌}
use Rattle.pointer_state.specs.Places.{Places, AreAtPorts, place_of, places_at_first}
use Rattle.pointer_state.proofs.Tables.{place_of-at_first}
use Rattle.pointer_state.proofs.Moves.{AreAtPorts-at_first}
use Rattle.pointer_state.proofs.pointers.Pointers.new.Goals as goal

pub returns-clause-value : goal.returns-clause-value
unfolding places_at_first
returns-clause-value c = rw (c.table_at_first.ensures, c.table_at_first-2.ensures) refl

pub returns-clause-at_ports : goal.returns-clause-at_ports
returns-clause-at_ports c = rw (returns-clause-value c) (AreAtPorts-at_first c.args.n c.requires.some c.requires.size)

pub returns-clause-grant : goal.returns-clause-grant
returns-clause-grant c j level = ap (λ table. place_of table level j) c.table_at_first.ensures ∙ place_of-at_first level j

pub returns-clause-accept : goal.returns-clause-accept
returns-clause-accept c i level = ap (λ table. place_of table level i) c.table_at_first-2.ensures ∙ place_of-at_first level i

pub invariant_of-result : goal.invariant_of-result
unfolding places_at_first
invariant_of-result c =
    let made : Places = record { ports = c.args.n; grant = c.table_at_first.result; accept = c.table_at_first-2.result; shared = 0 ∷ 0 ∷ 0 ∷ 0 ∷ [] } in
    let value : made ≡ places_at_first c.args.n = rw (c.table_at_first.ensures, c.table_at_first-2.ensures) refl in
    subst AreAtPorts (sym value) (AreAtPorts-at_first c.args.n c.requires.some c.requires.size)
