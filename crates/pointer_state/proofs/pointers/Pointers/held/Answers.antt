use Rattle.std.proofs.Common.{refl}
use Rattle.pointer_state.specs.Places.{places_held}
use Rattle.pointer_state.proofs.pointers.Pointers.held.Goals as goal

pub returns-clause-value : goal.returns-clause-value
unfolding places_held
returns-clause-value c = rw (c.point.ensures, ← c.self.view_is) refl
