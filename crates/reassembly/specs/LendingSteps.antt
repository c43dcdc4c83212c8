-- What a reassembly is once the message that was lent of it is gone.
use Rattle.std.specs.Prelude.{◌≡◌, ⊤}
use Rattle.std.specs.Borrow.{follows_so, MutBor, Fml}
use mathlib.Core.Option.{none}
use Rattle.reassembly.specs.Flows.{Flows}
use Rattle.reassembly.specs.contracts.assembly.Reassembly.{the_row}

-- it has these flows
abbrev pub EndsAs : MutBor Flows → Flows → Fml
EndsAs s flows = follows_so the_row the_row s.ghost_name none (λ _ _. ⊤) (λ last. last ≡ flows)
