use Rattle.std.proofs.Common.{◌≡◌, ◌+◌, suc, arith, subst, Some}
use Rattle.slot_histories.specs.Events.{posted}
use Rattle.slot_histories.specs.Slots.{crossed}
use Rattle.slot_histories.proofs.ServedParts.{crossed-cell}
use Rattle.slot_histories.proofs.laws.crossing_cells_are_granted.Goals as goal

pub returns : goal.returns
returns c s events j t cell some size legal below is =
    let next : t + 1 ≡ suc t = omega arith in
    crossed-cell s events some size legal j t cell (omega arith) (subst (λ k. crossed s (posted events) j k ≡ Some cell) next is)
