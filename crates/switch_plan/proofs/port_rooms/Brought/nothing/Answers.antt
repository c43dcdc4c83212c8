use Rattle.std.proofs.Common.{refl, arith}
use Rattle.std.proofs.lemmas.List.{get_or-replicate}
use Rattle.switch_plan.specs.OutputSteps.{no_room, beyond}
use Rattle.switch_plan.proofs.port_rooms.Brought.nothing.Goals as goal

pub returns : goal.returns
returns c = record {
  rooms = λ output inside. get_or-replicate 64 output no_room beyond inside;
  work = refl;
  aside = refl;
  oversize = refl;
  light = omega arith;
}
