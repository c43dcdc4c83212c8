use Rattle.std.proofs.Common.{◌≡◌, length}
use Rattle.std.specs.Prelude.{option_map, fold, ◌<◌, IfOk, IfNone}
use Rattle.rotating_pick.specs.PortSets.{IsAmong}
use Rattle.forward_table.specs.Text.{comma, parts}
use Rattle.forward_table.specs.Forms.{numbers_of, fan_of}
use Rattle.forward_table.specs.Steps.{with_port}
use Rattle.forward_table.proofs.Ports.{parts_left}
use Rattle.forward_table.proofs.forms.ports_of.Given as goal

abbrev pub invariant-loop-rest : goal.invariant-loop-rest
invariant-loop-rest l = record {
  fan : option_map (fan_of l.n) (numbers_of (parts comma l.list)) ≡ option_map (fold (with_port l.n) l.fan)
      (numbers_of (parts_left (option_map (λ ports. ports.now) l.rest)));
  among : IfOk l.fan (IsAmong l.n);
  some : IfNone l.rest (IfOk l.fan (λ set. 0 < set));
}

abbrev pub decreases-loop-rest : goal.decreases-loop-rest
decreases-loop-rest l = length (parts_left (option_map (λ ports. ports.now) l.rest))
