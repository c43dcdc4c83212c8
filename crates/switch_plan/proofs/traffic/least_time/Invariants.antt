use Rattle.std.proofs.Common.{◌≡◌, take}
use Rattle.std.specs.Prelude.{map}
use Rattle.switch_plan.specs.Traffic.{file_of, least_time}
use Rattle.switch_plan.proofs.traffic.least_time.Given as goal

abbrev pub invariant-loop-capture : goal.invariant-loop-capture
invariant-loop-capture l = l.least ≡ least_time (map file_of (take l.capture-index l.captures))
