use Rattle.std.proofs.Common.{◌∙◌, ℕ, List, Vec, Global, ap}
use Rattle.std.specs.Prelude.{map}
use Rattle.std_lemmas.proofs.Ranges.{map_next}
use Rattle.switch_plan.specs.Made.{made_capture}
use Rattle.switch_plan.proofs.made.made_input.Goals as goal

pub loop-port-preserved : goal.loop-port-preserved
loop-port-preserved c =
    let bytes : Vec ℕ Global → List ℕ = λ file. file.items in
    ap (map bytes) c.in_ok-push.ensures.items
    ∙ map_next bytes (made_capture c.args.job.now) c.loop-port.captures.items c.in_ok-made_capture.field-0 c.loop-port.port c.loop-port.invariant
    c.in_ok-made_capture.ensures
