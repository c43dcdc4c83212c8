use Rattle.std.proofs.Common.{◌≡◌, ◌∙◌, ◌<◌, ◌≤◌, List, length, refl, ap, arith, slice_index_or}
use Rattle.std.proofs.lemmas.List.{get_or_default}
use Rattle.packet_times.specs.declared.walk.Walk.{Walk}
use Rattle.packet_times.specs.NotingSteps.{Input, Times, no_input}
use Rattle.packet_times.specs.KeptSteps.{rows_left}
use Rattle.packet_times.proofs.Walks.{input-next}
use Rattle.packet_times.proofs.times.PacketTimes.go_on.Goals as goal

pub loop-walk-init : goal.loop-walk-init
loop-walk-init c = refl

pub loop-walk-smaller : goal.loop-walk-smaller
loop-walk-smaller c =
    let size = ap (λ (t : Times). length t.inputs) c.self.view_is in
    let next = ap (λ (w : Walk). w.input) c.at.ensures in
    omega (arith, size, next)

pub loop-walk-preserved : goal.loop-walk-preserved
loop-walk-preserved c =
    let t = c.args.self.now in
    let walk = c.loop-walk.walk in
    let inputs : c.self.inside.inputs.items ≡ t.inputs = ap (λ (t : Times). t.inputs) c.self.view_is in
    let inside : walk.input < length t.inputs = omega (arith, ap length inputs) in
    let own : c.index.result.now ≡ slice_index_or t.inputs walk.input no_input =
    c.index.ensures ∙ ap (λ (is : List Input). slice_index_or is walk.input c.index.result.now) inputs
    ∙ get_or_default t.inputs walk.input c.index.result.now no_input inside in
    let done : length (slice_index_or t.inputs walk.input no_input).counters.packets ≤ walk.number =
    omega (arith, ap length c.packets.ensures, ap (λ (x : Input). length x.counters.packets) own) in
    ap (rows_left t) c.at.ensures ∙ input-next t walk inside done ∙ c.loop-walk.invariant

pub returns-else-walk-packets-clause-same : goal.returns-else-walk-packets-clause-same
returns-else-walk-packets-clause-same c = c.loop-walk.invariant

pub returns-after-loop-walk-clause-same : goal.returns-after-loop-walk-clause-same
returns-after-loop-walk-clause-same c = c.loop-walk.invariant
