use Rattle.std.proofs.Common.{◌≡◌, ◌∙◌, ◌+◌, ◌*◌, ◌≤◌, List, length, ap, subst, arith}
use Rattle.packet_times.specs.NotingSteps.{Input, Times}
use Rattle.packet_times.specs.Rows.{header, packets_text_under}
use Rattle.packet_times.specs.MostSteps.{AreAllCounted}
use Rattle.packet_times.proofs.MostBytes.{file-short}
use Rattle.packet_times.proofs.Counting.{answered}
use Rattle.packet_times.proofs.times.PacketTimes.most_bytes.Goals as goal

pub returns : goal.returns
returns c scheduler plan slots noted =
    let rows = c.in_ok-rows.rows in
    let bytes = c.in_ok-bytes.bytes in
    let counted : AreAllCounted c.args.self.now.inputs rows =
    subst (λ (inputs : List Input). AreAllCounted inputs rows) (c.deref.ensures.value ∙ ap (λ (t : Times). t.inputs) c.self.view_is) c.in_ok-rows.ensures in
    let short = file-short scheduler plan slots c.args.self.now noted rows counted in
    let same : bytes ≡ rows * 256 = c.in_ok-bytes.ensures.1 in
    let sum : length (packets_text_under scheduler plan slots) ≤ bytes + length header = omega (arith, short, same) in
    answered c.checked_add.result _ (bytes + length header) _ c.checked_add.ensures sum
