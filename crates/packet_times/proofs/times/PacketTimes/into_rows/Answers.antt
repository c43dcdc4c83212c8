use Rattle.std.proofs.Common.{◌∙◌, ◌++◌, ap}
use Rattle.std.specs.List.{flat_map}
use Rattle.packet_times.specs.declared.walk.Walk.{Walk}
use Rattle.packet_times.specs.Rows.{row_text, header}
use Rattle.packet_times.specs.KeptSteps.{rows_left}
use Rattle.packet_times.proofs.KeptTexts.{text-same}
use Rattle.packet_times.proofs.times.PacketTimes.into_rows.Goals as goal

pub returns : goal.returns
returns c scheduler plan slots noted come =
    ap (λ (w : Walk). header ++ flat_map row_text (rows_left c.args.self w)) c.at.ensures
    ∙ text-same scheduler plan slots c.args.self noted come
