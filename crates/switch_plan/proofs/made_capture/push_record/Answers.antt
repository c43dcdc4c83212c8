use Rattle.std.proofs.Common.{◌∙◌}
use Rattle.std.proofs.lemmas.Result.{on_ok_weaker}
use Rattle.switch_plan.proofs.Making.{record_made}
use Rattle.switch_plan.proofs.made_capture.push_record.Goals as goal

pub returns : goal.returns
returns c =
    let made = record_made c.args.job.now c.args.port c.args.k c.made_number-number.result c.args.file.now.items c.push_header.new.file.items
    c.made_number-number.ensures.value c.in_ok-push_header.ensures in
    on_ok_weaker c.push_frame.result (λ frame. frame ∙ made) c.push_frame.ensures
