use Rattle.std.proofs.Common.{◌^◌, ◌<◌, length, arith}
use Rattle.switch_plan.proofs.Answered.{read_as_given}
use Rattle.switch_plan.proofs.capture_files.read_one.Goals as goal

pub returns : goal.returns
returns c =
    let e = c.read_capture.ensures in
    let size : length c.args.file.items < 2 ^ 32 = omega arith in
    read_as_given c.args.file.items c.read_capture.result size e.found e.within e.in_order e.bytes e.fault
