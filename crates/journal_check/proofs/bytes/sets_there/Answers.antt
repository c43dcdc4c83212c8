use Rattle.std.proofs.Common.{arith}
use Rattle.journal_check.proofs.Flags.{flags_are, flags_fit}
use Rattle.journal_check.proofs.bytes.sets_there.Goals as goal

pub overflow_cast-result : goal.overflow_cast-result
overflow_cast-result c = let fits =
    flags_fit c.args.row.now c.add_flags-unicast.result c.add_flags.result c.add_flags-unicast.ensures.long c.add_flags-unicast.ensures.flags
    c.add_flags.ensures.flags in omega arith

pub returns : goal.returns
returns c = flags_are c.args.row.now c.add_flags-unicast.result c.add_flags.result c.add_flags-unicast.ensures.long c.add_flags-unicast.ensures.flags
    c.add_flags.ensures.flags
