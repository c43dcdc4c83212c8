use Rattle.std.proofs.Common.{◌∙◌, sym, arith}
use Rattle.journal_check.proofs.NumberReads.{number_read, number_short, number_refused, read_is}
use Rattle.journal_check.proofs.fields.read_number.Goals as goal

pub returns-then-bytes-at : goal.returns-then-bytes-at
returns-then-bytes-at c = number_short c.args.field c.args.bytes.now c.args.at c.requires.place (omega (arith, c.len-len.ensures))

pub returns-then-allows : goal.returns-then-allows
returns-then-allows c =
    number_read c.args.field c.args.bytes.now c.args.at c.read_uint-number.result (omega (arith, c.len-len.ensures))
    (read_is c.args.field c.args.bytes.now c.args.at c.read_uint-number.result c.len-len.result c.len-len.ensures c.read_uint-number.ensures)
    (sym c.allows.ensures ∙ c.if-allows.true)

pub returns-else-allows : goal.returns-else-allows
returns-else-allows c =
    number_refused c.args.field c.args.bytes.now c.args.at c.read_uint-number.result c.requires.place
    (read_is c.args.field c.args.bytes.now c.args.at c.read_uint-number.result c.len-len.result c.len-len.ensures c.read_uint-number.ensures)
    (sym c.allows.ensures ∙ c.if-allows.false)
