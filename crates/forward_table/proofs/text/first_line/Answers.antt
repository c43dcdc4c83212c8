use Rattle.std.proofs.Common.{◌<◌, length, sym, arith, tests}
use Rattle.std.proofs.lemmas.List.{take_rest}
use Rattle.forward_table.proofs.Splitting.{lines_at, lines_whole}
use Rattle.forward_table.proofs.text.first_line.Goals as goal

pub returns-in-Some-clause-lines : goal.returns-in-Some-clause-lines
returns-in-Some-clause-lines c = rw take_rest (lines_at c.args.text.now c.in-Some.place (sym c.in-Some.ensures))

pub returns-in-None-clause-lines : goal.returns-in-None-clause-lines
returns-in-None-clause-lines c =
    let some : 0 < length c.args.text.now = grind (arith, tests, c.if-is_empty.ensures) in
    rw take_rest (lines_whole c.args.text.now some (sym c.in-None.ensures))
