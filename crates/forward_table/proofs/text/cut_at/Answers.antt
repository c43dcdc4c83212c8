use Rattle.std.proofs.Common.{◌==◌, sym}
use Rattle.forward_table.proofs.Splitting.{split_at_place, split_whole}
use Rattle.std.proofs.lemmas.List.{take_rest}
use Rattle.forward_table.proofs.text.cut_at.Goals as goal

pub returns-in-Some-clause-parts : goal.returns-in-Some-clause-parts
returns-in-Some-clause-parts c = rw take_rest (split_at_place (λ byte. byte == c.args.separator) c.args.text.now c.in-Some.place (sym c.in-Some.ensures))

pub returns-in-None-clause-parts : goal.returns-in-None-clause-parts
returns-in-None-clause-parts c = split_whole (λ byte. byte == c.args.separator) c.args.text.now (sym c.in-None.ensures)
