use Rattle.std.proofs.Common.{◌∙◌, List, Option, None, sym, ap, slice_index_or}
use Rattle.std.proofs.lemmas.Bool.{both_ways}
use Rattle.cell_cutter.specs.declared.cell.CellName.{CellName}
use Rattle.descriptor_runs.proofs.NamesOf.{granted-name, no-granted}
use Rattle.descriptor_runs.proofs.cell_names.CellNames.get.Goals as goal

pub returns-then-contains : goal.returns-then-contains
returns-then-contains c =
    sym (granted-name c.self.inside.granted c.self.inside.names c.args.input c.requires (c.contains.ensures.0 c.if-contains.true))
    ∙ ap (λ (names : List (Option CellName)). slice_index_or names c.args.input None) c.self.view_is

pub returns-else-contains : goal.returns-else-contains
returns-else-contains c =
    sym (no-granted c.self.inside.granted c.self.inside.names c.args.input c.requires
    (λ has. both_ways c.contains.result c.if-contains.false (c.contains.ensures.1 has)))
    ∙ ap (λ (names : List (Option CellName)). slice_index_or names c.args.input None) c.self.view_is
