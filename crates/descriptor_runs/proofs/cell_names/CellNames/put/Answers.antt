use Rattle.std.proofs.Common.{◌∙◌, List, Option, Some, set, ap}
use Rattle.cell_cutter.specs.declared.cell.CellName.{CellName}
use Rattle.descriptor_runs.proofs.NamesOf.{names-put}
use Rattle.descriptor_runs.proofs.cell_names.CellNames.put.Goals as goal

pub returns : goal.returns
returns c =
    names-put c.self.inside.granted c.with-self-inside.result c.self.inside.names c.args.input c.args.name c.self.invariant c.requires
    c.with-self-inside.ensures
    ∙ ap (λ (names : List (Option CellName)). set names c.args.input (Some c.args.name)) c.self.view_is
