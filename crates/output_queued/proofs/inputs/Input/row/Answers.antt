use Rattle.std.proofs.Common.{◌∙◌, ap}
use Rattle.card_core.specs.StateSteps.{row_of}
use Rattle.output_queued.specs.NotingSteps.{Source}
use Rattle.output_queued.proofs.inputs.Input.row.Goals as goal

pub returns : goal.returns
returns c = c.row.ensures ∙ ap (λ (s : Source). row_of s.banks s.fans) c.self.view_is
