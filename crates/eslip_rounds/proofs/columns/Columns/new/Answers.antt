use Rattle.std.proofs.Common.{◌∙◌, ap, take}
use Rattle.std.proofs.lemmas.List.{take-replicate}
use Rattle.rotating_pick.specs.declared.limits.TheConstants.{MAX_PORTS}
use Rattle.slot_match.specs.Rows.{empty_row}
use Rattle.eslip_rounds.proofs.Keeping.{AreKept-first}
use Rattle.eslip_rounds.proofs.columns.Columns.new.Goals as goal

pub invariant_of-result : goal.invariant_of-result
invariant_of-result c = AreKept-first c.args.n c.empty_rows.result c.new.result c.requires.some c.requires.size c.empty_rows.ensures c.new.ensures.columns
    c.new.ensures.outputs

pub returns : goal.returns
returns c = ap (take c.args.n) c.empty_rows.ensures ∙ take-replicate c.args.n MAX_PORTS empty_row c.requires.size
