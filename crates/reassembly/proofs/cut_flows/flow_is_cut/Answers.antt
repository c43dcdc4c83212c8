use Rattle.reassembly.proofs.Pieces.{Stands-with_cell, messages_of-push, messages_of-cells}
use Rattle.reassembly.proofs.cut_flows.flow_is_cut.Goals as goal

pub returns-clause-stands : goal.returns-clause-stands
returns-clause-stands c = Stands-with_cell

pub returns-clause-message : goal.returns-clause-message
returns-clause-message c = messages_of-push

pub returns-clause-whole : goal.returns-clause-whole
returns-clause-whole c = messages_of-cells
