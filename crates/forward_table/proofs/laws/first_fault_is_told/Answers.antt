use Rattle.forward_table.proofs.FirstFaults.{fault_is_told, table_is_told}
use Rattle.forward_table.proofs.laws.first_fault_is_told.Goals as goal

pub returns : goal.returns
returns c = record { fault = fault_is_told; table = table_is_told }
