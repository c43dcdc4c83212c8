use Rattle.pcap_records.proofs.Outcomes.{faults_once, no_fault_of_a_capture}
use Rattle.pcap_records.proofs.laws.one_fault.Goals as goal

pub returns : goal.returns
returns c = record { one = faults_once; none = no_fault_of_a_capture }
