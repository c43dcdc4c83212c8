use Rattle.std.proofs.Common.{inl, inr}
use Rattle.job_outcomes.proofs.Captures.{walked, faulty, reads, bytes_of}
use Rattle.job_outcomes.proofs.laws.each_file_is_a_capture_or_has_a_fault.Goals as goal

pub returns : goal.returns
returns c = λ file all. elim (reads file (bytes_of file all)) [
  | walked nano link packets is ↦ inl (nano, link, _, is.capture)
  | faulty fault is ↦ inr (fault, is)
]
