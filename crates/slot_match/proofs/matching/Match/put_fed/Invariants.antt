use Rattle.std.proofs.Common.{◌≡◌, ℕ, length}
use Rattle.slot_match.proofs.FedParts.{ArePut}
use Rattle.slot_match.proofs.matching.Match.put_fed.Given as goal

abbrev pub invariant-loop-output : goal.invariant-loop-output
invariant-loop-output l = record {
  count : length l.parts ≡ length l.self;
  put : (k : ℕ) × ArePut l.self l.rest l.parts k;
}

abbrev pub decreases-loop-output : goal.decreases-loop-output
decreases-loop-output l = l.rest
