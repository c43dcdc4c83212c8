use Rattle.std.proofs.Common.{◌≡◌, ℕ, ◌+◌, None, Some, length, count_by, is_some}
use Rattle.rotating_pick.specs.PortSets.{Has}
use Rattle.rotating_pick.specs.declared.limits.TheConstants.{MAX_PORTS}
use Rattle.slot_match.specs.Matches.{fed_of}
use Rattle.slot_match.proofs.matching.feed.Given as goal

abbrev pub invariant-loop-output : goal.invariant-loop-output
invariant-loop-output l = record {
  long : length l.fed ≡ MAX_PORTS;
  left : (j : ℕ) → Has l.rest j → Has l.outputs j;
  waiting : (j : ℕ) → Has l.rest j → fed_of l.fed j ≡ None;
  fed : (j : ℕ) → Has l.outputs j → (Has l.rest j → ⊥) → fed_of l.fed j ≡ Some l.by;
  stays : (j : ℕ) → (Has l.outputs j → ⊥) → fed_of l.fed j ≡ fed_of l.fn.fed j;
  counted : count_by is_some l.fed ≡ count_by is_some l.fn.fed + l.count;
}

abbrev pub decreases-loop-output : goal.decreases-loop-output
decreases-loop-output l = l.rest
