use Rattle.std.proofs.Common.{◌≡◌, ℕ, None, length, slice_index_or}
use Rattle.rotating_pick.specs.PortSets.{Has}
use Rattle.slot_match.proofs.parts.clear_parts.Given as goal

abbrev pub invariant-loop-input : goal.invariant-loop-input
invariant-loop-input l = record {
  count : length l.parts ≡ length l.fn.parts;
  left : (i : ℕ) → Has l.rest i → Has l.inputs i;
  gone : (i : ℕ) → Has l.inputs i → (Has l.rest i → ⊥) → slice_index_or l.parts i None ≡ None;
  others : (i : ℕ) → (Has l.inputs i → ⊥) → slice_index_or l.parts i None ≡ slice_index_or l.fn.parts i None;
}

abbrev pub decreases-loop-input : goal.decreases-loop-input
decreases-loop-input l = l.rest
