-- What a search by halves finds among lines in order.
use Rattle.std.proofs.Common.{◌≡◌, ◌∙◌, ℕ, ◌+◌, List, length, Result, Ok, Err, IfOk, IfErr, slice_index_or, ap, arith}
use Rattle.std.specs.List.Sorted.{IsSearchInRange, IsBinarySearchResult, IsNonDecreasingBy, IsSortedBy}
use Rattle.std.specs.Ordering.{is_lt, ordering_index}
use Rattle.std.proofs.lemmas.List.{get_or_default}
use Rattle.std.proofs.lemmas.List.Sorted.{searchable_from_sorted}
use Rattle.forward_table.specs.declared.route_lines.Target.{Target}
use Rattle.forward_table.specs.declared.route_lines.RouteLine.{RouteLine}
use Rattle.forward_table.specs.IndexSteps.{target_order, target_at, no_line, IsInOrder, IsPlaceOf, IsGapFor}
use Rattle.forward_table.proofs.Indexing.{target_total, tied_targets, swapped, not_less}

module _ (l : List RouteLine) (sorted : IsInOrder l) (t : Target) where
  -- no line is lesser than the one before it
  neighbours : IsSortedBy (λ (a b : RouteLine). is_lt (target_order a.target b.target)) l
  neighbours k d from inside =
      let first : slice_index_or l k d ≡ slice_index_or l k no_line = get_or_default l k d no_line (omega arith) in
      let next : slice_index_or l (k + 1) d ≡ slice_index_or l (k + 1) no_line = get_or_default l (k + 1) d no_line (omega arith) in
      ap (λ (b : RouteLine). is_lt (target_order b.target (slice_index_or l k d).target)) next
      ∙ ap (λ (a : RouteLine). is_lt (target_order (target_at l (k + 1)) a.target)) first
      ∙ not_less (target_at l k) (target_at l (k + 1)) (sorted k (k + 1) (omega arith) inside)

  -- the comparisons with the target rise along the lines, as a search by halves asks
  comparisons_rise : IsNonDecreasingBy (λ (line : RouteLine). ordering_index (target_order line.target t)) l
  comparisons_rise = searchable_from_sorted target_total (λ (line : RouteLine). line.target) l t neighbours

  -- a search by target ends at its line, or at the gap for it
  pub searched : (r : Result ℕ ℕ) → IsSearchInRange r (length l) → IsBinarySearchResult (λ line. target_order line.target t) l r
      → record { found : IfOk r (IsPlaceOf l t); absent : IfErr r (IsGapFor l t) }
  searched (Ok at) in_range equal = record { found = record { in_range = in_range; has_target = tied_targets (target_at l at) t (equal no_line) }; absent = tt }
  searched (Err at) in_range parted = record {
    found = tt;
    absent = record {
      in_range = in_range;
      lesser_before = λ j lt. (parted comparisons_rise).0 j no_line (omega arith) lt;
      greater_after = λ j le lt. swapped (target_at l j) t ((parted comparisons_rise).1 j no_line le lt);
    };
  }
