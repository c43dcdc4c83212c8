use Rattle.std.proofs.Common.{◌≡◌, ℕ, ◌<◌, length, slice_index}
use Rattle.rotating_pick.specs.declared.kinds.Kind.TheVariants.{Uni}
use Rattle.slot_match.specs.Rows.{sets_of}
use Rattle.eslip_rounds.specs.declared.ranks.TheConstants.{SETS}
use Rattle.eslip_rounds.specs.RankSteps.{level_at, kind_at}
use Rattle.eslip_rounds.proofs.asks.named_by_set.Given as goal

abbrev pub invariant-loop-set : goal.invariant-loop-set
invariant-loop-set l = record {
  long : length l.named ≡ SETS;
  done : (s : ℕ) → s < l.set → slice_index l.named s ≡ slice_index (sets_of l.row (kind_at Uni s)) (level_at s);
}
