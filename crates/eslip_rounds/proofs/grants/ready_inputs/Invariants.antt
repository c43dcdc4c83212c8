use Rattle.std.proofs.Common.{◌≡◌, ℕ, ◌<◌, ◌↔◌, length, slice_index}
use Rattle.rotating_pick.specs.PortSets.{Has}
use Rattle.eslip_rounds.specs.declared.ranks.TheConstants.{RANKS}
use Rattle.eslip_rounds.specs.RankSteps.{level_at, kind_at, set_at}
use Rattle.eslip_rounds.specs.Steps.{IsUsed, MayAsk}
use Rattle.eslip_rounds.proofs.grants.ready_inputs.Given as goal

abbrev pub invariant-loop-rank : goal.invariant-loop-rank
invariant-loop-rank l = record {
  long : length l.ready.inputs ≡ RANKS;
  ranks : (r : ℕ) → Has l.ready.ranks r ↔ ((r < l.rank) × IsUsed l.asks (set_at l.first_kind r));
  inputs : (r i : ℕ) → Has l.ready.ranks r → Has (slice_index l.ready.inputs r) i
      ↔ ((i < length l.matched) × MayAsk l.matched (level_at r) (kind_at l.first_kind r) i);
}
