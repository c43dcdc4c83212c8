use Rattle.std.proofs.Common.{◌≡◌, ℕ, ◌<◌, ◌↔◌, slice_index}
use Rattle.rotating_pick.specs.PortSets.{Has}
use Rattle.rotating_pick.specs.declared.kinds.Kind.TheVariants.{Multi}
use Rattle.rotating_pick.specs.declared.limits.TheConstants.{MAX_PORTS}
use Rattle.slot_match.specs.FieldSteps.{level_at, kind_at}
use Rattle.slot_match.proofs.feeds.Feeds.multicasting.Given as goal

abbrev pub invariant-loop-output : goal.invariant-loop-output
invariant-loop-output l = record {
  left : (j : ℕ) → Has l.rest j → (j < MAX_PORTS) × (level_at l.self-inside.marks j ≡ l.level) × (kind_at l.self-inside.marks j ≡ Multi);
  done : (i : ℕ) → Has l.found i ↔ ((j : ℕ) × (j < MAX_PORTS) × (level_at l.self-inside.marks j ≡ l.level) × (kind_at l.self-inside.marks j ≡ Multi)
      × (Has l.rest j → ⊥) × (slice_index l.self-inside.inputs j ≡ i));
}

abbrev pub decreases-loop-output : goal.decreases-loop-output
decreases-loop-output l = l.rest
