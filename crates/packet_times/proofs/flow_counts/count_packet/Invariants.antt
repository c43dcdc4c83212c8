use Rattle.std.proofs.Common.{◌≡◌, ℕ}
use Rattle.std.specs.List.{fold}
use Rattle.rotating_pick.specs.PortSets.{Has}
use Rattle.rotating_pick.specs.declared.limits.TheConstants.{MAX_PORTS}
use Rattle.card_core.specs.Plans.{kind_of, queue_of}
use Rattle.packet_times.specs.Rows.{outputs_in}
use Rattle.packet_times.specs.WalkingSteps.{own_place, with_one}
use Rattle.packet_times.specs.KeptSteps.{counts_with}
use Rattle.packet_times.proofs.flow_counts.count_packet.Given as goal

abbrev pub invariant-loop-output : goal.invariant-loop-output
invariant-loop-output l = record {
  inside : (j : ℕ) → Has l.left j → Has l.packet.fan j;
  counted : counts_with l.packet l.fn.counts
      ≡ fold (λ now j. with_one now (own_place j l.packet.level (kind_of (queue_of l.packet)))) l.counts (outputs_in MAX_PORTS l.left);
}

abbrev pub decreases-loop-output : goal.decreases-loop-output
decreases-loop-output l = l.left
