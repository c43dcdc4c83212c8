use Rattle.std.proofs.Common.{ℕ, ◌↔◌, slice_index, arith, length-set}
use Rattle.rotating_pick.specs.PortSets.{Has}
use Rattle.islip_rounds.proofs.Tables.{below-next}
use Rattle.islip_rounds.proofs.rounds.requests.Goals as goal

pub loop-j-preserved : goal.loop-j-preserved
loop-j-preserved c = record {
  long = omega (arith, length-set {A = ℕ});
  members = below-next (λ (j set : ℕ). (x : ℕ) → Has set x
      ↔ (Has (slice_index c.args.columns.now j) x × Has c.args.free x)) 0 c.loop-j.asked c.loop-j.j c.intersection.result
      (omega arith) c.intersection.ensures c.loop-j.invariant.members;
}
