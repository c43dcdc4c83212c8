use Rattle.queue_measures.proofs.Depths.{IsGood-depth, IsBurst-depth}
use Rattle.queue_measures.proofs.sizes.depths_are_good.Goals as goal

pub returns : goal.returns
returns c = record {
  good = λ plan depth good some. IsGood-depth depth plan good some;
  burst = λ plan depth burst few. IsBurst-depth depth plan burst few;
}
