-- How three schedulers move the pointers of what the first round matched.
use Rattle.eslip_rounds.specs.Slots.{AreMoved}
use Rattle.service_bound.proofs.InWindows.{AreMoved-keep}
use Rattle.firm_rounds.specs.Slots.{AreMovedByFirm}
use Rattle.firm_rounds.proofs.PointersKept.{firm_keep}
use Rattle.rrm_rounds.specs.Slots.{AreMovedByRrm}
use Rattle.rrm_rounds.proofs.PointersKept.{rrm_keep}
use Rattle.scheduler_laws.proofs.OneSlot.{MovePairs}

pub islip_pairs : MovePairs AreMoved
islip_pairs = record {
  keep = λ n. AreMoved-keep n 0;
  granted = λ n t rows first matched before after moved all i j. moved.granted i j 0;
  accepted = λ n t rows first matched before after moved i j. moved.accepted i j 0;
  accept_stays = λ n t rows first matched before after moved i. moved.accept_stays i 0;
}

pub firm_pairs : MovePairs AreMovedByFirm
firm_pairs = record {
  keep = λ n. firm_keep n 0;
  granted = λ n t rows first matched before after moved all i j. moved.granted i j 0;
  accepted = λ n t rows first matched before after moved i j. moved.accepted i j 0;
  accept_stays = λ n t rows first matched before after moved i. moved.accept_stays i 0;
}

-- what was accepted was granted
pub rrm_pairs : MovePairs AreMovedByRrm
rrm_pairs = record {
  keep = λ n. rrm_keep n 0;
  granted = λ n t rows first matched before after moved all i j served. moved.granted i j 0 (all i j 0 _ served).taken.member;
  accepted = λ n t rows first matched before after moved i j. moved.accepted i j 0;
  accept_stays = λ n t rows first matched before after moved i. moved.accept_stays i 0;
}
