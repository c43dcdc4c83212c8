use Rattle.named_schedulers.proofs.Schedulers.{IsScheduler-named}
use Rattle.named_schedulers.proofs.laws.each_is_a_scheduler.Goals as goal

-- src/laws.rt:8:1
pub returns : goal.returns
returns c = IsScheduler-named
