use Rattle.arrival_bounds.proofs.RunEnd.{ends_soon, ends_by_all}
use Rattle.arrival_bounds.proofs.runs.runs_end_soon.Goals as goal

pub returns : goal.returns
returns c =
    record {
      waits = λ scheduler plan most slots run. ends_soon scheduler plan run most slots;
      all = λ scheduler plan cells slots run. ends_by_all scheduler plan run cells slots;
    }
