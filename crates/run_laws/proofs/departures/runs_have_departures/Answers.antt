use Rattle.run_laws.proofs.Leaving.{each_departs, rise, differ}
use Rattle.run_laws.proofs.InOrder.{in_order}
use Rattle.run_laws.proofs.departures.runs_have_departures.Goals as goal

pub returns : goal.returns
returns c = λ scheduler plan slots scheduling good ends. record {
  each = each_departs scheduler scheduling plan good slots ends;
  rise = rise scheduler plan slots;
  differ = differ scheduler plan slots;
  in_order = in_order scheduler scheduling plan good slots ends;
}
