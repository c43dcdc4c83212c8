use Rattle.std.proofs.Common.{◌∙◌, None, slice_index_or, ap}
use Rattle.std_lemmas.proofs.Lists.{get_or-same}
use Rattle.islip_rounds.proofs.rounds.choices.Goals as goal

pub returns : goal.returns
returns c = record {
  choices = c.picks.ensures.choices;
  rest = λ k beyond. c.picks.ensures.rest k beyond ∙ (ap (λ table. slice_index_or table k None) c.no_ports-chosen.ensures ∙ get_or-same None 64 k);
}
