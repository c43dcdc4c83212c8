use Rattle.std.proofs.Common.{◌≡◌, List, Option, length, subst}
use Rattle.slot_match.specs.declared.matching.Fed.{Fed}
use Rattle.eslip_rounds.specs.Steps.{AreReady}
use Rattle.eslip_rounds.proofs.refusals.all_ready.Goals as goal

pub ready_inputs-requires : goal.ready_inputs-requires
ready_inputs-requires c =
    let size : length c.new.result ≡ c.args.n = c.new.ensures.whole.count in rw size c.new.ensures.whole

pub returns : goal.returns
returns c =
    let size : length c.new.result ≡ c.args.n = c.new.ensures.whole.count in
    subst (λ (m : List (Option Fed)). AreReady c.args.n c.args.first_kind c.args.asks.now m c.ready_inputs.result) c.new.ensures.value
    (subst (λ k. AreReady k c.args.first_kind c.args.asks.now c.new.result c.ready_inputs.result) size c.ready_inputs.ensures)
