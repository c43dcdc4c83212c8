use Rattle.std.proofs.Common.{◌≡◌, ◌∙◌, ◌<◌, arith, ap, subst, length, get_or}
use Rattle.std.specs.Prelude.{option_to_list, List}
use Rattle.made_traffic.specs.Sources.{SourceValue, next_source}
use Rattle.simulated_slots.specs.ArrivalSteps.{HaveCome, cell_from}
use Rattle.simulated_slots.proofs.TakingIn.{HaveTold-more, told-next}
use Rattle.simulated_slots.proofs.arrivals.take_in.Goals as goal

pub loop-input-preserved : goal.loop-input-preserved
loop-input-preserved c =
    let before = c.args.sources.now.items in
    let at = c.loop-input.input in
    let inside : at < length before = omega (arith, c.loop-input-test.true, c.ports-input-end.ensures.value, c.requires.sources.count) in
    let own : c.index_mut.result.now ≡ get_or before at c.index_mut.result.now = c.index_mut.ensures.value
    ∙ (ap (λ (list : List SourceValue). get_or list at c.index_mut.result.now) c.loop-input.invariant.sources
    ∙ told-next next_source before at c.index_mut.result.now inside) in
    let come = subst (λ (source : SourceValue). HaveCome c.args.measured (option_to_list (cell_from c.args.slot source))
    c.loop-input.arrivals c.take_in_from.new.arrivals)
    own c.take_in_from.ensures.come in
    rw (c.take_in_from.ensures.source, own) (HaveTold-more c.args.measured c.args.slot at before c.loop-input.sources.items c.index_mut.result.now
    c.args.arrivals.now c.loop-input.arrivals c.take_in_from.new.arrivals inside c.loop-input.invariant come c.take_in_from.ensures.sizes)
