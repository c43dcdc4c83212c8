use Rattle.std.proofs.Common.{◌≡◌, ◌<◌, ◌∙◌, length, take, slice_index, slice_index_or, subst, arith}
use Rattle.std.proofs.lemmas.List.{get_or-take, get_or_default, length-take}
use Rattle.rotating_pick.specs.PortSets.{Has}
use Rattle.rotating_pick.proofs.Bits.{IsAmong-from_members}
use Rattle.eslip_rounds.proofs.asks.gather.Goals as goal

pub transpose-requires-clause-among : goal.transpose-requires-clause-among
transpose-requires-clause-among c k d below =
    let n = c.args.n in
    let sets = c.collect.new.collected in
    let k_in : k < n = omega (arith, length-take n sets) in
    let inside : k < length sets = omega (arith, length-take n sets) in
    let same : slice_index_or (take n sets) k d ≡ slice_index sets k = get_or-take n sets k d k_in ∙ get_or_default sets k d 0 inside in
    IsAmong-from_members n (slice_index_or (take n sets) k d)
    (λ j has. c.requires.rows.ports k k_in c.args.level j c.args.kind (subst (λ set. Has set j) (same ∙ c.collect.ensures k k_in) has))
