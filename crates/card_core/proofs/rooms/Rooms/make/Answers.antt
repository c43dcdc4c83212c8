use Rattle.card_core.proofs.Plenty.{rooms_begin}
use Rattle.card_core.proofs.rooms.Rooms.make.Goals as goal

pub returns-clause-rooms : goal.returns-clause-rooms
returns-clause-rooms c = (rooms_begin c.args.n c.in_ok-unicast.unicast.items (c.in_ok-unicast.ensures.items_if_clones_equal (λ y same. same))).0

pub returns-clause-few : goal.returns-clause-few
returns-clause-few c = (rooms_begin c.args.n c.in_ok-unicast.unicast.items (c.in_ok-unicast.ensures.items_if_clones_equal (λ y same. same))).1

pub invariant_of-result : goal.invariant_of-result
invariant_of-result c =
    (c.requires.size, (rooms_begin c.args.n c.in_ok-unicast.unicast.items (c.in_ok-unicast.ensures.items_if_clones_equal (λ y same. same))).0.long)
