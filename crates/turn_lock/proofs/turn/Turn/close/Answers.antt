use Rattle.std.proofs.Common.{rules, ◌≡◌, ◌<◌, Some, length, ap, sym, ◌∙◌, arith}
use Rattle.std.specs.Prelude.{slice_get}
use Rattle.std.proofs.lemmas.Option.{slice_get-get_or}
use Rattle.turn_lock.proofs.Collecting.{collected_first, popped_at, collected_more, covers, whole}
use Rattle.turn_lock.proofs.turn.Turn.close.Goals as goal

pub loop-next-init : goal.loop-next-init
loop-next-init g c =
    let all = c.args.seats.items in
    let count : length all ≡ c.args.self.seats = c.requires.count in
    let seats : c.self.inside.table.shared.key.seats ≡ c.args.self.seats = ap (λ t. t.seats) c.self.view_is in
    let some : 0 < c.self.inside.table.shared.key.seats = c.self.invariant.1 in
    let at : slice_get all 0 ≡ Some c.remove.result = slice_get-get_or all 0 c.remove.result (omega arith) ∙ ap Some (sym c.remove.ensures.value) in
    collected_first c.args.self all c.requires c.remove.result c.dealer.inside.seat.table_id c.dealer.inside.seat.me.0 c.remove.new.self.items at
    c.dealer.view_is c.dealer.invariant.dealer c.dealer.invariant.live c.dealer.invariant.phase c.remove.ensures.items

pub join-requires-clause-second : goal.join-requires-clause-second
join-requires-clause-second g c =
    let at = popped_at c.args.self c.args.seats.items c.requires c.loop-next.rest.items c.pop.new.self.items c.in-Some.next c.loop-next.dealer.table_id
    c.loop-next.dealer.me.0 c.loop-next.invariant c.in-Some.ensures.items in
    ap (λ t. t.table) (c.requires.turns _ c.in-Some.next at ∙ sym c.self.view_is)

pub loop-next-preserved : goal.loop-next-preserved
loop-next-preserved g c =
    collected_more c.args.self c.args.seats.items c.requires c.loop-next.rest.items c.pop.new.self.items c.in-Some.next c.loop-next.dealer.table_id
    c.join.new.first.table_id c.loop-next.dealer.me.0 c.join.new.first.me.0 c.loop-next.invariant c.in-Some.ensures.items c.join.ensures.table
    (ap (λ m. m.0) c.join.ensures.joined)

pub end-requires-clause-all : goal.end-requires-clause-all
end-requires-clause-all g c =
    let none : length c.loop-next.rest.items ≡ 0 = search rules in
    covers c.args.self c.args.seats.items c.requires c.loop-next.rest.items c.loop-next.dealer.table_id c.loop-next.dealer.me.0 c.loop-next.invariant none

pub returns : goal.returns
returns g c =
    let none : length c.loop-next.rest.items ≡ 0 = search rules in
    whole c.args.self c.args.seats.items c.requires c.loop-next.rest.items c.loop-next.dealer.table_id c.loop-next.dealer.me.0 c.loop-next.invariant none
    g.K.Kept.entries g.K.Kept.numbers g.K.Kept.may_add _ _ c.end.result c.self.view_is c.end.ensures
