use Rattle.std.proofs.Common.{◌≡◌, ◌≢◌, ◌∙◌, ◌+◌, ◌*◌, ◌^◌, ◌<◌, ◌≤◌, ◌++◌, ◌∷◌, [], ℕ, List, Bool, true, false, length, slice_index_or, slice_set}
use Rattle.std.proofs.Common.{refl, sym, subst, arith}
use Rattle.std.proofs.lemmas.List.{get_or_default}
use Rattle.std.specs.Vec.{vec_len}
use Rattle.rotating_pick.specs.PortSets.{HasSeveral}
use Rattle.card_core.specs.declared.plan.Planned.{Planned}
use Rattle.card_core.specs.InputQueues.{QueueRooms}
use Rattle.card_core.specs.StateSteps.{HasRooms, AreFew}
use Rattle.card_core.specs.contracts.rooms.Rooms.{the_view}
use Rattle.card_core.proofs.Plenty.{place_inside, rooms-unicast, rooms-multicast}
use Rattle.card_core.proofs.Sets.{several-of}
use Rattle.card_core.proofs.rooms.Rooms.count.Goals as goal

none_lacks : (fan : ℕ) (empty : Bool) → (fan ≡ 0 → empty ≡ true) → empty ≡ false → fan ≢ 0
none_lacks fan empty tells no' none = let e = tells none in absurd (cc)

-- one of several outputs at the multicast queue of its level
at_level : (p : Planned) (level : ℕ) (old : QueueRooms) (before : List Planned) → p.level ≡ level
    → HasRooms old.ports before old.unicast old.multicast → p.fan ≢ 0 → HasSeveral p.fan → level < length old.multicast
    → HasRooms old.ports (before ++ p ∷ []) old.unicast (slice_set old.multicast level (slice_index_or old.multicast level 0 + 1))
at_level p level old before level_is had some several at =
    subst (λ l. HasRooms old.ports (before ++ p ∷ []) old.unicast (slice_set old.multicast l (slice_index_or old.multicast l 0 + 1))) level_is
    (rooms-multicast p old.ports before old.unicast old.multicast had several some (subst (λ l. l < length old.multicast) (sym level_is) at))

pub index_mut-requires : goal.index_mut-requires
index_mut-requires c =
    place_inside c.self.inside.ports c.args.fan c.in-Some.output c.args.level (vec_len c.self.inside.unicast) c.in-Some.ensures.one.1
    (subst (λ (r : QueueRooms). c.args.fan < 2 ^ r.ports) (sym c.self.view_is) c.requires.fan) c.requires.level
    (c.self.inside.unicast.ok.0 ∙ c.self.invariant.1)

pub overflow_add-index_mut : goal.overflow_add-index_mut
overflow_add-index_mut c =
    let few = subst (λ (r : QueueRooms). AreFew 4294967294 r.unicast r.multicast) (sym c.self.view_is) c.requires.few in
    let place = 4 * c.in-Some.output + c.args.level in
    let most : slice_index_or c.self.inside.unicast.items place 0 ≤ 4294967294 = few.unis place in
    let inside = place_inside c.self.inside.ports c.args.fan c.in-Some.output c.args.level (length c.self.inside.unicast.items) c.in-Some.ensures.one.1
    (subst (λ (r : QueueRooms). c.args.fan < 2 ^ r.ports) (sym c.self.view_is) c.requires.fan) c.requires.level c.self.invariant.1 in
    let value : c.index_mut.result.now ≡ slice_index_or c.self.inside.unicast.items (4 * c.in-Some.output + c.args.level) 0 = c.index_mut.ensures.value
    ∙ get_or_default c.self.inside.unicast.items (4 * c.in-Some.output + c.args.level) c.index_mut.result.now 0 inside in
    omega arith

pub returns-in-Some-clause-rooms : goal.returns-in-Some-clause-rooms
returns-in-Some-clause-rooms c before packet fan_is level_is had =
    let j = c.in-Some.output in
    let level = c.args.level in
    let ports = c.self.inside.ports in
    let uni = c.self.inside.unicast.items in
    let multi = c.self.inside.multicast in
    let all = before ++ packet ∷ [] in
    let one : packet.fan ≡ 2 ^ j = fan_is ∙ c.in-Some.ensures.one.1 in
    let some = subst (λ f. f ≢ 0) (sym fan_is) (none_lacks c.args.fan c.is_empty.result c.is_empty.ensures.zero.1 c.if-is_empty.false) in
    let fan_in = subst (λ (r : QueueRooms). c.args.fan < 2 ^ r.ports) (sym c.self.view_is) c.requires.fan in
    let below : packet.level < 4 = subst (λ l. l < 4) (sym level_is) c.requires.level in
    let at = place_inside ports packet.fan j packet.level (length uni) one (subst (λ f. f < 2 ^ ports) (sym fan_is) fan_in) below c.self.invariant.1 in
    let rooms = subst (λ (r : QueueRooms). HasRooms r.ports before r.unicast r.multicast) (sym c.self.view_is) had in
    let counted = subst (λ l. HasRooms ports all (slice_set uni (4 * j + l) (slice_index_or uni (4 * j + l) 0 + 1)) multi) level_is
    (rooms-unicast packet ports before uni multi rooms j one some c.in-Some.ensures.one.0 below at) in
    let value = c.index_mut.ensures.value
    ∙ get_or_default uni (4 * j + level) c.index_mut.result.now 0 (subst (λ l. 4 * j + l < length uni) level_is at) in
    subst (λ (r : QueueRooms). HasRooms r.ports all (slice_set uni (4 * j + level) (c.index_mut.result.now + 1)) multi) c.self.view_is
    (subst (λ v. HasRooms ports all (slice_set uni (4 * j + level) (v + 1)) multi) (sym value) counted)

pub returns-in-None-clause-rooms : goal.returns-in-None-clause-rooms
returns-in-None-clause-rooms c before packet fan_is level_is had =
    let some = none_lacks c.args.fan c.is_empty.result c.is_empty.ensures.zero.1 c.if-is_empty.false in
    subst (λ (r : QueueRooms). HasRooms r.ports (before ++ packet ∷ []) c.self.inside.unicast.items
    (slice_set c.self.inside.multicast c.args.level (slice_index_or c.self.inside.multicast c.args.level 0 + 1))) c.self.view_is
    (at_level packet c.args.level (the_view c.self.inside) before level_is
    (subst (λ (r : QueueRooms). HasRooms r.ports before r.unicast r.multicast) (sym c.self.view_is) had) (subst (λ f. f ≢ 0) (sym fan_is) some)
    (subst HasSeveral (sym fan_is) (several-of c.args.fan (c.in-None.ensures.none.0 refl) some))
    (let long = c.self.told in let below = c.requires.level in omega arith))
