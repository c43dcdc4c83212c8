use Rattle.std.proofs.Common.{◌≡◌, ◌∙◌, ◌∷◌, ◌++◌, length, refl, ap, sym, subst, arith}
use Rattle.std.specs.Prelude.{Some, slice_get}
use Rattle.std.specs.Option.{option_map}
use Rattle.std.specs.Vec.Iter.{into_iter_items}
use Rattle.std.proofs.lemmas.List.{length-append, length_push}
use Rattle.std.proofs.lemmas.Option.{slice_get-map, slice_get_within}
use Rattle.std_lemmas.proofs.Lists.{gone_more, here_of}
use Rattle.card_worker.specs.declared.hands.Member.{Member}
use Rattle.card_worker.specs.Groups.{AreGroups}
use Rattle.card_worker.proofs.Grouping.{AreGroups-none}
use Rattle.switch_jobs.specs.ReadinessSteps.{plans_in}
use Rattle.switch_jobs.proofs.Planning.{ArePlanned-none, AreUnrefused-none}
use Rattle.switch_jobs.proofs.groups.share.Goals as goal

pub loop-member-init : goal.loop-member-init
loop-member-init c =
    let groups = c.args.groups.items in
    record {
      rest = refl;
      left = let gives = c.into_iter-member-iterator.ensures.into_iter_gives in gives.1 ∙ (c.args.members.ok.0 ∙ sym (ap length gives.0));
      card = refl;
      groups = AreGroups-none c.args.board.now groups c.requires.empty;
      planned = ArePlanned-none (plans_in c.args.members.items) groups c.requires.empty;
      unrefused = AreUnrefused-none groups c.requires.empty;
      room = c.requires.room;
      count = refl;
    }

pub loop-member-preserved : goal.loop-member-preserved
loop-member-preserved c =
    let at = c.loop-member in
    let x = c.in-Some.member in
    let members = c.args.members.items in
    let rest = into_iter_items at.member-iterator in
    let steps : rest ≡ x ∷ into_iter_items c.next.new.self = c.in-Some.ensures.steps.0 in
    let whole : at.yielded ++ rest ≡ members = at.invariant.rest ∙ c.into_iter-member-iterator.ensures.into_iter_gives.0 in
    let here : slice_get members (length at.yielded) ≡ Some x = here_of at.yielded rest (into_iter_items c.next.new.self) members x whole steps in
    let plan = λ (m : Member). m.hand.card.sends.plan in
    let own : slice_get (plans_in members) at.card ≡ Some x.hand.card.sends.plan = ap (slice_get (plans_in members)) at.invariant.card
    ∙ (slice_get-map plan members (length at.yielded) ∙ ap (option_map plan) here) in
    record {
      rest = gone_more at.yielded rest (into_iter_items c.next.new.self) _ x at.invariant.rest steps;
      left = let was = at.invariant.left in let gone = c.in-Some.ensures.steps.1 in let short = ap length steps in omega arith;
      card = let card = at.invariant.card in let long = length_push at.yielded x in omega arith;
      groups = c.join.ensures.groups;
      planned = c.join.ensures.planned (plans_in members) at.invariant.planned own;
      unrefused = c.join.ensures.unrefused at.invariant.unrefused (c.requires.members.unrefused (length at.yielded) x here);
      room = c.join.ensures.room (length members) at.invariant.room;
      count = c.join.ensures.count ∙ at.invariant.count;
    }

pub join-requires-clause-room : goal.join-requires-clause-room
join-requires-clause-room c = λ place group mine.
    let at = c.loop-member in
    let members = c.args.members.items in
    let rest = into_iter_items at.member-iterator in
    let whole : at.yielded ++ rest ≡ members = at.invariant.rest ∙ c.into_iter-member-iterator.ensures.into_iter_gives.0 in
    let here = here_of at.yielded rest (into_iter_items c.next.new.self) members c.in-Some.member whole c.in-Some.ensures.steps.0 in
    let inside = slice_get_within members (length at.yielded) c.in-Some.member here in
    let card = at.invariant.card in
    let have = at.invariant.room place group mine in
    omega arith

pub join-requires-clause-member : goal.join-requires-clause-member
join-requires-clause-member c =
    let at = c.loop-member in
    let members = c.args.members.items in
    let rest = into_iter_items at.member-iterator in
    let whole : at.yielded ++ rest ≡ members = at.invariant.rest ∙ c.into_iter-member-iterator.ensures.into_iter_gives.0 in
    let here = here_of at.yielded rest (into_iter_items c.next.new.self) members c.in-Some.member whole c.in-Some.ensures.steps.0 in
    (c.requires.members.each (length at.yielded) c.in-Some.member here).0

pub join-requires-clause-number : goal.join-requires-clause-number
join-requires-clause-number c =
    let at = c.loop-member in
    let members = c.args.members.items in
    let rest = into_iter_items at.member-iterator in
    let whole : at.yielded ++ rest ≡ members = at.invariant.rest ∙ c.into_iter-member-iterator.ensures.into_iter_gives.0 in
    let here = here_of at.yielded rest (into_iter_items c.next.new.self) members c.in-Some.member whole c.in-Some.ensures.steps.0 in
    (c.requires.members.each (length at.yielded) c.in-Some.member here).1 ∙ sym at.invariant.card

pub returns-clause-shared : goal.returns-clause-shared
returns-clause-shared c =
    let at = c.loop-member in
    let members = c.args.members.items in
    let rest = into_iter_items at.member-iterator in
    let whole : at.yielded ++ rest ≡ members = at.invariant.rest ∙ c.into_iter-member-iterator.ensures.into_iter_gives.0 in
    let long = ap length whole in
    let both = length-append at.yielded rest in
    let left = at.invariant.left in
    let none = c.in-None.ensures.steps.0 in
    let card = at.invariant.card in
    let count = c.requires.members.count in
    let all : at.card ≡ c.args.board.now.seats = omega arith in
    record {
      groups_are = subst (λ k. AreGroups c.args.board.now k at.groups.items) all at.invariant.groups;
      planned = at.invariant.planned;
      unrefused = at.invariant.unrefused;
    }
