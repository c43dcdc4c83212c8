use Rattle.std.proofs.Common.{◌≡◌, ◌∙◌, ◌+◌, [], ◌∷◌, ◌++◌, length, arith, ap, sym, subst}
use Rattle.std_lemmas.proofs.Lists.{whole_back}
use Rattle.card_worker.specs.Disbanding.{IsAmong, AreFrom}
use Rattle.card_worker.proofs.Removing.{AreFrom-more}
use Rattle.card_worker.proofs.disbandment.disband.Goals as goal

pub loop-card-preserved : goal.loop-card-preserved
loop-card-preserved c =
    let at = c.loop-card in
    let before = at.invariant in
    let took = c.take_card-hand in
    let value = c.deref_mut.ensures.value in
    let same : length took.new.groups ≡ length at.groups.items = took.auto.groups ∙ ap length value in
    let whole = whole_back at.groups.len took.new.groups at.groups.items at.groups.ok.0 same in
    let among : IsAmong took.result c.args.groups.items = before.left took.result (subst (IsAmong took.result) value took.ensures.was) in
    let more = AreFrom-more c.args.groups.items at.seats.items at.hands.items at.card took.result.hand took.result.seat before.from took.ensures.number among in
    record {
      from = subst (λ xs. AreFrom c.args.groups.items xs c.push_reserved-in-loop-card.new.self.items (at.card + 1)) (sym c.push_reserved.ensures.items)
          (subst (λ ys. AreFrom c.args.groups.items (at.seats.items ++ took.result.seat ∷ []) ys (at.card + 1))
          (sym c.push_reserved-in-loop-card.ensures.items) more);
      left = λ m is. before.left m (subst (IsAmong m) value (took.ensures.left m (subst (IsAmong m) whole is)));
      waiting = λ i from below.
          let has = before.waiting i (omega arith) below in
          let number = has.number in
          record {
            member = has.member;
            among = subst (IsAmong has.member) (sym whole)
                (took.ensures.rest has.member (subst (IsAmong has.member) (sym value) has.among) (λ card. absurd (omega arith)));
            number = has.number;
          };
      seat_room = let room = before.seat_room in let same_room = c.push_reserved.ensures.capacity in omega arith;
      hand_room = let room = before.hand_room in let same_room = c.push_reserved-in-loop-card.ensures.capacity in omega arith;
    }
