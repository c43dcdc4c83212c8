use Rattle.std.proofs.Common.{◌∙◌, ◌<◌, ◌≤◌, ℕ, List, [], length, map, false, slice_index_or, sym, ap, subst}
use Rattle.reassembly.specs.Flows.{fresh}
use Rattle.card_core.specs.Plans.{plan_of}
use Rattle.card_core.specs.Cards.{IsAfter}
use Rattle.card_core.specs.CardSteps.{card_of}
use Rattle.card_core.proofs.Standing.{begun_after}
use Rattle.card_core.proofs.Collecting.{received_of}
use Rattle.card_core.proofs.card.Card.make.Goals as goal

pub make-requires : goal.make-requires
make-requires c = record {
  some = c.requires.good.some;
  ports = c.requires.good.size;
  flows = ap length c.deref.ensures.value ∙ c.requires.good.flows;
  sizes = subst (λ (xs : List ℕ). (k d : ℕ) → k < length xs → slice_index_or xs k d ≤ 65551) (sym c.deref.ensures.value) c.requires.good.sizes;
}

pub make-requires-2 : goal.make-requires-2
make-requires-2 c = record { good = c.requires.good; small = c.requires.small }

pub invariant_of-result : goal.invariant_of-result
invariant_of-result c =
    let received = c.in_ok-egress.ensures
    ∙ ap (λ xs. received_of (record
    { ports = c.args.plan.n; flows = map fresh xs }) [] [] 0 c.args.plan.body_room c.args.plan.packet_room) c.deref.ensures.value in (
      [],
      subst (IsAfter (card_of c.in_ok-make.field-0 c.in_ok-egress.egress false) []) (sym c.in_ok-make.ensures.sent.phase)
          (begun_after (plan_of c.args.plan) c.in_ok-make.field-0 c.in_ok-egress.egress c.in_ok-make.ensures.sent c.in_ok-make.ensures.plan received),
    )

pub returns : goal.returns
returns c =
    let received = c.in_ok-egress.ensures
    ∙ ap (λ xs. received_of (record
    { ports = c.args.plan.n; flows = map fresh xs }) [] [] 0 c.args.plan.body_room c.args.plan.packet_room) c.deref.ensures.value in
    record {
      after = begun_after
          (plan_of c.args.plan) c.in_ok-make.field-0 c.in_ok-egress.egress c.in_ok-make.ensures.sent c.in_ok-make.ensures.plan received;
      plan = c.in_ok-make.ensures.plan;
    }
