use Rattle.std.proofs.Common.{◌∙◌, sym, arith, inl, inr}
use Rattle.std.proofs.lemmas.Option.{same_Some}
use Rattle.rotating_pick.proofs.Bits.{IsAmong-from_members}
use Rattle.islip_rounds.specs.Rounds.{Feeds}
use Rattle.islip_rounds.proofs.Rounding.{chooser_free, chosen_member, IsRound-from_tables}
use Rattle.islip_rounds.proofs.rounds.round.Goals as goal

pub choices-granted-requires-clause-among : goal.choices-granted-requires-clause-among
choices-granted-requires-clause-among c k k_in =
    IsAmong-from_members c.args.n _ (λ x has. ((c.free_inputs.ensures x).0 ((c.requests-asked.ensures k x k_in).0 has).1).0)

pub by_input-offers-requires-clause-inputs : goal.by_input-offers-requires-clause-inputs
by_input-offers-requires-clause-inputs c i j feeds =
    let member = chosen_member c.args.n _ _ _ c.choices-granted.result j i c.choices-granted.ensures feeds in omega (arith, member.below)

pub choices-accepted-requires-clause-among : goal.choices-accepted-requires-clause-among
choices-accepted-requires-clause-among c k k_in = IsAmong-from_members c.args.n _ (λ j has. ((c.by_input-offers.ensures k j).0 has).0)

pub feed-requires-clause-outputs : goal.feed-requires-clause-outputs
feed-requires-clause-outputs c i j some =
    let member = chosen_member c.args.n _ _ _ c.choices-accepted.result i j c.choices-accepted.ensures some in omega (arith, member.below)

pub feed-requires-clause-free : goal.feed-requires-clause-free
feed-requires-clause-free c i j some =
    let offered = chosen_member c.args.n _ _ _ c.choices-accepted.result i j c.choices-accepted.ensures some in
    let granted : Feeds c.choices-granted.result i j = ((c.by_input-offers.ensures i j).0 offered.member).1 in
    ((c.free_outputs.ensures j).0 (chooser_free c.args.n _ _ _ c.choices-granted.result j i c.choices-granted.ensures granted)).1

pub feed-requires-clause-once : goal.feed-requires-clause-once
feed-requires-clause-once c i k j some other =
    let offered = chosen_member c.args.n _ _ _ c.choices-accepted.result i j c.choices-accepted.ensures some in
    let also = chosen_member c.args.n _ _ _ c.choices-accepted.result k j c.choices-accepted.ensures other in
    let granted : Feeds c.choices-granted.result i j = ((c.by_input-offers.ensures i j).0 offered.member).1 in
    let again : Feeds c.choices-granted.result k j = ((c.by_input-offers.ensures k j).0 also.member).1 in
    same_Some i k (sym granted ∙ again)

pub returns-clause-round : goal.returns-clause-round
returns-clause-round c asks turned =
    IsRound-from_tables c.args.n asks c.args.columns.now c.args.pointers.now c.args.fed.now c.free_inputs.result c.free_outputs.result c.all.result
    c.requests-asked.result c.by_input-offers.result c.choices-granted.result c.choices-accepted.result
    turned c.free_inputs.ensures c.free_outputs.ensures c.requests-asked.ensures c.choices-granted.ensures c.by_input-offers.ensures c.all.ensures.members
    c.choices-accepted.ensures
    c.feed.new.fed c.feed.ensures

pub returns-clause-within : goal.returns-clause-within
returns-clause-within c i j feeds =
    elim ((c.feed.ensures i j).0 feeds) [
      | inl old ↦ c.requires.within i j old
      | inr p ↦ (p.0, (chosen_member c.args.n _ _ _ c.choices-accepted.result i j c.choices-accepted.ensures p.1).below)
    ]
