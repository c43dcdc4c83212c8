use Rattle.std.proofs.Common.{◌≡◌, ◌∙◌, ◌≤◌, ◌<◌, ◌^◌, List, Some, length, get_or, map, ap, sym, subst, arith}
use Rattle.std.specs.Prelude.{All, slice_get}
use Rattle.std.specs.List.{sum_by}
use Rattle.std.specs.Option.{option_map}
use Rattle.std.proofs.lemmas.List.{length-map}
use Rattle.std.proofs.lemmas.List.Sums.{sum_by-le}
use Rattle.std.proofs.lemmas.Option.{slice_get-map, slice_get-get_or}
use Rattle.std_lemmas.proofs.MappedSums.{sum_by-map}
use Rattle.card_core.specs.declared.plan.CardPlan.{CardPlan}
use Rattle.card_core.specs.Plans.{Plan, plan_of}
use Rattle.card_core.proofs.Plenty.{few_packets}
use Rattle.switch_jobs.proofs.jobs.terms_of.Goals as goal

pub packet_count-requires : goal.packet_count-requires
packet_count-requires c =
    let cards = c.args.plan.now.cards.items in
    let each : All (λ (card : CardPlan). length card.packets.items ≤ 131072) cards = λ k d inside.
    let found : slice_get (map plan_of cards) k ≡ Some (plan_of (get_or cards k d)) = slice_get-map plan_of cards k
    ∙ ap (option_map plan_of) (slice_get-get_or cards k d inside) in
    few_packets (plan_of (get_or cards k d)) (c.requires.good.cards k (plan_of (get_or cards k d)) found).good
    (c.requires.burst.cards k (plan_of (get_or cards k d)) found) in
    let most = sum_by-le (λ (card : CardPlan). length card.packets.items) 131072 cards each in
    let ports = c.requires.good.size in
    let long = length-map cards plan_of in
    subst (λ (cs : List CardPlan). sum_by (λ card. length card.packets.items) cs < 2 ^ 32) (sym c.deref.ensures.value) (omega (arith, most, ports.most, long))

pub returns-clause-packets : goal.returns-clause-packets
returns-clause-packets c =
    let cards = c.args.plan.now.cards.items in
    c.packet_count.ensures
    ∙ (ap (λ (cs : List CardPlan). sum_by (λ card. length card.packets.items) cs) c.deref.ensures.value
    ∙ (sym (sum_by-map (λ (p : Plan). length p.packets) plan_of cards)
    ∙ sym (sum_by-map length (λ (p : Plan). p.packets) (map plan_of cards))))
