use Rattle.std.proofs.Common.{◌≡◌, ℕ, ◌<◌, ◌↔◌, length, subst, arith}
use Rattle.rotating_pick.specs.PortSets.{Has}
use Rattle.slot_match.specs.Matches.{IsFreeOutput}
use Rattle.eslip_rounds.specs.RankSteps.{set_at}
use Rattle.eslip_rounds.specs.Steps.{IsNamed, AreReady, IsChosen}
use Rattle.eslip_rounds.proofs.RankLemmas.{set_at-lt}
use Rattle.eslip_rounds.proofs.Offering.{KeepsToPorts-ready, AreOffers-asked, AreOpen-from_offers}
use Rattle.eslip_rounds.proofs.rounds.round.Goals as goal

pub offer_all-requires-clause-ready : goal.offer_all-requires-clause-ready
offer_all-requires-clause-ready c =
    let n = c.args.n in
    let before = c.args.out.now in
    let ready = c.ready_inputs-ready.result in
    let size : length before ≡ n = c.requires.whole.count in
    KeepsToPorts-ready n c.args.first_kind c.args.asks.now before ready
    (subst (λ k. AreReady k c.args.first_kind c.args.asks.now before ready) size c.ready_inputs-ready.ensures)

pub offer_all-requires-clause-free : goal.offer_all-requires-clause-free
offer_all-requires-clause-free c j has =
    let size : length c.args.out.now ≡ c.args.n = c.requires.whole.count in
    let below = ((c.free_outputs.ensures j).0 ((c.intersection-asked.ensures j).0 has).0).0 in
    omega arith

pub accept_all-requires-clause-open : goal.accept_all-requires-clause-open
accept_all-requires-clause-open c =
    let n = c.args.n in
    let first_kind = c.args.first_kind in
    let asks = c.args.asks.now in
    let places = c.args.p.now in
    let before = c.args.out.now in
    let ready = c.ready_inputs-ready.result in
    let size : length before ≡ n = c.requires.whole.count in
    let readies : AreReady n first_kind asks before ready = subst (λ k. AreReady k first_kind asks before ready) size c.ready_inputs-ready.ensures in
    let free : (j : ℕ) → Has c.free_outputs.result j ↔ ((j < n) × IsFreeOutput before j) =
    subst (λ k. (j : ℕ) → Has c.free_outputs.result j ↔ ((j < k) × IsFreeOutput before j)) size c.free_outputs.ensures in
    let asked : (j : ℕ) → Has c.intersection-asked.result j ↔ (((j < n) × IsFreeOutput before j) × IsNamed asks j) = λ j.
    let both = c.intersection-asked.ensures j in
    let names = c.named.ensures j in
    (λ has. let p = both.0 has in ((free j).0 p.0, names.0 p.1), λ p. both.1 ((free j).1 p.0, names.1 p.1)) in
    let offered = AreOffers-asked (λ i j rank. IsChosen n first_kind asks ready places j (record { rank = rank; input = i }))
    (λ j. (j < n) × IsFreeOutput before j) (IsNamed asks) c.intersection-asked.result c.offer_all.new.offers asked
    (λ i j rank vacant chosen.
    let member = chosen.picked.member in
    let occurs = (readies.ranks rank).0 member.0.0 in
    let set_in = set_at-lt first_kind rank occurs.0 in
    (set_at first_kind rank, set_in, c.requires.asked (set_at first_kind rank) i j set_in occurs.1 vacant.0 member.0.1)) c.offer_all.ensures in
    AreOpen-from_offers n first_kind asks places before c.offer_all.new.offers c.requires.at_ports c.requires.ports
    (record { ready = ready; readies = readies; offered = offered })

pub returns-clause-step : goal.returns-clause-step
returns-clause-step c =
    let n = c.args.n in
    let first_kind = c.args.first_kind in
    let asks = c.args.asks.now in
    let places = c.args.p.now in
    let before = c.args.out.now in
    let ready = c.ready_inputs-ready.result in
    let size : length before ≡ n = c.requires.whole.count in
    let readies : AreReady n first_kind asks before ready = subst (λ k. AreReady k first_kind asks before ready) size c.ready_inputs-ready.ensures in
    let free : (j : ℕ) → Has c.free_outputs.result j ↔ ((j < n) × IsFreeOutput before j) =
    subst (λ k. (j : ℕ) → Has c.free_outputs.result j ↔ ((j < k) × IsFreeOutput before j)) size c.free_outputs.ensures in
    let asked : (j : ℕ) → Has c.intersection-asked.result j ↔ (((j < n) × IsFreeOutput before j) × IsNamed asks j) = λ j.
    let both = c.intersection-asked.ensures j in
    let names = c.named.ensures j in
    (λ has. let p = both.0 has in ((free j).0 p.0, names.0 p.1), λ p. both.1 ((free j).1 p.0, names.1 p.1)) in
    let offered = AreOffers-asked (λ i j rank. IsChosen n first_kind asks ready places j (record { rank = rank; input = i }))
    (λ j. (j < n) × IsFreeOutput before j) (IsNamed asks) c.intersection-asked.result c.offer_all.new.offers asked
    (λ i j rank vacant chosen.
    let member = chosen.picked.member in
    let occurs = (readies.ranks rank).0 member.0.0 in
    let set_in = set_at-lt first_kind rank occurs.0 in
    (set_at first_kind rank, set_in, c.requires.asked (set_at first_kind rank) i j set_in occurs.1 vacant.0 member.0.1)) c.offer_all.ensures in
    record { ready = ready; offers = c.offer_all.new.offers; readies = readies; offered = offered; pairs = c.accept_all.ensures.pairs }
