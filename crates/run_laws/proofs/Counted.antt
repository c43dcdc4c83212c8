-- Every packet of a run is counted once.
use Rattle.std.proofs.Common.{◌≡◌, ◌∙◌, ℕ, ◌+◌, ◌<◌, ◌==◌, ◌&&◌, not, nat_lt, Bool, true, false, List, [], ◌∷◌, All, map, length, sum_by, count_by}
use Rattle.std.proofs.Common.{if◌then◌else◌, refl, ap, arith}
use Rattle.std.specs.List.{range_with_len}
use Rattle.std.proofs.lemmas.Bool.{lt-ltb}
use Rattle.std.proofs.lemmas.List.{length-map}
use Rattle.std.proofs.lemmas.List.Elements.{All-head, All-tail}
use Rattle.std.proofs.lemmas.List.FromFn.{fill_by_all}
use Rattle.std.proofs.lemmas.List.Sums.{sum_by-cons}
use Rattle.eslip_rounds.specs.Schedulers.{Scheduler}
use Rattle.card_core.specs.declared.plan.Planned.{Planned}
use Rattle.card_core.specs.Plans.{Plan as CardPlan}
use Rattle.card_core.specs.Queues.{is_routed}
use Rattle.card_core.proofs.Admitting.{both-are}
use Rattle.switch_plan.specs.GoodPlans.{SwitchPlan, packets_in, IsGood}
use Rattle.run_laws.specs.Runs.{ports_of, card_at, parts_under}
use Rattle.run_laws.specs.Ends.{IsLengthUnder}
use Rattle.run_laws.proofs.Base.{good-card}
use Rattle.run_laws.proofs.Rooms.{packets-at}
use Rattle.run_laws.proofs.Arrivals.{arrivals_first}
use Rattle.std_lemmas.proofs.Sums.{sum_by-plus, range_sum-le}
use Rattle.std_lemmas.proofs.MappedSums.{sum_by-map}
use Rattle.run_laws.specs.Outcomes.{admitted_count, dropped_count, over_ports, summary_under, CountsPacketsOnce}

-- a packet goes somewhere or nowhere
abbrev is_aside : Planned → Bool
is_aside packet = packet.fan == 0

one_of_two : (early aside : Bool) → early ≡ true → (if early && not aside then 1 else 0) + (if aside then 1 else 0) ≡ 1
one_of_two true true is = refl
one_of_two true false is = refl
one_of_two false aside is = absurd (cc)

module _ (t : ℕ) where
  -- each packet of a port that arrives in time goes somewhere or nowhere
  port_counted : (packets : List Planned) → All (λ packet. packet.arrival < t) packets
      → count_by (λ packet. nat_lt packet.arrival t && is_routed packet) packets + count_by is_aside packets ≡ length packets
  port_counted [] all = refl
  port_counted (p ∷ ps) all =
      let early : p.arrival < t = All-head (λ (packet : Planned). packet.arrival < t) p ps all in
      let here = one_of_two (nat_lt p.arrival t) (is_aside p) (lt-ltb p.arrival t early) in
      let rest = port_counted ps (All-tail (λ (packet : Planned). packet.arrival < t) p ps all) in
      let routed = sum_by-cons (λ (packet : Planned). if nat_lt packet.arrival t && is_routed packet then 1 else 0) p ps in
      let aside = sum_by-cons (λ (packet : Planned). if is_aside packet then 1 else 0) p ps in
      omega (arith, here, rest, routed, aside)

-- ---- sums over all ports
module _ (plan : SwitchPlan) (good : IsGood plan) where
  packets-are : packets_in plan ≡ map (λ i. (card_at plan i).packets) (range_with_len 0 (ports_of plan))
  packets-are = fill_by_all (λ i. (card_at plan i).packets) (packets_in plan) (ports_of plan) []
      (length-map plan.cards (λ (card : CardPlan). card.packets)) (λ i inside. packets-at plan good i inside)

  sum_of_ports : (f : List Planned → ℕ) → sum_by f (packets_in plan) ≡ over_ports plan (λ i. f (card_at plan i).packets)
  sum_of_ports f = ap (sum_by f) packets-are ∙ sum_by-map f (λ i. (card_at plan i).packets) (range_with_len 0 (ports_of plan))

module _ (scheduler : Scheduler) (plan : SwitchPlan) (slots : ℕ) (good : IsGood plan) (ends : IsLengthUnder scheduler plan slots) where
  abbrev aside_at : ℕ → ℕ
  aside_at i = count_by is_aside (card_at plan i).packets

  abbrev counted_at : ℕ → ℕ
  counted_at i = admitted_count scheduler plan slots i + dropped_count scheduler plan slots i

  abbrev all_at : ℕ → ℕ
  all_at i = length (card_at plan i).packets

  port_is : (i : ℕ) → i < ports_of plan → counted_at i + aside_at i ≡ all_at i
  port_is i inside =
      let both = both-are (card_at plan i) (good-card plan good i inside).good (parts_under scheduler plan i slots) slots in
      let all = port_counted slots (card_at plan i).packets (arrivals_first scheduler plan slots ends i inside) in
      omega (arith, both, all)

  pub counted-once : CountsPacketsOnce (summary_under scheduler plan slots)
  unfolding summary_under
  counted-once =
      let ports = range_with_len 0 (ports_of plan) in
      let most = range_sum-le 0 (ports_of plan) (λ i. counted_at i + aside_at i) all_at
      (λ i from below. let is = port_is i (omega arith) in omega (arith, is)) in
      let least = range_sum-le 0 (ports_of plan) all_at (λ i. counted_at i + aside_at i)
      (λ i from below. let is = port_is i (omega arith) in omega (arith, is)) in
      let split = sum_by-plus counted_at aside_at ports in
      let parts = sum_by-plus (admitted_count scheduler plan slots) (dropped_count scheduler plan slots) ports in
      let packets = sum_of_ports plan good length in
      let asides = sum_of_ports plan good (count_by is_aside) in
      let none = good.aside in
      omega (arith, most, least, split, parts, packets, asides, none)
