-- A slot with something to do matches a pair, and from the last arrival on each slot that is not done has.
use Rattle.std.proofs.Common.{◌≡◌, ◌∙◌, ℕ, zero, suc, ◌+◌, ◌<◌, ◌≤◌, ◌⊎◌, not, nat_lt, max, true, false, List, [], ◌∷◌, map, length, Option, None, Some}
use Rattle.std.proofs.Common.{refl, sym, ap, subst, arith, inl, inr}
use Rattle.std.specs.Prelude.{slice_get, slice_index_or, fold}
use Rattle.std.specs.List.{list_all, list_any, range_with_len}
use Rattle.std.proofs.lemmas.Bool.{both_ways, and_cases, or_cases, not-true, not-false, le-ltb, or_from}
use Rattle.std.proofs.lemmas.List.{get_or-map, length-map}
use Rattle.std.proofs.lemmas.Option.{none-some, same_Some}
use Rattle.rotating_pick.specs.declared.kinds.Kind.{Kind}
use Rattle.slot_match.specs.declared.matching.Fed.{Fed}
use Rattle.slot_match.specs.Rows.{Names}
use Rattle.slot_match.specs.Matches.{fed_of, Serves}
use Rattle.eslip_rounds.proofs.Progress.{some_pair_by}
use Rattle.crossbar.specs.declared.cards.Post.{Post as CardPost}
use Rattle.eslip_rounds.specs.Schedulers.{Scheduler, StayAtPorts, IsScheduler}
use Rattle.slot_histories.specs.Slots.{slot_rows, places_under, decision_under, is_done_at}
use Rattle.slot_histories.specs.Tests.{is_empty}
use Rattle.slot_histories.proofs.PostedRows.{row_of-slot_rows}
use Rattle.slot_histories.proofs.SetTests.{Decides-is_empty}
use Rattle.slot_histories.proofs.SoundDecisions.{places_under-at_ports}
use Rattle.card_core.specs.declared.plan.Planned.{Planned}
use Rattle.card_core.specs.Plans.{AreRising}
use Rattle.switch_plan.specs.Totals.{slots_of, greatest_slots}
use Rattle.switch_plan.specs.GoodPlans.{SwitchPlan, IsGood, packets_in}
use Rattle.run_laws.specs.Runs.{ports_of, setup_for, card_at, no_plan, posts_under}
use Rattle.run_laws.proofs.Base.{good-card, within, is-slot}

-- ---- a pair of a match
none_more : (rest : List (Option Fed)) → ((j : ℕ) → fed_of rest j ≡ None) → (j : ℕ) → fed_of (None ∷ rest) j ≡ None
none_more rest none zero = refl
none_more rest none (suc j) = none j

fed_or_none : (matched : List (Option Fed)) → ((j : ℕ) × (fed : Fed) × (fed_of matched j ≡ Some fed)) ⊎ ((j : ℕ) → fed_of matched j ≡ None)
fed_or_none [] = inr (λ j. refl)
fed_or_none (Some fed ∷ rest) = inl (0, fed, refl)
fed_or_none (None ∷ rest) =
    elim (fed_or_none rest) [
      | inl found ↦ inl (suc found.0, found.1, found.2)
      | inr none ↦ inr (none_more rest none)
    ]

-- ---- a port that has more to come
more_there : (posts : ℕ → CardPost) (a n : ℕ) → list_all (λ post. not post.more) (map posts (range_with_len a n)) ≡ false → (i : ℕ) × (i < a + n)
    × ((posts i).more ≡ true)
more_there posts a zero is = absurd (both_ways true is refl)
more_there posts a (suc n) is =
    elim (and_cases (not (posts a).more) (list_all (λ post. not post.more) (map posts (range_with_len (a + 1) n))) is) [
      | inl here ↦ (a, omega arith, not-false (posts a).more here)
      | inr later ↦ let found = more_there posts (a + 1) n later in (found.0, omega arith, found.2)
    ]

-- ---- the last arrival
-- each packet arrives before its port's last arrival slot is over
arrives_early : (ps : List Planned) → AreRising ps → (k : ℕ) (p : Planned) → slice_get ps k ≡ Some p → p.arrival < slots_of ps
arrives_early [] rising k p at = absurd (none-some p at)
arrives_early (r ∷ []) rising zero p at = let same = ap (λ (x : Planned). x.arrival) (same_Some r p at) in omega arith
arrives_early (r ∷ []) rising (suc k) p at = absurd (none-some p at)
arrives_early (r ∷ s ∷ ps) rising zero p at =
    let later = arrives_early (s ∷ ps) (λ j l x y first second less. rising (suc j) (suc l) x y first second (omega arith)) zero s refl in
    let up = rising 0 1 p s at refl (omega arith) in
    omega arith
arrives_early (r ∷ s ∷ ps) rising (suc k) p at =
    arrives_early (s ∷ ps) (λ j l x y first second less. rising (suc j) (suc l) x y first second (omega arith)) k p at

-- after them none arrives
none_later : (t : ℕ) (ps : List Planned) → ((k : ℕ) (p : Planned) → slice_get ps k ≡ Some p → p.arrival ≤ t)
    → list_any (λ packet. nat_lt t packet.arrival) ps ≡ false
none_later t [] early = refl
none_later t (p ∷ ps) early = or_from (nat_lt t p.arrival) (list_any (λ packet. nat_lt t packet.arrival) ps) (le-ltb t p.arrival (early 0 p refl))
    (none_later t ps (λ k r at. early (suc k) r at))

-- a greatest number is at least each of its numbers
greatest-from : (most : ℕ) (ports : List (List Planned)) → most ≤ fold (λ m packets. max m (slots_of packets)) most ports
greatest-from most [] = omega arith
greatest-from most (packets ∷ ports) = let rest = greatest-from (max most (slots_of packets)) ports in omega arith

greatest-of : (most : ℕ) (ports : List (List Planned)) (i : ℕ) → i < length ports
    → slots_of (slice_index_or ports i []) ≤ fold (λ m packets. max m (slots_of packets)) most ports
greatest-of most [] i below = absurd (omega arith)
greatest-of most (packets ∷ ports) zero below = let rest = greatest-from (max most (slots_of packets)) ports in omega arith
greatest-of most (packets ∷ ports) (suc i) below = greatest-of (max most (slots_of packets)) ports i (omega arith)

module _ (scheduler : Scheduler) (scheduling : IsScheduler scheduler) (plan : SwitchPlan) (good : IsGood plan) where
  -- where none were matched no row would name an output
  pub busy_matches : (i t : ℕ) → i < ports_of plan → is_empty (posts_under scheduler plan i t).row ≡ false
      → (input output level : ℕ) × (kind : Kind)
      × Serves (decision_under scheduler (setup_for plan) (posts_under scheduler plan) t).matched input output level kind
  busy_matches i t inside busy =
      let n = ports_of plan in
      let posts = posts_under scheduler plan in
      let s = setup_for plan in
      let decision = decision_under scheduler s posts t in
      let places = places_under-at_ports scheduler scheduling s posts t good.size.some good.size.most (λ u below. within scheduler scheduling plan good u) t
      (omega arith) in
      elim (fed_or_none decision.matched) [
        | inl found ↦ let fed = found.1 in (fed.input, found.0, fed.level, fed.kind, found.2)
        | inr none ↦
            absurd (both_ways (is_empty (posts i t).row) busy ((Decides-is_empty (posts i t).row).1 (λ level j kind named.
            let pair = some_pair_by n t (slot_rows n posts t) (places_under scheduler s posts t)
            (within scheduler scheduling plan good t) places.0 places.1 StayAtPorts plan.rounds decision good.rounds.some
            (is-slot scheduler scheduling plan good t) i j level kind inside
            (subst (λ row. Names row level kind j) (sym (row_of-slot_rows n posts t i inside)) named) in
            none-some _ (sym (none pair.1) ∙ pair.4))))
      ]

  -- all packets of a port arrive before the greatest number of arrival slots
  all_early : (i : ℕ) → i < ports_of plan → (k : ℕ) (p : Planned) → slice_get (card_at plan i).packets k ≡ Some p → p.arrival < greatest_slots (packets_in plan)
  all_early i inside k p at =
      let card = good-card plan good i inside in
      let early = arrives_early (card_at plan i).packets card.good.rising k p at in
      let same = ap slots_of (get_or-map (λ c. c.packets) plan.cards i no_plan [] inside) in
      let most = greatest-of 0 (packets_in plan) i (omega (arith, length-map plan.cards (λ c. c.packets))) in
      omega arith

  -- from then on a slot that is not done matches a pair
  pub going_matches : (t : ℕ) → greatest_slots (packets_in plan) ≤ t → is_done_at (ports_of plan) (posts_under scheduler plan) t ≡ false
      → (input output level : ℕ) × (kind : Kind)
      × Serves (decision_under scheduler (setup_for plan) (posts_under scheduler plan) t).matched input output level kind
  going_matches t late going =
      let more = more_there (λ i. posts_under scheduler plan i t) 0 (ports_of plan) going in
      let i = more.0 in
      let inside : i < ports_of plan = omega arith in
      let row = (posts_under scheduler plan i t).row in
      let packets = (card_at plan i).packets in
      let over = none_later t packets (λ k p at. let early = all_early i inside k p at in omega arith) in
      elim (or_cases (list_any (λ packet. nat_lt t packet.arrival) packets) (not (is_empty row)) more.2) [
        | inl later ↦ absurd (both_ways (list_any (λ packet. nat_lt t packet.arrival) packets) over later)
        | inr busy ↦ busy_matches i t inside (not-true (is_empty row) busy)
      ]
