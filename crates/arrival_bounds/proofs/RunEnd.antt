-- A run ends soon after the last arrival where no cell waits long: then nothing waits any more.
use Rattle.std.proofs.Common.{◌≡◌, ◌∙◌, ℕ, zero, suc, ◌+◌, ◌-◌, ◌<◌, ◌≤◌, List, [], ◌∷◌, length, Option, None, Some, refl, ap, arith, inl, inr}
use Rattle.std.specs.Prelude.{slice_get, slice_index_or, fold, max}
use Rattle.std.proofs.lemmas.Bool.{cases_lt}
use Rattle.std.proofs.lemmas.List.{get_or-map, length-map}
use Rattle.std.proofs.lemmas.Option.{none-some, same_Some}
use Rattle.rotating_pick.specs.declared.kinds.Kind.TheVariants.{Uni}
use Rattle.slot_match.specs.Matches.{Serves}
use Rattle.slot_match.proofs.Pairs.{Serves-along, fed_of-lt}
use Rattle.eslip_rounds.specs.Schedulers.{Scheduler}
use Rattle.slot_histories.specs.Slots.{decision_under}
use Rattle.card_core.specs.declared.plan.Planned.{Planned}
use Rattle.card_core.specs.Plans.{AreRising, arriving}
use Rattle.card_core.proofs.Passing.{arriving-there}
use Rattle.switch_plan.specs.Totals.{slots_of, greatest_slots}
use Rattle.switch_plan.specs.GoodPlans.{SwitchPlan, IsGood, packets_in}
use Rattle.run_laws.specs.Runs.{ports_of, setup_for, card_at, no_plan, posts_under}
use Rattle.run_laws.specs.Ends.{IsLengthUnder}
use Rattle.run_laws.proofs.Base.{good-card, sound}
use Rattle.run_laws.proofs.FirstDone.{not_done}
use Rattle.run_laws.proofs.BusySlots.{going_matches}
use Rattle.arrival_bounds.specs.Arrivals.{ArePairsFew}
use Rattle.arrival_bounds.specs.Waits.{IsUnicastRun, came_under, gone_under, WaitsAtMost}
use Rattle.arrival_bounds.proofs.UnicastRuns.{matches_unicast}
use Rattle.arrival_bounds.proofs.Taking.{pair_takes}
use Rattle.arrival_bounds.proofs.Coming.{came-still}
use Rattle.arrival_bounds.proofs.Bounds.{served, delays_by_all}

-- ---- the last arrival
arrives_early : (ps : List Planned) → AreRising ps → (k : ℕ) (p : Planned) → slice_get ps k ≡ Some p → p.arrival < slots_of ps
arrives_early [] rising k p at = absurd (none-some p at)
arrives_early (r ∷ []) rising zero p at = let same = ap (λ (x : Planned). x.arrival) (same_Some r p at) in omega arith
arrives_early (r ∷ []) rising (suc k) p at = absurd (none-some p at)
arrives_early (r ∷ s ∷ ps) rising zero p at =
    let later = arrives_early (s ∷ ps) (λ j l x y first second less. rising (suc j) (suc l) x y first second (omega arith)) zero s refl in
    let up = rising 0 1 p s at refl (omega arith) in
    omega arith
arrives_early (r ∷ s ∷ ps) rising (suc k) p at =
    arrives_early (s ∷ ps) (λ j l x y first second less. rising (suc j) (suc l) x y first second (omega arith)) k p at

greatest-from : (most : ℕ) (ports : List (List Planned)) → most ≤ fold (λ m packets. max m (slots_of packets)) most ports
greatest-from most [] = omega arith
greatest-from most (packets ∷ ports) = let rest = greatest-from (max most (slots_of packets)) ports in omega arith

greatest-of : (most : ℕ) (ports : List (List Planned)) (i : ℕ) → i < length ports
    → slots_of (slice_index_or ports i []) ≤ fold (λ m packets. max m (slots_of packets)) most ports
greatest-of most [] i below = absurd (omega arith)
greatest-of most (packets ∷ ports) zero below = let rest = greatest-from (max most (slots_of packets)) ports in omega arith
greatest-of most (packets ∷ ports) (suc i) below = greatest-of (max most (slots_of packets)) ports i (omega arith)

module _ (plan : SwitchPlan) (good : IsGood plan) where
  abbrev arrivals : ℕ
  arrivals = greatest_slots (packets_in plan)

  all_early : (i : ℕ) → i < ports_of plan → (k : ℕ) (p : Planned) → slice_get (card_at plan i).packets k ≡ Some p → p.arrival < arrivals
  all_early i inside k p at =
      let early = arrives_early (card_at plan i).packets (good-card plan good i inside).good.rising k p at in
      let same = ap slots_of (get_or-map (λ c. c.packets) plan.cards i no_plan [] inside) in
      let most = greatest-of 0 (packets_in plan) i (omega (arith, length-map plan.cards (λ c. c.packets))) in
      omega arith

  none_arrives : (i t : ℕ) → i < ports_of plan → arrivals ≤ t → arriving (card_at plan i) t ≡ None
  none_arrives i t inside late = by_packet (arriving (card_at plan i) t) refl where
    by_packet : (o : Option (ℕ × Planned)) → arriving (card_at plan i) t ≡ o → arriving (card_at plan i) t ≡ None
    by_packet None is = is
    by_packet (Some (k, p)) is =
        let found = arriving-there 0 (card_at plan i).packets t k p is in
        let early = all_early i inside found.0 p found.2 in
        absurd (omega (arith, found.3))

  -- what has come by then is all
  came-all : (scheduler : Scheduler) (i j l k : ℕ) → i < ports_of plan
      → came_under scheduler plan i j l (arrivals + k) ≡ came_under scheduler plan i j l arrivals
  came-all scheduler i j l zero inside = ap (came_under scheduler plan i j l) (at arrivals) where
    at : (x : ℕ) → x + 0 ≡ x
    at x = omega arith
  came-all scheduler i j l (suc k) inside =
      ap (came_under scheduler plan i j l) (next arrivals k)
      ∙ came-still scheduler plan i j l (arrivals + k) (none_arrives i (arrivals + k) inside (from arrivals k))
      ∙ came-all scheduler i j l k inside where
        next : (x y : ℕ) → x + suc y ≡ suc (x + y)
        next x y = omega arith

        from : (x y : ℕ) → x ≤ x + y
        from x y = omega arith

-- the numbers of a cell that is granted so late
too_late : (g g' c c' : ℕ) → g + 1 ≤ g' → g' ≤ c' → c' ≡ c → c ≤ g → ⊥
too_late g g' c c' one few same soon = omega arith

module _ (scheduler : Scheduler) (plan : SwitchPlan) (run : IsUnicastRun scheduler plan) where
  pub ends_soon : (most slots : ℕ) → WaitsAtMost scheduler plan most → IsLengthUnder scheduler plan slots
      → slots ≤ greatest_slots (packets_in plan) + most + 1
  ends_soon most slots waits ends = elim (cases_lt (greatest_slots (packets_in plan) + most) ends.last) [
    | inr fine ↦ let count = ends.count in omega arith
    | inl late ↦
        let first = greatest_slots (packets_in plan) in
        let u = first + most in
        let n = ports_of plan in
        let matched = (decision_under scheduler (setup_for plan) (posts_under scheduler plan) u).matched in
        let matches = (sound scheduler run.scheduling plan run.good u).matches in
        let pair = going_matches scheduler run.scheduling plan run.good u (from first most)
        (not_done n (posts_under scheduler plan) ends.last u late ends.going) in
        let i = pair.0 in
        let j = pair.1 in
        let l = pair.2 in
        let uni = matches_unicast scheduler run.scheduling plan run.good run.unicast i j l u pair.3 pair.4 in
        let serves : Serves matched i j l Uni = Serves-along matched i j l l pair.3 Uni refl uni pair.4 in
        let i_in = matches.input_in i j l Uni serves in
        let l_in = matches.level_in i j l Uni serves in
        let there = fed_of-lt matched j (record { input = i; level = l; kind = Uni }) serves in
        let count = matches.count in
        let j_in : j < n = omega (arith, there, count) in
        let one = pair_takes scheduler run.scheduling plan run.good u i j l i_in serves in
        let few = (served scheduler plan run).few i j l (suc u) i_in j_in in
        let same = ap (came_under scheduler plan i j l) (next first most) ∙ came-all plan run.good scheduler i j l (suc most) i_in in
        let soon = waits i j l first i_in j_in l_in in
        absurd (too_late (gone_under scheduler plan i j l u) (gone_under scheduler plan i j l (suc u)) (came_under scheduler plan i j l first)
        (came_under scheduler plan i j l (suc u)) one few same soon)
  ] where
    from : (x y : ℕ) → x ≤ x + y
    from x y = omega arith

    next : (x y : ℕ) → suc (x + y) ≡ x + suc y
    next x y = omega arith

  pub ends_by_all : (cells slots : ℕ) → ArePairsFew plan cells → IsLengthUnder scheduler plan slots
      → slots ≤ greatest_slots (packets_in plan) + (cells - 2) + 1
  ends_by_all cells slots few = ends_soon (cells - 2) slots (delays_by_all scheduler plan run cells few)
