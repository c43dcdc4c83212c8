-- Where no packet goes to several outputs, a run matches unicast alone.
use Rattle.std.proofs.Common.{◌≡◌, ◌≢◌, ℕ, suc, ◌^◌, ◌<◌, ◌==◌, not, Bool, true, false, refl, sym, subst, arith, inl, inr}
use Rattle.std.proofs.Common.{List, [], ◌∷◌, ap, length}
use Rattle.std.proofs.lemmas.Bool.{eq-eqb}
use Rattle.std.proofs.lemmas.Nat.Bits.{bit_at-pow_same}
use Rattle.std_lemmas.proofs.Numbers.{below_power}
use Rattle.rotating_pick.specs.declared.kinds.Kind.{Kind}
use Rattle.rotating_pick.specs.declared.kinds.Kind.TheVariants.{Uni, Multi}
use Rattle.rotating_pick.specs.PortSets.{Has, HasSeveral}
use Rattle.rotating_pick.proofs.Bits.{Has-lt}
use Rattle.slot_match.specs.Matches.{Serves}
use Rattle.eslip_rounds.specs.Schedulers.{Scheduler, IsScheduler}
use Rattle.slot_histories.specs.Slots.{decision_under}
use Rattle.card_core.specs.declared.plan.Planned.{Planned}
use Rattle.card_core.specs.Plans.{Queue, OfOutput, OfLevel, queue_of}
use Rattle.card_core.specs.Queues.{waiting, queue_in, is_routed}
use Rattle.card_core.specs.Posts.{has_cells}
use Rattle.queue_lengths.specs.Lengths.{length_in}
use Rattle.multicast_queue.specs.FanQueues.{FanCell}
use Rattle.card_core.proofs.Arriving.{queue-unicast}
use Rattle.card_core.proofs.Posted.{one_or_several}
use Rattle.switch_plan.specs.GoodPlans.{SwitchPlan, IsGood}
use Rattle.run_laws.specs.Runs.{ports_of, setup_for, card_at, parts_under, posts_under}
use Rattle.run_laws.proofs.Base.{good-card, sound, is-slot, pair-named}
use Rattle.run_laws.proofs.WaitingPackets.{named-waits, waiting-admitted}
use Rattle.arrival_bounds.specs.Arrivals.{AreUnicast}

-- nothing is matched as multicast
abbrev pub MatchesUnicast : Scheduler → SwitchPlan → Type 0
MatchesUnicast scheduler plan = (i j l t : ℕ) (kind : Kind)
    → Serves (decision_under scheduler (setup_for plan) (posts_under scheduler plan) t).matched i j l kind
    → kind ≡ Uni

fan_some : (fan : ℕ) → not (fan == 0) ≡ true → fan ≢ 0
fan_some fan routed none = differ (fan == 0) routed (eq-eqb fan 0 none) where
  differ : (b : Bool) → not b ≡ true → b ≡ true → ⊥
  differ true routed is = absurd (cc)
  differ false routed is = absurd (cc)

not_both : (q : Queue) (j l m : ℕ) → OfLevel l ≡ q → q ≡ OfOutput j m → ⊥
not_both q j l m left right = absurd (cc)

-- a packet of the queue of a level has several outputs
pub of_level : (p : Planned) (l : ℕ) → p.fan < 2 ^ 64 → is_routed p ≡ true → OfLevel l ≡ queue_of p → (HasSeveral p.fan → ⊥) → ⊥
of_level p l small routed queue one = elim (one_or_several p.fan small (fan_some p.fan routed)) [
  | inr several ↦ one several
  | inl found ↦
      let j = found.0 in
      let inside = Has-lt 64 p.fan j small (subst (λ fan. Has fan j) (sym found.1) (bit_at-pow_same j)) in
      not_both (queue_of p) j l p.level queue (queue-unicast p j found.1 inside)
]

module _ (scheduler : Scheduler) (scheduling : IsScheduler scheduler) (plan : SwitchPlan) (good : IsGood plan) (unicast : AreUnicast plan) where
  pub matches_unicast : MatchesUnicast scheduler plan
  matches_unicast i j l t Uni pair = refl
  matches_unicast i j l t Multi pair =
      let inside = (sound scheduler scheduling plan good t).matches.input_in i j l Multi pair in
      let card = good-card plan good i inside in
      let named = pair-named scheduler (setup_for plan) (posts_under scheduler plan) t (sound scheduler scheduling plan good t)
      (is-slot scheduler scheduling plan good t) i j l Multi inside pair in
      let some = named-waits (card_at plan i) card.good (parts_under scheduler plan i t) t j l Multi named in
      let found = waiting-admitted scheduler scheduling plan good (suc t) i t inside (omega arith) (OfLevel l) some in
      let p = found.0 in
      let of = found.1 in
      let small = below_power (card_at plan i).ports p.fan card.good.size (card.good.packets of.place p of.found).fan in
      absurd (of_level p l small of.routed found.2 (unicast i of.place p inside of.found))

  -- and no cell waits in a queue of a level
  pub levels_empty : (i l t : ℕ) → i < ports_of plan → length_in (card_at plan i) (OfLevel l) (parts_under scheduler plan i t) t ≡ 0
  levels_empty i l t inside = by_cells (waiting (queue_in (card_at plan i) (OfLevel l) (parts_under scheduler plan i t) t)) refl where
    by_cells : (w : List FanCell) → waiting (queue_in (card_at plan i) (OfLevel l) (parts_under scheduler plan i t) t) ≡ w
        → length_in (card_at plan i) (OfLevel l) (parts_under scheduler plan i t) t ≡ 0
    by_cells [] is = ap length is
    by_cells (c ∷ w) is =
        let found = waiting-admitted scheduler scheduling plan good (suc t) i t inside (omega arith) (OfLevel l) (ap has_cells is) in
        let p = found.0 in
        let of = found.1 in
        let card = good-card plan good i inside in
        let small = below_power (card_at plan i).ports p.fan card.good.size (card.good.packets of.place p of.found).fan in
        absurd (of_level p l small of.routed found.2 (unicast i of.place p inside of.found))
