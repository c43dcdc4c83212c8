-- The run of a good plan: each post is accepted, each slot's decision is sound, and what it serves is asked for.
use Rattle.std.proofs.Common.{◌≡◌, ◌∙◌, ℕ, zero, suc, ◌+◌, ◌<◌, ◌≤◌, [], ◌∷◌, ◌++◌, map, length, Option, None, Some, refl, sym, ap, subst, arith}
use Rattle.std.proofs.Common.{inl, inr, slice_index_or}
use Rattle.std.specs.List.{range_with_len}
use Rattle.std.proofs.lemmas.Bool.{cases_lt}
use Rattle.std.proofs.lemmas.List.FromFn.{length-map-range_with_len, get_or-map-range_with_len, map-range_with_len_more}
use Rattle.std.proofs.lemmas.Option.{slice_get-get_or}
use Rattle.std.proofs.lemmas.Simd.{map-map}
use Rattle.card_core.proofs.Carding.{kinds_differ}
use Rattle.rotating_pick.specs.declared.kinds.Kind.{Kind}
use Rattle.slot_match.specs.declared.matching.Served.{Served}
use Rattle.slot_match.specs.Rows.{Names, AreWithin, IsWithin, IsOfLevels}
use Rattle.slot_match.specs.Matches.{Serves}
use Rattle.slot_match.specs.Parts.{served_of}
use Rattle.slot_match.proofs.ServedParts.{served_of-is}
use Rattle.eslip_rounds.specs.Slots.{Moving, IsSlotBy}
use Rattle.eslip_rounds.proofs.Unique.{Serves-named_by}
use Rattle.crossbar.specs.declared.cards.Post.{Post as CardPost}
use Rattle.eslip_rounds.specs.Schedulers.{Scheduler, IsSchedulerBy, StayAtPorts, IsScheduler}
use Rattle.slot_histories.specs.Events.{Setup}
use Rattle.slot_histories.specs.Slots.{slot_rows, places_under, decision_under, served_under, row_before, served_before_under}
use Rattle.slot_histories.specs.Legal.{IsAccepted}
use Rattle.slot_histories.specs.Parts.{IsPartOf}
use Rattle.slot_histories.proofs.PostedRows.{length-slot_rows, row_of-slot_rows}
use Rattle.slot_histories.proofs.SoundDecisions.{IsSoundDecision, decision_under-moved, decision_under-slot, decision_under-sound}
use Rattle.card_core.specs.Plans.{Queue, IsSmallPlan}
use Rattle.card_core.specs.Queues.{before as queue_before, queue_in}
use Rattle.card_core.specs.Posts.{row_at, IsServable}
use Rattle.card_core.specs.Grants.{granted_to}
use Rattle.card_core.proofs.Accepting.{first_accepted, next_accepted}
use Rattle.switch_plan.specs.GoodPlans.{SwitchPlan, IsGood, IsBurst, IsCardOf}
use Rattle.run_laws.specs.Runs.{ports_of, setup_for, card_at, no_plan, rows_in, decision_in, before_under, parts_under, posts_under}
use Rattle.run_laws.proofs.SameParts.{before-alike, queue_in-alike, row_at-alike, granted_to-alike}

-- ---- what a slot serves of rows within the ports

module _ (scheduler : Scheduler) (s : Setup) (posts : ℕ → ℕ → CardPost) (t : ℕ) (sound : IsSoundDecision s.ports (decision_under scheduler s posts t))
    (slot : IsSlotBy StayAtPorts s.ports s.rounds t (slot_rows s.ports posts t) (places_under scheduler s posts t) (decision_under scheduler s posts t)) where
  -- a pair that is matched is one that the row names
  pub pair-named : (i j level : ℕ) (kind : Kind) → i < s.ports → Serves (decision_under scheduler s posts t).matched i j level kind
      → Names (posts i t).row level kind j
  pair-named i j level kind inside serves =
      subst (λ row. Names row level kind j) (row_of-slot_rows s.ports posts t i inside)
      (Serves-named_by StayAtPorts s.ports s.rounds t (slot_rows s.ports posts t) (places_under scheduler s posts t)
      (decision_under scheduler s posts t) slot i j level kind serves)

  pub part-of : (i : ℕ) (part : Served) → i < s.ports → served_under scheduler s posts i t ≡ Some part → IsPartOf (posts i t).row part
  part-of i part inside is =
      let matches = sound.matches in
      let mine = served_of-is s.ports (decision_under scheduler s posts t).matched matches i part is in
      record {
        some = mine.some;
        named = λ j has. pair-named i j part.level part.kind inside ((mine.outputs j).0 has);
        one = λ uni j k has again. elim (matches.once i j part.level part.kind k part.level part.kind ((mine.outputs j).0 has) ((mine.outputs k).0 again)) [
          | inl same ↦ same
          | inr twice ↦ absurd (kinds_differ (sym uni ∙ twice.1))
        ];
        level = let first = mine.some in matches.level_in i first.0 part.level part.kind ((mine.outputs first.0).0 first.1);
      }

  by_part : (i : ℕ) (part : Option Served) → i < s.ports → served_under scheduler s posts i t ≡ part → IsServable (posts i t).row part
  by_part i None inside is = tt
  by_part i (Some part) inside is = part-of i part inside is

  pub part-servable : (i : ℕ) → i < s.ports → IsServable (posts i t).row (served_under scheduler s posts i t)
  part-servable i inside = by_part i (served_under scheduler s posts i t) inside refl

-- ---- what the slots before a slot leave
module _ (scheduler : Scheduler) (plan : SwitchPlan) where
  rows-same : (t : ℕ) → rows_in plan (before_under scheduler plan t) t ≡ slot_rows (ports_of plan) (posts_under scheduler plan) t
  rows-same t = sym (map-map (λ (post : CardPost). post.row) (λ i. posts_under scheduler plan i t) (range_with_len 0 (ports_of plan)))

  pub places-same : (t : ℕ) → (before_under scheduler plan t).places ≡ places_under scheduler (setup_for plan) (posts_under scheduler plan) t
  unfolding before_under
  places-same zero = refl
  places-same (suc t) =
      let rows = rows-same t in
      let places = places-same t in
      cc

  pub decision-same : (t : ℕ)
      → decision_in scheduler plan (before_under scheduler plan t) t ≡ decision_under scheduler (setup_for plan) (posts_under scheduler plan) t
  decision-same t =
      let rows = rows-same t in
      let places = places-same t in
      cc

  served-step : (i t : ℕ) → parts_under scheduler plan i (suc t) ≡ parts_under scheduler plan i t
      ++ served_under scheduler (setup_for plan) (posts_under scheduler plan) i t ∷ []
  unfolding before_under
  served-step i t = ap (λ decision. parts_under scheduler plan i t ++ served_of decision.matched i ∷ []) (decision-same t)

  -- what a port was served in the slots before a slot
  pub served-is : (i t : ℕ) → parts_under scheduler plan i t ≡ map (served_under scheduler (setup_for plan) (posts_under scheduler plan) i) (range_with_len 0 t)
  unfolding before_under
  served-is i zero = refl
  served-is i (suc t) =
      let next : suc t ≡ t + 1 = omega arith in
      let part = served_under scheduler (setup_for plan) (posts_under scheduler plan) i in
      served-step i t
      ∙ (ap (λ parts. parts ++ part t ∷ []) (served-is i t)
      ∙ (sym (map-range_with_len_more part 0 t t (omega arith)) ∙ ap (λ k. map part (range_with_len 0 k)) (sym next)))

  pub served-length : (i t : ℕ) → length (parts_under scheduler plan i t) ≡ t
  served-length i t = ap length (served-is i t) ∙ length-map-range_with_len (served_under scheduler (setup_for plan) (posts_under scheduler plan) i) 0 t

  pub served-at : (i u t : ℕ) → u < t
      → slice_index_or (parts_under scheduler plan i t) u None ≡ served_under scheduler (setup_for plan) (posts_under scheduler plan) i u
  served-at i u t below =
      ap (λ parts. slice_index_or parts u None) (served-is i t)
      ∙ get_or-map-range_with_len (served_under scheduler (setup_for plan) (posts_under scheduler plan) i) 0 t u u None below (omega arith)

  -- what a card is before a slot depends on the slots before it alone
  module _ (i u t : ℕ) (few : u ≤ t) where
    parts-same : (v : ℕ) → v < u → slice_index_or (parts_under scheduler plan i t) v None ≡ slice_index_or (parts_under scheduler plan i u) v None
    parts-same v below = served-at i v t (omega arith) ∙ sym (served-at i v u below)

    pub before-same : (q : Queue)
        → queue_before (card_at plan i) q (parts_under scheduler plan i t) u ≡ queue_before (card_at plan i) q (parts_under scheduler plan i u) u
    before-same q = before-alike (card_at plan i) (parts_under scheduler plan i t) (parts_under scheduler plan i u) u parts-same q u (omega arith)

    pub queue_in-same : (q : Queue)
        → queue_in (card_at plan i) q (parts_under scheduler plan i t) u ≡ queue_in (card_at plan i) q (parts_under scheduler plan i u) u
    queue_in-same q = queue_in-alike (card_at plan i) (parts_under scheduler plan i t) (parts_under scheduler plan i u) u parts-same q u (omega arith)

    pub row_at-same : row_at (card_at plan i) (parts_under scheduler plan i t) u ≡ row_at (card_at plan i) (parts_under scheduler plan i u) u
    row_at-same = row_at-alike (card_at plan i) (parts_under scheduler plan i t) (parts_under scheduler plan i u) u parts-same u (omega arith)

    pub granted_to-same : (q : Queue) (j : ℕ)
        → granted_to (card_at plan i) q j (parts_under scheduler plan i t) u ≡ granted_to (card_at plan i) q j (parts_under scheduler plan i u) u
    granted_to-same q j = granted_to-alike (card_at plan i) (parts_under scheduler plan i t) (parts_under scheduler plan i u) u parts-same q j u (omega arith)

-- ---- the run of a good plan
pub good-card : (plan : SwitchPlan) → IsGood plan → (i : ℕ) → i < ports_of plan → IsCardOf plan i (card_at plan i)
good-card plan good i inside = good.cards i (card_at plan i) (slice_get-get_or plan.cards i no_plan inside)

-- and of a burst
pub small-card : (plan : SwitchPlan) → IsBurst plan → (i : ℕ) → i < ports_of plan → IsSmallPlan (card_at plan i)
small-card plan burst i inside = burst.cards i (card_at plan i) (slice_get-get_or plan.cards i no_plan inside)

module _ (scheduler : Scheduler) (scheduling : IsScheduler scheduler) (plan : SwitchPlan) (good : IsGood plan) where
  abbrev Accepted : ℕ → ℕ → Type 0
  Accepted i t = IsAccepted (ports_of plan) i (row_before (posts_under scheduler plan) i t)
      (served_before_under scheduler (setup_for plan) (posts_under scheduler plan) i t) (posts_under scheduler plan i t)

  -- the slots below k, of which each post is accepted
  module _ (k : ℕ) (accepted : (i t : ℕ) → t < k → i < ports_of plan → Accepted i t) where
    within-below : (t : ℕ) → t < k → AreWithin (ports_of plan) (slot_rows (ports_of plan) (posts_under scheduler plan) t)
    within-below t below = record {
      count = length-slot_rows (ports_of plan) (posts_under scheduler plan) t;
      ports = λ i inside. subst (IsWithin (ports_of plan)) (sym (row_of-slot_rows (ports_of plan) (posts_under scheduler plan) t i inside))
          (accepted i t below inside).within;
      levels = λ i inside. subst IsOfLevels (sym (row_of-slot_rows (ports_of plan) (posts_under scheduler plan) t i inside)) (accepted i t below inside).levels;
    }

    sound-below : (t : ℕ) → t < k → IsSoundDecision (ports_of plan) (decision_under scheduler (setup_for plan) (posts_under scheduler plan) t)
    sound-below t below = decision_under-sound scheduler scheduling (setup_for plan)
        (posts_under scheduler plan) k good.size.some good.size.most within-below t below

    slot-below : (t : ℕ) → t < k
        → IsSlotBy StayAtPorts (ports_of plan) plan.rounds t (slot_rows (ports_of plan) (posts_under scheduler plan) t)
        (places_under scheduler (setup_for plan) (posts_under scheduler plan) t) (decision_under scheduler (setup_for plan) (posts_under scheduler plan) t)
    slot-below t below = decision_under-slot scheduler scheduling (setup_for plan)
        (posts_under scheduler plan) k good.size.some good.size.most within-below t below

    servable-below : (i t : ℕ) → t < k → i < ports_of plan
        → IsServable (posts_under scheduler plan i t).row (served_under scheduler (setup_for plan) (posts_under scheduler plan) i t)
    servable-below i t below inside =
        part-servable scheduler (setup_for plan) (posts_under scheduler plan) t (sound-below t below) (slot-below t below) i inside

  -- the next post is accepted too
  accepted-next : (k : ℕ) → ((i t : ℕ) → t < k → i < ports_of plan → Accepted i t) → (i : ℕ) → i < ports_of plan → Accepted i k
  unfolding before_under
  accepted-next zero accepted i inside =
      let card = good-card plan good i inside in
      subst (λ n. IsAccepted n i (row_before (posts_under scheduler plan) i 0)
      (served_before_under scheduler (setup_for plan) (posts_under scheduler plan) i 0) (posts_under scheduler plan i 0)) card.ports
      (subst (λ port. IsAccepted (card_at plan i).ports port (row_before (posts_under scheduler plan) i 0)
      (served_before_under scheduler (setup_for plan) (posts_under scheduler plan) i 0) (posts_under scheduler plan i 0)) card.number
      (first_accepted (card_at plan i) card.good (parts_under scheduler plan i 0)))
  accepted-next (suc t) accepted i inside =
      let card = good-card plan good i inside in
      let mine = card_at plan i in
      let parts = parts_under scheduler plan i (suc t) in
      let row : row_at mine parts t ≡ (posts_under scheduler plan i t).row = row_at-same scheduler plan i t (suc t) (omega arith) in
      let part : slice_index_or parts t None ≡ served_under scheduler (setup_for plan) (posts_under scheduler plan) i t =
      served-at scheduler plan i t (suc t) (omega arith) in
      let may = servable-below (suc t) accepted i t (omega arith) inside in
      let may_there : IsServable (row_at mine parts t) (slice_index_or parts t None) =
      subst (λ r. IsServable r (slice_index_or parts t None)) (sym row) (subst (IsServable (posts_under scheduler plan i t).row) (sym part) may) in
      let next = next_accepted mine card.good parts t may_there in
      subst (λ n. IsAccepted n i (posts_under scheduler plan i t).row (served_under scheduler (setup_for plan) (posts_under scheduler plan) i t)
      (posts_under scheduler plan i (suc t))) card.ports
      (subst (λ port. IsAccepted mine.ports port (posts_under scheduler plan i t).row
      (served_under scheduler (setup_for plan) (posts_under scheduler plan) i t) (posts_under scheduler plan i (suc t))) card.number
      (subst (λ r. IsAccepted mine.ports mine.card r (served_under scheduler (setup_for plan) (posts_under scheduler plan) i t)
      (posts_under scheduler plan i (suc t))) row
      (subst (λ p. IsAccepted mine.ports mine.card (row_at mine parts t) p (posts_under scheduler plan i (suc t))) part next)))

  accepted-below : (k i t : ℕ) → t < k → i < ports_of plan → Accepted i t
  accepted-below zero i t below inside = absurd (omega arith)
  accepted-below (suc k) i t below inside =
      elim (cases_lt t k) [
        | inl less ↦ accepted-below k i t less inside
        | inr last ↦
            let same : k ≡ t = omega arith in
            subst (Accepted i) same (accepted-next k (λ j u before inside. accepted-below k j u before inside) i inside)
      ]

  pub accepted : (i t : ℕ) → i < ports_of plan
      → IsAccepted (ports_of plan) i (row_before (posts_under scheduler plan) i t)
      (served_before_under scheduler (setup_for plan) (posts_under scheduler plan) i t) (posts_under scheduler plan i t)
  accepted i t inside = accepted-below (suc t) i t (omega arith) inside

  pub within : (t : ℕ) → AreWithin (ports_of plan) (slot_rows (ports_of plan) (posts_under scheduler plan) t)
  within t = within-below (suc t) (accepted-below (suc t)) t (omega arith)

  pub sound : (t : ℕ) → IsSoundDecision (ports_of plan) (decision_under scheduler (setup_for plan) (posts_under scheduler plan) t)
  sound t = sound-below (suc t) (accepted-below (suc t)) t (omega arith)

  pub is-slot : (t : ℕ) → IsSlotBy StayAtPorts (ports_of plan) plan.rounds t (slot_rows (ports_of plan) (posts_under scheduler plan) t)
      (places_under scheduler (setup_for plan) (posts_under scheduler plan) t) (decision_under scheduler (setup_for plan) (posts_under scheduler plan) t)
  is-slot t = slot-below (suc t) (accepted-below (suc t)) t (omega arith)

  -- and a slot whose pointers are told to move in another way, where all of the scheduler's are
  pub slot-moved : (Moves : Moving) → IsSchedulerBy Moves scheduler → (t : ℕ)
      → IsSlotBy Moves (ports_of plan) plan.rounds t (slot_rows (ports_of plan) (posts_under scheduler plan) t)
      (places_under scheduler (setup_for plan) (posts_under scheduler plan) t) (decision_under scheduler (setup_for plan) (posts_under scheduler plan) t)
  slot-moved Moves moving t = decision_under-moved scheduler scheduling (setup_for plan) (posts_under scheduler plan) (suc t) good.size.some good.size.most
      (λ u below. within u) Moves moving t (omega arith)

  -- what a slot serves a port is part of the row that it posts in the slot
  pub requested : (i t : ℕ) → i < ports_of plan
      → IsServable (posts_under scheduler plan i t).row (served_under scheduler (setup_for plan) (posts_under scheduler plan) i t)
  requested i t inside = servable-below (suc t) (accepted-below (suc t)) i t (omega arith) inside

  pub servable : (i u t : ℕ) → i < ports_of plan → u < t
      → IsServable (row_at (card_at plan i) (parts_under scheduler plan i t) u) (slice_index_or (parts_under scheduler plan i t) u None)
  servable i u t inside below =
      subst (λ row. IsServable row (slice_index_or (parts_under scheduler plan i t) u None)) (sym (row_at-same scheduler plan i u t (omega arith)))
      (subst (IsServable (posts_under scheduler plan i u).row) (sym (served-at scheduler plan i u t below)) (requested i u inside))
