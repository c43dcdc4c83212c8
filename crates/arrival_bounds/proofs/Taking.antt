-- A slot of a run takes a cell of the input of each queue in which one is left, or a cell for its output.
use Rattle.std.proofs.Common.{◌≡◌, ◌∙◌, ℕ, suc, ◌+◌, ◌<◌, ◌≤◌, ◌⊎◌, ◌==◌, true, List, [], ◌∷◌, length, Option, None, Some, slice_index_or, refl}
use Rattle.std.proofs.Common.{sym, ap, subst, arith, inl, inr, if◌then◌else◌, length-append}
use Rattle.std.proofs.lemmas.Bool.{and_from, eq-eqb}
use Rattle.rotating_pick.specs.declared.kinds.Kind.TheVariants.{Uni}
use Rattle.rotating_pick.specs.declared.limits.TheConstants.{LEVELS}
use Rattle.slot_match.specs.declared.matching.Fed.{Fed}
use Rattle.slot_match.specs.declared.matching.Served.{Served}
use Rattle.slot_match.specs.Matches.{fed_of, Serves, IsMatch, IsMaximal}
use Rattle.slot_match.specs.Parts.{served_of}
use Rattle.slot_match.specs.Rows.{Names, row_of}
use Rattle.slot_match.proofs.Pairs.{Serves-along, Serves-from, fed_of-lt}
use Rattle.slot_match.proofs.ServedParts.{served_of-served, served_of-is, served_of-none}
use Rattle.multicast_queue.specs.FanQueues.{FanCell}
use Rattle.eslip_rounds.specs.Schedulers.{Scheduler, IsScheduler, StayAtPorts}
use Rattle.maximal_matches.proofs.MaximalSlots.{slot_maximal}
use Rattle.slot_histories.specs.Slots.{slot_rows, places_under, decision_under}
use Rattle.slot_histories.specs.Tests.{gives}
use Rattle.slot_histories.proofs.KeepingTests.{Decides-gives}
use Rattle.slot_histories.proofs.PostedRows.{row_of-slot_rows}
use Rattle.slot_histories.proofs.SoundDecisions.{places_under-at_ports}
use Rattle.card_core.specs.Plans.{OfOutput}
use Rattle.card_core.specs.Queues.{Passed, waiting, before, queue_in, after_part_of}
use Rattle.card_core.specs.Posts.{has_cells}
use Rattle.card_core.specs.Grants.{serves, first_of, granted_to}
use Rattle.card_core.proofs.Accepting.{uni-in, uni-from}
use Rattle.card_core.proofs.CellCounts.{one_first}
use Rattle.card_core.proofs.Granting.{all_granted}
use Rattle.switch_plan.specs.GoodPlans.{SwitchPlan, IsGood}
use Rattle.run_laws.specs.Runs.{ports_of, setup_for, card_at, parts_under, posts_under}
use Rattle.run_laws.proofs.Base.{served-at, queue_in-same, granted_to-same, good-card, within, sound, is-slot, servable, pair-named}
use Rattle.arrival_bounds.specs.Counts.{Counts, of_input, for_output}
use Rattle.arrival_bounds.proofs.Lines.{line-less}
use Rattle.arrival_bounds.specs.Waits.{IsUnicastRun, came_under, gone_under}
use Rattle.arrival_bounds.proofs.UnicastRuns.{MatchesUnicast, matches_unicast}

abbrev turned : Counts → Counts
turned f = λ i j l t. f j i l t

module _ (scheduler : Scheduler) (plan : SwitchPlan) where
  abbrev gone : Counts
  gone = gone_under scheduler plan

  -- of all queues of an input, and of all for an output
  abbrev gone_at : ℕ → ℕ → ℕ
  gone_at = of_input (ports_of plan) LEVELS gone

  abbrev gone_for : ℕ → ℕ → ℕ
  gone_for = for_output (ports_of plan) LEVELS gone

  -- what slot t grants
  abbrev grant_of : (i j l t : ℕ) → List FanCell
  grant_of i j l t =
      if serves (OfOutput j l) j (slice_index_or (parts_under scheduler plan i (suc t)) t None) then first_of
      (waiting (queue_in (card_at plan i) (OfOutput j l) (parts_under scheduler plan i (suc t)) t)) else []

  gone-more : (i j l t : ℕ) → gone i j l (suc t) ≡ gone i j l t + length (grant_of i j l t)
  gone-more i j l t =
      length-append (granted_to (card_at plan i) (OfOutput j l) j (parts_under scheduler plan i (suc t)) t) (grant_of i j l t)
      ∙ ap (λ cells. length cells + length (grant_of i j l t)) (granted_to-same scheduler plan i t (suc t) (omega arith) (OfOutput j l) j)

  pub gone-le : (i j l t : ℕ) → gone i j l t ≤ gone i j l (suc t)
  gone-le i j l t = let more = gone-more i j l t in omega arith

  abbrev matched_in : ℕ → List (Option Fed)
  matched_in t = (decision_under scheduler (setup_for plan) (posts_under scheduler plan) t).matched

-- where no cell waits, none waits after the slot
still_none : (q : _) (s : Passed) (part : Option Served) (w : List FanCell) → w ≡ [] → waiting s ≡ [] → waiting (after_part_of q s part w) ≡ []
still_none q s part [] none is = is
still_none q s part (c ∷ w) none is = absurd (cc)

module _ (scheduler : Scheduler) (scheduling : IsScheduler scheduler) (plan : SwitchPlan) (good : IsGood plan) where
  given : (t i j level : ℕ) → Serves (matched_in scheduler plan t) i j level Uni
      → gives (slice_index_or (parts_under scheduler plan i (suc t)) t None) j level Uni ≡ true
  given t i j level pair =
      let matched = matched_in scheduler plan t in
      let found = served_of-served (ports_of plan) matched (sound scheduler scheduling plan good t).matches i j level Uni pair in
      let part = found.0 in
      let alike = found.2.only j level Uni pair in
      let member = (found.2.outputs j).1 (Serves-along matched i j level part.level Uni part.kind alike.0 alike.1 pair) in
      ap (λ served. gives served j level Uni) (served-at scheduler plan i t (suc t) (omega arith) ∙ found.1)
      ∙ (Decides-gives (Some part) j level Uni).1 (member, alike.0, alike.1)

  waits : (t i j level : ℕ) → i < ports_of plan → Serves (matched_in scheduler plan t) i j level Uni
      → has_cells (waiting (queue_in (card_at plan i) (OfOutput j level) (parts_under scheduler plan i (suc t)) t)) ≡ true
  waits t i j level inside pair =
      let named = pair-named scheduler (setup_for plan) (posts_under scheduler plan) t (sound scheduler scheduling plan good t)
      (is-slot scheduler scheduling plan good t) i j level Uni inside pair in
      ap (λ s. has_cells (waiting s)) (queue_in-same scheduler plan i t (suc t) (omega arith) (OfOutput j level))
      ∙ (uni-in (card_at plan i) (good-card plan good i inside).good (parts_under scheduler plan i t) t level j named).2

  -- a unicast pair takes a cell
  pub pair_takes : (t i j level : ℕ) → i < ports_of plan → Serves (matched_in scheduler plan t) i j level Uni
      → gone scheduler plan i j level t + 1 ≤ gone scheduler plan i j level (suc t)
  pair_takes t i j level inside pair =
      let more = gone-more scheduler plan i j level t in
      let served = and_from (j == j) (gives (slice_index_or (parts_under scheduler plan i (suc t)) t None) j level Uni) (eq-eqb j j refl)
      (given t i j level pair) in
      let one = one_first (serves (OfOutput j level) j (slice_index_or (parts_under scheduler plan i (suc t)) t None))
      (waiting (queue_in (card_at plan i) (OfOutput j level) (parts_under scheduler plan i (suc t)) t)) served
      (waits t i j level inside pair) in
      omega arith

  -- the slot is maximal
  maximal : (t : ℕ) → ports_of plan ≤ plan.rounds
      → IsMaximal (ports_of plan) (slot_rows (ports_of plan) (posts_under scheduler plan) t) (matched_in scheduler plan t)
  maximal t enough =
      let n = ports_of plan in
      let posts = posts_under scheduler plan in
      let places = places_under-at_ports scheduler scheduling (setup_for plan) posts t good.size.some good.size.most
      (λ u below. within scheduler scheduling plan good u) t (omega arith) in
      slot_maximal StayAtPorts n plan.rounds t (slot_rows n posts t) (places_under scheduler (setup_for plan) posts t)
      (decision_under scheduler (setup_for plan) posts t) (within scheduler scheduling plan good t) places.0 places.1
      (is-slot scheduler scheduling plan good t) enough

  -- where a cell is left, one waited
  one_waits : (i j l t : ℕ) → i < ports_of plan → gone scheduler plan i j l (suc t) < came_under scheduler plan i j l (suc t)
      → has_cells (waiting (queue_in (card_at plan i) (OfOutput j l) (parts_under scheduler plan i t) t)) ≡ true
  one_waits i j l t inside left = go (waiting (queue_in (card_at plan i) (OfOutput j l) (parts_under scheduler plan i t) t)) refl where
    go : (w : List FanCell) → waiting (queue_in (card_at plan i) (OfOutput j l) (parts_under scheduler plan i t) t) ≡ w → has_cells w ≡ true
    go (c ∷ w) is = refl
    go [] is =
        let parts = parts_under scheduler plan i (suc t) in
        let s = queue_in (card_at plan i) (OfOutput j l) parts t in
        let none : waiting s ≡ [] = ap waiting (queue_in-same scheduler plan i t (suc t) (omega arith) (OfOutput j l)) ∙ is in
        let empty : waiting (before (card_at plan i) (OfOutput j l) parts (suc t)) ≡ [] =
        still_none (OfOutput j l) s (slice_index_or parts t None) (waiting s) none none in
        let all = all_granted (card_at plan i) (good-card plan good i inside).good parts (OfOutput j l) j (suc t)
        (λ u below. servable scheduler scheduling plan good i u (suc t) inside below) empty in
        let same = ap length all in
        absurd (omega arith)

module _ (scheduler : Scheduler) (plan : SwitchPlan) (run : IsUnicastRun scheduler plan) where
  pub slot_takes : (i j l t : ℕ) → i < ports_of plan → j < ports_of plan → l < LEVELS
      → gone scheduler plan i j l (suc t) < came_under scheduler plan i j l (suc t)
      → (gone_at scheduler plan i t < gone_at scheduler plan i (suc t))
      ⊎ (gone_for scheduler plan j t < gone_for scheduler plan j (suc t))
  slot_takes i j l t i_in j_in l_in left = by_output (fed_of (matched_in scheduler plan t) j) refl where
    unicast : MatchesUnicast scheduler plan
    unicast = matches_unicast scheduler run.scheduling plan run.good run.unicast

    whole : IsMatch (ports_of plan) (matched_in scheduler plan t)
    whole = (sound scheduler run.scheduling plan run.good t).matches

    row_gains : (k level : ℕ) → Serves (matched_in scheduler plan t) i k level Uni
        → gone_at scheduler plan i t < gone_at scheduler plan i (suc t)
    row_gains k level pair =
        let there = fed_of-lt (matched_in scheduler plan t) k (record { input = i; level = level; kind = Uni }) pair in
        let count = (sound scheduler run.scheduling plan run.good t).matches.count in
        let takes = pair_takes scheduler run.scheduling plan run.good t i k level i_in pair in
        let less = line-less (ports_of plan) LEVELS (gone scheduler plan) (gone scheduler plan) i t (suc t)
        (record {
          output = k;
          level = level;
          output_in = omega arith;
          level_in = (sound scheduler run.scheduling plan run.good t).matches.level_in i k level Uni pair;
          more = omega arith;
        })
        (λ y m y_in m_in. gone-le scheduler plan i y m t) in
        omega arith

    column_gains : (x level : ℕ) → Serves (matched_in scheduler plan t) x j level Uni
        → gone_for scheduler plan j t < gone_for scheduler plan j (suc t)
    column_gains x level pair =
        let inside = (sound scheduler run.scheduling plan run.good t).matches.input_in x j level Uni pair in
        let takes = pair_takes scheduler run.scheduling plan run.good t x j level inside pair in
        let less = line-less (ports_of plan) LEVELS (turned (gone scheduler plan)) (turned (gone scheduler plan)) j t (suc t)
        (record {
          output = x;
          level = level;
          output_in = inside;
          level_in = (sound scheduler run.scheduling plan run.good t).matches.level_in x j level Uni pair;
          more = omega arith;
        })
        (λ y m y_in m_in. gone-le scheduler plan y j m t) in
        omega arith

    by_input : (part : Option Served) → served_of (matched_in scheduler plan t) i ≡ part → fed_of (matched_in scheduler plan t) j ≡ None
        → (gone_at scheduler plan i t < gone_at scheduler plan i (suc t))
        ⊎ (gone_for scheduler plan j t < gone_for scheduler plan j (suc t))
    by_input None e vacant =
        let card = good-card plan run.good i i_in in
        let ports = card.ports in
        let waits = one_waits scheduler run.scheduling plan run.good i j l t i_in left in
        let named = uni-from (card_at plan i) card.good (parts_under scheduler plan i t) t l j l_in (omega arith) waits in
        let named' : Names (row_of (slot_rows (ports_of plan) (posts_under scheduler plan) t) i) l Uni j =
        subst (λ row. Names row l Uni j) (sym (row_of-slot_rows (ports_of plan) (posts_under scheduler plan) t i i_in)) named in
        let free = (maximal scheduler run.scheduling plan run.good t run.rounds).free in
        absurd (free i j l Uni i_in j_in (served_of-none (ports_of plan) (matched_in scheduler plan t) whole i e) vacant named')
    by_input (Some part) e vacant =
        let served = served_of-is (ports_of plan) (matched_in scheduler plan t) (sound scheduler run.scheduling plan run.good t).matches i part e in
        let pair = (served.outputs served.some.0).0 served.some.1 in
        let uni = unicast i served.some.0 part.level t part.kind pair in
        inl (row_gains served.some.0 part.level (Serves-along (matched_in scheduler plan t) i served.some.0 part.level part.level part.kind Uni refl uni pair))

    by_output : (o : Option Fed) → fed_of (matched_in scheduler plan t) j ≡ o
        → (gone_at scheduler plan i t < gone_at scheduler plan i (suc t))
        ⊎ (gone_for scheduler plan j t < gone_for scheduler plan j (suc t))
    by_output None e = by_input (served_of (matched_in scheduler plan t) i) refl e
    by_output (Some fed) e =
        let pair = Serves-from (matched_in scheduler plan t) j fed e in
        let uni = unicast fed.input j fed.level t fed.kind pair in
        inr (column_gains fed.input fed.level (Serves-along (matched_in scheduler plan t) fed.input j fed.level fed.level fed.kind Uni refl uni pair))
