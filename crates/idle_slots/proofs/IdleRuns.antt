-- Slots of a run in which no input asks and no packet arrives.
use Rattle.std.proofs.Common.{◌≡◌, ◌∙◌, ℕ, zero, suc, ◌+◌, ◌-◌, ◌<◌, ◌≤◌, ◌++◌, List, [], ◌∷◌, map, replicate, Option, None, refl, sym, ap}
use Rattle.std.proofs.Common.{subst, arith, inl, inr, append_assoc, slice_index_or}
use Rattle.std.specs.List.{range_with_len}
use Rattle.std.specs.Option.{option_map}
use Rattle.std.proofs.lemmas.Bool.{cases_eq}
use Rattle.std.proofs.lemmas.List.{ext_get_or, get_or-replicate, length-replicate, append-nil, replicate_more}
use Rattle.std.proofs.lemmas.List.FromFn.{length-map-range_with_len, get_or-map-range_with_len}
use Rattle.slot_match.specs.declared.rows.Row.{Row}
use Rattle.slot_match.specs.declared.matching.Fed.{Fed}
use Rattle.slot_match.specs.declared.matching.Served.{Served}
use Rattle.slot_match.specs.Rows.{IsEmptyRow, empty_row, no_row}
use Rattle.slot_match.specs.Matches.{unmatched}
use Rattle.slot_match.specs.Parts.{first_from, outputs_of, served_of}
use Rattle.pointer_state.specs.Places.{Places, AreAtPorts}
use Rattle.eslip_rounds.specs.Slots.{Decision}
use Rattle.eslip_rounds.specs.Schedulers.{Scheduler, IsScheduler}
use Rattle.slot_histories.proofs.SoundDecisions.{places_under-at_ports}
use Rattle.card_core.specs.Plans.{Queue}
use Rattle.card_core.specs.Queues.{waiting, before as queue_before}
use Rattle.card_core.specs.Posts.{row_at, granted_by}
use Rattle.switch_plan.specs.GoodPlans.{SwitchPlan, IsGood}
use Rattle.run_laws.specs.Runs.{ports_of, setup_for, card_at, decision_in, before_under, parts_under, posts_under}
use Rattle.run_laws.proofs.Base.{good-card, within, places-same, decision-same, served-at, before-same, queue_in-same}
use Rattle.idle_slots.specs.Quiet.{empty_rows, nothing_decided, IsQuiet}
use Rattle.idle_slots.specs.Idle.{IsIdle, NoneArrive, queue_under, AreIdle}
use Rattle.idle_slots.proofs.QuietRounds.{none_named}
use Rattle.idle_slots.proofs.StillQueues.{none_arrives, IsStill, all_empty, row_none, in_same, still_after, still_same}

-- a match of nothing serves no port
first_none : (i n : ℕ) → first_from i (unmatched n) ≡ None
first_none i zero = refl
first_none i (suc n) = first_none i n

pub served_none : (n i : ℕ) → served_of (unmatched n) i ≡ None
unfolding served_of
served_none n i =
    let part : Fed → Served = λ fed. record { outputs = outputs_of (unmatched n) i; level = fed.level; kind = fed.kind } in
    ap (option_map part) (first_none i n)

module _ (scheduler : Scheduler) (scheduling : IsScheduler scheduler) (quiet : IsQuiet scheduler) (plan : SwitchPlan) (good : IsGood plan) where
  -- ---- a slot in which no input asks
  at_ports : (t : ℕ) → AreAtPorts (before_under scheduler plan t).places × ((before_under scheduler plan t).places.ports ≡ ports_of plan)
  at_ports t =
      subst (λ (places : Places). AreAtPorts places × (places.ports ≡ ports_of plan)) (sym (places-same scheduler plan t))
      (places_under-at_ports scheduler scheduling (setup_for plan) (posts_under scheduler plan) t good.size.some good.size.most
      (λ u below. within scheduler scheduling plan good u) t (omega arith))

  idle_decision : (t : ℕ) → IsIdle scheduler plan t
      → decision_in scheduler plan (before_under scheduler plan t) t ≡ nothing_decided (ports_of plan) (before_under scheduler plan t).places
  idle_decision t idle =
      let places = (before_under scheduler plan t).places in
      ap (λ rows. scheduler (ports_of plan) plan.rounds t rows places) idle
      ∙ quiet (ports_of plan) plan.rounds t places (at_ports t).0 (at_ports t).1

  idle_row : (i t : ℕ) → i < ports_of plan → IsIdle scheduler plan t → row_at (card_at plan i) (parts_under scheduler plan i t) t ≡ empty_row
  idle_row i t inside idle =
      sym (get_or-map-range_with_len (λ j. row_at (card_at plan j) (parts_under scheduler plan j t) t) 0 (ports_of plan) i i no_row inside (omega arith))
      ∙ (ap (λ rows. slice_index_or rows i no_row) idle ∙ get_or-replicate (ports_of plan) i empty_row no_row inside)

  idle_from : (t : ℕ) → ((i : ℕ) → i < ports_of plan → row_at (card_at plan i) (parts_under scheduler plan i t) t ≡ empty_row) → IsIdle scheduler plan t
  idle_from t rows =
      let row : ℕ → Row = λ i. row_at (card_at plan i) (parts_under scheduler plan i t) t in
      let long = length-map-range_with_len row 0 (ports_of plan) in
      ext_get_or no_row (map row (range_with_len 0 (ports_of plan))) (empty_rows (ports_of plan)) (long ∙ sym (length-replicate (ports_of plan) empty_row))
      (λ i below.
      let inside : i < ports_of plan = omega arith in
      get_or-map-range_with_len row 0 (ports_of plan) i i no_row inside (omega arith)
      ∙ (rows i inside ∙ sym (get_or-replicate (ports_of plan) i empty_row no_row inside)))

  idle_queue : (i t : ℕ) (q : Queue) → i < ports_of plan → IsIdle scheduler plan t → IsStill (queue_under scheduler plan i q (suc t))
  idle_queue i t q inside idle =
      let card = card_at plan i in
      let none : IsEmptyRow (row_at card (parts_under scheduler plan i t) t) = subst IsEmptyRow (sym (idle_row i t inside idle)) none_named in
      still_after card q (parts_under scheduler plan i (suc t)) t
      (ap waiting (queue_in-same scheduler plan i t (suc t) (omega arith) q)
      ∙ all_empty card (good-card plan good i inside).good (parts_under scheduler plan i t) t none q)

  -- ---- the slots after it
  module _ (t u : ℕ) (some : t < u) (idle : IsIdle scheduler plan t) (none : NoneArrive plan (t + 1) u) where
    same_queue : (i s : ℕ) (q : Queue) → i < ports_of plan → t < s → s ≤ u → queue_under scheduler plan i q s ≡ queue_under scheduler plan i q (suc t)
    same_queue i zero q inside after until = absurd (omega arith)
    same_queue i (suc s) q inside after until =
        elim (cases_eq s t) [
          | inl now ↦ ap (λ k. queue_under scheduler plan i q (suc k)) now
          | inr later ↦
              let card = card_at plan i in
              let parts = parts_under scheduler plan i (suc s) in
              let same = before-same scheduler plan i s (suc s) (omega arith) q in
              let earlier = same_queue i s q inside (omega arith) (omega arith) in
              let still : IsStill (queue_before card q parts s) = subst IsStill (sym (same ∙ earlier)) (idle_queue i t q inside idle) in
              still_same card q parts s (none_arrives card (t + 1) u s (none i inside) (omega arith) (omega arith)) still ∙ (same ∙ earlier)
        ]

    later_row : (i s : ℕ) → i < ports_of plan → t < s → s < u → row_at (card_at plan i) (parts_under scheduler plan i s) s ≡ empty_row
    later_row i s inside after until =
        let card = card_at plan i in
        let parts = parts_under scheduler plan i s in
        let arrives = none_arrives card (t + 1) u s (none i inside) (omega arith) (omega arith) in
        row_none card parts s (λ q.
        ap waiting (in_same card q parts s arrives ∙ same_queue i s q inside after (omega arith))
        ∙ (idle_queue i t q inside idle).empty)

    idle_later : (s : ℕ) → t ≤ s → s < u → IsIdle scheduler plan s
    idle_later s from until =
        elim (cases_eq s t) [
          | inl now ↦ subst (IsIdle scheduler plan) (sym now) idle
          | inr later ↦ idle_from s (λ i inside. later_row i s inside (omega arith) until)
        ]

    same_places : (s : ℕ) → t ≤ s → s ≤ u → (before_under scheduler plan s).places ≡ (before_under scheduler plan t).places
    unfolding before_under
    same_places zero from until = let now : 0 ≡ t = omega arith in ap (λ k. (before_under scheduler plan k).places) now
    same_places (suc s) from until =
        elim (cases_eq (suc s) t) [
          | inl now ↦ ap (λ k. (before_under scheduler plan k).places) now
          | inr later ↦ ap (λ (d : Decision). d.places) (idle_decision s (idle_later s (omega arith) (omega arith))) ∙ same_places s (omega arith) (omega arith)
        ]

    no_part : (i s : ℕ) → t ≤ s → s < u → served_of (decision_in scheduler plan (before_under scheduler plan s) s).matched i ≡ None
    no_part i s from until =
        ap (λ (d : Decision). served_of d.matched i) (idle_decision s (idle_later s from until)) ∙ served_none (ports_of plan) i

    same_parts : (i s : ℕ) → t ≤ s → s ≤ u → parts_under scheduler plan i s ≡ parts_under scheduler plan i t ++ replicate (s - t) None
    unfolding before_under
    same_parts i zero from until =
        let now : t ≡ 0 = omega arith in
        let count : 0 - t ≡ 0 = omega arith in
        let parts : List (Option Served) = parts_under scheduler plan i t in
        let nothing : Option Served = None in
        ap (λ k. parts_under scheduler plan i k) (sym now) ∙ (sym (append-nil parts) ∙ ap (λ k. parts ++ replicate k nothing) (sym count))
    same_parts i (suc s) from until =
        let parts : List (Option Served) = parts_under scheduler plan i t in
        let nothing : Option Served = None in
        elim (cases_eq (suc s) t) [
          | inl now ↦
              let count : suc s - t ≡ 0 = omega arith in
              ap (λ k. parts_under scheduler plan i k) now ∙ (sym (append-nil parts) ∙ ap (λ k. parts ++ replicate k nothing) (sym count))
          | inr later ↦
              let count : s - t + 1 ≡ suc s - t = omega arith in
              ap (λ part. parts_under scheduler plan i s ++ part ∷ []) (no_part i s (omega arith) (omega arith))
              ∙ (ap (λ before. before ++ nothing ∷ []) (same_parts i s (omega arith) (omega arith))
              ∙ (append_assoc parts (replicate (s - t) nothing) (nothing ∷ [])
              ∙ (ap (λ more. parts ++ more) (replicate_more (s - t) nothing) ∙ ap (λ k. parts ++ replicate k nothing) count)))
        ]

    no_cell : (i s : ℕ) → t < s → s ≤ u → (posts_under scheduler plan i s).cell ≡ None
    no_cell i zero after until = absurd (omega arith)
    no_cell i (suc s) after until =
        let card = card_at plan i in
        let parts = parts_under scheduler plan i (suc s) in
        let part : slice_index_or parts s None ≡ None =
        served-at scheduler plan i s (suc s) (omega arith)
        ∙ (ap (λ (d : Decision). served_of d.matched i) (sym (decision-same scheduler plan s)) ∙ no_part i s (omega arith) (omega arith)) in
        ap (granted_by card parts s) part

    pub idle_slots : AreIdle scheduler plan t u
    idle_slots = record {
      rows = idle_later;
      decisions = λ s from until. idle_decision s (idle_later s from until)
          ∙ ap (nothing_decided (ports_of plan)) (same_places s from (omega arith));
      pointers = same_places;
      parts = same_parts;
      cells = no_cell;
      queues = λ i s q inside after until. let next : suc t ≡ t + 1 = omega arith in
          same_queue i s q inside after until ∙ ap (λ k. queue_under scheduler plan i q k) next;
    }
