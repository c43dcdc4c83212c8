-- Idle slots add nothing to what a run has done.
use Rattle.std.proofs.Common.{◌≡◌, ◌∙◌, ℕ, zero, suc, ◌+◌, ◌<◌, ◌≤◌, ◌&&◌, not, Bool, true, false, List, [], ◌∷◌, ◌++◌, map, max, Option, None, Some}
use Rattle.std.proofs.Common.{refl, sym, ap, arith, inl, inr, slice_index, slice_index_or}
use Rattle.std.specs.Int.{bit_at}
use Rattle.std.specs.List.{flat_map, range_with_len}
use Rattle.std.specs.Option.{option_to_list}
use Rattle.std.proofs.lemmas.Bool.{cases_eq, ne_eqb}
use Rattle.std.proofs.lemmas.List.{append-nil, map-append}
use Rattle.std.proofs.lemmas.List.Concat.{flat_map-append}
use Rattle.std.proofs.lemmas.List.FromFn.{map-range_with_len_more}
use Rattle.std.proofs.lemmas.Simd.{map-map}
use Rattle.std_lemmas.proofs.Ranges.{range_more}
use Rattle.rotating_pick.specs.declared.kinds.Kind.TheVariants.{Uni}
use Rattle.cell_cutter.specs.declared.cell.Cell.{Cell}
use Rattle.slot_match.specs.declared.rows.Row.{Row}
use Rattle.slot_match.specs.declared.matching.Served.{Served}
use Rattle.slot_match.specs.Rows.{sets_of, row_of}
use Rattle.slot_match.specs.Matches.{fed_of}
use Rattle.slot_match.proofs.Kept.{fed_of-unmatched}
use Rattle.eslip_rounds.specs.Slots.{Decision}
use Rattle.eslip_rounds.specs.Schedulers.{Scheduler, IsScheduler}
use Rattle.eslip_rounds.specs.Decisions.{is_named, is_fed}
use Rattle.service_bound.specs.Waits.{NotedSlot, noted_of, is_waiting, NoneWaits, wait_in, waits_from, greatest, longest_wait}
use Rattle.crossbar.specs.declared.cards.Post.{Post as CardPost}
use Rattle.slot_histories.specs.Slots.{slot_rows, decision_under, crossed_under}
use Rattle.slot_board.specs.Schedules.{decided_under}
use Rattle.card_core.specs.declared.plan.Planned.{Planned}
use Rattle.card_core.specs.Plans.{Plan, queue_of, arriving}
use Rattle.card_core.specs.Queues.{fits, counted, count_in, count_before}
use Rattle.switch_plan.specs.GoodPlans.{SwitchPlan, IsGood}
use Rattle.run_laws.specs.Runs.{ports_of, setup_for, card_at, before_under, parts_under, posts_under}
use Rattle.run_laws.specs.Crossings.{cells_under}
use Rattle.run_laws.specs.Sums.{schedule_under}
use Rattle.run_laws.proofs.SameParts.{before-alike}
use Rattle.run_laws.proofs.Base.{decision-same, served-at}
use Rattle.run_laws.proofs.Crossed.{crossed-free}
use Rattle.idle_slots.specs.Quiet.{empty_rows, nothing_decided, IsQuiet}
use Rattle.idle_slots.specs.Idle.{IsIdle, NoneArrive, AreIdle}
use Rattle.idle_slots.specs.Skipped.{longest_before, AreAsAfter}
use Rattle.idle_slots.proofs.QuietRounds.{none_asks}
use Rattle.idle_slots.proofs.StillQueues.{none_arrives}
use Rattle.idle_slots.proofs.IdleRuns.{idle_slots}

-- what no slot after slot t changes
along : {X : Type 0} (f : ℕ → X) (t u : ℕ) → ((s : ℕ) → t < s → s < u → f (suc s) ≡ f s) → (s : ℕ) → t < s → s ≤ u → f s ≡ f (suc t)
along f t u step zero after until = absurd (omega arith)
along f t u step (suc s) after until =
    elim (cases_eq s t) [
      | inl now ↦ ap (λ k. f (suc k)) now
      | inr later ↦ step s (omega arith) (omega arith) ∙ along f t u step s (omega arith) (omega arith)
    ]

-- ---- the longest wait
waits_more : (before : ℕ) (slots : List NotedSlot) (slot : NotedSlot) (i j level : ℕ) → is_waiting slot i j level ≡ false
    → greatest (waits_from before (slots ++ slot ∷ []) i j level) ≡ greatest (waits_from before slots i j level)
waits_more before [] slot i j level none = let here : wait_in slot before i j level ≡ 0 = rw none refl in omega arith
waits_more before (first ∷ slots) slot i j level none =
    ap (max (wait_in first before i j level)) (waits_more (wait_in first before i j level) slots slot i j level none)

greatest-append : (xs ys : List ℕ) → greatest (xs ++ ys) ≡ max (greatest xs) (greatest ys)
greatest-append [] ys = omega arith
greatest-append (x ∷ xs) ys = let tail = greatest-append xs ys in omega arith

greatest-same : (f g : ℕ → List ℕ) (xs : List ℕ) → ((x : ℕ) → greatest (f x) ≡ greatest (g x)) → greatest (flat_map f xs) ≡ greatest (flat_map g xs)
greatest-same f g [] same = refl
greatest-same f g (x ∷ xs) same =
    greatest-append (f x) (flat_map f xs)
    ∙ (ap (λ most. max most (greatest (flat_map f xs))) (same x)
    ∙ (ap (max (greatest (g x))) (greatest-same f g xs same) ∙ sym (greatest-append (g x) (flat_map g xs))))

longest_more : (n level : ℕ) (slots : List NotedSlot) (slot : NotedSlot) → NoneWaits slot
    → longest_wait n level (slots ++ slot ∷ []) ≡ longest_wait n level slots
unfolding longest_wait
longest_more n level slots slot none =
    let ports = range_with_len 0 n in
    let waits : List NotedSlot → ℕ → ℕ → List ℕ = λ noted i j. waits_from 0 noted i j level in
    let more = slots ++ slot ∷ [] in
    greatest-same (λ i. flat_map (waits more i) ports) (λ i. flat_map (waits slots i) ports) ports
    (λ i. greatest-same (waits more i) (waits slots i) ports (λ j. waits_more 0 slots slot i j level (none i j level)))

-- ---- packets that were admitted and dropped
module _ (wanted : Bool) (plan : Plan) (these those : List (Option Served)) (k : ℕ)
    (same : (u : ℕ) → u < k → slice_index_or these u None ≡ slice_index_or those u None) where
  in-alike : (t : ℕ) (arrives : Option (ℕ × Planned)) → t ≤ k → count_in wanted plan these t arrives ≡ count_in wanted plan those t arrives
  in-alike t None few = refl
  in-alike t (Some (j, packet)) few =
      ap (λ s. counted wanted packet (fits plan s packet)) (before-alike plan these those k same (queue_of packet) t few)

  counts-alike : (t : ℕ) → t ≤ k → count_before wanted plan these t ≡ count_before wanted plan those t
  counts-alike zero few = refl
  counts-alike (suc t) few =
      ap (λ n. n + count_in wanted plan these t (arriving plan t)) (counts-alike t (omega arith))
      ∙ ap (λ n. count_before wanted plan those t + n) (in-alike t (arriving plan t) (omega arith))

module _ (scheduler : Scheduler) (scheduling : IsScheduler scheduler) (quiet : IsQuiet scheduler) (plan : SwitchPlan) (good : IsGood plan)
    (t u : ℕ) (some : t < u) (idle : IsIdle scheduler plan t) (none : NoneArrive plan (t + 1) u) where
  still : AreIdle scheduler plan t u
  still = idle_slots scheduler scheduling quiet plan good t u some idle none

  -- the decision of a slot as histories have it
  nothing : (s : ℕ) → t ≤ s → s < u
      → decision_under scheduler (setup_for plan) (posts_under scheduler plan) s ≡ nothing_decided (ports_of plan) (before_under scheduler plan t).places
  nothing s from until = sym (decision-same scheduler plan s) ∙ still.decisions s from until

  same_cells : (j s : ℕ) → t < s → s < u → cells_under scheduler plan j (suc s) ≡ cells_under scheduler plan j s
  same_cells j zero after until = absurd (omega arith)
  same_cells j (suc v) after until =
      let s = suc v in
      let next : suc s ≡ s + 1 = omega arith in
      let crossed : ℕ → List Cell = λ k. option_to_list (crossed_under scheduler (setup_for plan) (posts_under scheduler plan) j k) in
      let free : fed_of (decision_under scheduler (setup_for plan) (posts_under scheduler plan) v).matched j ≡ None =
      ap (λ (d : Decision). fed_of d.matched j) (nothing v (omega arith) (omega arith)) ∙ fed_of-unmatched (ports_of plan) j in
      let last : crossed s ≡ [] = ap option_to_list (crossed-free scheduler plan j v free) in
      ap (λ k. flat_map crossed (range_with_len 0 k)) next
      ∙ (ap (flat_map crossed) (range_more s)
      ∙ (flat_map-append crossed (range_with_len 0 s) (s ∷ [])
      ∙ (ap (λ cells. flat_map crossed (range_with_len 0 s) ++ (cells ++ [])) last ∙ append-nil (flat_map crossed (range_with_len 0 s)))))

  same_counts : (wanted : Bool) (i s : ℕ) → i < ports_of plan → t < s → s < u
      → count_before wanted (card_at plan i) (parts_under scheduler plan i (suc s)) (suc s)
      ≡ count_before wanted (card_at plan i) (parts_under scheduler plan i s) s
  same_counts wanted i s inside after until =
      let card = card_at plan i in
      let now = parts_under scheduler plan i (suc s) in
      let arrives = none_arrives card (t + 1) u s (none i inside) (omega arith) (omega arith) in
      let added : count_in wanted card now s (arriving card s) ≡ 0 = ap (count_in wanted card now s) arrives in
      let before = counts-alike wanted card now (parts_under scheduler plan i s) s
      (λ v early. served-at scheduler plan i v (suc s) (omega arith) ∙ sym (served-at scheduler plan i v s early)) s (omega arith) in
      omega arith

  none_waits : (s : ℕ) → t ≤ s → s < u → NoneWaits (noted_of (decided_under scheduler (setup_for plan) (posts_under scheduler plan) s))
  none_waits s from until i j level =
      let n = ports_of plan in
      let slot = decided_under scheduler (setup_for plan) (posts_under scheduler plan) s in
      let fed : Bool = not (is_fed i level Uni (fed_of slot.decision.matched j)) in
      let rows : slot_rows n (posts_under scheduler plan) s ≡ empty_rows n =
      map-map (λ (post : CardPost). post.row) (λ k. posts_under scheduler plan k s) (range_with_len 0 n) ∙ still.rows s from until in
      ap (λ (all : List Row). is_named (row_of all i) level Uni j && fed) rows
      ∙ ap (λ named. named && fed) (ne_eqb (bit_at (slice_index (sets_of (row_of (empty_rows n) i) Uni) level) j) 1 (none_asks n i level j Uni))

  same_waits : (level s : ℕ) → t < s → s < u → longest_before scheduler plan level (suc s) ≡ longest_before scheduler plan level s
  same_waits level s after until =
      let n = ports_of plan in
      let next : suc s ≡ s + 1 = omega arith in
      let slot = decided_under scheduler (setup_for plan) (posts_under scheduler plan) in
      ap (λ k. longest_before scheduler plan level k) next
      ∙ (ap (λ slots. longest_wait n level (map noted_of slots)) (map-range_with_len_more slot 0 s s (omega arith))
      ∙ (ap (longest_wait n level) (map-append noted_of (schedule_under scheduler plan s) (slot s ∷ []))
      ∙ longest_more n level (map noted_of (schedule_under scheduler plan s)) (noted_of (slot s)) (none_waits s (omega arith) until)))

  pub skipped : AreAsAfter scheduler plan (t + 1) u
  skipped =
      let next : suc t ≡ t + 1 = omega arith in
      record {
        cells = λ j. along (cells_under scheduler plan j) t u (same_cells j) u some (omega arith) ∙ ap (cells_under scheduler plan j) next;
        admits = λ i inside.
            let count : ℕ → ℕ = λ s. count_before true (card_at plan i) (parts_under scheduler plan i s) s in
            along count t u (λ s after until. same_counts true i s inside after until) u some (omega arith) ∙ ap count next;
        drops = λ i inside.
            let count : ℕ → ℕ = λ s. count_before false (card_at plan i) (parts_under scheduler plan i s) s in
            along count t u (λ s after until. same_counts false i s inside after until) u some (omega arith) ∙ ap count next;
        waits = λ level. along (longest_before scheduler plan level) t u (same_waits level) u some (omega arith)
            ∙ ap (longest_before scheduler plan level) next;
      }
