-- The slots of a gap: nothing waits in them, and nothing crosses in the slots after them.
use Rattle.std.proofs.Common.{◌≡◌, ◌∙◌, ℕ, zero, suc, ◌+◌, ◌-◌, ◌<◌, ◌≤◌, ◌&&◌, not, Bool, List, [], ◌∷◌, ◌++◌, All, map, take, drop, length}
use Rattle.std.proofs.Common.{None, refl, sym, ap, subst, arith, inl, inr, slice_index, slice_index_or}
use Rattle.std.specs.Prelude.{replicate}
use Rattle.std.specs.Int.{bit_at}
use Rattle.std.specs.List.{flat_map, range_with_len}
use Rattle.std.specs.Option.{option_to_list}
use Rattle.std.proofs.lemmas.Bool.{cases_lt, ne_eqb}
use Rattle.std.proofs.lemmas.List.{append-nil, get_or-drop, get_or-replicate, get_or_past, length-drop, length-replicate, take-append-drop}
use Rattle.std.proofs.lemmas.List.Concat.{flat_map-append}
use Rattle.std.proofs.lemmas.List.FromFn.{get_or-map-range_with_len, length-map-range_with_len, take-map-range_with_len}
use Rattle.std.proofs.lemmas.Simd.{map-map}
use Rattle.std_lemmas.proofs.Ranges.{range_more}
use Rattle.rotating_pick.specs.PortSets.{Has}
use Rattle.rotating_pick.specs.declared.kinds.Kind.TheVariants.{Uni}
use Rattle.rotating_pick.proofs.Bits.{no_member-zero}
use Rattle.cell_cutter.specs.declared.cell.Cell.{Cell}
use Rattle.slot_match.specs.declared.rows.Row.{Row}
use Rattle.slot_match.specs.Rows.{sets_of, row_of, empty_row, no_row}
use Rattle.slot_match.specs.Matches.{fed_of}
use Rattle.slot_match.proofs.Kept.{fed_of-unmatched}
use Rattle.eslip_rounds.specs.Slots.{Decision}
use Rattle.eslip_rounds.specs.Schedulers.{Scheduler}
use Rattle.eslip_rounds.specs.Decisions.{is_named, is_fed}
use Rattle.crossbar.specs.declared.cards.Post.{Post as CardPost}
use Rattle.slot_histories.specs.Slots.{slot_rows, decision_under, crossed_under}
use Rattle.service_bound.specs.Waits.{NotedSlot, noted_of, NoneWaits}
use Rattle.slot_board.specs.Schedules.{decided_under}
use Rattle.switch_plan.specs.GoodPlans.{SwitchPlan}
use Rattle.run_laws.specs.Runs.{ports_of, setup_for, posts_under}
use Rattle.run_laws.specs.Crossings.{cells_under}
use Rattle.run_laws.specs.Sums.{schedule_under}
use Rattle.run_laws.proofs.Base.{decision-same}
use Rattle.run_laws.proofs.Crossed.{crossed-free}
use Rattle.idle_slots.specs.Quiet.{empty_rows}
use Rattle.idle_slots.specs.Idle.{AreIdle}

-- rows of which none names an output
pub zeros_at : (k level : ℕ) → slice_index (replicate k 0) level ≡ 0
zeros_at zero level = refl
zeros_at (suc k) zero = refl
zeros_at (suc k) (suc level) = zeros_at k level

none_asked : (n i level : ℕ) → slice_index (sets_of (row_of (empty_rows n) i) Uni) level ≡ 0
none_asked n i level =
    elim (cases_lt i n) [
      | inl below ↦ ap (λ (row : Row). slice_index (sets_of row Uni) level) (get_or-replicate n i empty_row no_row below) ∙ zeros_at 4 level
      | inr above ↦
          let long = length-replicate n empty_row in
          ap (λ (row : Row). slice_index (sets_of row Uni) level) (get_or_past (empty_rows n) i no_row (omega arith))
    ]

module _ (scheduler : Scheduler) (plan : SwitchPlan) (t u : ℕ) (still : AreIdle scheduler plan t u) where
  pub none_waits : (s : ℕ) → t ≤ s → s < u → NoneWaits (noted_of (decided_under scheduler (setup_for plan) (posts_under scheduler plan) s))
  none_waits s from until i j level =
      let n = ports_of plan in
      let slot = decided_under scheduler (setup_for plan) (posts_under scheduler plan) s in
      let unfed : Bool = not (is_fed i level Uni (fed_of slot.decision.matched j)) in
      let rows : slot_rows n (posts_under scheduler plan) s ≡ empty_rows n =
      map-map (λ (post : CardPost). post.row) (λ k. posts_under scheduler plan k s) (range_with_len 0 n) ∙ still.rows s from until in
      let asks : Has (slice_index (sets_of (row_of (empty_rows n) i) Uni) level) j → ⊥ =
      λ has. no_member-zero j (subst (λ ports. Has ports j) (none_asked n i level) has) in
      ap (λ (all : List Row). is_named (row_of all i) level Uni j && unfed) rows
      ∙ ap (λ named. named && unfed) (ne_eqb (bit_at (slice_index (sets_of (row_of (empty_rows n) i) Uni) level) j) 1 asks)

  -- ---- the slots as they are noted
  abbrev noted_at : ℕ → NotedSlot
  noted_at s = noted_of (decided_under scheduler (setup_for plan) (posts_under scheduler plan) s)

  abbrev noted_to : ℕ → List NotedSlot
  noted_to slots = map noted_at (range_with_len 0 slots)

  schedule_is : (slots : ℕ) → map noted_of (schedule_under scheduler plan slots) ≡ noted_to slots
  schedule_is slots = map-map noted_of (decided_under scheduler (setup_for plan) (posts_under scheduler plan)) (range_with_len 0 slots)

  -- those of the gap, from slot `first` on
  abbrev pub gap : ℕ → List NotedSlot
  gap first = drop first (map noted_of (schedule_under scheduler plan u))

  pub length-gap : (first : ℕ) → length (gap first) ≡ u - first
  length-gap first = length-drop first (map noted_of (schedule_under scheduler plan u))
      ∙ ap (λ n. n - first) (ap length (schedule_is u) ∙ length-map-range_with_len noted_at 0 u)

  pub gap-waits : (first : ℕ) → t ≤ first → All NoneWaits (gap first)
  gap-waits first from k d inside =
      let long = length-gap first in
      let at : slice_index_or (gap first) k d ≡ noted_at (first + k) =
      get_or-drop first (map noted_of (schedule_under scheduler plan u)) k d
      ∙ (ap (λ slots. slice_index_or slots (first + k) d) (schedule_is u)
      ∙ get_or-map-range_with_len noted_at 0 u (first + k) (first + k) d (omega arith) (omega arith)) in
      subst NoneWaits (sym at) (none_waits (first + k) (omega arith) (omega arith))

  pub gap-more : (first : ℕ) → first ≤ u → map noted_of (schedule_under scheduler plan first) ++ gap first ≡ map noted_of (schedule_under scheduler plan u)
  gap-more first below =
      let front : take first (map noted_of (schedule_under scheduler plan u)) ≡ map noted_of (schedule_under scheduler plan first) =
      ap (take first) (schedule_is u) ∙ (take-map-range_with_len noted_at 0 u first below ∙ sym (schedule_is first)) in
      ap (λ slots. slots ++ gap first) (sym front) ∙ take-append-drop first (map noted_of (schedule_under scheduler plan u))

  -- ---- nothing crosses in the slot after one of the gap
  pub none-crosses : (j s : ℕ) → t ≤ s → s < u → cells_under scheduler plan j (s + 1 + 1) ≡ cells_under scheduler plan j (s + 1)
  none-crosses j s from until =
      let crossed : ℕ → List Cell = λ k. option_to_list (crossed_under scheduler (setup_for plan) (posts_under scheduler plan) j k) in
      let free : fed_of (decision_under scheduler (setup_for plan) (posts_under scheduler plan) s).matched j ≡ None =
      ap (λ (d : Decision). fed_of d.matched j) (sym (decision-same scheduler plan s) ∙ still.decisions s from until) ∙ fed_of-unmatched (ports_of plan) j in
      let next : suc s ≡ s + 1 = omega arith in
      let last : crossed (s + 1) ≡ [] = ap crossed (sym next) ∙ ap option_to_list (crossed-free scheduler plan j s free) in
      ap (flat_map crossed) (range_more (s + 1))
      ∙ (flat_map-append crossed (range_with_len 0 (s + 1)) ((s + 1) ∷ [])
      ∙ (ap (λ cells. flat_map crossed (range_with_len 0 (s + 1)) ++ (cells ++ [])) last ∙ append-nil (flat_map crossed (range_with_len 0 (s + 1)))))
