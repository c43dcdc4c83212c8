-- The rows of a run are at line rate: at most one packet arrives at a port in a slot, so at most one of its queues begins
-- to ask.
use Rattle.std.proofs.Common.{◌≡◌, ◌∙◌, ℕ, zero, suc, ◌+◌, ◌<◌, ◌&&◌, if◌then◌else◌, Bool, true, false, List, [], ◌∷◌, ◌++◌, map, drop, Option, Some}
use Rattle.std.proofs.Common.{None, refl, sym, ap, subst, arith, append-nil}
use Rattle.std.specs.Prelude.{slice_index_or}
use Rattle.std.specs.List.{range_with_len}
use Rattle.std.proofs.lemmas.Option.{same_Some}
use Rattle.card_core.proofs.Arriving.{coming-else}
use Rattle.rotating_pick.specs.declared.kinds.Kind.TheVariants.{Uni}
use Rattle.slot_match.specs.declared.matching.Served.{Served}
use Rattle.slot_match.specs.Rows.{Names, row_of}
use Rattle.multicast_queue.specs.FanQueues.{FanCell}
use Rattle.voq_banks.specs.CellQueues.{cells_with_fan}
use Rattle.eslip_rounds.specs.Schedulers.{Scheduler}
use Rattle.service_bound.specs.Windows.{GainsAtMostOne, AreAtLineRate}
use Rattle.slot_histories.specs.Slots.{slot_rows}
use Rattle.slot_histories.proofs.PostedRows.{row_of-slot_rows}
use Rattle.slot_board.specs.Schedules.{decided_under}
use Rattle.card_core.specs.declared.plan.Planned.{Planned}
use Rattle.card_core.specs.Plans.{Plan, Queue, OfOutput, IsGoodPlan, is_queue, queue_of, size_of, arriving}
use Rattle.card_core.specs.Queues.{Passed, waiting, is_routed, fits, with_arrival, with_since, after_part_of, queue_in}
use Rattle.card_core.specs.Posts.{has_cells, row_at}
use Rattle.card_core.proofs.Accepting.{uni-in, uni-from}
use Rattle.card_core.proofs.Passing.{is_queue-same}
use Rattle.switch_plan.specs.GoodPlans.{SwitchPlan, IsGood}
use Rattle.run_laws.specs.Runs.{ports_of, setup_for, card_at, parts_under, posts_under}
use Rattle.run_laws.proofs.Base.{good-card, row_at-same}

-- ---- a queue that begins to have cells
none_wait : (cells : List FanCell) → has_cells cells ≡ false → cells ≡ []
none_wait [] is = refl
none_wait (c ∷ cells) is = absurd (cc)

module _ (card : Plan) (q : Queue) where
  -- a queue without cells to which none come has none
  still_none : (s : Passed) (cells : List FanCell) → waiting s ≡ [] → cells ≡ [] → has_cells (drop s.left (s.entered ++ cells)) ≡ true → ⊥
  still_none s cells empty none some =
      let same : drop s.left (s.entered ++ cells) ≡ [] = ap (λ more. drop s.left (s.entered ++ more)) none
      ∙ (ap (drop s.left) (append-nil s.entered) ∙ empty) in
      let test = ap has_cells same in
      cc

  -- a packet of the queue arrives
  abbrev Comes : Option (ℕ × Planned) → Type 0
  Comes arrives = (p : ℕ × Planned) × (arrives ≡ Some p) × (q ≡ queue_of p.1)

  of_packet : (s : Passed) (k : ℕ) (p : Planned) (own : Bool) → waiting s ≡ [] → is_queue q (queue_of p) ≡ own
      → has_cells (waiting (with_arrival card q (Some (k, p)) s)) ≡ true → Comes (Some (k, p))
  of_packet s k p true empty is some = ((k, p), refl, is_queue-same q (queue_of p) is)
  of_packet s k p false empty is some =
      absurd (still_none s (if is_routed p && is_queue q (queue_of p) && fits card s p then cells_with_fan k (size_of p) p.fan else []) empty
      (coming-else (is_routed p) (is_queue q (queue_of p)) (fits card s p) (cells_with_fan k (size_of p) p.fan) is) some)

  by_arrival : (s : Passed) (arrives : Option (ℕ × Planned)) → waiting s ≡ [] → has_cells (waiting (with_arrival card q arrives s)) ≡ true → Comes arrives
  by_arrival s None empty some = absurd (still_none s [] empty refl some)
  by_arrival s (Some (k, p)) empty some = of_packet s k p (is_queue q (queue_of p)) empty refl some

  -- where the queue has no cells in a slot and has some in the next, a packet of it arrives then
  begins : (served : List (Option Served)) (t : ℕ) → has_cells (waiting (queue_in card q served t)) ≡ false
      → has_cells (waiting (queue_in card q served (suc t))) ≡ true → Comes (arriving card (suc t))
  begins served t none some =
      let s = queue_in card q served t in
      let empty : waiting s ≡ [] = none_wait (waiting s) none in
      let after = ap (after_part_of q s (slice_index_or served t None)) empty in
      by_arrival (with_since s []) (arriving card (suc t)) empty
      (subst (λ (b : Passed). has_cells (waiting (with_arrival card q (arriving card (suc t)) b)) ≡ true) after some)

module _ (card : Plan) (good : IsGoodPlan card) (served : List (Option Served)) (t level : ℕ) where
  -- an output that a row does not name has no cells that wait
  not_waiting : (j : ℕ) (some : Bool) → level < 4 → j < card.ports → has_cells (waiting (queue_in card (OfOutput j level) served t)) ≡ some
      → (Names (row_at card served t) level Uni j → ⊥) → has_cells (waiting (queue_in card (OfOutput j level) served t)) ≡ false
  not_waiting j true below inside is silent = absurd (silent (uni-from card good served t level j below inside is))
  not_waiting j false below inside is silent = is

  -- and where the next row does, a packet for it arrives
  arrives_for : (j : ℕ) → Names (row_at card served (suc t)) level Uni j → (Names (row_at card served t) level Uni j → ⊥)
      → Comes card (OfOutput j level) (arriving card (suc t))
  arrives_for j named silent =
      let now = uni-in card good served (suc t) level j named in
      begins card (OfOutput j level) served t (not_waiting j (has_cells (waiting (queue_in card (OfOutput j level) served t))) now.0 now.1 refl silent) now.2

  -- so at most one output is new
  gains : GainsAtMostOne level (row_at card served t) (row_at card served (suc t))
  gains j k j_named k_named j_silent k_silent =
      let one = arrives_for j j_named j_silent in
      let other = arrives_for k k_named k_silent in
      let same : one.0 ≡ other.0 = same_Some one.0 other.0 (sym one.1 ∙ other.1) in
      let queues : OfOutput j level ≡ OfOutput k level = one.2 ∙ (ap (λ (p : ℕ × Planned). queue_of p.1) same ∙ sym other.2) in
      cc

-- ---- the rows of a run, slot by slot
module _ (scheduler : Scheduler) (plan : SwitchPlan) (good : IsGood plan) (level : ℕ) where
  row_gains : (i t : ℕ) → i < ports_of plan → GainsAtMostOne level (posts_under scheduler plan i t).row (posts_under scheduler plan i (suc t)).row
  row_gains i t inside =
      let parts = parts_under scheduler plan i (suc t) in
      subst (λ old. GainsAtMostOne level old (row_at (card_at plan i) parts (suc t))) (row_at-same scheduler plan i t (suc t) (omega arith))
      (gains (card_at plan i) (good-card plan good i inside).good parts t level)

  -- the same of the rows of a slot
  slot_gains : (i t : ℕ) → i < ports_of plan
      → GainsAtMostOne level (row_of (slot_rows (ports_of plan) (posts_under scheduler plan) t) i)
      (row_of (slot_rows (ports_of plan) (posts_under scheduler plan) (t + 1)) i)
  slot_gains i t inside =
      let next : suc t ≡ t + 1 = omega arith in
      let later : (posts_under scheduler plan i (suc t)).row ≡ row_of (slot_rows (ports_of plan) (posts_under scheduler plan) (t + 1)) i =
      ap (λ u. (posts_under scheduler plan i u).row) next ∙ sym (row_of-slot_rows (ports_of plan) (posts_under scheduler plan) (t + 1) i inside) in
      subst (λ old. GainsAtMostOne level old (row_of (slot_rows (ports_of plan) (posts_under scheduler plan) (t + 1)) i))
      (sym (row_of-slot_rows (ports_of plan) (posts_under scheduler plan) t i inside))
      (subst (GainsAtMostOne level (posts_under scheduler plan i t).row) later (row_gains i t inside))

  -- any slots of the run in a row are at line rate
  pub at-line_rate : (t count : ℕ)
      → AreAtLineRate (ports_of plan) level (map (decided_under scheduler (setup_for plan) (posts_under scheduler plan)) (range_with_len t count))
  at-line_rate t zero = tt
  at-line_rate t (suc zero) = (tt, tt)
  at-line_rate t (suc (suc count)) = (λ i inside. slot_gains i t inside, at-line_rate (t + 1) (suc count))
