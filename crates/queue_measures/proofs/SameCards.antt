-- A card with queues of another depth: where each packet has room in both, its queues and its posts are the same.
use Rattle.std.proofs.Common.{◌≡◌, ◌∙◌, ℕ, zero, suc, ◌+◌, ◌-◌, ◌<◌, ◌≤◌, ◌++◌, ◌&&◌, not, Bool, true, false, List, [], map, length, Option, None, Some}
use Rattle.std.proofs.Common.{refl, sym, ap, arith, slice_index_or, if◌then◌else◌}
use Rattle.std.specs.List.{range_with_len}
use Rattle.std.specs.Option.{option_map}
use Rattle.std.proofs.lemmas.Bool.{le-leb}
use Rattle.rotating_pick.specs.declared.limits.TheConstants.{LEVELS}
use Rattle.slot_match.specs.declared.rows.Row.{Row}
use Rattle.slot_match.specs.declared.matching.Served.{Served}
use Rattle.slot_match.specs.Parts.{set_of}
use Rattle.multicast_queue.specs.FanQueues.{FanCell, first_name}
use Rattle.voq_banks.specs.CellQueues.{cells_with_fan}
use Rattle.card_core.specs.declared.plan.Planned.{Planned}
use Rattle.card_core.specs.Plans.{Plan, Queue, OfOutput, OfLevel, arriving, is_queue, queue_of, size_of, cell_named}
use Rattle.card_core.specs.Queues.{Passed, waiting, rest_of, is_routed, fits, coming, with_arrival, after_part, before, queue_in, is_admitted}
use Rattle.card_core.specs.Queues.{count_before, count_in, dropped}
use Rattle.card_core.specs.Posts.{has_cells, queue_served, row_at, granted_by, granted_at, post_at}
use Rattle.card_core.proofs.Passing.{is_queue-same}
use Rattle.queue_measures.specs.Sizing.{card_with_depth}
use Rattle.queue_measures.proofs.Rooms.{HasRooms}

-- the row of these queues
abbrev row_from : Plan → (Queue → Passed) → Row
row_from plan queues = record {
  uni = map (λ level. set_of plan.ports (λ j. has_cells (waiting (queues (OfOutput j level))))) (range_with_len 0 LEVELS);
  multi = map (λ level. rest_of (OfLevel level) (queues (OfLevel level))) (range_with_len 0 LEVELS);
}

same_test : (r s a b : Bool) → (r ≡ true → s ≡ true → a ≡ b) → (r && s && a) ≡ (r && s && b)
same_test true true a b same = same refl refl
same_test true false a b same = refl
same_test false s a b same = refl

none_counted : (routed admitted : Bool) → (routed ≡ true → admitted ≡ true) → ◌≡◌ {A = ℕ} (if routed && not admitted then 1 else 0) 0
none_counted true true is = refl
none_counted true false is = let wrong = is refl in absurd (cc)
none_counted false admitted is = refl

module _ (plan : Plan) (depth : ℕ) (served : List (Option Served)) (slots : ℕ)
    (own : HasRooms plan.depth plan served slots) (rooms : HasRooms depth plan served slots) where
  abbrev other : Plan
  other = card_with_depth depth plan

  -- what fits in the one fits in the other
  fits_other : (t k : ℕ) (p : Planned) → t < slots → arriving plan t ≡ Some (k, p) → is_routed p ≡ true
      → fits other (before plan (queue_of p) served t) p ≡ true
  fits_other t k p below arrives routed =
      let s = before plan (queue_of p) served t in
      le-leb (length s.entered - s.left + size_of p) depth (rooms.room t k p below arrives routed)

  fits_own : (t k : ℕ) (p : Planned) → t < slots → arriving plan t ≡ Some (k, p) → is_routed p ≡ true
      → fits plan (before plan (queue_of p) served t) p ≡ true
  fits_own t k p below arrives routed =
      let s = before plan (queue_of p) served t in
      le-leb (length s.entered - s.left + size_of p) plan.depth (own.room t k p below arrives routed)

  coming_same : (q : Queue) (t : ℕ) (arrives : Option (ℕ × Planned)) → t < slots → arriving plan t ≡ arrives
      → coming other q (before plan q served t) arrives ≡ coming plan q (before plan q served t) arrives
  coming_same q t None below is = refl
  coming_same q t (Some (k, p)) below is =
      let s = before plan q served t in
      let tests : (is_routed p && is_queue q (queue_of p) && fits other s p) ≡ (is_routed p && is_queue q (queue_of p) && fits plan s p) =
      same_test (is_routed p) (is_queue q (queue_of p)) (fits other s p) (fits plan s p)
      (λ routed mine.
      let queue : q ≡ queue_of p = is_queue-same q (queue_of p) mine in
      ap (λ r. fits other (before plan r served t) p) queue
      ∙ fits_other t k p below is routed
      ∙ sym (fits_own t k p below is routed)
      ∙ ap (λ r. fits plan (before plan r served t) p) (sym queue)) in
      ap (λ b. if b then cells_with_fan k (size_of p) p.fan else []) tests

  -- ---- the same queues
  queue_from_before : (q : Queue) (t : ℕ) → t < slots → before other q served t ≡ before plan q served t → queue_in other q served t ≡ queue_in plan q served t
  queue_from_before q t below earlier =
      let s = before plan q served t in
      let come : coming other q s (arriving plan t) ≡ coming plan q s (arriving plan t) = coming_same q t (arriving plan t) below refl in
      let arrived : with_arrival other q (arriving plan t) s ≡ with_arrival plan q (arriving plan t) s =
      ap (λ (cells : List FanCell). record { entered = s.entered ++ cells; left = s.left; since = s.since }) come in
      ap (with_arrival other q (arriving plan t)) earlier ∙ arrived

  before_same : (q : Queue) (t : ℕ) → t ≤ slots → before other q served t ≡ before plan q served t
  before_same q zero few = refl
  before_same q (suc t) few = ap (λ s. after_part q s (slice_index_or served t None)) (queue_from_before q t (omega arith) (before_same q t (omega arith)))

  pub queue_same : (q : Queue) (t : ℕ) → t < slots → queue_in other q served t ≡ queue_in plan q served t
  queue_same q t below = queue_from_before q t below (before_same q t (omega arith))

  -- ---- the same posts
  row_same : (t : ℕ) → t < slots → row_at other served t ≡ row_at plan served t
  row_same t below =
      let queues : (λ q. queue_in other q served t) ≡ (λ q. queue_in plan q served t) = λ x q. queue_same q t below x in
      ap (row_from plan) queues

  granted_by_same : (t : ℕ) (part : Option Served) → t < slots → granted_by other served t part ≡ granted_by plan served t part
  granted_by_same t None below = refl
  granted_by_same t (Some part) below = ap (λ s. option_map (cell_named plan) (first_name (waiting s))) (queue_same (queue_served part) t below)

  granted_same : (t : ℕ) → t ≤ slots → granted_at other served t ≡ granted_at plan served t
  granted_same zero few = refl
  granted_same (suc t) few = granted_by_same t (slice_index_or served t None) (omega arith)

  pub post_same : (t : ℕ) → t < slots → post_at other served t ≡ post_at plan served t
  post_same t below =
      let row = row_same t below in
      let cell = granted_same t (omega arith) in
      cc

  -- ---- and nothing is dropped in the other
  none_in : (t : ℕ) (arrives : Option (ℕ × Planned)) → t < slots → arriving plan t ≡ arrives → count_in false other served t arrives ≡ 0
  none_in t None below is = refl
  none_in t (Some (k, p)) below is =
      none_counted (is_routed p) (is_admitted other served t p)
      (λ routed. ap (λ s. fits other s p) (before_same (queue_of p) t (omega arith)) ∙ fits_other t k p below is routed)

  none_before : (t : ℕ) → t ≤ slots → count_before false other served t ≡ 0
  none_before zero few = refl
  none_before (suc t) few =
      let earlier = none_before t (omega arith) in
      let now = none_in t (arriving plan t) (omega arith) refl in
      omega (arith, earlier, now)

  pub drops_none : dropped other served slots ≡ 0
  drops_none = none_before slots (omega arith)
