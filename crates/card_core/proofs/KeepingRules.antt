-- A queue that goes slot by slot keeps the rules of queues.
use Rattle.std.proofs.Common.{◌≡◌, ◌≢◌, ◌∙◌, ◌↔◌, ℕ, zero, suc, ◌+◌, ◌^◌, ◌<◌, ◌≤◌, ◌==◌, ◌&&◌, nat_lt, Bool, true, false, List, [], ◌∷◌}
use Rattle.std.proofs.Common.{◌++◌, drop, length, Option, None}
use Rattle.std.proofs.Common.{slice_index_or, count_by, refl, sym, ap, arith, inl, inr, if◌then◌else◌, length-append, length-drop}
use Rattle.std.specs.List.{range_with_len}
use Rattle.std.proofs.lemmas.Bool.{cases_eq, eq-eqb, ne_eqb, lt-ltb, le-ltb, and_right, or_parts, or_from}
use Rattle.std.proofs.lemmas.List.Sums.{sum_by-cons}
use Rattle.std_lemmas.proofs.Bools.{same_third}
use Rattle.rotating_pick.specs.PortSets.{Has}
use Rattle.rotating_pick.proofs.Bits.{Has-lt}
use Rattle.slot_match.specs.declared.matching.Served.{Served}
use Rattle.slot_histories.specs.Tests.{gives}
use Rattle.multicast_queue.specs.FanQueues.{FanCell, first_fan}
use Rattle.voq_banks.specs.CellQueues.{cells_with_fan}
use Rattle.card_core.specs.declared.plan.Planned.{Planned}
use Rattle.card_core.specs.Plans.{Plan, Queue, IsGoodPlan, level_of, kind_of, is_queue, queue_of, size_of, arriving}
use Rattle.card_core.specs.Queues.{Passed, waiting, remaining, rest_of, with_since, head_gone, after_part_of, is_routed, fits, coming, before, queue_in}
use Rattle.card_core.specs.Queues.{is_admitted, enters, cells_admitted}
use Rattle.card_core.specs.QueueRules.{comes_in, cells_entering, is_first, parts_for, left_of, completes, KeepsRules}
use Rattle.card_core.proofs.Remaining.{any_gives, remaining-has, remaining-from}
use Rattle.card_core.proofs.Passing.{is_queue-same, AreOf, AreOf-drop, small_fan, kept-before}
use Rattle.card_core.proofs.Admitting.{entered_stays, entered-is}

-- ---- numbers and lists
-- of a range with one number more
count_from : (test : ℕ → Bool) (a n : ℕ) → count_by test (range_with_len a (suc n)) ≡ count_by test (range_with_len a n) + (if test (a + n) then 1 else 0)
count_from test a zero =
    let here : a + 0 ≡ a = omega arith in
    sum_by-cons (λ k. if test k then 1 else 0) a [] ∙ rw here (omega arith)
count_from test a (suc n) =
    let number : a + 1 + n ≡ a + suc n = omega arith in
    let rest = count_from test (a + 1) n ∙ ap (λ k. count_by test (range_with_len (a + 1) n) + (if test k then 1 else 0)) number in
    let all = sum_by-cons (λ k. if test k then 1 else 0) a (range_with_len (a + 1) (suc n)) in
    let some = sum_by-cons (λ k. if test k then 1 else 0) a (range_with_len (a + 1) n) in
    omega (arith, rest, all, some)

pub count_more : (test : ℕ → Bool) (t : ℕ) → count_by test (range_with_len 0 (suc t)) ≡ count_by test (range_with_len 0 t) + (if test t then 1 else 0)
count_more test t = let here : 0 + t ≡ t = omega arith in count_from test 0 t ∙ ap (λ k. count_by test (range_with_len 0 t) + (if test k then 1 else 0)) here

-- a cell that waits has entered, and where none waits all that entered have left
none_there : (n : ℕ) (cells : List FanCell) → drop n cells ≡ [] → length cells ≤ n
none_there n cells none = omega (arith, length-drop n cells, ap length none)

some_there : (n : ℕ) (cells : List FanCell) (c : FanCell) (v : List FanCell) → drop n cells ≡ c ∷ v → n < length cells
some_there n cells c v some = omega (arith, length-drop n cells, ap length some)

-- ---- the queue keeps the rules
module _ (plan : Plan) (q : Queue) (served : List (Option Served)) where
  abbrev queue : ℕ → Passed
  queue t = before plan q served t

  abbrev part_in : ℕ → Option Served
  part_in t = slice_index_or served t None

  entered_next : (t : ℕ) → (queue (suc t)).entered ≡ (queue_in plan q served t).entered
  entered_next t = let s = queue_in plan q served t in entered_stays q s (part_in t) (waiting s)

  -- the cells that entered become more, and so do those that left
  entered_up : (t : ℕ) → length (queue t).entered ≤ length (queue (suc t)).entered
  entered_up t = omega (
    arith,
    ap length (entered_next t),
    length-append (queue t).entered (coming plan q (queue t) (arriving plan t)),
  )

  entered_rise : (u t : ℕ) → u ≤ t → length (queue u).entered ≤ length (queue t).entered
  entered_rise u zero few = let same : u ≡ 0 = omega arith in rw same (omega arith)
  entered_rise u (suc t) few = elim (cases_eq u (suc t)) [
    | inl same ↦ rw same (omega arith)
    | inr less ↦ omega (arith, entered_rise u t (omega (arith, less)), entered_up t)
  ]

  left_if : (s : Passed) (since : List (Option Served)) (b : Bool) → s.left ≤ (if b then head_gone s else with_since s since).left
  left_if s since true = omega arith
  left_if s since false = omega arith

  left_up_of : (s : Passed) (part : Option Served) (w : List FanCell) → s.left ≤ (after_part_of q s part w).left
  left_up_of s part [] = omega arith
  left_up_of s part (c ∷ w) = left_if s (part ∷ s.since) (rest_of q (with_since s (part ∷ s.since)) == 0)

  left_rise : (u t : ℕ) → u ≤ t → (queue u).left ≤ (queue t).left
  left_rise u zero few = let same : u ≡ 0 = omega arith in rw same (omega arith)
  left_rise u (suc t) few = elim (cases_eq u (suc t)) [
    | inl same ↦ rw same (omega arith)
    | inr less ↦
        let s = queue_in plan q served t in
        omega (arith, left_rise u t (omega (arith, less)), left_up_of s (part_in t) (waiting s))
  ]

  -- a cell that was the first in no slot was served nothing
  parts_none : (n t : ℕ) → ((u : ℕ) → u < t → is_first queue n u ≡ false) → parts_for served queue n t ≡ []
  parts_none n zero never = refl
  parts_none n (suc t) never = rw (never t (omega arith)) (parts_none n t (λ u less. never u (omega arith)))

  other_first : (n u : ℕ) → (queue u).left ≢ n → is_first queue n u ≡ false
  other_first n u other = rw (ne_eqb (queue u).left n other) refl

  absent_first : (n u : ℕ) → length (queue (suc u)).entered ≤ n → is_first queue n u ≡ false
  absent_first n u none = and_right ((queue u).left == n) (nat_lt n (length (queue (suc u)).entered)) (le-ltb n (length (queue (suc u)).entered) none)

  -- whether a cell waits in slot t
  first_is : (t : ℕ) → is_first queue (queue t).left t ≡ nat_lt (queue t).left (length (queue (suc t)).entered)
  first_is t = rw (eq-eqb (queue t).left (queue t).left refl) refl

  -- what slot t makes of the queue
  record Slot (t : ℕ) (next : Passed) : Type 0 where
    pub left : next.left ≡ (queue t).left + (if completes q served queue t then 1 else 0)
    pub since : next.since ≡ parts_for served queue next.left (suc t)

  module _ (t : ℕ) (known : (queue t).since ≡ parts_for served queue (queue t).left t) where
    abbrev s : Passed
    s = queue_in plan q served t

    slot_empty : waiting s ≡ [] → Slot t (with_since s [])
    slot_empty none =
        let n = (queue t).left in
        let few = none_there n s.entered none in
        let absent = λ (u : ℕ) (less : u < suc t). absent_first n u
        (omega (arith, entered_rise (suc u) (suc t) (omega arith), ap length (entered_next t), few)) in
        let not_now : completes q served queue t ≡ false =
        ap (λ b. b && (left_of q served queue n (suc t) == 0)) (absent t (omega arith)) in
        record {
          left = rw not_now (omega arith);
          since = sym (parts_none n (suc t) absent);
        }

    slot_if : (b : Bool) → completes q served queue t ≡ b → parts_for served queue (queue t).left (suc t) ≡ part_in t ∷ s.since
        → Slot t (if b then head_gone s else with_since s (part_in t ∷ s.since))
    slot_if true done parts = record {
      left = rw done refl;
      since = sym (parts_none ((queue t).left + 1) (suc t) (λ u less. other_first ((queue t).left + 1) u
          (λ same. let low = left_rise u t (omega arith) in omega (arith, same, low))));
    }
    slot_if false done parts = record { left = rw done (omega arith); since = sym parts }

    slot_some : (c : FanCell) (v : List FanCell) → waiting s ≡ c ∷ v
        → Slot t (if rest_of q (with_since s (part_in t ∷ s.since)) == 0 then head_gone s else with_since s (part_in t ∷ s.since))
    slot_some c v some =
        let n = (queue t).left in
        let within = some_there n s.entered c v some in
        let first : is_first queue n t ≡ true = first_is t ∙ lt-ltb n (length (queue (suc t)).entered) (omega (arith, ap length (entered_next t), within)) in
        let parts : parts_for served queue n (suc t) ≡ part_in t ∷ s.since =
        ap (λ b. if b then part_in t ∷ parts_for served queue n t else parts_for served queue n t) first ∙ ap (λ w. part_in t ∷ w) (sym known) in
        let rest : left_of q served queue n (suc t) ≡ rest_of q (with_since s (part_in t ∷ s.since)) =
        ap (λ w. remaining q (first_fan (drop n w)) (parts_for served queue n (suc t))) (entered_next t)
        ∙ ap (λ w. remaining q (first_fan (waiting s)) w) parts in
        slot_if (rest_of q (with_since s (part_in t ∷ s.since)) == 0)
        (ap (λ b. b && (left_of q served queue n (suc t) == 0)) first ∙ ap (λ w. w == 0) rest) parts

    slot_of : (w : List FanCell) → waiting s ≡ w → Slot t (after_part_of q s (part_in t) w)
    slot_of [] is = slot_empty is
    slot_of (c ∷ v) is = slot_some c v is

    slot_is : Slot t (queue (suc t))
    slot_is = slot_of (waiting s) refl

  since_is : (t : ℕ) → (queue t).since ≡ parts_for served queue (queue t).left t
  since_is zero = refl
  since_is (suc t) = (slot_is t (since_is t)).since

  left_is : (t : ℕ) → (queue t).left ≡ count_by (completes q served queue) (range_with_len 0 t)
  left_is zero = refl
  left_is (suc t) =
      (slot_is t (since_is t)).left
      ∙ ap (λ n. n + (if completes q served queue t then 1 else 0)) (left_is t)
      ∙ sym (count_more (completes q served queue) t)

  -- the cells that entered
  comes_enters : (p : Planned) → enters plan q served p ≡ comes_in plan q queue p
  comes_enters p =
      same_third (is_routed p) (is_queue q (queue_of p)) (is_admitted plan served p.arrival p) (fits plan (queue p.arrival) p)
      (λ mine. ap (λ r. fits plan (before plan r served p.arrival) p) (sym (is_queue-same q (queue_of p) mine)))

  cells_are : (t k : ℕ) (ps : List Planned) → cells_admitted plan q served t k ps ≡ cells_entering plan q queue t k ps
  cells_are t k [] = refl
  cells_are t k (p ∷ ps) =
      ap (λ b. (if nat_lt p.arrival t && b then cells_with_fan k (size_of p) p.fan else []) ++ cells_admitted plan q served t (k + 1) ps) (comes_enters p)
      ∙ ap (λ w. (if nat_lt p.arrival t && comes_in plan q queue p then cells_with_fan k (size_of p) p.fan else []) ++ w) (cells_are t (k + 1) ps)

  pub queue_keeps : IsGoodPlan plan → KeepsRules plan q served (before plan q served)
  queue_keeps good = record {
    entered = λ t. entered-is plan q served good t ∙ cells_are t 0 plan.packets;
    left = left_is;
    since = since_is;
  }

-- ---- what is left of the first cell
module _ (plan : Plan) (good : IsGoodPlan plan) (q : Queue) (served : List (Option Served)) (output : ℕ) where
  -- whether what slot t serves serves the output of the queue
  abbrev serves_in : ℕ → Bool
  serves_in t = gives (slice_index_or served t None) output (level_of q) (kind_of q)

  -- of one part more, where it counts
  none_of : (b : Bool) (part : Option Served) (parts : List (Option Served)) → any_gives q (if b then part ∷ parts else parts) output ≡ false
      → (b ≡ true → gives part output (level_of q) (kind_of q) ≡ false) × (any_gives q parts output ≡ false)
  none_of true part parts none =
      let both = or_parts (gives part output (level_of q) (kind_of q)) (any_gives q parts output) none in (λ is. both.0, both.1)
  none_of false part parts none = (λ is. absurd (cc), none)

  none_with : (b : Bool) (part : Option Served) (parts : List (Option Served)) → (b ≡ true → gives part output (level_of q) (kind_of q) ≡ false)
      → any_gives q parts output ≡ false → any_gives q (if b then part ∷ parts else parts) output ≡ false
  none_with true part parts here none = or_from (gives part output (level_of q) (kind_of q)) (any_gives q parts output) (here refl) none
  none_with false part parts here none = none

  module _ (history : ℕ → Passed) (n : ℕ) where
    unserved_in : (t : ℕ) → any_gives q (parts_for served history n t) output ≡ false → (u : ℕ) → u < t → is_first history n u ≡ true → serves_in u ≡ false
    unserved_in zero none u less first = absurd (omega arith)
    unserved_in (suc t) none u less first =
        let both = none_of (is_first history n t) (slice_index_or served t None) (parts_for served history n t) none in
        elim (cases_eq u t) [
          | inl same ↦ ap serves_in same ∙ both.0 (ap (is_first history n) (sym same) ∙ first)
          | inr early ↦ unserved_in t both.1 u (omega (arith, early)) first
        ]

    unserved_from : (t : ℕ) → ((u : ℕ) → u < t → is_first history n u ≡ true → serves_in u ≡ false)
        → any_gives q (parts_for served history n t) output ≡ false
    unserved_from zero none = refl
    unserved_from (suc t) none =
        none_with (is_first history n t) (slice_index_or served t None) (parts_for served history n t)
        (none t (omega arith)) (unserved_from t (λ u less. none u (omega arith)))

  fan_small : (w : List FanCell) → AreOf plan q w → first_fan w < 2 ^ 64
  fan_small [] are = omega arith
  fan_small (c ∷ w) are = small_fan plan good q c are.0

  pub rest_unserved : (t : ℕ) → Has (rest_of q (before plan q served t)) output ↔ (Has (first_fan (waiting (before plan q served t))) output
      × ((u : ℕ) → u < t → is_first (before plan q served) (before plan q served t).left u ≡ true → serves_in u ≡ false))
  rest_unserved t =
      let s = before plan q served t in
      let fan = first_fan (waiting s) in
      let parts : s.since ≡ parts_for served (before plan q served) s.left t = since_is plan q served t in
      let small = fan_small (waiting s) (AreOf-drop plan q s.left s.entered (kept-before plan good q served t).cells) in (
        λ member.
            let both = remaining-has q fan s.since output member in
            (both.0, unserved_in (before plan q served) s.left t (ap (λ w. any_gives q w output) (sym parts) ∙ both.1)),
        λ both.
            remaining-from q fan s.since output (Has-lt 64 fan output small both.0) both.0
            (ap (λ w. any_gives q w output) parts ∙ unserved_from (before plan q served) s.left t both.1),
      )
