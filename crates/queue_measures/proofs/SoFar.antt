-- The numbers of a queue over the first slots, with those of one slot more.
use Rattle.std.proofs.Common.{◌≡◌, ◌∙◌, ℕ, zero, suc, ◌+◌, ◌<◌, ◌≤◌, ◌&&◌, not, nat_lt, max, Bool, true, false, List, [], ◌∷◌, ◌++◌, length}
use Rattle.std.proofs.Common.{drop, Option, Some, None, slice_get, slice_index_or, refl, sym, ap, arith, inl, inr, if◌then◌else◌}
use Rattle.std.specs.List.{sum_by}
use Rattle.std.proofs.lemmas.Bool.{cases_eq, eq-eqb, ne_eqb, lt-ltb, le-ltb, ltb-true}
use Rattle.std.proofs.lemmas.List.{append-nil}
use Rattle.std.proofs.lemmas.List.Sums.{sum_by-cons}
use Rattle.std_lemmas.proofs.Numbers.{lt_suc-other}
use Rattle.queue_lengths.proofs.Lengths.{part_of_fewer}
use Rattle.card_core.proofs.Admitting.{rest-rising, rest-later}
use Rattle.slot_match.specs.declared.matching.Served.{Served}
use Rattle.card_core.specs.declared.plan.Planned.{Planned}
use Rattle.card_core.specs.Plans.{Plan, Queue, AreRising, IsGoodPlan, is_queue, queue_of, size_of, arriving, arriving_from}
use Rattle.card_core.specs.Queues.{Passed, waiting, with_arrival, is_routed, fits, coming, before}
use Rattle.card_core.specs.Queues.{queue_in, is_admitted, enters}
use Rattle.card_core.proofs.Passing.{arriving-there}
use Rattle.card_core.proofs.Taking.{before-more, queue_in-more}
use Rattle.queue_lengths.specs.Lengths.{length_in, is_for, greatest, first_greatest, peak_of, peak_slot}
use Rattle.queue_measures.specs.declared.numbers.QueueNumbers.{QueueNumbers}
use Rattle.queue_measures.specs.NotingSteps.{no_numbers, numbers_so_far}
use Rattle.queue_measures.specs.Steps.{with_packet}

-- all packets arrive in slot t or later
abbrev AreFrom : ℕ → List Planned → Type 0
AreFrom t ps = (j : ℕ) (p : Planned) → slice_get ps j ≡ Some p → t ≤ p.arrival

-- ---- the weight of the packets that arrive in the first slots and pass a test
module _ (test : Planned → Bool) (weight : Planned → ℕ) where
  abbrev pub so_far : ℕ → List Planned → ℕ
  so_far t ps = sum_by (λ p. if nat_lt p.arrival t && test p then weight p else 0) ps

  -- and of the packet that arrives
  abbrev pub now_of : Option (ℕ × Planned) → ℕ
  now_of None = 0
  now_of (Some (k, p)) = if test p then weight p else 0

  so_far-cons : (t : ℕ) (p : Planned) (ps : List Planned) → so_far t (p ∷ ps) ≡ (if nat_lt p.arrival t && test p then weight p else 0) + so_far t ps
  so_far-cons t p ps = sum_by-cons (λ r. if nat_lt r.arrival t && test r then weight r else 0) p ps

  none_so_far : (t : ℕ) (ps : List Planned) → AreFrom t ps → so_far t ps ≡ 0
  none_so_far t [] later = refl
  none_so_far t (p ∷ ps) later =
      let rest = none_so_far t ps (λ j r at. later (suc j) r at) in
      so_far-cons t p ps ∙ rw (le-ltb p.arrival t (later 0 p refl)) (omega (arith, rest))

  pub so_far-first : (ps : List Planned) → so_far 0 ps ≡ 0
  so_far-first ps = none_so_far 0 ps (λ j r at. omega arith)

  pub so_far-step : (t k : ℕ) (ps : List Planned) → AreRising ps → so_far (suc t) ps ≡ so_far t ps + now_of (arriving_from k ps t)
  so_far-step t k [] rising = refl
  so_far-step t k (p ∷ ps) rising =
      elim (cases_eq p.arrival t) [
        | inl now ↦
            let later = rest-later p ps t rising now in
            let none = none_so_far (suc t) ps later in
            let none' = none_so_far t ps (λ j r at. omega (arith, later j r at)) in
            rw (
              so_far-cons (suc t) p ps,
              so_far-cons t p ps,
              lt-ltb p.arrival (suc t) (omega arith),
              le-ltb p.arrival t (omega arith),
              eq-eqb p.arrival t now,
              none,
              none',
            ) (omega arith)
        | inr differ ↦
            let more = so_far-step t (k + 1) ps (rest-rising p ps rising) in
            rw (so_far-cons (suc t) p ps, so_far-cons t p ps, lt_suc-other p.arrival t differ, ne_eqb p.arrival t differ, more) (omega arith)
      ]

-- a test that is the same of what arrives in the first slots
under : (a b c : Bool) → (a ≡ true → b ≡ c) → (a && b) ≡ (a && c)
under true b c same = same refl
under false b c same = refl

same_tests : (test other : Planned → Bool) (weight : Planned → ℕ) (t : ℕ) (ps : List Planned) → ((p : Planned) → p.arrival < t → test p ≡ other p)
    → so_far test weight t ps ≡ so_far other weight t ps
same_tests test other weight t [] same = refl
same_tests test other weight t (p ∷ ps) same =
    so_far-cons test weight t p ps
    ∙ ap (λ n. (if nat_lt p.arrival t && test p then weight p else 0) + n) (same_tests test other weight t ps same)
    ∙ ap (λ b. (if b then weight p else 0) + so_far other weight t ps)
    (under (nat_lt p.arrival t) (test p) (other p) (λ early. same p (ltb-true p.arrival t early)))
    ∙ sym (so_far-cons other weight t p ps)

-- ---- the greatest of the first slots
pub greatest-same : (f g : ℕ → ℕ) (t : ℕ) → ((u : ℕ) → u < t → f u ≡ g u) → greatest f t ≡ greatest g t
greatest-same f g zero same = refl
greatest-same f g (suc t) same =
    let less = greatest-same f g t (λ u below. same u (omega arith)) in
    let here = same t (omega arith) in
    rw (less, here) refl

first_greatest-same : (f g : ℕ → ℕ) (t : ℕ) → ((u : ℕ) → u < t → f u ≡ g u) → first_greatest f t ≡ first_greatest g t
first_greatest-same f g zero same = refl
first_greatest-same f g (suc t) same =
    let less = first_greatest-same f g t (λ u below. same u (omega arith)) in
    let most = greatest-same f g t (λ u below. same u (omega arith)) in
    let here = same t (omega arith) in
    rw (less, most, here) refl

-- ---- what a slot serves makes no queue longer

-- whether the packet that arrives is for the queue
abbrev pub is_coming_for : Queue → Option (ℕ × Planned) → Bool
is_coming_for q None = false
is_coming_for q (Some (k, p)) = is_for q p

module _ (plan : Plan) (q : Queue) where
  none_comes : (s : Passed) (arrives : Option (ℕ × Planned)) → is_coming_for q arrives ≡ false → coming plan q s arrives ≡ []
  none_comes s None not_for = refl
  none_comes s (Some (k, p)) not_for = rw not_for refl

  still : (s : Passed) (arrives : Option (ℕ × Planned)) → is_coming_for q arrives ≡ false
      → length (waiting (with_arrival plan q arrives s)) ≡ length (waiting s)
  still s arrives not_for = ap (λ cells. length (drop s.left (s.entered ++ cells))) (none_comes s arrives not_for)
      ∙ ap (λ cells. length (drop s.left cells)) (append-nil s.entered)

  -- a queue that no packet is for is no longer than it was
  below_peak : (served : List (Option Served)) (t : ℕ) → is_coming_for q (arriving plan t) ≡ false → length_in plan q served t ≤ peak_of plan q served t
  below_peak served zero not_for = let same = still (before plan q served 0) (arriving plan 0) not_for in omega (arith, same)
  below_peak served (suc t) not_for =
      let same = still (before plan q served (suc t)) (arriving plan (suc t)) not_for in
      let fewer = part_of_fewer q (queue_in plan q served t) (slice_index_or served t None) (waiting (queue_in plan q served t)) in
      omega (arith, same, fewer)

-- ---- one slot more
zeros : (n : QueueNumbers)
    → ◌≡◌ {A = QueueNumbers} (record { packets = n.packets + 0; dropped = n.dropped + 0; cells = n.cells + 0; peak = n.peak; slot = n.slot }) n
zeros n =
    let a : n.packets + 0 ≡ n.packets = omega arith in
    let b : n.dropped + 0 ≡ n.dropped = omega arith in
    let d : n.cells + 0 ≡ n.cells = omega arith in
    rw (a, b, d) refl

dropped_now : (m adm adm' : Bool) → m ≡ true → adm ≡ adm' → ◌≡◌ {A = ℕ} (if m && not adm then 1 else 0) (if adm' then 0 else 1)
dropped_now m true adm' mine same = rw (mine, sym same) refl
dropped_now m false adm' mine same = rw (mine, sym same) refl

cells_now : (m adm adm' : Bool) (w : ℕ) → m ≡ true → adm ≡ adm' → (if m && adm then w else 0) ≡ (if adm' then w else 0)
cells_now m adm adm' w mine same = rw (mine, same) refl

module _ (plan : Plan) (good : IsGoodPlan plan) (served : List (Option Served)) (part : Option Served) (q : Queue) where
  abbrev later : List (Option Served)
  later = served ++ part ∷ []

  abbrev here : ℕ
  here = length served

  admits : (p : Planned) → p.arrival < suc here → is_admitted plan later p.arrival p ≡ is_admitted plan served p.arrival p
  admits p early = ap (λ s. fits plan s p) (before-more plan (queue_of p) served (part ∷ []) p.arrival (omega arith))

  lengths-same : (u : ℕ) → u < suc here → length_in plan q later u ≡ length_in plan q served u
  lengths-same u early = ap (λ s. length (waiting s)) (queue_in-more plan q served (part ∷ []) u (omega arith))

  abbrev dropped_test : List (Option Served) → Planned → Bool
  dropped_test parts p = is_for q p && not (is_admitted plan parts p.arrival p)

  abbrev added : ℕ → QueueNumbers
  added long = record {
    packets = (numbers_so_far plan served here q).packets + now_of (is_for q) (λ p. 1) (arriving plan here);
    dropped = (numbers_so_far plan served here q).dropped + now_of (dropped_test served) (λ p. 1) (arriving plan here);
    cells = (numbers_so_far plan served here q).cells + now_of (enters plan q served) size_of (arriving plan here);
    peak = max (peak_of plan q served here) long;
    slot = if nat_lt (peak_of plan q served here) long then here else peak_slot plan q served here;
  }

  pub numbers-step : numbers_so_far plan later (suc here) q ≡ added (length_in plan q served here)
  numbers-step =
      let packets = so_far-step (is_for q) (λ p. 1) here 0 plan.packets good.rising in
      let dropped = same_tests (dropped_test later) (dropped_test served) (λ p. 1) (suc here) plan.packets
      (λ p early. ap (λ b. is_for q p && not b) (admits p early)) ∙ so_far-step (dropped_test served) (λ p. 1) here 0 plan.packets good.rising in
      let cells = same_tests (enters plan q later) (enters plan q served) size_of (suc here) plan.packets
      (λ p early. ap (λ b. is_routed p && is_queue q (queue_of p) && b) (admits p early))
      ∙ so_far-step (enters plan q served) size_of here 0 plan.packets good.rising in
      let peak = greatest-same (length_in plan q later) (length_in plan q served) (suc here) lengths-same in
      let slot = first_greatest-same (length_in plan q later) (length_in plan q served) (suc here) lengths-same in
      rw (packets, dropped, cells, peak, slot) refl

  none_now : (test : Planned → Bool) (weight : Planned → ℕ) (arrives : Option (ℕ × Planned))
      → ((k : ℕ) (p : Planned) → arrives ≡ Some (k, p) → test p ≡ false) → now_of test weight arrives ≡ 0
  none_now test weight None not_for = refl
  none_now test weight (Some (k, p)) not_for = rw (not_for k p refl) refl

  -- of a queue that no packet is for
  pub numbers-stay : is_coming_for q (arriving plan here) ≡ false → numbers_so_far plan later (suc here) q ≡ numbers_so_far plan served here q
  numbers-stay not_for =
      let is_not : (k : ℕ) (p : Planned) → arriving plan here ≡ Some (k, p) → is_for q p ≡ false = λ k p is. ap (is_coming_for q) (sym is) ∙ not_for in
      let packets = none_now (is_for q) (λ p. 1) (arriving plan here) is_not in
      let dropped = none_now (dropped_test served) (λ p. 1) (arriving plan here) (λ k p is. rw (is_not k p is) refl) in
      let cells = none_now (enters plan q served) size_of (arriving plan here) (λ k p is. rw (is_not k p is) refl) in
      let few = below_peak plan q served here not_for in
      let peak : max (peak_of plan q served here) (length_in plan q served here) ≡ peak_of plan q served here = omega arith in
      let test = le-ltb (peak_of plan q served here) (length_in plan q served here) few in
      numbers-step ∙ rw (packets, dropped, cells, peak, test) (zeros (numbers_so_far plan served here q))

  -- of the queue that the packet is for
  pub numbers-with : (k : ℕ) (p : Planned) → arriving plan here ≡ Some (k, p) → is_for q p ≡ true
      → numbers_so_far plan later (suc here) q ≡ with_packet here (size_of p) (is_admitted plan served here p) (length_in plan q served here)
      (numbers_so_far plan served here q)
  numbers-with k p is mine =
      let now : p.arrival ≡ here = (arriving-there 0 plan.packets here k p is).3 in
      let same : is_admitted plan served p.arrival p ≡ is_admitted plan served here p = ap (λ t. is_admitted plan served t p) now in
      let packets : now_of (is_for q) (λ p. 1) (arriving plan here) ≡ 1 = ap (now_of (is_for q) (λ p. 1)) is ∙ ap (λ b. if b then 1 else 0) mine in
      let dropped = ap (now_of (dropped_test served) (λ p. 1)) is
      ∙ dropped_now (is_for q p) (is_admitted plan served p.arrival p) (is_admitted plan served here p) mine same in
      let cells = ap (now_of (enters plan q served) size_of) is
      ∙ cells_now (is_for q p) (is_admitted plan served p.arrival p) (is_admitted plan served here p) (size_of p) mine same in
      numbers-step ∙ rw (packets, dropped, cells) refl

-- before slot 0
pub numbers-first : (plan : Plan) (served : List (Option Served)) (q : Queue) → numbers_so_far plan served 0 q ≡ no_numbers
numbers-first plan served q =
    let packets = so_far-first (is_for q) (λ p. 1) plan.packets in
    let dropped = so_far-first (λ p. is_for q p && not (is_admitted plan served p.arrival p)) (λ p. 1) plan.packets in
    let cells = so_far-first (enters plan q served) size_of plan.packets in
    rw (packets, dropped, cells) refl
