-- The packets that were admitted and dropped, over all packets of the plan.
use Rattle.std.proofs.Common.{◌≡◌, ◌∙◌, ℕ, zero, suc, ◌+◌, ◌≤◌, ◌==◌, ◌&&◌, not, nat_lt, Bool, true, false, List, [], ◌∷◌, ◌++◌, Option, Some}
use Rattle.std.proofs.Common.{None, slice_get, slice_index_or, count_by, refl, sym, ap, arith, inl, inr, if◌then◌else◌, append_assoc}
use Rattle.std.proofs.lemmas.Bool.{cases_eq, eq-eqb, ne_eqb, lt-ltb, le-ltb}
use Rattle.std.proofs.lemmas.List.{append-nil}
use Rattle.std.proofs.lemmas.List.Sums.{sum_by-cons}
use Rattle.std_lemmas.proofs.Bools.{same_third}
use Rattle.std_lemmas.proofs.Numbers.{lt_suc-other}
use Rattle.slot_match.specs.declared.matching.Served.{Served}
use Rattle.multicast_queue.specs.FanQueues.{FanCell}
use Rattle.voq_banks.specs.CellQueues.{cells_with_fan}
use Rattle.card_core.specs.declared.plan.Planned.{Planned}
use Rattle.card_core.specs.Plans.{Plan, Queue, AreRising, IsGoodPlan, is_queue, queue_of, size_of, arriving, arriving_from}
use Rattle.card_core.specs.Queues.{Passed, waiting, rest_of, with_since, head_gone, after_part_of, is_routed, fits, coming, before, queue_in}
use Rattle.card_core.specs.Queues.{is_admitted, enters, cells_admitted, counted, count_before, count_in, admitted, dropped}
use Rattle.card_core.proofs.Passing.{arriving-there, is_queue-same}

-- all packets arrive in slot t or later
abbrev AreFrom : ℕ → List Planned → Type 0
AreFrom t ps = (j : ℕ) (p : Planned) → slice_get ps j ≡ Some p → t ≤ p.arrival

pub rest-rising : (p : Planned) (ps : List Planned) → AreRising (p ∷ ps) → AreRising ps
rest-rising p ps rising k j x y at to less = rising (suc k) (suc j) x y at to (omega arith)

pub rest-later : (p : Planned) (ps : List Planned) (t : ℕ) → AreRising (p ∷ ps) → p.arrival ≡ t → AreFrom (suc t) ps
rest-later p ps t rising now j r at = let up = rising 0 (suc j) p r refl at (omega arith) in omega arith

-- ---- the cells of the admitted packets
entered_if : (s t : Passed) (b : Bool) → t.entered ≡ s.entered → (if b then head_gone s else t).entered ≡ s.entered
entered_if s t true same = refl
entered_if s t false same = same

pub entered_stays : (q : Queue) (s : Passed) (part : Option Served) (w : List FanCell) → (after_part_of q s part w).entered ≡ s.entered
entered_stays q s part [] = refl
entered_stays q s part (c ∷ w) = entered_if s (with_since s (part ∷ s.since)) (rest_of q (with_since s (part ∷ s.since)) == 0) refl

module _ (plan : Plan) (q : Queue) (served : List (Option Served)) where
  -- those of the packet that arrives
  abbrev arrival_cells : Option (ℕ × Planned) → List FanCell
  arrival_cells None = []
  arrival_cells (Some (k, p)) = if enters plan q served p then cells_with_fan k (size_of p) p.fan else []

  none_admitted : (t k : ℕ) (ps : List Planned) → AreFrom t ps → cells_admitted plan q served t k ps ≡ []
  none_admitted t k [] later = refl
  none_admitted t k (p ∷ ps) later = rw (le-ltb p.arrival t (later 0 p refl)) (none_admitted t (k + 1) ps (λ j r at. later (suc j) r at))

  admitted_step : (t k : ℕ) (ps : List Planned) → AreRising ps → cells_admitted plan q served (suc t) k ps ≡ cells_admitted plan q served t k ps
      ++ arrival_cells (arriving_from k ps t)
  admitted_step t k [] rising = refl
  admitted_step t k (p ∷ ps) rising =
      elim (cases_eq p.arrival t) [
        | inl now ↦
            let later = rest-later p ps t rising now in
            let none = none_admitted (suc t) (k + 1) ps later in
            let none' = none_admitted t (k + 1) ps (λ j r at. omega (arith, later j r at)) in
            rw (lt-ltb p.arrival (suc t) (omega arith), le-ltb p.arrival t (omega arith), eq-eqb p.arrival t now, none, none') (append-nil _)
        | inr differ ↦
            let here = if nat_lt p.arrival t && enters plan q served p then cells_with_fan k (size_of p) p.fan else [] in
            rw (lt_suc-other p.arrival t differ, ne_eqb p.arrival t differ)
            (ap (λ w. here ++ w) (admitted_step t (k + 1) ps (rest-rising p ps rising))
            ∙ sym (append_assoc here (cells_admitted plan q served t (k + 1) ps) (arrival_cells (arriving_from (k + 1) ps t))))
      ]

  coming_enters : (t : ℕ) (arrives : Option (ℕ × Planned)) → arriving plan t ≡ arrives → coming plan q (before plan q served t) arrives ≡ arrival_cells arrives
  coming_enters t None is = refl
  coming_enters t (Some (k, p)) is =
      let now : p.arrival ≡ t = (arriving-there 0 plan.packets t k p is).3 in
      let same : (is_routed p && is_queue q (queue_of p) && fits plan (before plan q served t) p) ≡ enters plan q served p =
      same_third (is_routed p) (is_queue q (queue_of p)) (fits plan (before plan q served t) p) (is_admitted plan served p.arrival p)
      (λ mine. ap (λ r. fits plan (before plan r served t) p) (is_queue-same q (queue_of p) mine) ∙ ap (λ u. is_admitted plan served u p) (sym now)) in
      ap (λ b. if b then cells_with_fan k (size_of p) p.fan else []) same

  pub entered-is : IsGoodPlan plan → (t : ℕ) → (before plan q served t).entered ≡ cells_admitted plan q served t 0 plan.packets
  entered-is good zero = sym (none_admitted 0 0 plan.packets (λ j p at. omega arith))
  entered-is good (suc t) =
      let s = queue_in plan q served t in
      entered_stays q s (slice_index_or served t None) (waiting s)
      ∙ ap (λ w. w ++ coming plan q (before plan q served t) (arriving plan t)) (entered-is good t)
      ∙ ap (λ w. cells_admitted plan q served t 0 plan.packets ++ w) (coming_enters t (arriving plan t) refl)
      ∙ sym (admitted_step t 0 plan.packets good.rising)

-- ---- the counts
module _ (test : Planned → Bool) where
  -- how many of the packets arrive before slot t and pass
  abbrev passing : ℕ → List Planned → ℕ
  passing t ps = count_by (λ p. nat_lt p.arrival t && test p) ps

  -- and of the packet that arrives
  abbrev passes : Option (ℕ × Planned) → ℕ
  passes None = 0
  passes (Some (k, p)) = if test p then 1 else 0

  passing-cons : (t : ℕ) (p : Planned) (ps : List Planned) → passing t (p ∷ ps) ≡ (if nat_lt p.arrival t && test p then 1 else 0) + passing t ps
  passing-cons t p ps = sum_by-cons (λ r. if nat_lt r.arrival t && test r then 1 else 0) p ps

  none_passing : (t : ℕ) (ps : List Planned) → AreFrom t ps → passing t ps ≡ 0
  none_passing t [] later = refl
  none_passing t (p ∷ ps) later =
      let rest = none_passing t ps (λ j r at. later (suc j) r at) in
      passing-cons t p ps ∙ rw (le-ltb p.arrival t (later 0 p refl)) (omega (arith, rest))

  pub passing_step : (t k : ℕ) (ps : List Planned) → AreRising ps → passing (suc t) ps ≡ passing t ps + passes (arriving_from k ps t)
  passing_step t k [] rising = refl
  passing_step t k (p ∷ ps) rising =
      elim (cases_eq p.arrival t) [
        | inl now ↦
            let later = rest-later p ps t rising now in
            let none = none_passing (suc t) ps later in
            let none' = none_passing t ps (λ j r at. omega (arith, later j r at)) in
            rw (
              passing-cons (suc t) p ps,
              passing-cons t p ps,
              lt-ltb p.arrival (suc t) (omega arith),
              le-ltb p.arrival t (omega arith),
              eq-eqb p.arrival t now,
              none,
              none',
            ) (omega arith)
        | inr differ ↦
            let more = passing_step t (k + 1) ps (rest-rising p ps rising) in
            rw (passing-cons (suc t) p ps, passing-cons t p ps, lt_suc-other p.arrival t differ, ne_eqb p.arrival t differ, more) (omega arith)
      ]

module _ (plan : Plan) (good : IsGoodPlan plan) (served : List (Option Served)) where
  abbrev counts : Bool → Planned → Bool
  counts wanted p = is_routed p && (if wanted then is_admitted plan served p.arrival p else not (is_admitted plan served p.arrival p))

  counted_in : (wanted : Bool) (t : ℕ) (arrives : Option (ℕ × Planned)) → arriving plan t ≡ arrives
      → count_in wanted plan served t arrives ≡ passes (counts wanted) arrives
  counted_in wanted t None is = refl
  counted_in wanted t (Some (k, p)) is =
      let now : p.arrival ≡ t = (arriving-there 0 plan.packets t k p is).3 in
      ap (λ u. counted wanted p (is_admitted plan served u p)) (sym now)

  pub count-is : (wanted : Bool) (t : ℕ) → count_before wanted plan served t ≡ count_by (λ p. nat_lt p.arrival t && counts wanted p) plan.packets
  count-is wanted zero = sym (none_passing (counts wanted) 0 plan.packets (λ j p at. omega arith))
  count-is wanted (suc t) =
      ap (λ n. n + count_in wanted plan served t (arriving plan t)) (count-is wanted t)
      ∙ ap (λ n. passing (counts wanted) t plan.packets + n) (counted_in wanted t (arriving plan t) refl)
      ∙ sym (passing_step (counts wanted) t 0 plan.packets good.rising)

  one_of_two : (r a : Bool) → ◌≡◌ {A = ℕ} ((if r && a then 1 else 0) + (if r && not a then 1 else 0)) (if r then 1 else 0)
  one_of_two true true = refl
  one_of_two true false = refl
  one_of_two false a = refl

  both_in : (t : ℕ) (arrives : Option (ℕ × Planned)) → count_in true plan served t arrives + count_in false plan served t arrives ≡ passes is_routed arrives
  both_in t None = refl
  both_in t (Some (k, p)) = one_of_two (is_routed p) (is_admitted plan served t p)

  pub both-are : (t : ℕ) → admitted plan served t + dropped plan served t ≡ count_by (λ p. nat_lt p.arrival t && is_routed p) plan.packets
  both-are zero = sym (none_passing is_routed 0 plan.packets (λ j p at. omega arith))
  both-are (suc t) =
      let both = both-are t in
      let now = both_in t (arriving plan t) in
      let step = passing_step is_routed t 0 plan.packets good.rising in
      omega (arith, both, now, step)
