-- The queues of an ideal switch: each gets at most what comes for its output, and gives out one cell in each slot.
use Rattle.std.proofs.Common.{◌≡◌, ◌∙◌, ◌+◌, ◌-◌, ◌<◌, ◌≤◌, ◌==◌, ap, refl, sym, subst, arith, ℕ, zero, suc, List, [], ◌∷◌, ◌++◌, length, drop}
use Rattle.std.proofs.Common.{inl, inr, length-drop}
use Rattle.std.specs.Prelude.{All, Some, filter_map, if◌then◌else◌, slice_index_or, sum_by}
use Rattle.std.specs.List.{range_with_len}
use Rattle.std.proofs.lemmas.Bool.{cases_Bool, cases_eq, cases_lt, eq-eqb}
use Rattle.std.proofs.lemmas.List.{length_push, set_past}
use Rattle.std.proofs.Math.ListN.{get_or-eq_default}
use Rattle.std.proofs.lemmas.List.Elements.{All-head, All-tail}
use Rattle.std.proofs.lemmas.List.Sums.{sum_by-cons}
use Rattle.arrival_queues.specs.declared.cell.ArrivedCell.{ArrivedCell}
use Rattle.arrival_queues.specs.declared.queueing.Queueing.{Queueing}
use Rattle.arrival_queues.specs.declared.queueing.Queueing.TheVariants.{ByOutput}
use Rattle.arrival_queues.specs.Queues.{Queues, has_room, queue_at, queue_entered, queue_for, queue_of, queues_with, queues_without_head}
use Rattle.arrival_queues.proofs.Changes.{at_same}
use Rattle.simulated_slots.specs.declared.discipline.Discipline.TheVariants.{Ideal}
use Rattle.simulated_slots.specs.Jobs.{JobValue, queueing_of}
use Rattle.simulated_slots.specs.Slots.{all_entered, all_left, coming, slot_of, switch_before}
use Rattle.simulated_runs.proofs.Conserving.{coming-ports}
use Rattle.simulated_runs.proofs.HeadCells.{HasOwn, HasOwn-with, IsOf, at_where, owns-before}
use Rattle.simulated_runs.proofs.MadeSlots.{after-is, filled-is, left-is, served_in}

-- one for a cell of the output
abbrev pub to_output : ℕ → ArrivedCell → ℕ
to_output j c = if c.output == j then 1 else 0

-- how many cells wait in the queue
abbrev pub long : Queues → ℕ → ℕ
long queues q = length (queue_at queues q)

-- ---- what comes
module _ (n : ℕ) (j : ℕ) where
  long-with : (queues : Queues) (c : ArrivedCell) → HasOwn ByOutput n queues → long (queues_with queues c) j ≤ long queues j + to_output j c
  unfolding queues_with
  long-with queues c has = elim (cases_Bool (has_room queues c)) [
    | inl room ↦ rw room (at_where (λ (cells : List ArrivedCell). length cells ≤ long queues j + to_output j c) queues
        (queue_for queues c.input c.output) j (queue_entered queues c ++ c ∷ []) (omega arith)
        (λ same.
        let own : c.output ≡ j = sym (ap (λ (by : Queueing). queue_of by queues.ports c.input c.output) has.queues_by) ∙ sym same in
        let one : to_output j c ≡ 1 = rw (eq-eqb c.output j own) refl in
        let here : length (queue_entered queues c) ≡ long queues j = ap (long queues) (sym same) in
        omega (arith, length_push (queue_entered queues c) c, one, here)))
    | inr full ↦ rw full (omega arith)
  ]

  long-entered : (queues : Queues) (cs : List ArrivedCell) → HasOwn ByOutput n queues → All (IsOf n) cs
      → long (all_entered queues cs) j ≤ long queues j + sum_by (to_output j) cs
  long-entered queues [] has all = omega arith
  long-entered queues (c ∷ cs) has all =
      let first = long-with queues c has in
      let rest = long-entered (queues_with queues c) cs (HasOwn-with ByOutput n queues c (All-head (IsOf n) c cs all) has) (All-tail (IsOf n) c cs all) in
      omega (arith, first, rest, sum_by-cons (to_output j) c cs)

-- ---- what leaves
long-without : (queues : Queues) (k q : ℕ) → long (queues_without_head queues k) q ≤ long queues q
unfolding queues_without_head
long-without queues k q = at_where (λ (cells : List ArrivedCell). length cells ≤ long queues q) queues k q (drop 1 (queue_at queues k)) (omega arith)
    (λ same. let here : long queues q ≡ long queues k = ap (long queues) same in omega (arith, length-drop 1 (queue_at queues k), here))

long-own : (queues : Queues) (k : ℕ) → long (queues_without_head queues k) k ≤ long queues k - 1
unfolding queues_without_head
long-own queues k = elim (cases_lt k (length queues.cells)) [
  | inl inside ↦ omega (
    arith,
    ap (λ (cells : List ArrivedCell). length cells) (at_same queues k (drop 1 (queue_at queues k)) inside),
    length-drop 1 (queue_at queues k),
  )
  | inr outside ↦ omega (
    arith,
    ap (λ (all : List (List ArrivedCell)). length (slice_index_or all k [])) (set_past queues.cells k (drop 1 (queue_at queues k)) outside),
    ap (λ (cells : List ArrivedCell). length cells) (get_or-eq_default queues.cells [] outside),
  )
]

long-left : (queues : Queues) (ks : List ℕ) (q : ℕ) → long (all_left queues ks) q ≤ long queues q
long-left queues [] q = omega arith
long-left queues (k ∷ ks) q = omega (arith, long-left (queues_without_head queues k) ks q, long-without queues k q)

long-served : (m count : ℕ) (queues : Queues) (q : ℕ) → m ≤ q → q < m + count → long (all_left queues (range_with_len m count)) q ≤ long queues q - 1
long-served m zero queues q from below = absurd (omega (arith, from, below))
long-served m (suc count) queues q from below = elim (cases_eq q m) [
  | inl same ↦
      let gone : long (queues_without_head queues m) q ≤ long queues q - 1 =
      subst (λ (k : ℕ). long (queues_without_head queues k) q ≤ long queues q - 1) same (long-own queues q) in
      omega (arith, gone, long-left (queues_without_head queues m) (range_with_len (m + 1) count) q)
  | inr other ↦
      omega (arith, long-served (m + 1) count (queues_without_head queues m) q (omega (arith, from, other)) (omega (arith, below)), long-without queues m q)
]

all-served : (ks : List ℕ) → filter_map (λ (j : ℕ). Some j) ks ≡ ks
all-served [] = refl
all-served (k ∷ ks) = ap (λ (rest : List ℕ). k ∷ rest) (all-served ks)

module _ (job : JobValue) (ideal : job.settings.discipline ≡ Ideal) where
  pub by-output : queueing_of job.settings.discipline ≡ ByOutput
  by-output = ap queueing_of ideal

  serves-all : (t : ℕ) → served_in job t ≡ range_with_len 0 job.traffic.ports
  serves-all t = rw ideal (all-served (range_with_len 0 job.traffic.ports))

  -- the queue of an output a slot later
  pub long-next : (t j : ℕ) → j < job.traffic.ports
      → long (switch_before job (t + 1)).queues j ≤ long (switch_before job t).queues j + sum_by (to_output j) (coming job t) - 1
  long-next t j inside =
      let n = job.traffic.ports in
      let has = subst (λ (by : Queueing). HasOwn by n (switch_before job t).queues) by-output (owns-before job t) in
      let came = long-entered n j (switch_before job t).queues (coming job t) has (coming-ports job t) in
      let filled = ap (λ (queues : Queues). long queues j) (filled-is job t) in
      let gone = long-served 0 n (slot_of job t).filled j (omega arith) (omega (arith, inside)) in
      let served = ap (λ (ks : List ℕ). long (all_left (slot_of job t).filled ks) j) (serves-all t) in
      let after = ap (λ switch. long switch.queues j) (after-is job t) ∙ ap (λ (queues : Queues). long queues j) (left-is job t) in
      omega (arith, came, filled, gone, served, after)
