-- How many cells wait, and the sum of the slots in which they came: after a cell came or left, and their bounds.
use Rattle.std.proofs.Common.{◌≡◌, ◌∙◌, ℕ, suc, ◌+◌, ◌*◌, ◌^◌, ◌<◌, ◌≤◌, List, [], ◌∷◌, ◌++◌, Some, length, drop, slice_get, slice_index_or, refl, ap, arith}
use Rattle.std.specs.List.{sum_by}
use Rattle.std.proofs.lemmas.List.{get_or_default, length_push}
use Rattle.std.proofs.lemmas.List.Folds.{sum_by-replicate}
use Rattle.std.proofs.lemmas.List.Sums.{sum_by-cons, sum_by-le, sum_by_push, sum_by-set}
use Rattle.std.proofs.lemmas.Option.{same_Some}
use Rattle.arrival_queues.specs.declared.cell.ArrivedCell.{ArrivedCell}
use Rattle.arrival_queues.specs.declared.queueing.Queueing.{Queueing}
use Rattle.arrival_queues.specs.Queues.{Queues, queue_at, queue_count, queues_where, empty_queues, head_of, held_count, sum_of_arrivals, AreQueues}

-- the sum of the slots in which the cells of a queue came
abbrev pub arrivals_in : List ArrivedCell → ℕ
arrivals_in = sum_by (λ cell. cell.arrival)

-- ---- before a cell came
pub held-empty : (queueing : Queueing) (ports depth : ℕ) → held_count (empty_queues queueing ports depth) ≡ 0
unfolding held_count
held-empty queueing ports depth = omega (arith, sum_by-replicate {X = List ArrivedCell} length (queue_count queueing ports) [])

pub arrivals-empty : (queueing : Queueing) (ports depth : ℕ) → sum_of_arrivals (empty_queues queueing ports depth) ≡ 0
unfolding sum_of_arrivals
arrivals-empty queueing ports depth = omega (arith, sum_by-replicate arrivals_in (queue_count queueing ports) [])

-- ---- one queue has other cells
module _ (queues : Queues) (q : ℕ) (cells : List ArrivedCell) (inside : q < length queues.cells) where
  held-where : held_count (queues_where queues q cells) + length (queue_at queues q) ≡ held_count queues + length cells
  unfolding held_count
  held-where = sum_by-set length queues.cells q cells [] inside

  arrivals-where : sum_of_arrivals (queues_where queues q cells) + arrivals_in (queue_at queues q) ≡ sum_of_arrivals queues + arrivals_in cells
  unfolding sum_of_arrivals
  arrivals-where = sum_by-set arrivals_in queues.cells q cells [] inside

-- a cell came
pub held-with : (queues : Queues) (q : ℕ) (cell : ArrivedCell) → q < length queues.cells
    → held_count (queues_where queues q (queue_at queues q ++ cell ∷ [])) ≡ held_count queues + 1
held-with queues q cell inside =
    omega (arith, held-where queues q (queue_at queues q ++ cell ∷ []) inside, length_push (queue_at queues q) cell)

pub arrivals-with : (queues : Queues) (q : ℕ) (cell : ArrivedCell) → q < length queues.cells
    → sum_of_arrivals (queues_where queues q (queue_at queues q ++ cell ∷ [])) ≡ sum_of_arrivals queues + cell.arrival
arrivals-with queues q cell inside =
    omega (arith, arrivals-where queues q (queue_at queues q ++ cell ∷ []) inside, sum_by_push (λ (c : ArrivedCell). c.arrival) (queue_at queues q) cell)

-- the first cell left
length-rest : {X : Type 0} (xs : List X) (x : X) → slice_get xs 0 ≡ Some x → length xs ≡ length (drop 1 xs) + 1
length-rest [] x is = absurd cc
length-rest (y ∷ xs) x is = omega arith

arrivals-rest : (cells : List ArrivedCell) (cell : ArrivedCell) → slice_get cells 0 ≡ Some cell
    → arrivals_in cells ≡ cell.arrival + arrivals_in (drop 1 cells)
arrivals-rest [] cell is = absurd cc
arrivals-rest (first ∷ cells) cell is =
    let same : first ≡ cell = same_Some first cell is in
    sum_by-cons (λ (c : ArrivedCell). c.arrival) first cells ∙ ap (λ (c : ArrivedCell). c.arrival + arrivals_in cells) same

pub held-without : (queues : Queues) (q : ℕ) (cell : ArrivedCell) → q < length queues.cells → head_of queues q ≡ Some cell
    → held_count queues ≡ held_count (queues_where queues q (drop 1 (queue_at queues q))) + 1
held-without queues q cell inside head =
    omega (arith, held-where queues q (drop 1 (queue_at queues q)) inside, length-rest (queue_at queues q) cell head)

pub arrivals-without : (queues : Queues) (q : ℕ) (cell : ArrivedCell) → q < length queues.cells → head_of queues q ≡ Some cell
    → sum_of_arrivals queues ≡ sum_of_arrivals (queues_where queues q (drop 1 (queue_at queues q))) + cell.arrival
arrivals-without queues q cell inside head =
    omega (arith, arrivals-where queues q (drop 1 (queue_at queues q)) inside, arrivals-rest (queue_at queues q) cell head)

-- ---- the most that there can be
pub held-le : (queues : Queues) → AreQueues queues → held_count queues ≤ 67108864
unfolding held_count
held-le queues whole =
    let few : sum_by length queues.cells ≤ length queues.cells * queues.depth =
    sum_by-le length queues.depth queues.cells (λ k d inside. rw (get_or_default queues.cells k d [] inside) (whole.within k)) in
    let all : length queues.cells * queues.depth ≡ queue_count queues.queueing queues.ports * queues.depth = ap (λ n. n * queues.depth) whole.count in
    omega (arith, few, all, whole.room)

one_within : (cells : List ArrivedCell) → ((k : ℕ) (cell : ArrivedCell) → slice_get cells k ≡ Some cell → cell.arrival < 2 ^ 32)
    → arrivals_in cells ≤ 2 ^ 32 * length cells
one_within [] early = omega arith
one_within (cell ∷ cells) early =
    let rest = one_within cells (λ k c is. early (suc k) c is) in
    omega (arith, early 0 cell refl, rest, sum_by-cons (λ (c : ArrivedCell). c.arrival) cell cells)

all_within : (lists : List (List ArrivedCell))
    → ((q k : ℕ) (cell : ArrivedCell) → slice_get (slice_index_or lists q []) k ≡ Some cell → cell.arrival < 2 ^ 32)
    → sum_by arrivals_in lists ≤ 2 ^ 32 * sum_by length lists
all_within [] early = omega arith
all_within (cells ∷ lists) early =
    let here = one_within cells (early 0) in
    let rest = all_within lists (λ q. early (suc q)) in
    omega (arith, here, rest, sum_by-cons arrivals_in cells lists, sum_by-cons {X = List ArrivedCell} length cells lists)

pub arrivals-le : (queues : Queues) → AreQueues queues → sum_of_arrivals queues ≤ 2 ^ 32 * held_count queues
unfolding sum_of_arrivals held_count
arrivals-le queues whole = all_within queues.cells (λ q k cell is. (whole.own q k cell is).arrival)
