-- One queue has other cells: a cell more, or its first one gone.
use Rattle.std.proofs.Common.{◌≡◌, ◌≢◌, ◌∙◌, ℕ, suc, ◌+◌, ◌<◌, ◌≤◌, List, [], ◌∷◌, ◌++◌, Some, length, drop, slice_get, sym, ap, subst, inl, inr, arith}
use Rattle.std.proofs.Common.{length-drop}
use Rattle.std.proofs.lemmas.Bool.{cases_eq}
use Rattle.std.proofs.lemmas.List.{get_or-set_same, get_or-set_other, length-set, length_push}
use Rattle.std.proofs.lemmas.Nat.{mul-add-lt}
use Rattle.std_lemmas.proofs.Lists.{get-snoc}
use Rattle.arrival_queues.specs.declared.cell.ArrivedCell.{ArrivedCell}
use Rattle.arrival_queues.specs.declared.queueing.Queueing.{Queueing}
use Rattle.arrival_queues.specs.declared.queueing.Queueing.TheVariants.{ByPair, ByInput, ByOutput}
use Rattle.arrival_queues.specs.Queues.{Queues, queue_count, queue_of, queue_at, queues_where, IsInQueue, AreQueues}

-- there is a queue for each pair of ports
pub queue_of-lt : (queueing : Queueing) (n i j : ℕ) → i < n → j < n → queue_of queueing n i j < queue_count queueing n
queue_of-lt ByPair n i j i_in j_in = mul-add-lt i n j n i_in j_in
queue_of-lt ByInput n i j i_in j_in = i_in
queue_of-lt ByOutput n i j i_in j_in = j_in

module _ (queues : Queues) (q : ℕ) (cells : List ArrivedCell) where
  pub at_same : q < length queues.cells → queue_at (queues_where queues q cells) q ≡ cells
  at_same inside = get_or-set_same queues.cells q cells [] inside

  pub at_other : (k : ℕ) → k ≢ q → queue_at (queues_where queues q cells) k ≡ queue_at queues k
  at_other k other = get_or-set_other queues.cells q k cells [] other

  -- a cell of any queue, in the queues as they are now
  IsInQueue-where : (k : ℕ) (cell : ArrivedCell) → IsInQueue queues k cell → IsInQueue (queues_where queues q cells) k cell
  IsInQueue-where k cell is = record { input = is.input; output = is.output; place = is.place; arrival = is.arrival }

  pub AreQueues-where : AreQueues queues → q < length queues.cells → length cells ≤ queues.depth
      → ((k : ℕ) (cell : ArrivedCell) → slice_get cells k ≡ Some cell → IsInQueue queues q cell) → AreQueues (queues_where queues q cells)
  AreQueues-where whole inside few own = record {
    some = whole.some;
    size = whole.size;
    room = whole.room;
    count = length-set queues.cells q cells ∙ whole.count;
    within = λ k. elim (cases_eq k q) [
      | inl same ↦ rw (same, at_same inside) few
      | inr other ↦ rw (at_other k other) (whole.within k)
    ];
    own = λ k place cell is. elim (cases_eq k q) [
      | inl same ↦
          let here : queue_at (queues_where queues q cells) k ≡ cells = ap (queue_at (queues_where queues q cells)) same ∙ at_same inside in
          subst (λ p. IsInQueue (queues_where queues q cells) p cell) (sym same)
          (IsInQueue-where q cell (own place cell (ap (λ xs. slice_get xs place) (sym here) ∙ is)))
      | inr other ↦ IsInQueue-where k cell (whole.own k place cell (ap (λ xs. slice_get xs place) (sym (at_other k other)) ∙ is))
    ];
  }

-- a cell came
pub AreQueues-with : (queues : Queues) (q : ℕ) (cell : ArrivedCell) → AreQueues queues → q < length queues.cells → IsInQueue queues q cell
    → length (queue_at queues q) < queues.depth → AreQueues (queues_where queues q (queue_at queues q ++ cell ∷ []))
AreQueues-with queues q cell whole inside own room =
    AreQueues-where queues q (queue_at queues q ++ cell ∷ []) whole inside (omega (arith, length_push (queue_at queues q) cell))
    (λ k x is. elim (get-snoc (queue_at queues q) cell x k is) [
      | inl before ↦ whole.own q k x before
      | inr last ↦ subst (IsInQueue queues q) last.1 own
    ])

-- the first cell left
pub rest_at : {X : Type 0} (xs : List X) (k : ℕ) (x : X) → slice_get (drop 1 xs) k ≡ Some x → slice_get xs (k + 1) ≡ Some x
rest_at [] k x is = absurd cc
rest_at (y ∷ xs) k x is = let e : k + 1 ≡ suc k = omega arith in rw e is

pub AreQueues-without : (queues : Queues) (q : ℕ) → AreQueues queues → q < length queues.cells
    → AreQueues (queues_where queues q (drop 1 (queue_at queues q)))
AreQueues-without queues q whole inside =
    AreQueues-where queues q (drop 1 (queue_at queues q)) whole inside (omega (arith, length-drop 1 (queue_at queues q), whole.within q))
    (λ k x is. whole.own q (k + 1) x (rest_at (queue_at queues q) k x is))
