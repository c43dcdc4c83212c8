-- What the cells of queues weigh in all, where each cell has a weight: after a slot's cells came, and after some left.
use Rattle.std.proofs.Common.{◌≡◌, ◌∙◌, ◌+◌, ◌<◌, ap, refl, arith, ℕ, List, [], ◌∷◌, ◌++◌, length, drop, inl, inr}
use Rattle.std.specs.Prelude.{All, sum_by, slice_get, option_to_list}
use Rattle.std.proofs.lemmas.Bool.{cases_Bool, cases_lt}
use Rattle.std.proofs.lemmas.List.Elements.{All-head, All-tail}
use Rattle.std.proofs.lemmas.List.Sums.{sum_by-append, sum_by-set}
use Rattle.std.proofs.Math.ListN.{get_or-eq_default}
use Rattle.std.proofs.lemmas.List.{set_past}
use Rattle.arrival_queues.specs.declared.cell.ArrivedCell.{ArrivedCell}
use Rattle.arrival_queues.specs.Queues.{Queues, has_room, head_of, queue_at, queue_entered, queue_for, queues_where, queues_with, queues_without_head}
use Rattle.simulated_slots.specs.Slots.{all_entered, all_left, departing, dropped_one}

-- f weighs the cells of a queue, each as w says
module _ (f : List ArrivedCell → ℕ) (w : ArrivedCell → ℕ) (nil : f [] ≡ 0) (cons : (c : ArrivedCell) (cs : List ArrivedCell) → f (c ∷ cs) ≡ w c + f cs)
    (push : (cs : List ArrivedCell) (c : ArrivedCell) → f (cs ++ c ∷ []) ≡ f cs + w c) where
  -- the weight of all cells
  abbrev pub weight : Queues → ℕ
  weight queues = sum_by f queues.cells

  rest-is : (cs : List ArrivedCell) → f (drop 1 cs) + sum_by w (option_to_list (slice_get cs 0)) ≡ f cs
  rest-is [] = omega arith
  rest-is (c ∷ cs) = omega (arith, cons c cs)

  -- queue q has other cells
  weight-where : (queues : Queues) (q : ℕ) (cs : List ArrivedCell) → q < length queues.cells
      → weight (queues_where queues q cs) + f (queue_at queues q) ≡ weight queues + f cs
  weight-where queues q cs inside = sum_by-set f queues.cells q cs [] inside

  -- the first cell of a queue leaves, if there is one
  weight-without : (queues : Queues) (q : ℕ) → weight (queues_without_head queues q) + sum_by w (option_to_list (head_of queues q)) ≡ weight queues
  unfolding queues_without_head
  weight-without queues q = elim (cases_lt q (length queues.cells)) [
    | inl inside ↦ omega (arith, weight-where queues q (drop 1 (queue_at queues q)) inside, rest-is (queue_at queues q))
    | inr outside ↦ omega (
      arith,
      ap (λ (cs : List ArrivedCell). sum_by w (option_to_list (slice_get cs 0))) (get_or-eq_default queues.cells [] outside),
      ap (sum_by f) (set_past queues.cells q (drop 1 (queue_at queues q)) outside),
    )
  ]

  -- some leave, one after the other
  pub weight-left : (queues : Queues) (qs : List ℕ) → weight (all_left queues qs) + sum_by w (departing queues qs) ≡ weight queues
  weight-left queues [] = omega arith
  weight-left queues (q ∷ qs) =
      let rest = weight-left (queues_without_head queues q) qs in
      let all = sum_by-append w (option_to_list (head_of queues q)) (departing (queues_without_head queues q) qs) in
      omega (arith, rest, all, weight-without queues q)

  -- a cell comes, whose queue is one of these
  pub weight-with : (queues : Queues) (c : ArrivedCell) → queue_for queues c.input c.output < length queues.cells
      → weight (queues_with queues c) + sum_by w (dropped_one queues c) ≡ weight queues + w c
  unfolding queues_with
  weight-with queues c inside = elim (cases_Bool (has_room queues c)) [
    | inl room ↦ rw room (omega (
      arith,
      weight-where queues (queue_for queues c.input c.output) (queue_entered queues c ++ c ∷ []) inside,
      push (queue_entered queues c) c,
    ))
    | inr none ↦ rw none (omega arith)
  ]

  -- a cell comes that weighs nothing
  weight-kept : (queues : Queues) (c : ArrivedCell) → w c ≡ 0 → weight (queues_with queues c) ≡ weight queues
  unfolding queues_with
  weight-kept queues c none = elim (cases_Bool (has_room queues c)) [
    | inl room ↦ rw room (same (queue_for queues c.input c.output))
    | inr full ↦ rw full refl
  ]
    where
      same : (q : ℕ) → weight (queues_where queues q (queue_at queues q ++ c ∷ [])) ≡ weight queues
      same q = elim (cases_lt q (length queues.cells)) [
        | inl inside ↦ omega (arith, weight-where queues q (queue_at queues q ++ c ∷ []) inside, push (queue_at queues q) c, none)
        | inr outside ↦ ap (sum_by f) (set_past queues.cells q (queue_at queues q ++ c ∷ []) outside)
      ]

  -- cells come that weigh nothing
  pub weight-entered_light : (queues : Queues) (cs : List ArrivedCell) → All (λ c. w c ≡ 0) cs → weight (all_entered queues cs) ≡ weight queues
  weight-entered_light queues [] light = refl
  weight-entered_light queues (c ∷ cs) light =
      weight-entered_light (queues_with queues c) cs (All-tail (λ (c : ArrivedCell). w c ≡ 0) c cs light)
      ∙ weight-kept queues c (All-head (λ (c : ArrivedCell). w c ≡ 0) c cs light)
