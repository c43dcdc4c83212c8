-- How much of the traffic comes: to a queue and to a line in a period, and to an input in a slot.
use Rattle.std.proofs.Common.{◌≡◌, ◌≢◌, ℕ, zero, suc, ◌+◌, ◌-◌, ◌*◌, ◌%◌, ◌<◌, ◌≤◌, ◌∙◌, refl, sym, ap, inl, inr, arith}
use Rattle.std.specs.List.{range_with_len, sum_by}
use Rattle.std.proofs.Math.Nat.{add-mod_right, add-mul-mod_self_right, mod-mod_of_dvd, dvd-mul_left}
use Rattle.std_lemmas.proofs.RangeSums.{sum_by-range_le}
use Rattle.std_lemmas.proofs.Sums.{sum_by-zero, sum_by-plus, sum_by-turn, range_sum-le, range_sum-most}
use Rattle.scheduler_laws.specs.FedSlots.{IsAtLineRate}
use Rattle.scheduler_laws.specs.Growth.{cycle, period, one_in, growing, came_to_input, came_for_output, IsOfLoad}
use Rattle.scheduler_laws.proofs.Counting.{one_in-not, one_in-or, one_in-most, place_comes}
use Rattle.scheduler_laws.proofs.GrowingTurns.{period_some}

-- ---- in a period
-- the one cell more of queue (0, 0)
extra : ℕ → ℕ → ℕ
extra zero zero = 1
extra (suc i) j = 0
extra zero (suc j) = 0

module _ (n m : ℕ) (more : 1 < n) (some : 0 < m) where
  -- the cells to a queue in a period: one for each cycle, and the one more
  of_queue : (i j t : ℕ) → i < n → j < n → sum_by (growing n m i j) (range_with_len t (period n m)) ≤ m + extra i j
  unfolding extra
  of_queue zero zero t i_in j_in =
      let whole = period_some n m more some in
      let each = place_comes (cycle n) 1 m t (omega arith) in
      let once = place_comes (period n m) 0 1 t whole in
      let long : 1 * period n m ≡ period n m = omega arith in
      let there = ap (λ k. sum_by (λ u. one_in 0 (u % period n m)) (range_with_len t k)) long in
      let both = sum_by-plus (λ u. one_in 1 (u % cycle n)) (λ u. one_in 0 (u % period n m)) (range_with_len t (period n m)) in
      omega arith
  of_queue (suc i) zero t i_in j_in = let each = place_comes (cycle n) (suc i) m t (omega arith) in omega arith
  of_queue zero (suc j) t i_in j_in = let each = place_comes (cycle n) (n + j) m t (omega arith) in omega arith
  of_queue (suc i) (suc j) t i_in j_in = let none = sum_by-zero (range_with_len t (period n m)) in omega arith

  -- those to n queues of which one at most has the one more
  of_line : (more_of : ℕ → ℕ) (queue : ℕ → ℕ) → ((x : ℕ) → x < n → queue x ≤ m + more_of x) → ((x : ℕ) → x ≢ 0 → more_of x ≡ 0) → more_of 0 ≤ 1
      → sum_by queue (range_with_len 0 n) ≤ m * n + 1
  of_line more_of queue each others first =
      let all = range_sum-le 0 n queue (λ x. m + more_of x) (λ x from below. each x (omega arith)) in
      let parts = sum_by-plus (λ x. m) more_of (range_with_len 0 n) in
      let even = sum_by-range_le 0 n (λ x. m) m (λ x from below. omega arith) in
      let one = range_sum-most more_of 0 others 0 n in
      let turned : n * m ≡ m * n = grind (arith) in
      omega arith

  extra_output : (i x : ℕ) → x ≢ 0 → extra i x ≡ 0
  unfolding extra
  extra_output zero zero other = absurd (other refl)
  extra_output zero (suc x) other = refl
  extra_output (suc i) x other = refl

  extra_input : (j x : ℕ) → x ≢ 0 → extra x j ≡ 0
  unfolding extra
  extra_input j zero other = absurd (other refl)
  extra_input j (suc x) other = refl

  extra_most : (i j : ℕ) → extra i j ≤ 1
  unfolding extra
  extra_most zero zero = omega arith
  extra_most (suc i) j = omega arith
  extra_most zero (suc j) = omega arith

  to_input : (i t : ℕ) → i < n → came_to_input n (growing n m) i t (period n m) ≤ m * n + 1
  to_input i t i_in =
      let slots = range_with_len t (period n m) in
      let turned = sum_by-turn (λ u j. growing n m i j u) slots (range_with_len 0 n) in
      let line = of_line (extra i) (λ j. sum_by (growing n m i j) slots) (λ j j_in. of_queue i j t i_in j_in) (extra_output i) (extra_most i 0) in
      omega arith

  for_output : (j t : ℕ) → j < n → came_for_output n (growing n m) j t (period n m) ≤ m * n + 1
  for_output j t j_in =
      let slots = range_with_len t (period n m) in
      let turned = sum_by-turn (λ u i. growing n m i j u) slots (range_with_len 0 n) in
      let line = of_line (λ i. extra i j) (λ i. sum_by (growing n m i j) slots) (λ i i_in. of_queue i j t i_in j_in) (extra_input j) (extra_most 0 j) in
      omega arith

  again : (i j t : ℕ) → growing n m i j (t + period n m) ≡ growing n m i j t
  again zero zero t =
      let cycles : (t + m * cycle n) % cycle n ≡ t % cycle n = add-mul-mod_self_right t m (cycle n) in
      let periods : (t + period n m) % period n m ≡ t % period n m = add-mod_right t (period n m) in
      ap (λ s. one_in 1 s + one_in 0 ((t + period n m) % period n m)) cycles ∙ ap (λ s. one_in 1 (t % cycle n) + one_in 0 s) periods
  again (suc i) zero t = ap (one_in (suc i)) (add-mul-mod_self_right t m (cycle n))
  again zero (suc j) t = ap (one_in (n + j)) (add-mul-mod_self_right t m (cycle n))
  again (suc i) (suc j) t = refl

  pub of_load : IsOfLoad n m (growing n m)
  of_load = record { periodic = again; inputs = to_input; outputs = for_output }

  -- ---- in a slot
  -- the first slot of a period is the first of a cycle
  first_of_cycle : (t : ℕ) → t % period n m ≡ 0 → t % cycle n ≡ 0
  first_of_cycle t first =
      let along : t % period n m % cycle n ≡ t % cycle n = mod-mod_of_dvd (cycle n) t (dvd-mul_left (cycle n) m) in
      sym along ∙ ap (λ x. x % cycle n) first ∙ omega arith

  -- where the cell of input 0 is not for output 0 none is
  first_not : (t : ℕ) → t % cycle n ≢ 0 → t % cycle n ≢ 1 → growing n m 0 0 t ≡ 0
  first_not t no_first no_second =
      let one = one_in-not 1 (t % cycle n) no_second in
      let other = one_in-not 0 (t % period n m) (λ first. no_first (first_of_cycle t first)) in
      omega arith

  first_most : (t : ℕ) → growing n m 0 0 t ≤ 1
  first_most t = elim (one_in-or 0 (t % period n m)) [
    | inl at ↦ let one = one_in-not 1 (t % cycle n) (λ second. let first = first_of_cycle t at.0 in omega arith) in let e = at.1 in omega arith
    | inr off ↦ let one = one_in-most 1 (t % cycle n) in let e = off.1 in omega arith
  ]

  -- the output for which a cell comes to input 0, if one comes
  others_none : (t j : ℕ) → j ≢ t % cycle n + 1 - n → growing n m 0 j t ≡ 0
  others_none t zero other = first_not t (λ e. omega arith) (λ e. omega arith)
  others_none t (suc j) other = one_in-not (n + j) (t % cycle n) (λ e. other (omega arith))

  at_most_one : (t j : ℕ) → growing n m 0 j t ≤ 1
  at_most_one t zero = first_most t
  at_most_one t (suc j) = one_in-most (n + j) (t % cycle n)

  pub at_line_rate : IsAtLineRate n (growing n m)
  at_line_rate zero t i_in =
      let place : ℕ = t % cycle n + 1 - n in
      let most = range_sum-most (λ j. growing n m 0 j t) place (others_none t) 0 n in
      let one = at_most_one t place in
      omega arith
  at_line_rate (suc i) t i_in =
      let f : ℕ → ℕ = λ j. growing n m (suc i) j t in
      let most = range_sum-most f 0 (λ j other. beyond i t j other) 0 n in
      let one = one_in-most (suc i) (t % cycle n) in
      omega arith
    where
      beyond : (x u j : ℕ) → j ≢ 0 → growing n m (suc x) j u ≡ 0
      beyond x u zero other = absurd (other refl)
      beyond x u (suc j) other = refl
