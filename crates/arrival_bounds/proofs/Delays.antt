-- No cell waits longer than this: one queue alone, and all of them by induction on when a cell came.
use Rattle.std.proofs.Common.{◌≡◌, ℕ, zero, suc, ◌+◌, ◌-◌, ◌*◌, ◌<◌, ◌≤◌, arith, inl, inr, subst, sym}
use Rattle.std.proofs.lemmas.Bool.{cases_lt}
use Rattle.arrival_bounds.specs.Counts.{Counts, of_input, for_output, AreServed, AreFewBeside, ComeApart, QueueWaitsAtMost}
use Rattle.arrival_bounds.proofs.Lines.{line-le, line-less, climb}

-- by columns
abbrev turned : Counts → Counts
turned f = λ i j l t. f j i l t

module _ (n levels most : ℕ) (came gone : Counts) (maximal : AreServed n levels came gone) where
  -- A cell that is left: each slot took one of its input or for its output, and no more are there, since it counts twice.
  pub queue_soon : (i j l r : ℕ) → i < n → j < n → l < levels
      → of_input n levels came i (r + (most + 1)) + for_output n levels came j (r + (most + 1))
      ≤ of_input n levels gone i r + for_output n levels gone j r + (most + 2)
      → came i j l (suc r) ≤ gone i j l (suc r + most)
  queue_soon i j l r i_in j_in l_in few = elim (cases_lt (gone i j l (suc r + most)) (came i j l (suc r))) [
    | inr soon ↦ soon
    | inl late ↦
        let u = suc r + most in
        let A = of_input n levels gone i in
        let B = for_output n levels gone j in
        let A' = of_input n levels came i in
        let B' = for_output n levels came j in
        let at : r + (most + 1) ≡ u = omega arith in
        let few' : A' u + B' u ≤ A r + B r + (most + 2) = subst (λ v. A' v + B' v ≤ A r + B r + (most + 2)) at few in
        let taken = climb A B
        (λ t. line-le n levels gone gone i t (t + 1) (λ y m y_in m_in. maximal.goes i y m t (t + 1) (omega arith)))
        (λ t. line-le n levels (turned gone) (turned gone) j t (t + 1) (λ x m x_in m_in. maximal.goes x j m t (t + 1) (omega arith)))
        r (most + 1)
        (λ t from inside.
        let earlier = maximal.goes i j l (t + 1) u (omega arith) in
        let later = maximal.comes i j l (suc r) (t + 1) (omega arith) in
        maximal.takes i j l t i_in j_in l_in (omega arith)) in
        let taken' : A r + B r + (most + 1) ≤ A u + B u = subst (λ v. A r + B r + (most + 1) ≤ A v + B v) at taken in
        let more = maximal.comes i j l (suc r) u (omega arith) in
        let row = line-less n levels gone came i u u (record { output = j; level = l; output_in = j_in; level_in = l_in; more = omega arith })
        (λ y m y_in m_in. maximal.few i y m u i_in y_in) in
        let column = line-less n levels (turned gone) (turned came) j u u
        (record { output = i; level = l; output_in = i_in; level_in = l_in; more = omega arith })
        (λ x m x_in m_in. maximal.few x j m u x_in j_in) in
        absurd (omega arith)
  ]

  pub one_queue : (i j l : ℕ) → i < n → j < n → l < levels → AreFewBeside n levels came gone i j most → QueueWaitsAtMost came gone i j l most
  one_queue i j l i_in j_in l_in few zero = let none = maximal.none i j l in omega arith
  one_queue i j l i_in j_in l_in few (suc r) = queue_soon i j l r i_in j_in l_in (few r)

  pub gone_old : (i j l r : ℕ) → came i j l (r - most) ≤ gone i j l (r - most + most) → came i j l (r - most) ≤ gone i j l r
  gone_old i j l r soon = elim (cases_lt r most) [
    | inl early ↦ subst (λ t. came i j l t ≤ gone i j l r) (at r most early) (subst (λ x. x ≤ gone i j l r) (sym (maximal.none i j l)) (least (gone i j l r)))
    | inr late ↦ subst (λ t. came i j l (r - most) ≤ gone i j l t) (back r most late) soon
  ] where
    at : (x y : ℕ) → x < y → 0 ≡ x - y
    at x y less = omega arith

    back : (x y : ℕ) → y ≤ x → x - y + y ≡ x
    back x y le = omega arith

    least : (x : ℕ) → 0 ≤ x
    least x = omega arith

  module _ (window : ComeApart n levels came most) where
    pub gone_soon : (k i j l s : ℕ) → s < k → i < n → j < n → l < levels → came i j l s ≤ gone i j l (s + most)
    gone_soon zero i j l s below i_in j_in l_in = absurd (omega arith)
    gone_soon (suc k) i j l zero below i_in j_in l_in = let none = maximal.none i j l in omega arith
    gone_soon (suc k) i j l (suc r) below i_in j_in l_in = elim (cases_lt 0 (came i j l (suc r))) [
      | inr none ↦ omega arith
      | inl some ↦
          let u = r + (most + 1) in
          let e = r - most in
          let end = e + (2 * most + 1) in
          let used : 0 < came i j l end = let more = maximal.comes i j l (suc r) end (omega arith) in omega arith in
          let few = window i j l e i_in j_in l_in used in
          let row_end = line-le n levels came came i u end (λ y m y_in m_in. maximal.comes i y m u end (omega arith)) in
          let column_end = line-le n levels (turned came) (turned came) j u end (λ x m x_in m_in. maximal.comes x j m u end (omega arith)) in
          let old = λ (x y m : ℕ) (x_in : x < n) (y_in : y < n) (m_in : m < levels).
          gone_old x y m r (gone_soon k x y m (r - most) (omega arith) x_in y_in m_in) in
          let row_old = line-le n levels came gone i e r (λ y m y_in m_in. old i y m i_in y_in m_in) in
          let column_old = line-le n levels (turned came) (turned gone) j e r (λ x m x_in m_in. old x j m x_in j_in m_in) in
          queue_soon i j l r i_in j_in l_in (omega arith)
    ]
