-- No line holds more than this, by induction on slots.
use Rattle.std.proofs.Common.{◌≡◌, ℕ, zero, suc, ◌+◌, ◌-◌, ◌*◌, ◌<◌, ◌≤◌, ◌⊎◌, arith, inl, inr, subst, sym, refl}
use Rattle.std.proofs.lemmas.Bool.{cases_lt}
use Rattle.arrival_bounds.specs.Counts.{Counts, of_input, for_output, AreServed, ComeAtMost, AreSmall, ComeByCurves, AreWindows, HoldAtMost}
use Rattle.arrival_bounds.proofs.Lines.{line-le, line-less, queue_less, climb}

-- by columns
abbrev turned : Counts → Counts
turned f = λ i j l t. f j i l t

turned_maximal : (n levels : ℕ) (came gone : Counts) → AreServed n levels came gone → AreServed n levels (turned came) (turned gone)
turned_maximal n levels came gone maximal = record {
  none = λ i j l. maximal.none j i l;
  comes = λ i j l t u. maximal.comes j i l t u;
  goes = λ i j l t u. maximal.goes j i l t u;
  few = λ i j l t i_in j_in. maximal.few j i l t j_in i_in;
  takes = λ i j l t i_in j_in l_in left. other (maximal.takes j i l t j_in i_in l_in left);
} where
  other : {A B : Type 0} → A ⊎ B → B ⊎ A
  other (inl a) = inr a
  other (inr b) = inl b

reach : (x w : ℕ) → x + 1 ≤ x + 1 - w + w
reach x w = omega arith

older : (g x c c' d : ℕ) → g + x < c → c ≤ c' → c' ≤ d + x → g < d
older g x c c' d late up win = omega arith

early : (e x w : ℕ) → e ≡ x + 1 - w → 0 < e → 0 < w
    → (x - w + w ≡ x) × (x - w < x) × (x - w + 1 ≡ e) × (x - w + 1 + w ≡ x + 1) × (x - w + 1 + (w - 1) ≡ x)
early e x w is more pos = (omega arith, omega arith, omega arith, omega arith, omega arith)

nothing : (g c : ℕ) → c ≡ 0 → g < c → ⊥
nothing g c none left = omega arith

one : (e : ℕ) → 0 < suc e
one e = omega arith

same : (x : ℕ) → x ≤ x
same x = omega arith

up_one : (x : ℕ) → x ≤ x + 1
up_one x = omega arith

still : (a b c d : ℕ) → a ≤ b → b < c → c ≤ d → a < d
still a b c d x y z = omega arith

still_one : (a b c : ℕ) → a < b → b ≤ c → a < c
still_one a b c x y = omega arith

within : (v b w x : ℕ) → b + w ≡ x → v < b + w → v + 1 ≤ x
within v b w x is inside = omega arith

onward : (b v : ℕ) → b ≤ v → b + 1 ≤ v + 1
onward b v from = omega arith

starts : (b w x : ℕ) → b + w ≡ x → 0 < w → b + 1 ≤ x
starts b w x is pos = omega arith

some_of : (x y : ℕ) → x < y → 0 < y
some_of x y p = omega arith

positive : (f : ℕ → ℕ) (g e : ℕ) → f 0 ≡ 0 → g < f e → 0 < e
positive f g zero none left = absurd (nothing g (f 0) none left)
positive f g (suc e) none left = one e

-- Of one input with a window of w slots: at most r cells come to it in them, and at most x j for output j in one slot less.
module _ (n levels w : ℕ) (came gone : Counts) (maximal : AreServed n levels came gone) (i r : ℕ) (k x : ℕ → ℕ) (i_in : i < n) (some : 0 < w)
    (window : (t : ℕ) → of_input n levels came i (t + w) ≤ of_input n levels came i t + r)
    (beside : (j l t : ℕ) → j < n → l < levels → 0 < came i j l t
    → (u : ℕ) → for_output n levels came j (u + (w - 1)) ≤ for_output n levels came j u + x j)
    (used : (j l t : ℕ) → j < n → l < levels → 0 < came i j l t → r + k j + x j ≤ w + 1) where
  -- where the input and every output held no more in an earlier slot, the input holds no more
  pub input_holds : (t : ℕ)
      → ((b : ℕ) → b < t → of_input n levels came i (b + 1) ≤ of_input n levels gone i b + r)
      → ((j b : ℕ) → j < n → b < t → for_output n levels came j (b + 1) ≤ for_output n levels gone j b + k j)
      → of_input n levels came i (t + 1) ≤ of_input n levels gone i t + r
  input_holds t held held' = elim (cases_lt (of_input n levels gone i t + r) (of_input n levels came i (t + 1))) [
    | inr fine ↦ fine
    | inl late ↦
        let e = t + 1 - w in
        let up = line-le n levels came came i (t + 1) (e + w) (λ y m y_in m_in. maximal.comes i y m (t + 1) (e + w) (reach t w)) in
        let old = queue_less n levels gone came i t e (older (of_input n levels gone i t) r (of_input n levels came i (t + 1))
        (of_input n levels came i (e + w)) (of_input n levels came i e) late up (window e)) in
        waited old.output old.level old.output_in old.level_in old.more late
  ] where
    waited : (j l : ℕ) → j < n → l < levels → gone i j l t < came i j l (t + 1 - w) → of_input n levels gone i t + r < of_input n levels came i (t + 1)
        → of_input n levels came i (t + 1) ≤ of_input n levels gone i t + r
    waited j l j_in l_in left late =
        let b = t - w in
        let A = of_input n levels gone i in
        let B = for_output n levels gone j in
        let A' = of_input n levels came i in
        let B' = for_output n levels came j in
        let pos = positive (came i j l) (gone i j l t) (t + 1 - w) (maximal.none i j l) left in
        let at = early (t + 1 - w) t w refl pos some in
        let left' : gone i j l t < came i j l (b + 1) = subst (λ v. gone i j l t < came i j l v) (sym at.2) left in
        let taken = climb A B
        (λ v. line-le n levels gone gone i v (v + 1) (λ y m y_in m_in. maximal.goes i y m v (v + 1) (up_one v)))
        (λ v. line-le n levels (turned gone) (turned gone) j v (v + 1) (λ x m x_in m_in. maximal.goes x j m v (v + 1) (up_one v)))
        b w
        (λ v from inside. maximal.takes i j l v i_in j_in l_in
        (still (gone i j l (v + 1)) (gone i j l t) (came i j l (b + 1)) (came i j l (v + 1))
        (maximal.goes i j l (v + 1) t (within v b w t at.0 inside)) left' (maximal.comes i j l (b + 1) (v + 1) (onward b v from)))) in
        let taken' : A b + B b + w ≤ A t + B t = subst (λ v. A b + B b + w ≤ A v + B v) at.0 taken in
        let win : A' (t + 1) ≤ A' (b + 1) + r = subst (λ v. A' v ≤ A' (b + 1) + r) at.3 (window (b + 1)) in
        let here = still_one (gone i j l t) (came i j l (b + 1)) (came i j l t) left' (maximal.comes i j l (b + 1) t (starts b w t at.0 some)) in
        let now = some_of (gone i j l t) (came i j l t) here in
        let win' : B' t ≤ B' (b + 1) + x j = subst (λ v. B' v ≤ B' (b + 1) + x j) at.4 (beside j l t j_in l_in now (b + 1)) in
        let less = line-less n levels (turned gone) (turned came) j t t
        (record { output = i; level = l; output_in = i_in; level_in = l_in; more = here }) (λ x m x_in m_in. maximal.few x j m t x_in j_in) in
        let mine = held b at.1 in
        let other = held' j b j_in at.1 in
        let few = used j l t j_in l_in now in
        absurd (omega arith)

-- Each line with a window of its own: at most `k i j` cells come for output j in one slot less than the window of input i, and at
-- most `m i j` to input i in one slot less than the window of output j.
module _ (n levels : ℕ) (came gone : Counts) (maximal : AreServed n levels came gone) (v w r s : ℕ → ℕ) (k m : ℕ → ℕ → ℕ)
    (some_in : (i : ℕ) → i < n → 0 < v i) (some_out : (j : ℕ) → j < n → 0 < w j)
    (inputs : (i t : ℕ) → i < n → of_input n levels came i (t + v i) ≤ of_input n levels came i t + r i)
    (outputs : (j t : ℕ) → j < n → for_output n levels came j (t + w j) ≤ for_output n levels came j t + s j)
    (beside_in : (i j t : ℕ) → i < n → j < n → for_output n levels came j (t + (v i - 1)) ≤ for_output n levels came j t + k i j)
    (beside_out : (i j t : ℕ) → i < n → j < n → of_input n levels came i (t + (w j - 1)) ≤ of_input n levels came i t + m i j)
    (used_in : (i j l t : ℕ) → i < n → j < n → l < levels → 0 < came i j l t → r i + s j + k i j ≤ v i + 1)
    (used_out : (i j l t : ℕ) → i < n → j < n → l < levels → 0 < came i j l t → s j + r i + m i j ≤ w j + 1) where
  lines_below : (h t : ℕ) → t < h → (i : ℕ) → i < n
      → (of_input n levels came i (t + 1) ≤ of_input n levels gone i t + r i) × (for_output n levels came i (t + 1) ≤ for_output n levels gone i t + s i)
  lines_below zero t below i i_in = absurd (omega arith)
  lines_below (suc h) t below i i_in = (
    input_holds n levels (v i) came gone maximal i (r i) s (k i) i_in (some_in i i_in) (λ t. inputs i t i_in)
        (λ j l t j_in l_in now u. beside_in i j u i_in j_in) (λ j l t j_in l_in now. used_in i j l t i_in j_in l_in now) t
        (λ b before. (lines_below h b (earlier b t h before below) i i_in).0) (λ j b j_in before. (lines_below h b (earlier b t h before below) j j_in).1),
    input_holds n levels (w i) (turned came) (turned gone) (turned_maximal n levels came gone maximal) i (s i) r (λ x. m x i) i_in (some_out i i_in)
        (λ t. outputs i t i_in)
        (λ x l t x_in l_in now u. beside_out x i u x_in i_in) (λ x l t x_in l_in now. used_out x i l t x_in i_in l_in now) t
        (λ b before. (lines_below h b (earlier b t h before below) i i_in).1) (λ x b x_in before. (lines_below h b (earlier b t h before below) x x_in).0),
  ) where
    earlier : (b t m : ℕ) → b < t → t < suc m → b < m
    earlier b t m before below = omega arith

  lines_kept : HoldAtMost n levels came gone r s
  lines_kept = record {
    inputs = λ i t i_in. (lines_below (suc t) t (next t) i i_in).0;
    outputs = λ j t j_in. (lines_below (suc t) t (next t) j j_in).1;
  } where
    next : (x : ℕ) → x < suc x
    next x = omega arith

module _ (n levels : ℕ) (came gone : Counts) (maximal : AreServed n levels came gone) where
  -- all lines with one window
  pub lines_hold : (slots : ℕ) (r k : ℕ → ℕ) → ComeAtMost n levels came slots r k → 0 < slots → AreSmall n levels came slots r k
      → HoldAtMost n levels came gone r k
  lines_hold slots r k window some small =
      lines_kept n levels came gone maximal (λ i. slots) (λ j. slots) r k (λ i j. k j) (λ i j. r i) (λ i i_in. some) (λ j j_in. some)
      window.inputs window.outputs
      (λ i j t i_in j_in. less _ _ _ _
      (line-le n levels (turned came) (turned came) j (t + (slots - 1)) (t + slots)
      (λ x m x_in m_in. maximal.comes x j m (t + (slots - 1)) (t + slots) (one_less t slots)))
      (window.outputs j t j_in))
      (λ i j t i_in j_in. less _ _ _ _
      (line-le n levels came came i (t + (slots - 1)) (t + slots) (λ y m y_in m_in. maximal.comes i y m (t + (slots - 1)) (t + slots) (one_less t slots)))
      (window.inputs i t i_in))
      (λ i j l t i_in j_in l_in now. first (r i) (k j) slots (small i j l t i_in j_in l_in now).0)
      (λ i j l t i_in j_in l_in now. second (r i) (k j) slots (small i j l t i_in j_in l_in now).1) where
        less : (a b c d : ℕ) → a ≤ b → b ≤ c + d → a ≤ c + d
        less a b c d p q = omega arith

        one_less : (x y : ℕ) → x + (y - 1) ≤ x + y
        one_less x y = omega arith

        first : (x y z : ℕ) → x + 2 * y ≤ z + 1 → x + y + y ≤ z + 1
        first x y z le = omega arith

        second : (x y z : ℕ) → 2 * x + y ≤ z + 1 → y + x + x ≤ z + 1
        second x y z le = omega arith

  -- each with its own
  pub lines_hold_by_curves : (most_in most_out : ℕ → ℕ → ℕ) (slots_in slots_out : ℕ → ℕ) → ComeByCurves n levels came most_in most_out
      → AreWindows n levels came most_in most_out slots_in slots_out
      → HoldAtMost n levels came gone (λ i. most_in i (slots_in i)) (λ j. most_out j (slots_out j))
  lines_hold_by_curves most_in most_out slots_in slots_out curves windows =
      lines_kept n levels came gone maximal slots_in slots_out (λ i. most_in i (slots_in i)) (λ j. most_out j (slots_out j))
      (λ i j. most_out j (slots_in i - 1)) (λ i j. most_in i (slots_out j - 1)) windows.some_in windows.some_out
      (λ i t i_in. curves.inputs i t (slots_in i) i_in) (λ j t j_in. curves.outputs j t (slots_out j) j_in)
      (λ i j t i_in j_in. curves.outputs j t (slots_in i - 1) j_in) (λ i j t i_in j_in. curves.inputs i t (slots_out j - 1) i_in)
      windows.inputs
      (λ i j l t i_in j_in l_in now. exchanged _ _ _ _ (windows.outputs i j l t i_in j_in l_in now)) where
        exchanged : (x y z w : ℕ) → x + y + z ≤ w → y + x + z ≤ w
        exchanged x y z w le = omega arith
