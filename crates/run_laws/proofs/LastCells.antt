-- The first cells of some messages, by how many of them are last ones: so many messages are whole.
use Rattle.std.proofs.Common.{◌≡◌, ◌∙◌, ℕ, zero, suc, ◌+◌, ◌-◌, ◌*◌, ◌<◌, ◌≤◌, Bool, false, List, [], ◌∷◌, ◌++◌, map, take, length, length-append}
use Rattle.std.proofs.Common.{sum_by, count_by, refl, sym, ap, arith, inl, inr, if◌then◌else◌}
use Rattle.std.specs.List.{range_with_len, flat_map}
use Rattle.std.proofs.lemmas.Bool.{cases_lt, lt-leb}
use Rattle.std.proofs.lemmas.List.{take-append-le}
use Rattle.std.proofs.lemmas.List.FromFn.{length-map-range_with_len, take-map-range_with_len}
use Rattle.std.proofs.lemmas.List.Sums.{sum_by-append, sum_by-cons}
use Rattle.std.proofs.Math.Seq.{take-append-add}
use Rattle.std_lemmas.proofs.Bools.{one_if-le}
use Rattle.rotating_pick.specs.declared.kinds.Kind.{Kind}
use Rattle.cell_cutter.specs.declared.cell.Cell.{Cell}
use Rattle.cell_cutter.specs.Messages.{cells_in}
use Rattle.cell_cutter.specs.Cells.{cell_of, cells_of_message}

-- how many of the cells are last ones
abbrev pub lasts : List Cell → ℕ
lasts cells = count_by (λ cell. cell.last) cells

-- how many cells the message has
abbrev pub weight : List ℕ → ℕ
weight message = cells_in (length message)

pub lasts-cons : (cell : Cell) (cells : List Cell) → lasts (cell ∷ cells) ≡ (if cell.last then 1 else 0) + lasts cells
lasts-cons cell cells = sum_by-cons (λ (c : Cell). if c.last then 1 else 0) cell cells

pub lasts-append : (xs ys : List Cell) → lasts (xs ++ ys) ≡ lasts xs + lasts ys
lasts-append xs ys = sum_by-append (λ (c : Cell). if c.last then 1 else 0) xs ys

module _ (input level : ℕ) (kind : Kind) where
  abbrev cells_of : List ℕ → List Cell
  cells_of = cells_of_message input level kind

  abbrev some_of : List ℕ → ℕ → ℕ → List Cell
  some_of m a n = map (cell_of input level kind m) (range_with_len a n)

  lasts_none : (m : List ℕ) (a n : ℕ) → a + n < weight m → lasts (some_of m a n) ≡ 0
  lasts_none m a zero few = refl
  lasts_none m a (suc n) few =
      let cell = cell_of input level kind m a in
      let on : cell.last ≡ false = lt-leb (length m) (56 * a + 56) (omega (arith, few)) in
      let none : ◌≡◌ {A = ℕ} (if cell.last then 1 else 0) 0 = ap (λ (b : Bool). if b then 1 else 0) on in
      omega (arith, lasts-cons cell (some_of m (a + 1) n), none, lasts_none m (a + 1) n (omega (arith, few)))

  lasts_one : (m : List ℕ) (a n : ℕ) → a + n ≤ weight m → lasts (some_of m a n) ≤ 1
  lasts_one m a zero few = omega arith
  lasts_one m a (suc zero) few = let cell = cell_of input level kind m a in omega (arith, lasts-cons cell [], one_if-le cell.last)
  lasts_one m a (suc (suc n)) few =
      let cell = cell_of input level kind m a in
      let on : cell.last ≡ false = lt-leb (length m) (56 * a + 56) (omega (arith, few)) in
      let none : ◌≡◌ {A = ℕ} (if cell.last then 1 else 0) 0 = ap (λ (b : Bool). if b then 1 else 0) on in
      omega (arith, lasts-cons cell (some_of m (a + 1) (suc n)), none, lasts_one m (a + 1) (suc n) (omega (arith, few)))

  cells_count : (m : List ℕ) → length (cells_of m) ≡ weight m
  cells_count m = length-map-range_with_len (cell_of input level kind m) 0 (weight m)

  -- where a part of the first message is taken, none is last
  part_lasts : (m : List ℕ) (rest : List Cell) (n : ℕ) → n < weight m → lasts (take n (cells_of m ++ rest)) ≡ 0
  part_lasts m rest n few =
      let count = cells_count m in
      ap lasts (take-append-le n (cells_of m) rest (omega (arith, few, count))
      ∙ take-map-range_with_len (cell_of input level kind m) 0 (weight m) n (omega (arith, few)))
      ∙ lasts_none m 0 n (omega (arith, few))

  -- and where more is taken, one at most and those of the others
  whole_lasts : (m : List ℕ) (rest : List Cell) (n : ℕ) → lasts (take (weight m + n) (cells_of m ++ rest)) ≤ 1 + lasts (take n rest)
  whole_lasts m rest n =
      let own = cells_of m in
      let split : lasts (take (weight m + n) (own ++ rest)) ≡ lasts (own ++ take n rest) =
      ap (λ k. lasts (take (k + n) (own ++ rest))) (sym (cells_count m)) ∙ ap lasts (take-append-add own rest n) in
      omega (arith, split, lasts-append own (take n rest), lasts_one m 0 (weight m) (omega arith))

  -- Of n first cells with more than r last ones there are r + 1 messages at least.
  pub whole_messages : (ms : List (List ℕ)) (n r : ℕ) → r < lasts (take n (flat_map cells_of ms)) → (sum_by weight (take (suc r) ms) ≤ n) × (r < length ms)
  whole_messages [] zero r more = absurd (omega (arith, more))
  whole_messages [] (suc n) r more = absurd (omega (arith, more))
  whole_messages (m ∷ ms) n r more = elim (cases_lt n (weight m)) [
    | inl few ↦ absurd (omega (arith, more, part_lasts m (flat_map cells_of ms) n few))
    | inr all ↦
        let over = n - weight m in
        let same : weight m + over ≡ n = omega (arith, all) in
        let upto : lasts (take n (flat_map cells_of (m ∷ ms))) ≡ lasts (take (weight m + over) (flat_map cells_of (m ∷ ms))) =
        ap (λ k. lasts (take k (flat_map cells_of (m ∷ ms)))) (sym same) in
        by_number m ms n over r same (λ q less. whole_messages ms over q less) (omega (arith, more, upto, whole_lasts m (flat_map cells_of ms) over))
  ] where
    by_number : (m : List ℕ) (ms : List (List ℕ)) (n over r : ℕ) → weight m + over ≡ n
        → ((q : ℕ) → q < lasts (take over (flat_map cells_of ms)) → (sum_by weight (take (suc q) ms) ≤ over) × (q < length ms))
        → r < 1 + lasts (take over (flat_map cells_of ms)) → (sum_by weight (take (suc r) (m ∷ ms)) ≤ n) × (r < length (m ∷ ms))
    by_number m ms n over zero same rest more = (omega (arith, same, sum_by-cons weight m []), omega arith)
    by_number m ms n over (suc q) same rest more =
        let one = rest q (omega (arith, more)) in
        (omega (arith, same, sum_by-cons weight m (take (suc q) ms), one.0), omega (arith, one.1))

  pub cells_weigh : (ms : List (List ℕ)) → length (flat_map cells_of ms) ≡ sum_by weight ms
  cells_weigh [] = refl
  cells_weigh (m ∷ ms) = omega (arith, length-append (cells_of m) (flat_map cells_of ms), cells_count m, cells_weigh ms, sum_by-cons weight m ms)
