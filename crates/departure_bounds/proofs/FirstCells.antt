-- Last cells among the first cells of some messages, and the packets that arrived by a slot.
use Rattle.std.proofs.Common.{◌≡◌, ◌∙◌, ℕ, zero, suc, ◌+◌, ◌*◌, ◌<◌, ◌≤◌, ◌&&◌, nat_lt, Bool, true, List, [], ◌∷◌, ◌++◌, map, take, length}
use Rattle.std.proofs.Common.{count_by, Some, slice_get, refl, sym, ap, arith, if◌then◌else◌}
use Rattle.std.specs.List.{range_with_len, flat_map}
use Rattle.std.proofs.lemmas.Bool.{le-leb, lt-ltb}
use Rattle.std.proofs.lemmas.List.Sums.{sum_by-append, sum_by-cons}
use Rattle.std.proofs.lemmas.Option.{same_Some}
use Rattle.std_lemmas.proofs.Filters.{count-cons}
use Rattle.rotating_pick.specs.declared.kinds.Kind.{Kind}
use Rattle.cell_cutter.specs.declared.cell.Cell.{Cell}
use Rattle.cell_cutter.specs.Messages.{cells_in}
use Rattle.cell_cutter.specs.Cells.{cell_of, cells_of_message}
use Rattle.card_core.specs.declared.plan.Planned.{Planned}
use Rattle.card_core.specs.Plans.{AreRising}
use Rattle.card_core.proofs.Admitting.{rest-rising}
use Rattle.run_laws.proofs.FirstParts.{AllHold}

-- how many of the cells are last ones
abbrev pub lasts : List Cell → ℕ
lasts cells = count_by (λ cell. cell.last) cells

pub lasts-cons : (cell : Cell) (cells : List Cell) → lasts (cell ∷ cells) ≡ (if cell.last then 1 else 0) + lasts cells
lasts-cons cell cells = sum_by-cons (λ (c : Cell). if c.last then 1 else 0) cell cells

pub lasts-append : (xs ys : List Cell) → lasts (xs ++ ys) ≡ lasts xs + lasts ys
lasts-append xs ys = sum_by-append (λ (c : Cell). if c.last then 1 else 0) xs ys

-- of two first parts of a list the shorter has no more
pub first_fewer : (xs ys zs ws : List Cell) → xs ++ ys ≡ zs ++ ws → length xs ≤ length zs → lasts xs ≤ lasts zs
first_fewer [] ys zs ws same few = omega arith
first_fewer (x ∷ xs) ys [] ws same few = absurd (omega (arith, few))
first_fewer (x ∷ xs) ys (z ∷ zs) ws same few =
    let head : x ≡ z = cc in
    let tail : xs ++ ys ≡ zs ++ ws = cc in
    let one : ◌≡◌ {A = ℕ} (if x.last then 1 else 0) (if z.last then 1 else 0) = ap (λ (c : Cell). if c.last then 1 else 0) head in
    omega (arith, lasts-cons x xs, lasts-cons z zs, one, first_fewer xs ys zs ws tail (omega (arith, few)))

-- ---- each message has a last cell
module _ (input level : ℕ) (kind : Kind) where
  abbrev cells_of : List ℕ → List Cell
  cells_of = cells_of_message input level kind

  ends : (m : List ℕ) (a n : ℕ) → cells_in (length m) ≤ a + suc n → 1 ≤ lasts (map (cell_of input level kind m) (range_with_len a (suc n)))
  ends m a zero few =
      let cell = cell_of input level kind m a in
      let on : cell.last ≡ true = le-leb (length m) (56 * a + 56) (omega (arith, few)) in
      let one : ◌≡◌ {A = ℕ} (if cell.last then 1 else 0) 1 = ap (λ (b : Bool). if b then 1 else 0) on in
      omega (arith, lasts-cons cell [], one)
  ends m a (suc n) few =
      let cell = cell_of input level kind m a in
      omega (arith, lasts-cons cell (map (cell_of input level kind m) (range_with_len (a + 1) (suc n))), ends m (a + 1) n (omega (arith, few)))

  message_ends : (m : List ℕ) → 0 < length m → 1 ≤ lasts (cells_of m)
  message_ends m some = by_count (cells_in (length m)) (omega (arith, some)) (omega arith) where
    by_count : (w : ℕ) → 0 < w → cells_in (length m) ≤ w → 1 ≤ lasts (map (cell_of input level kind m) (range_with_len 0 w))
    by_count zero pos few = absurd (omega (arith, pos))
    by_count (suc w) pos few = ends m 0 w (omega (arith, few))

  pub all_end : (P : List ℕ → Type 0) (ms : List (List ℕ)) → AllHold P ms → length ms ≤ lasts (flat_map cells_of ms)
  all_end P [] all = omega arith
  all_end P (m ∷ ms) all = omega (arith, lasts-append (cells_of m) (flat_map cells_of ms), message_ends m all.1, all_end P ms all.2)

-- ---- the packets up to one that arrives before a slot arrive before it
module _ (g : Planned → Bool) where
  -- those that pass and arrive before slot t
  abbrev pub early : ℕ → Planned → Bool
  early t p = nat_lt p.arrival t && g p

  early_here : (t : ℕ) (p : Planned) → p.arrival < t → early t p ≡ g p
  early_here t p before = ap (λ (b : Bool). b && g p) (lt-ltb p.arrival t before)

  pub early_enough : (t : ℕ) (ps : List Planned) (k : ℕ) (p : Planned) → AreRising ps → slice_get ps k ≡ Some p → p.arrival < t → g p ≡ true
      → count_by g (take k ps) + 1 ≤ count_by (early t) ps
  early_enough t [] k p rising at before passes = absurd (cc)
  early_enough t (x ∷ ps) zero p rising at before passes =
      let same = same_Some x p at in
      let arrives : p.arrival ≡ x.arrival = ap (λ (y : Planned). y.arrival) (sym same) in
      let on : early t x ≡ true = early_here t x (omega (arith, arrives, before)) ∙ ap g same ∙ passes in
      let one : ◌≡◌ {A = ℕ} (if early t x then 1 else 0) 1 = ap (λ (b : Bool). if b then 1 else 0) on in
      omega (arith, count-cons (early t) x ps, one)
  early_enough t (x ∷ ps) (suc k) p rising at before passes =
      let first = rising 0 (suc k) x p refl at (omega arith) in
      let one : ◌≡◌ {A = ℕ} (if early t x then 1 else 0) (if g x then 1 else 0) =
      ap (λ (b : Bool). if b then 1 else 0) (early_here t x (omega (arith, first, before))) in
      omega (arith, count-cons (early t) x ps, count-cons g x (take k ps), one, early_enough t ps k p (rest-rising x ps rising) at before passes)
