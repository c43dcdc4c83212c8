-- Next plans: which plan can follow on which, where requests stay and at most one cell comes to each input, and how many
-- cells wait in each of its queues.
use Rattle.std.proofs.Common.{◌≡◌, ℕ, ◌+◌, ◌-◌, ◌*◌, ◌<◌, ◌≤◌, ◌⊎◌, Bool, true, false, List, [], ◌∷◌, if◌then◌else◌, refl, ap, inl, inr, arith}
use Rattle.scheduler_laws.proofs.Plans.{Pair, In, is_in, Decides-in, Each, each, Plan, asked}

-- ---- one slot and the next
-- a request is served in the slot, or stands in the next one too
abbrev pub IsOn : Plan → Plan → ℕ → ℕ → Type 0
IsOn p next i j = In i j p.serves ⊎ In i j (asked next)

-- input i and output j are not this pair
abbrev pub IsNot : ℕ → ℕ → ℕ → ℕ → Type 0
IsNot i j z y = i ≡ z → j ≡ y → ⊥

-- they are none of the pairs
abbrev pub IsNoneOf : List Pair → ℕ → ℕ → Type 0
IsNoneOf ps i j = Each (IsNot i j) ps

-- after the slot a cell is left in the queue: it has one, and is not served or has two
abbrev pub IsLeft : Plan → ℕ → ℕ → Type 0
IsLeft p i j = In i j (asked p) × (IsNoneOf p.serves i j ⊎ In i j p.twice)

-- a cell is left in the queue, or one comes
abbrev pub IsGained : Plan → List Pair → ℕ → ℕ → Type 0
IsGained p gains i j = IsLeft p i j ⊎ In i j gains

-- where two cells wait, one is left in the next slot, or two are
abbrev pub IsHeld : Plan → Plan → ℕ → ℕ → Type 0
IsHeld p next i j = In i j (asked p) × In i j (asked next) × (In i j p.serves ⊎ In i j next.twice)

-- where two cells are to wait in the next slot, one comes and one was left
abbrev pub IsDoubled : Plan → Plan → List Pair → ℕ → ℕ → Type 0
IsDoubled p next gains i j = In i j (asked next) × In i j gains × IsLeft p i j

-- two pairs are of two inputs, or are one
abbrev pub IsApart : ℕ → ℕ → ℕ → ℕ → Type 0
IsApart i j z y = i ≡ z → j ≡ y

-- no two of the pairs are of one input
abbrev pub AreApart : List Pair → ℕ → ℕ → Type 0
AreApart ps i j = Each (IsApart i j) ps

-- The next plan keeps what the plan leaves; all cells that come are for the pairs `gains`, at most one to each input.
pub record Follows (p next : Plan) : Type 0 where
  pub asking : Each (λ i j. In i j (asked p)) p.serves
  pub kept : Each (IsOn p next) (asked p)
  pub gains : List Pair
  pub gained : Each (IsGained p gains) (asked next)
  pub apart : Each (AreApart gains) gains
  pub held : Each (IsHeld p next) p.twice
  pub doubled : Each (IsDoubled p next gains) next.twice

-- the first plan, if there is one, has P
abbrev pub Starts : (Plan → Type 0) → List Plan → Type 0
Starts P [] = Unit {0}
Starts P (p ∷ ps) = P p

-- ---- how many cells wait
-- how often the pair is one of these: once, or not at all
abbrev pub count_in : ℕ → ℕ → List Pair → ℕ
count_in i j ps = if is_in i j ps then 1 else 0

-- it is one of them, or it is not
counted : (i j : ℕ) (ps : List Pair) → (In i j ps × (count_in i j ps ≡ 1)) ⊎ ((In i j ps → ⊥) × (count_in i j ps ≡ 0))
counted i j ps = go (is_in i j ps) refl where
  go : (b : Bool) → is_in i j ps ≡ b → (In i j ps × (count_in i j ps ≡ 1)) ⊎ ((In i j ps → ⊥) × (count_in i j ps ≡ 0))
  go true e = inl ((Decides-in i j ps).0 e, ap (λ b. if b then 1 else 0) e)
  go false e = inr ((λ is. let one = (Decides-in i j ps).1 is in absurd (cc)), ap (λ b. if b then 1 else 0) e)

-- where it is
pub is_one : (i j : ℕ) (ps : List Pair) → In i j ps → count_in i j ps ≡ 1
is_one i j ps is = elim (counted i j ps) [ inl found ↦ found.1 | inr missing ↦ absurd (missing.0 is) ]

-- where it is not
pub is_none : (i j : ℕ) (ps : List Pair) → (In i j ps → ⊥) → count_in i j ps ≡ 0
is_none i j ps none = elim (counted i j ps) [ inl found ↦ absurd (none found.0) | inr missing ↦ missing.1 ]

-- where it is counted
pub is_some : (i j : ℕ) (ps : List Pair) → 0 < count_in i j ps → In i j ps
is_some i j ps some = elim (counted i j ps) [ inl found ↦ found.0 | inr missing ↦ let e = missing.1 in absurd (omega arith) ]

-- at most once
pub few : (i j : ℕ) (ps : List Pair) → count_in i j ps ≤ 1
few i j ps = elim (counted i j ps) [ inl found ↦ let e = found.1 in omega arith | inr missing ↦ let e = missing.1 in omega arith ]

-- how many cells wait in the slot
abbrev pub cells : Plan → ℕ → ℕ → ℕ
cells p i j = count_in i j (asked p) + count_in i j p.twice

-- how many are left after it
abbrev pub left : Plan → ℕ → ℕ → ℕ
left p i j = cells p i j - count_in i j p.serves

-- no pair of these is the pair
none_of : (i j : ℕ) (ps : List Pair) → IsNoneOf ps i j → In i j ps → ⊥
none_of i j ps none is = each (IsNot i j) ps none i j is refl refl

-- how many cells wait in the next slot: at most one more than are left, and that only for a pair of `gains`
pub record AreNext (p next : Plan) (gains : List Pair) (i j : ℕ) : Type 0 where
  pub kept : left p i j ≤ cells next i j
  pub one : cells next i j ≤ left p i j + 1
  pub gained : left p i j < cells next i j → In i j gains
  pub asked : 0 < cells next i j → In i j (asked next)

module _ (p next : Plan) (follows : Follows p next) (i j : ℕ) where
  -- what is served was asked
  served : count_in i j p.serves ≤ count_in i j (asked p)
  served = elim (counted i j p.serves) [
    | inl found ↦ let e = found.1 in let d = is_one i j (asked p) (each (λ i j. In i j (asked p)) p.serves follows.asking i j found.0) in omega arith
    | inr missing ↦ let e = missing.1 in omega arith
  ]

  -- a cell that is left is one more than are served
  left_is : IsLeft p i j → 1 + count_in i j p.serves ≤ cells p i j
  left_is is =
      let e = is_one i j (asked p) is.0 in
      let f = few i j p.serves in
      elim is.1 [
        | inl none ↦ let d = is_none i j p.serves (none_of i j p.serves none) in omega arith
        | inr more ↦ let d = is_one i j p.twice more in omega arith
      ]

  -- requests stay
  stays : count_in i j (asked p) ≤ count_in i j p.serves + count_in i j (asked next)
  stays = elim (counted i j (asked p)) [
    | inl found ↦ let e = found.1 in
        elim (each (IsOn p next) (asked p) follows.kept i j found.0) [
          | inl s ↦ let d = is_one i j p.serves s in omega arith
          | inr on ↦ let d = is_one i j (asked next) on in omega arith
        ]
    | inr missing ↦ let e = missing.1 in omega arith
  ]

  -- second cells stay
  holds : (count_in i j p.twice ≤ count_in i j (asked next)) × (count_in i j p.twice ≤ count_in i j p.serves + count_in i j next.twice)
  holds = elim (counted i j p.twice) [
    | inl found ↦
        let e = found.1 in
        let held = each (IsHeld p next) p.twice follows.held i j found.0 in
        let d = is_one i j (asked next) held.1 in
        (omega arith, elim held.2 [ inl s ↦ let f = is_one i j p.serves s in omega arith | inr on ↦ let f = is_one i j next.twice on in omega arith ])
    | inr missing ↦ let e = missing.1 in (omega arith, omega arith)
  ]

  -- what is asked has a cell that was left, or one that comes
  gains_it : count_in i j (asked next) + count_in i j p.serves ≤ cells p i j + 2 * count_in i j follows.gains
  gains_it = elim (counted i j (asked next)) [
    | inl found ↦
        let e = found.1 in
        let s = served in
        let f = few i j p.serves in
        elim (each (IsGained p follows.gains) (asked next) follows.gained i j found.0) [
          | inl is ↦ let d = left_is is in omega arith
          | inr is ↦ let d = is_one i j follows.gains is in omega arith
        ]
    | inr missing ↦ let e = missing.1 in let s = served in omega arith
  ]

  -- what has two cells has one that was left, and one that comes
  doubles_it : (count_in i j next.twice ≤ count_in i j (asked next)) × (count_in i j next.twice ≤ count_in i j follows.gains)
      × (count_in i j next.twice + count_in i j p.serves ≤ cells p i j)
  doubles_it = elim (counted i j next.twice) [
    | inl found ↦
        let e = found.1 in
        let is = each (IsDoubled p next follows.gains) next.twice follows.doubled i j found.0 in
        let a = is_one i j (asked next) is.0 in
        let g = is_one i j follows.gains is.1 in
        let d = left_is is.2 in
        (omega arith, omega arith, omega arith)
    | inr missing ↦ let e = missing.1 in let s = served in (omega arith, omega arith, omega arith)
  ]

  -- so the cells of the next slot are those
  pub next_cells : AreNext p next follows.gains i j
  next_cells =
      let s = served in
      let k = stays in
      let h = holds.0 in
      let h_more = holds.1 in
      let g = gains_it in
      let d = doubles_it.0 in
      let d_gains = doubles_it.1 in
      let d_left = doubles_it.2 in
      let few_asked = few i j (asked p) in
      let few_next = few i j (asked next) in
      let few_gains = few i j follows.gains in
      let few_served = few i j p.serves in
      record {
        kept = omega arith;
        one = omega arith;
        gained = λ less. is_some i j follows.gains (omega arith);
        asked = λ some. is_some i j (asked next) (omega arith);
      }
