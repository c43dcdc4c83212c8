-- The table of 64 outputs that keeps a match of n ports, and how many of its outputs are fed.
use Rattle.std.proofs.Common.{◌≡◌, ℕ, zero, suc, ◌+◌, ◌<◌, ◌≤◌, cond, List, [], ◌∷◌, Option, None, Some, length, take, set, count_by, is_some, refl, ap, arith}
use Rattle.std.proofs.lemmas.List.{get_or-take, get_or_past, length-take-le}
use Rattle.std.proofs.lemmas.List.Sums.{sum_by-set, sum_by-cons}
use Rattle.slot_match.specs.declared.matching.Fed.{Fed}
use Rattle.slot_match.specs.Matches.{fed_of}

-- the match reads as its table, and nothing is fed past it
pub fed_of-take : (n : ℕ) (fed : List (Option Fed)) (j : ℕ) → j < n → fed_of (take n fed) j ≡ fed_of fed j
fed_of-take n fed j below = get_or-take n fed j None below

pub fed_of-past : (n : ℕ) (fed : List (Option Fed)) (j : ℕ) → n ≤ length fed → n ≤ j → fed_of (take n fed) j ≡ None
fed_of-past n fed j long above = get_or_past (take n fed) j None (let e = length-take-le n fed long in omega arith)

-- what an output adds to the count
abbrev pub one_if_some : {X : Type 0} → Option X → ℕ
one_if_some o = cond (is_some o) 1 0

-- one output more is fed
pub count_by-set : (fed : List (Option Fed)) (j : ℕ) (by : Fed) → j < length fed → fed_of fed j ≡ None
    → count_by is_some (set fed j (Some by)) ≡ count_by is_some fed + 1
count_by-set fed j by below none =
    let e = sum_by-set one_if_some fed j (Some by) None below in
    let before : one_if_some (fed_of fed j) ≡ 0 = ap one_if_some none in
    omega arith

-- how many of the first n outputs are fed, where no other is
pub count_by-take : (n : ℕ) (fed : List (Option Fed)) → ((j : ℕ) → n ≤ j → fed_of fed j ≡ None) → count_by is_some (take n fed) ≡ count_by is_some fed
count_by-take zero [] beyond = refl
count_by-take (suc n) [] beyond = refl
count_by-take zero (o ∷ rest) beyond =
    let later = count_by-take zero rest (λ j h. beyond (suc j) (omega arith)) in
    let cons = sum_by-cons one_if_some o rest in
    let here : one_if_some o ≡ 0 = ap one_if_some (beyond zero (omega arith)) in
    let none : count_by is_some (take zero rest) ≡ 0 = refl in
    omega arith
count_by-take (suc n) (o ∷ rest) beyond =
    let later = count_by-take n rest (λ j h. beyond (suc j) (omega arith)) in
    let whole = sum_by-cons one_if_some o rest in
    let part = sum_by-cons one_if_some o (take n rest) in
    omega arith
