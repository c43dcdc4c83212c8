-- The places of an array that are a switch's ports.
use Rattle.std.proofs.Common.{◌≡◌, ℕ, ◌<◌, ◌≤◌, ◌∙◌, List, Option, None, length, take, set, ap, arith}
use Rattle.std.proofs.lemmas.List.{length-take, take-replicate}
use Rattle.std.proofs.Math.Seq.{take-set-lt}
use Rattle.rotating_pick.specs.declared.limits.TheConstants.{MAX_PORTS}
use Rattle.cell_cutter.specs.declared.cell.Cell.{Cell}
use Rattle.crossbar.specs.Crossing.{nothing_deposited}

-- what is put at one of the first n places stands at that place of them
pub take_set : {A : Type 0} → (n : ℕ) (all : List A) (i : ℕ) (one : A) → i < length (take n all) → take n (set all i one) ≡ set (take n all) i one
take_set n all i one below = take-set-lt n all i one (let count = length-take n all in omega arith)

-- where nothing is deposited at any of 64 places, nothing is at the first n
pub take_none : (n : ℕ) (deposits : List (Option Cell)) → deposits ≡ nothing_deposited MAX_PORTS → n ≤ MAX_PORTS → take n deposits ≡ nothing_deposited n
take_none n deposits blank few = ap (take n) blank ∙ take-replicate n MAX_PORTS None few
