-- Distances and places round the circle of n ports.
use Rattle.std.proofs.Common.{◌≡◌, ℕ, ◌+◌, ◌-◌, ◌%◌, ◌<◌, ◌∙◌, inl, inr, arith}
use Rattle.std.proofs.Math.Nat.{mod-eq_of_lt}
use Rattle.std.proofs.lemmas.Bool.{cases_lt}
use Rattle.std.proofs.lemmas.Nat.{mod_below}
use Rattle.std_lemmas.proofs.Numbers.{mod_once}
use Rattle.rotating_pick.specs.Rotation.{distance}

pub distance-lt : (n from x : ℕ) → from < n → distance n from x < n
distance-lt n from x h = mod_below (x + (n - from)) n (omega arith)

-- the place that is as far from `from` as x is, is x
pub place_at_distance : (n from x : ℕ) → from < n → x < n → (distance n from x + from) % n ≡ x
place_at_distance n from x f h =
    elim (cases_lt x from) [
      | inl under ↦
          let short : x + (n - from) < n = omega arith in
          let e : (x + (n - from)) % n ≡ x + (n - from) = mod-eq_of_lt short in
          rw e (mod_once n (x + (n - from) + from) (omega arith) (omega arith) ∙ omega arith)
      | inr above ↦
          let e : (x + (n - from)) % n ≡ x - from = mod_once n (x + (n - from)) (omega arith) (omega arith) ∙ omega arith in
          let back : x - from + from ≡ x = omega arith in
          rw (e, back) (mod-eq_of_lt h)
    ]

-- the place d steps on is d steps away
pub distance_of_place : (n from d : ℕ) → from < n → d < n → distance n from ((d + from) % n) ≡ d
distance_of_place n from d f h =
    elim (cases_lt (d + from) n) [
      | inl short ↦
          let e : (d + from) % n ≡ d + from = mod-eq_of_lt short in
          rw e (mod_once n (d + from + (n - from)) (omega arith) (omega arith) ∙ omega arith)
      | inr long ↦
          let e : (d + from) % n ≡ d + from - n = mod_once n (d + from) long (omega arith) in
          let back : d + from - n + (n - from) ≡ d = omega arith in
          rw (e, back) (mod-eq_of_lt h)
    ]
