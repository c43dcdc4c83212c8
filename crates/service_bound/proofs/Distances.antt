-- Distances from a pointer: one that moves past a nearer port comes nearer.
use Rattle.std.proofs.Common.{◌≡◌, ℕ, ◌+◌, ◌-◌, ◌%◌, ◌<◌, ◌≤◌, ◌⊎◌, ◌∙◌, sym, subst, inl, inr, arith}
use Rattle.std.proofs.Math.Nat.{mod-eq_of_lt}
use Rattle.std.proofs.lemmas.Bool.{cases_lt}
use Rattle.std.proofs.lemmas.Nat.{mod_below}
use Rattle.std_lemmas.proofs.Numbers.{mod_once}
use Rattle.rotating_pick.specs.Rotation.{distance}
use Rattle.rotating_pick.proofs.Circle.{distance-lt}
use Rattle.rotating_pick.proofs.Picking.{distance-injective}

-- a distance by subtraction: of a port that is not below the pointer, and of one below it
record IsDistance (n from x d : ℕ) : Type 0 where
  above : from ≤ x → d + from ≡ x
  below : x < from → d + from ≡ x + n

pub distance-above : (n from x : ℕ) → from < n → x < n → from ≤ x → distance n from x + from ≡ x
distance-above n from x f x_in above = let e : (x + (n - from)) % n ≡ x - from = mod_once n (x + (n - from)) (omega arith) (omega arith)
    ∙ omega arith in rw e (omega arith)

pub distance-below : (n from x : ℕ) → from < n → x < n → x < from → distance n from x + from ≡ x + n
distance-below n from x f x_in below = let short : x + (n - from) < n = omega arith in let e : (x + (n - from)) % n ≡ x + (n - from) = mod-eq_of_lt short in
    rw e (omega arith)

IsDistance-distance : (n from x : ℕ) → from < n → x < n → IsDistance n from x (distance n from x)
IsDistance-distance n from x f x_in = record { above = distance-above n from x f x_in; below = distance-below n from x f x_in }

-- the port one beyond: the next number, or port 0
one_beyond : (n x : ℕ) → x < n → ((x + 1 < n) × ((x + 1) % n ≡ x + 1)) ⊎ ((x + 1 ≡ n) × ((x + 1) % n ≡ 0))
one_beyond n x x_in =
    elim (cases_lt (x + 1) n) [
      | inl short ↦ inl (short, mod-eq_of_lt short)
      | inr long ↦ inr (omega arith, mod_once n (x + 1) long (omega arith) ∙ omega arith)
    ]

-- a pointer that moves one beyond port x comes nearer to a port y farther than x, by all the steps that it moves
pub distance-passed : (n from x y : ℕ) → from < n → x < n → y < n → distance n from x < distance n from y
    → distance n ((x + 1) % n) y + distance n from x + 1 ≡ distance n from y
distance-passed n from x y f x_in y_in less =
    let step = one_beyond n x x_in in
    let to_x = IsDistance-distance n from x f x_in in
    let to_y = IsDistance-distance n from y f y_in in
    let later = IsDistance-distance n ((x + 1) % n) y (mod_below (x + 1) n (omega arith)) y_in in
    grind (arith, step, less, to_x.above, to_x.below, to_y.above, to_y.below, later.above, later.below)

-- and a port that is no farther than x then comes after it, at the end of the circle
pub distance-after : (n from x y : ℕ) → from < n → x < n → y < n → distance n from y ≤ distance n from x
    → distance n ((x + 1) % n) y + distance n from x + 1 ≡ distance n from y + n
distance-after n from x y f x_in y_in less =
    let step = one_beyond n x x_in in
    let to_x = IsDistance-distance n from x f x_in in
    let to_y = IsDistance-distance n from y f y_in in
    let later = IsDistance-distance n ((x + 1) % n) y (mod_below (x + 1) n (omega arith)) y_in in
    grind (arith, step, less, to_x.above, to_x.below, to_y.above, to_y.below, later.above, later.below)

-- one beyond a port x, any other port is nearer than n - 1 steps
pub distance-beyond : (n x y : ℕ) → x < n → y < n → (x ≡ y → ⊥) → distance n ((x + 1) % n) y + 2 ≤ n
distance-beyond n x y x_in y_in other =
    let here = IsDistance-distance n x x x_in x_in in
    let zero = here.above (omega arith) in
    let apart : distance n x x ≡ distance n x y → ⊥ = λ e. other (distance-injective n x x y x_in x_in y_in e) in
    let passed = distance-passed n x x y x_in x_in y_in (omega arith) in
    let below = distance-lt n x y x_in in
    omega (arith, passed, below)

-- a pointer is at its own port
pub distance-own : (n from : ℕ) → from < n → distance n from from ≡ 0
distance-own n from f = let here = distance-above n from from f f (omega arith) in omega (arith, here)

-- a pointer that moves to a port x comes nearer to a port y no nearer than x, by all the steps that it moves
pub distance-reached : (n from x y : ℕ) → from < n → x < n → y < n → distance n from x ≤ distance n from y
    → distance n x y + distance n from x ≡ distance n from y
distance-reached n from x y f x_in y_in less =
    let to_x = IsDistance-distance n from x f x_in in
    let to_y = IsDistance-distance n from y f y_in in
    let later = IsDistance-distance n x y x_in y_in in
    grind (arith, less, to_x.above, to_x.below, to_y.above, to_y.below, later.above, later.below)

-- the port after port x is one step farther than x, or at the pointer where x is the farthest
pub distance-next : (n from x : ℕ) → from < n → x < n → (distance n from ((x + 1) % n) ≡ distance n from x + 1)
    ⊎ ((distance n from ((x + 1) % n) ≡ 0) × (distance n from x + 1 ≡ n))
distance-next n from x f x_in =
    let next_in : (x + 1) % n < n = mod_below (x + 1) n (omega arith) in
    let own = distance-own n ((x + 1) % n) next_in in
    let far = distance-lt n from x f in
    let farther = distance-lt n from ((x + 1) % n) f in
    elim (cases_lt (distance n from x) (distance n from ((x + 1) % n))) [
      | inl beyond ↦ let passed = distance-passed n from x ((x + 1) % n) f x_in next_in beyond in inl (omega (arith, passed, own))
      | inr within ↦ let after = distance-after n from x ((x + 1) % n) f x_in next_in within in
          inr (omega (arith, after, own, far), omega (arith, after, own, far))
    ]

-- one beyond a port, that port is the farthest
pub distance-last : (n x : ℕ) → x < n → distance n ((x + 1) % n) x + 1 ≡ n
distance-last n x x_in = let after = distance-after n x x x x_in x_in x_in (omega arith) in omega (arith, after)

-- two ports are the same where those after them are
pub next-injective : (n x y : ℕ) → x < n → y < n → (x + 1) % n ≡ (y + 1) % n → x ≡ y
next-injective n x y x_in y_in same =
    let next_in : (x + 1) % n < n = mod_below (x + 1) n (omega arith) in
    let of_y : distance n ((x + 1) % n) y + 1 ≡ n = subst (λ p. distance n p y + 1 ≡ n) (sym same) (distance-last n y y_in) in
    let of_x = distance-last n x x_in in
    distance-injective n ((x + 1) % n) x y next_in x_in y_in (omega (arith, of_x, of_y))
