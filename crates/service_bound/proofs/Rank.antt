-- The rank of a request: a number below n * (n * n - n + 2) / 2 that falls while the request waits.
use Rattle.std.proofs.Common.{◌≡◌, ℕ, ◌+◌, ◌-◌, ◌*◌, ◌<◌, ◌≤◌, ◌⊎◌, ◌∙◌, min, inl, inr, ap, sym, subst, arith}
use Rattle.std.proofs.Math.Nat.{mul-le-mul_left}
use Rattle.std.proofs.lemmas.Bool.{cases_lt}
use Rattle.std.proofs.lemmas.Nat.{mul-le}

-- twice the bound, so that nothing is divided
abbrev pub twice_longest : ℕ → ℕ
twice_longest n = n * (n * n - n + 2)

-- 1 where the input is fresh, and 0 elsewhere: it is no farther than `far` from the output's grant
-- pointer, and its accept pointer is one beyond the output, so that all others come before it. (Of one
-- port there are no others, and none is fresh.)
abbrev pub fresh_at : ℕ → ℕ → ℕ → ℕ → ℕ
fresh_at n far place turns = min (turns - (n - 2)) (far + 1 - place)

-- an input is fresh after a slot only if it was before, where its accept pointer stays or goes elsewhere
pub fresh_at-le : (n far place turns far_later place_later turns_later : ℕ) → turns < n
    → (place_later ≤ far_later → (place ≤ far) × ((turns_later + 2 ≤ n) ⊎ (turns_later ≡ turns)))
    → fresh_at n far_later place_later turns_later ≤ fresh_at n far place turns
fresh_at-le n far place turns far_later place_later turns_later turns_in on =
    elim (cases_lt far_later place_later) [
      | inl beyond ↦ omega arith
      | inr within ↦
          let known = on within in
          let near = known.0 in
          elim known.1 [ inl moved ↦ omega arith | inr same ↦ omega arith ]
    ]

-- What the rank of a request is made of: `far` is how far its input is from the output's grant pointer, `near` how far
-- an input is that asks for the output too and is no farther, `turns` how far the output is from that input's accept
-- pointer, and `fresh` counts the fresh inputs.
pub record Distances : Type 0 where
  pub far : ℕ
  pub near : ℕ
  pub turns : ℕ
  pub fresh : ℕ

-- of n ports, what can rise again before the others fall
abbrev pub low_of : ℕ → Distances → ℕ
low_of n d = min d.turns (n - 2) + d.fresh

-- and what falls first
abbrev pub high_of : Distances → ℕ
high_of d = d.far * (d.far + 1) + 2 * d.near

-- twice the rank of a request of n ports, so that nothing is divided
abbrev pub twice_rank : ℕ → Distances → ℕ
twice_rank n d = (n - 2) * high_of d + 2 * (d.far + low_of n d)

no_farther : (x y : ℕ) → x ≤ y → x * (x + 1) ≤ y * (y + 1)
no_farther x y within = mul-le x (x + 1) y (y + 1) within (omega arith)

nearer : (x y : ℕ) → x < y → (x + 1) * (x + 2) ≤ y * (y + 1)
nearer x y less = mul-le (x + 1) (x + 2) y (y + 1) (omega arith) (omega arith)

-- the rank falls where the request's own input comes nearer
pub twice_rank-far : (n : ℕ) (new old : Distances) → new.far < old.far → new.near ≤ new.far → new.fresh ≤ old.fresh → twice_rank n new + 2 ≤ twice_rank n old
twice_rank-far n new old less within no_more =
    let square = nearer new.far old.far less in
    let scaled : (n - 2) * (high_of new + 2) ≤ (n - 2) * high_of old = mul-le-mul_left (n - 2) (omega arith) in
    omega arith

-- and where a nearer input asks for the output, which is fresh no more
pub twice_rank-near : (n : ℕ) (new old : Distances) → new.far ≤ old.far → new.near < old.near → low_of n new + 1 ≤ (n - 2) + old.fresh
    → twice_rank n new + 2 ≤ twice_rank n old
twice_rank-near n new old stays less lower =
    let square = no_farther new.far old.far stays in
    let scaled : (n - 2) * (high_of new + 2) ≤ (n - 2) * high_of old = mul-le-mul_left (n - 2) (omega arith) in
    omega arith

-- and where the accept pointer comes nearer
pub twice_rank-turns : (n : ℕ) (new old : Distances) → new.far ≤ old.far → new.near ≤ old.near → low_of n new + 1 ≤ low_of n old
    → twice_rank n new + 2 ≤ twice_rank n old
twice_rank-turns n new old stays also lower =
    let square = no_farther new.far old.far stays in
    let scaled : (n - 2) * high_of new ≤ (n - 2) * high_of old = mul-le-mul_left (n - 2) (omega arith) in
    omega arith

-- The rank falls by two or more, and so twice the rank by four, where the accept pointer comes nearer by so much,
pub twice_rank-turns_twice : (n : ℕ) (new old : Distances) → new.far ≤ old.far → new.near ≤ old.near → low_of n new + 2 ≤ low_of n old
    → twice_rank n new + 4 ≤ twice_rank n old
twice_rank-turns_twice n new old stays also lower =
    let square = no_farther new.far old.far stays in
    let scaled : (n - 2) * high_of new ≤ (n - 2) * high_of old = mul-le-mul_left (n - 2) (omega arith) in
    omega arith

-- and where a nearer input asks for the output, and what else falls makes up for its accept pointer,
pub twice_rank-near_twice : (n : ℕ) (new old : Distances) → new.far ≤ old.far → new.near < old.near → low_of n new + 2 ≤ (n - 2) + low_of n old
    → twice_rank n new + 4 ≤ twice_rank n old
twice_rank-near_twice n new old stays less lower =
    let square = no_farther new.far old.far stays in
    let scaled : (n - 2) * (high_of new + 2) ≤ (n - 2) * high_of old = mul-le-mul_left (n - 2) (omega arith) in
    omega arith

-- and where an input nearer by two asks for it,
pub twice_rank-near_by_two : (n : ℕ) (new old : Distances) → new.far ≤ old.far → new.near + 2 ≤ old.near → 1 ≤ min old.turns (n - 2)
    → new.fresh ≤ old.fresh → twice_rank n new + 4 ≤ twice_rank n old
twice_rank-near_by_two n new old stays less some also =
    let square = no_farther new.far old.far stays in
    let scaled : (n - 2) * (high_of new + 4) ≤ (n - 2) * high_of old = mul-le-mul_left (n - 2) (omega arith) in
    omega arith

-- and where the request's own input comes nearer, and the other had some way to go
pub twice_rank-far_twice : (n : ℕ) (new old : Distances) → new.far < old.far → new.near ≤ new.far → new.fresh ≤ old.fresh → 2 < n
    → 1 ≤ old.near + min old.turns (n - 2) → twice_rank n new + 4 ≤ twice_rank n old
twice_rank-far_twice n new old less within no_more more some =
    let square = nearer new.far old.far less in
    let scaled : (n - 2) * (high_of new + 2 + 2 * old.near) ≤ (n - 2) * high_of old = mul-le-mul_left (n - 2) (omega arith) in
    let grown : 1 * old.near ≤ (n - 2) * old.near = mul-le 1 old.near (n - 2) old.near (omega arith) (omega arith) in
    omega arith

-- every rank is below the bound
twice_rank-most : (step far near low : ℕ) → far < step + 2 → near ≤ far → low ≤ step + (step + 2)
    → step * (far * (far + 1) + 2 * near) + 2 * (far + low) + 2 ≤ (step + 2) * ((step + 2) * (step + 1) + 2)
twice_rank-most step far near low far_in within low_in =
    let square = nearer far (step + 2) far_in in
    let scaled : step * (far * (far + 1) + 2 * near) ≤ step * ((step + 2) * (step + 3) - 2) = mul-le-mul_left step (omega (arith, square)) in
    let apart : (step + 2) * (step + 3) - 2 ≡ step * step + 5 * step + 4 = omega arith in
    let plain : step * ((step + 2) * (step + 3) - 2) ≡ step * (step * step + 5 * step + 4) = ap (λ v. step * v) apart in
    omega (arith, scaled, plain)

twice_longest-from_2 : (step : ℕ) → twice_longest (step + 2) ≡ (step + 2) * ((step + 2) * (step + 1) + 2)
twice_longest-from_2 step =
    let inner : (step + 2) * (step + 2) - (step + 2) ≡ (step + 2) * (step + 1) = omega arith in
    ap (λ v. (step + 2) * (v + 2)) inner

pub twice_rank-bound : (n : ℕ) (d : Distances) → d.far < n → d.near ≤ d.far → d.fresh ≤ n * min (n - 1) 1 → twice_rank n d + 2 ≤ twice_longest n
twice_rank-bound n d far_in within few =
    elim (cases_lt 1 n) [
      | inl more ↦
          let e : n ≡ n - 2 + 2 = omega arith in
          let one : n * min (n - 1) 1 ≡ n * 1 = ap (λ v. n * v) (omega arith) in
          let most = twice_rank-most (n - 2) d.far d.near (low_of n d) (omega arith) within (omega (arith, one)) in
          let bound : twice_longest n ≡ (n - 2 + 2) * ((n - 2 + 2) * (n - 2 + 1) + 2) = ap twice_longest e ∙ twice_longest-from_2 (n - 2) in
          omega (arith, most, bound)
      | inr one ↦
          let e : n ≡ 1 = omega arith in
          subst (λ m. d.far < m → d.fresh ≤ m * min (m - 1) 1 → twice_rank m d + 2 ≤ twice_longest m) (sym e) (λ far_in few. omega arith) far_in few
    ]

-- and the bound is of one slot or more
pub twice_longest-some : (n : ℕ) → 0 < n → 2 ≤ twice_longest n
twice_longest-some n some =
    let least = twice_rank-bound n (record { far = 0; near = 0; turns = 0; fresh = 0 }) some (omega arith) (omega arith) in
    omega (arith, least)

-- the rank is greatest only where the input is as far as can be, and so is the other, and all are fresh
twice_rank-less : (step far near low : ℕ) → far < step + 2 → near ≤ far → low ≤ step + (step + 2) → 0 < step
    → (near < step + 1) ⊎ (low < step + (step + 2)) → step * (far * (far + 1) + 2 * near) + 2 * (far + low) + 4 ≤ (step + 2) * ((step + 2) * (step + 1) + 2)
twice_rank-less step far near low far_in within low_in some one =
    let square = nearer far (step + 2) far_in in
    let apart : (step + 2) * (step + 3) ≡ step * step + 5 * step + 6 = omega arith in
    let grown : 0 ≤ step * step = omega arith in
    elim one [
      | inl near_less ↦ elim (cases_lt far (step + 1)) [
        | inl short ↦
            let lower = nearer far (step + 1) short in
            let scaled : step * (far * (far + 1) + 2 * near) ≤ step * (step * step + 3 * step) = mul-le-mul_left step (omega (arith, lower)) in
            let squares : 1 * step ≤ step * step = mul-le 1 step step step (omega arith) (omega arith) in
            omega (arith, scaled, squares)
        | inr farthest ↦
            let scaled : step * (far * (far + 1) + 2 * near) ≤ step * (step * step + 5 * step + 2) = mul-le-mul_left step (omega (arith, square, apart)) in
            omega (arith, scaled)
      ]
      | inr few ↦
          let scaled : step * (far * (far + 1) + 2 * near) ≤ step * (step * step + 5 * step + 4) = mul-le-mul_left step (omega (arith, square, apart)) in
          omega (arith, scaled)
    ]

pub twice_rank-short : (n : ℕ) (d : Distances) → 2 < n → d.far < n → d.near ≤ d.far → d.fresh ≤ n → (d.near + 1 < n) ⊎ (d.fresh < n)
    → twice_rank n d + 4 ≤ twice_longest n
twice_rank-short n d more far_in within few one =
    let e : n ≡ n - 2 + 2 = omega arith in
    let either : (d.near < n - 2 + 1) ⊎ (low_of n d < n - 2 + (n - 2 + 2)) = elim one [ inl near_less ↦ inl (omega arith) | inr fewer ↦ inr (omega arith) ] in
    let less = twice_rank-less (n - 2) d.far d.near (low_of n d) (omega arith) within (omega arith) (omega arith) either in
    let bound : twice_longest n ≡ (n - 2 + 2) * ((n - 2 + 2) * (n - 2 + 1) + 2) = ap twice_longest e ∙ twice_longest-from_2 (n - 2) in
    omega (arith, less, bound)
