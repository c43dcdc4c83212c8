-- The rank of a request where slots have one round: a number below 2 * n * n - 3 * n + 2.
use Rattle.std.proofs.Common.{◌≡◌, ℕ, ◌+◌, ◌-◌, ◌*◌, ◌<◌, ◌≤◌, ◌⊎◌, Bool, true, false, if◌then◌else◌, min, refl, ap, sym, subst, inl, inr, arith}
use Rattle.std.proofs.Math.Nat.{mul-le-mul_left}
use Rattle.std.proofs.lemmas.Bool.{cases_lt, false≢true}
use Rattle.service_bound.specs.Waits.{longest_service_in_one_round}

-- 1 where the input is silent, and 0 elsewhere: it is nearer than `far` to the output's grant pointer,
-- and does not ask for the output
abbrev pub silent_at : ℕ → ℕ → Bool → ℕ
silent_at far place asks = if asks then 0 else min 1 (far - place)

-- an input is silent after a slot only if it was before
pub silent_at-le : (far place far_later place_later : ℕ) (asks asks_later : Bool)
    → (place_later < far_later → (place < far) × (asks ≡ true → asks_later ≡ true)) → silent_at far_later place_later asks_later ≤ silent_at far place asks
silent_at-le far place far_later place_later asks true on = omega arith
silent_at-le far place far_later place_later false false on =
    elim (cases_lt place_later far_later) [ inl near ↦ let known = (on near).0 in omega arith | inr beyond ↦ omega arith ]
silent_at-le far place far_later place_later true false on =
    elim (cases_lt place_later far_later) [ inl near ↦ absurd (false≢true ((on near).1 refl)) | inr beyond ↦ omega arith ]

pub silent_at-most : (far place : ℕ) (asks : Bool) → silent_at far place asks ≤ 1
silent_at-most far place true = omega arith
silent_at-most far place false = omega arith

-- the request's own input is not silent
pub silent_at-own : (far : ℕ) (asks : Bool) → silent_at far far asks ≡ 0
silent_at-own far true = refl
silent_at-own far false = omega arith

-- an input that begins to ask
pub silent_at-before : (far place : ℕ) (asks : Bool) → place < far → (asks ≡ true → ⊥) → silent_at far place asks ≡ 1
silent_at-before far place true near none = absurd (none refl)
silent_at-before far place false near none = omega arith

pub silent_at-after : (far place : ℕ) (asks : Bool) → asks ≡ true → silent_at far place asks ≡ 0
silent_at-after far place true e = refl
silent_at-after far place false e = absurd (false≢true e)

-- What the rank of a request is made of: `far` is how far its input is from the output's grant pointer, `turns` how far the
-- output is from the accept pointer of the first input that asks for it, and `silent` and `fresh` count the silent and the
-- fresh inputs.
pub record OneDistances : Type 0 where
  pub far : ℕ
  pub silent : ℕ
  pub turns : ℕ
  pub fresh : ℕ

-- of n ports, what can rise again before the others fall
abbrev pub one_low_of : ℕ → OneDistances → ℕ
one_low_of n d = min d.turns (n - 2) + d.fresh

-- the rank of a request of n ports
abbrev pub one_rank : ℕ → OneDistances → ℕ
one_rank n d = (n - 2) * (d.far + d.silent) + (d.far + one_low_of n d)

-- the rank falls where the request's own input comes nearer
pub one_rank-far : (n : ℕ) (new old : OneDistances) → new.far < old.far → new.silent ≤ old.silent → new.fresh ≤ old.fresh
    → one_rank n new + 1 ≤ one_rank n old
one_rank-far n new old nearer no_more also =
    let scaled : (n - 2) * (new.far + new.silent + 1) ≤ (n - 2) * (old.far + old.silent) = mul-le-mul_left (n - 2) (omega arith) in
    omega arith

-- and where an input begins to ask
pub one_rank-silent : (n : ℕ) (new old : OneDistances) → new.far ≤ old.far → new.silent + 1 ≤ old.silent → new.fresh + 1 ≤ one_low_of n old
    → one_rank n new + 1 ≤ one_rank n old
one_rank-silent n new old stays fewer stale =
    let scaled : (n - 2) * (new.far + new.silent + 1) ≤ (n - 2) * (old.far + old.silent) = mul-le-mul_left (n - 2) (omega arith) in
    omega arith

-- and where the accept pointer comes nearer
pub one_rank-turns : (n : ℕ) (new old : OneDistances) → new.far ≤ old.far → new.silent ≤ old.silent → one_low_of n new + 1 ≤ one_low_of n old
    → one_rank n new + 1 ≤ one_rank n old
one_rank-turns n new old stays no_more stale =
    let scaled : (n - 2) * (new.far + new.silent) ≤ (n - 2) * (old.far + old.silent) = mul-le-mul_left (n - 2) (omega arith) in
    omega arith

-- every rank is below the bound
one_rank-most : (step far silent low : ℕ) → far < step + 2 → silent < step + 2 → low ≤ step + (step + 2)
    → step * (far + silent) + (far + low) + 1 ≤ longest_service_in_one_round (step + 2)
one_rank-most step far silent low far_in silent_in low_in =
    let scaled : step * (far + silent) ≤ step * (step + 1 + (step + 1)) = mul-le-mul_left step (omega arith) in
    omega (arith, scaled)

pub one_rank-bound : (n : ℕ) (d : OneDistances) → d.far < n → d.silent < n → d.fresh ≤ n * min (n - 1) 1 → one_rank n d + 1 ≤ longest_service_in_one_round n
one_rank-bound n d far_in silent_in few =
    elim (cases_lt 1 n) [
      | inl more ↦
          let e : n ≡ n - 2 + 2 = omega arith in
          let one : n * min (n - 1) 1 ≡ n * 1 = ap (λ v. n * v) (omega arith) in
          let most = one_rank-most (n - 2) d.far d.silent (one_low_of n d) (omega arith) (omega arith) (omega (arith, one)) in
          let bound : longest_service_in_one_round n ≡ longest_service_in_one_round (n - 2 + 2) = ap longest_service_in_one_round e in
          omega (arith, most, bound)
      | inr one ↦
          let e : n ≡ 1 = omega arith in
          subst (λ m. d.far < m → d.silent < m → d.fresh ≤ m * min (m - 1) 1 → one_rank m d + 1 ≤ longest_service_in_one_round m) (sym e)
          (λ far_in silent_in few. omega arith) far_in silent_in few
    ]

-- and the bound is of one slot or more
pub longest_in_one-some : (n : ℕ) → 0 < n → 1 ≤ longest_service_in_one_round n
longest_in_one-some n some =
    let least = one_rank-bound n (record { far = 0; silent = 0; turns = 0; fresh = 0 }) some some (omega arith) in
    omega (arith, least)

-- The rank falls by two or more where the request's own input comes nearer, and the first input that asks had far to go,
pub one_rank-far_twice : (n : ℕ) (new old : OneDistances) → new.far < old.far → new.silent ≤ old.silent → new.fresh ≤ old.fresh → 2 < n
    → n - 2 ≤ old.turns → one_rank n new + 2 ≤ one_rank n old
one_rank-far_twice n new old nearer no_more also more long =
    let scaled : (n - 2) * (new.far + new.silent + 1) ≤ (n - 2) * (old.far + old.silent) = mul-le-mul_left (n - 2) (omega arith) in
    omega arith

-- and where an input begins to ask as well as one is fresh no more,
pub one_rank-silent_twice : (n : ℕ) (new old : OneDistances) → new.far ≤ old.far → new.silent + 1 ≤ old.silent → new.fresh + 2 ≤ one_low_of n old
    → one_rank n new + 2 ≤ one_rank n old
one_rank-silent_twice n new old stays fewer stale =
    let scaled : (n - 2) * (new.far + new.silent + 1) ≤ (n - 2) * (old.far + old.silent) = mul-le-mul_left (n - 2) (omega arith) in
    omega arith

-- and where two inputs begin to ask,
pub one_rank-two_silent : (n : ℕ) (new old : OneDistances) → new.far ≤ old.far → new.silent + 2 ≤ old.silent → 1 ≤ min old.turns (n - 2)
    → new.fresh ≤ old.fresh → one_rank n new + 2 ≤ one_rank n old
one_rank-two_silent n new old stays fewer some also =
    let scaled : (n - 2) * (new.far + new.silent + 2) ≤ (n - 2) * (old.far + old.silent) = mul-le-mul_left (n - 2) (omega arith) in
    omega arith

-- and where the accept pointer comes nearer by so much
pub one_rank-turns_twice : (n : ℕ) (new old : OneDistances) → new.far ≤ old.far → new.silent ≤ old.silent → one_low_of n new + 2 ≤ one_low_of n old
    → one_rank n new + 2 ≤ one_rank n old
one_rank-turns_twice n new old stays no_more stale =
    let scaled : (n - 2) * (new.far + new.silent) ≤ (n - 2) * (old.far + old.silent) = mul-le-mul_left (n - 2) (omega arith) in
    omega arith

-- the rank is greatest only where the input is as far as can be, and all others are silent and all fresh
one_rank-near : (step far silent low : ℕ) → far + silent < step + 1 + (step + 1) → far < step + 2 → low ≤ step + (step + 2) → 0 < step
    → step * (far + silent) + (far + low) + 2 ≤ longest_service_in_one_round (step + 2)
one_rank-near step far silent low near far_in low_in some =
    let scaled : step * (far + silent + 1) ≤ step * (step + 1 + (step + 1)) = mul-le-mul_left step (omega arith) in
    omega (arith, scaled)

one_rank-stale : (step far silent low : ℕ) → far < step + 2 → silent < step + 2 → low < step + (step + 2)
    → step * (far + silent) + (far + low) + 2 ≤ longest_service_in_one_round (step + 2)
one_rank-stale step far silent low far_in silent_in low_in =
    let scaled : step * (far + silent) ≤ step * (step + 1 + (step + 1)) = mul-le-mul_left step (omega arith) in
    omega (arith, scaled)

pub one_rank-greatest : (n : ℕ) (d : OneDistances) → 2 < n → d.far < n → d.silent < n → d.fresh ≤ n
    → (one_rank n d + 2 ≤ longest_service_in_one_round n) ⊎ ((d.far + 1 ≡ n) × (d.silent + 1 ≡ n) × (d.fresh ≡ n))
one_rank-greatest n d more far_in silent_in fresh_in =
    let e : n ≡ n - 2 + 2 = omega arith in
    let bound : longest_service_in_one_round n ≡ longest_service_in_one_round (n - 2 + 2) = ap longest_service_in_one_round e in
    elim (cases_lt (d.far + d.silent) (n - 1 + (n - 1))) [
      | inl near ↦
          let less = one_rank-near (n - 2) d.far d.silent (one_low_of n d) (omega arith) (omega arith) (omega arith) (omega arith) in
          inl (omega (arith, less, bound))
      | inr far_off ↦ elim (cases_lt d.fresh n) [
        | inl few ↦
            let less = one_rank-stale (n - 2) d.far d.silent (one_low_of n d) (omega arith) (omega arith) (omega arith) in
            inl (omega (arith, less, bound))
        | inr all ↦ inr (omega arith, omega arith, omega arith)
      ]
    ]
