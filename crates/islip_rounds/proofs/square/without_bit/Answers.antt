use Rattle.std.proofs.Common.{ℕ, ◌≡◌, ◌<◌, ◌-◌, eqb, true, refl, arith}
use Rattle.std.specs.Int.{bit_at}
use Rattle.std.proofs.lemmas.Bool.{agree_below, agree_below_at, eqb-true}
use Rattle.islip_rounds.proofs.square.without_bit.Goals as goal

-- by trying each column
at_mask : (mask k : ℕ) → agree_below (λ c. eqb (bit_at mask c) (1 - bit_at c k)) (λ c. true) 64 ≡ true → (c : ℕ) → c < 64 → bit_at mask c ≡ 1 - bit_at c k
at_mask mask k all c within = eqb-true (bit_at mask c) (1 - bit_at c k) (agree_below_at (λ c. eqb (bit_at mask c) (1 - bit_at c k)) (λ c. true) 64 c all within)

pub returns-in-0 : goal.returns-in-0
returns-in-0 c = rw c.in-0.is (at_mask 0x5555_5555_5555_5555 0 refl)

pub returns-in-1 : goal.returns-in-1
returns-in-1 c = rw c.in-1.is (at_mask 0x3333_3333_3333_3333 1 refl)

pub returns-in-2 : goal.returns-in-2
returns-in-2 c = rw c.in-2.is (at_mask 0x0f0f_0f0f_0f0f_0f0f 2 refl)

pub returns-in-3 : goal.returns-in-3
returns-in-3 c = rw c.in-3.is (at_mask 0x00ff_00ff_00ff_00ff 3 refl)

pub returns-in-4 : goal.returns-in-4
returns-in-4 c = rw c.in-4.is (at_mask 0x0000_ffff_0000_ffff 4 refl)

pub returns-in_default : goal.returns-in_default
returns-in_default c = let five : c.args.k ≡ 5 = omega arith in rw five (at_mask 0x0000_0000_ffff_ffff 5 refl)
