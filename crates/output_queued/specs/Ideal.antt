-- An output of the ideal switch: a queue that takes in all cells of a slot, and gives one out in each slot in which one
-- waits. `comes t` is how many cells come to it in slot t.
use Rattle.std.specs.Prelude.{ℕ, zero, suc, ◌+◌, ◌-◌, min}

-- the sum of f over the first t numbers, from 0 on
abbrev pub total : (ℕ → ℕ) → ℕ → ℕ
total f zero = 0
total f (suc t) = total f t + f t

-- how many cells wait when slot t begins: each slot before took in those that came, and gave one out, if there was one
abbrev pub queued : (ℕ → ℕ) → ℕ → ℕ
queued comes zero = 0
queued comes (suc t) = queued comes t + comes t - 1

-- how many cells slot t gives out: one where one waits
abbrev pub gives_out : (ℕ → ℕ) → ℕ → ℕ
gives_out comes t = min 1 (queued comes t + comes t)

-- how many cells the first t slots gave out
abbrev pub given : (ℕ → ℕ) → ℕ → ℕ
given comes t = total (gives_out comes) t
