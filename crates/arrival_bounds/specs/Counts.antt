-- Cells that come to the queues of a switch and go, as numbers: of each queue how many in the first slots.
use Rattle.std.specs.Prelude.{◌≡◌, ℕ, ◌+◌, ◌-◌, ◌*◌, ◌<◌, ◌≤◌, ◌⊎◌, sum_by}
use Rattle.std.specs.List.{range_with_len}

-- how many cells of the queue of input i, output j and level l in the first t slots
abbrev pub Counts : Type 0
Counts = (i j l t : ℕ) → ℕ

-- those of all queues of input i, and those of all queues for output j, of a switch of n ports
abbrev pub of_input : ℕ → ℕ → Counts → ℕ → ℕ → ℕ
of_input n levels f i t = sum_by (λ j. sum_by (λ l. f i j l t) (range_with_len 0 levels)) (range_with_len 0 n)

abbrev pub for_output : ℕ → ℕ → Counts → ℕ → ℕ → ℕ
for_output n levels f j t = sum_by (λ i. sum_by (λ l. f i j l t) (range_with_len 0 levels)) (range_with_len 0 n)

-- Cells that come to a switch whose matches are maximal, and go. None comes before the first slot, and none goes before it
-- comes. Where after slot t a cell of a queue is left, the slot took a cell of the queue's input, or one for its output.
pub record AreServed (n levels : ℕ) (came gone : Counts) : Type 0 where
  pub none : (i j l : ℕ) → came i j l 0 ≡ 0
  pub comes : (i j l t u : ℕ) → t ≤ u → came i j l t ≤ came i j l u
  pub goes : (i j l t u : ℕ) → t ≤ u → gone i j l t ≤ gone i j l u
  pub few : (i j l t : ℕ) → i < n → j < n → gone i j l t ≤ came i j l t
  pub takes : (i j l t : ℕ) → i < n → j < n → l < levels → gone i j l (t + 1) < came i j l (t + 1)
      → (of_input n levels gone i t < of_input n levels gone i (t + 1)) ⊎ (for_output n levels gone j t < for_output n levels gone j (t + 1))

-- ---- delays
-- In any `2 * most + 1` slots in a row at most `most + 2` cells come to the input of a queue in use and for its output, both
-- together: a cell of the queue counts twice.
abbrev pub ComeApart : ℕ → ℕ → Counts → ℕ → Type 0
ComeApart n levels came most = (i j l t : ℕ) → i < n → j < n → l < levels → 0 < came i j l (t + (2 * most + 1))
    → of_input n levels came i (t + (2 * most + 1)) + for_output n levels came j (t + (2 * most + 1))
    ≤ of_input n levels came i t + for_output n levels came j t + (most + 2)

-- no cell waits more than `most` slots: those that came in the first t slots go in the first t + most
abbrev pub WaitAtMost : ℕ → ℕ → Counts → Counts → ℕ → Type 0
WaitAtMost n levels came gone most = (i j l t : ℕ) → i < n → j < n → l < levels → came i j l t ≤ gone i j l (t + most)

-- ---- one queue
-- Of the queue of input i, output j and level l: what waits at its input and for its output before any slot, and what comes to
-- them in this slot and the `most` slots after it, is at most `most + 2` cells in all. A cell of the queue counts twice.
abbrev pub AreFewBeside : ℕ → ℕ → Counts → Counts → ℕ → ℕ → ℕ → Type 0
AreFewBeside n levels came gone i j most = (t : ℕ) → of_input n levels came i (t + (most + 1)) + for_output n levels came j (t + (most + 1))
    ≤ of_input n levels gone i t + for_output n levels gone j t + (most + 2)

-- no cell of it waits more than `most` slots
abbrev pub QueueWaitsAtMost : Counts → Counts → ℕ → ℕ → ℕ → ℕ → Type 0
QueueWaitsAtMost came gone i j l most = (t : ℕ) → came i j l t ≤ gone i j l (t + most)

-- ---- buffers
-- in any `slots` slots in a row at most `most_in i` cells come to input i, and at most `most_out j` for output j
pub record ComeAtMost (n levels : ℕ) (came : Counts) (slots : ℕ) (most_in most_out : ℕ → ℕ) : Type 0 where
  pub inputs : (i t : ℕ) → i < n → of_input n levels came i (t + slots) ≤ of_input n levels came i t + most_in i
  pub outputs : (j t : ℕ) → j < n → for_output n levels came j (t + slots) ≤ for_output n levels came j t + most_out j

-- these numbers are small beside the slots: for each queue in use the one of its input and twice that of its output are at
-- most `slots + 1` together, and so are twice the one and the other
abbrev pub AreSmall : ℕ → ℕ → Counts → ℕ → (ℕ → ℕ) → (ℕ → ℕ) → Type 0
AreSmall n levels came slots most_in most_out = (i j l t : ℕ) → i < n → j < n → l < levels → 0 < came i j l t
    → (most_in i + 2 * most_out j ≤ slots + 1) × (2 * most_in i + most_out j ≤ slots + 1)

-- the arrival curves of the lines: in any slots in a row at most `most_in i slots` cells come to input i, and at most
-- `most_out j slots` for output j
pub record ComeByCurves (n levels : ℕ) (came : Counts) (most_in most_out : ℕ → ℕ → ℕ) : Type 0 where
  pub inputs : (i t slots : ℕ) → i < n → of_input n levels came i (t + slots) ≤ of_input n levels came i t + most_in i slots
  pub outputs : (j t slots : ℕ) → j < n → for_output n levels came j (t + slots) ≤ for_output n levels came j t + most_out j slots

-- Windows of so many slots, one for each line, are long enough: for each queue in use the most that comes to its input in the
-- input's window, and for its output in the output's, and to the one of both in a slot less than the other's window, is at
-- most this window and one slot.
pub record AreWindows (n levels : ℕ) (came : Counts) (most_in most_out : ℕ → ℕ → ℕ) (slots_in slots_out : ℕ → ℕ) : Type 0 where
  pub some_in : (i : ℕ) → i < n → 0 < slots_in i
  pub some_out : (j : ℕ) → j < n → 0 < slots_out j
  pub inputs : (i j l t : ℕ) → i < n → j < n → l < levels → 0 < came i j l t
      → most_in i (slots_in i) + most_out j (slots_out j) + most_out j (slots_in i - 1) ≤ slots_in i + 1
  pub outputs : (i j l t : ℕ) → i < n → j < n → l < levels → 0 < came i j l t
      → most_in i (slots_in i) + most_out j (slots_out j) + most_in i (slots_out j - 1) ≤ slots_out j + 1

-- in slot t, with the cells that come in it and before any goes, at most so many wait at each input, and for each output
pub record HoldAtMost (n levels : ℕ) (came gone : Counts) (most_in most_out : ℕ → ℕ) : Type 0 where
  pub inputs : (i t : ℕ) → i < n → of_input n levels came i (t + 1) ≤ of_input n levels gone i t + most_in i
  pub outputs : (j t : ℕ) → j < n → for_output n levels came j (t + 1) ≤ for_output n levels gone j t + most_out j
