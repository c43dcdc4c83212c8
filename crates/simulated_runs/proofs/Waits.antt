-- For how long cells have waited.
use Rattle.std.proofs.Common.{◌≡◌, ◌∙◌, ◌+◌, ◌-◌, ◌*◌, ◌<◌, arith, ℕ, suc, List, [], ◌∷◌, length}
use Rattle.std.proofs.Math.Nat.{mul_comm}
use Rattle.std.proofs.lemmas.List.Sums.{sum_by-cons}
use Rattle.std.specs.Prelude.{All, sum_by}
use Rattle.arrival_queues.specs.declared.cell.ArrivedCell.{ArrivedCell}
use Rattle.arrival_queues.specs.Queues.{Queues, held_count, sum_of_arrivals}
use Rattle.simulated_slots.specs.ArrivalSteps.{AllCame}
use Rattle.simulated_slots.proofs.TakingIn.{AllBefore}
use Rattle.simulated_runs.specs.Numbers.{age_before}

abbrev pub age : ℕ → ArrivedCell → ℕ
age t cell = t - cell.arrival

abbrev pub arrival : ArrivedCell → ℕ
arrival cell = cell.arrival

length_cons : {X : Type 0} (x : X) (xs : List X) → length (x ∷ xs) ≡ 1 + length xs
length_cons x xs = omega arith

-- of one cell and one queue more
cell_more : (t young ages arrivals count : ℕ) → young < t → ages + arrivals ≡ t * count → t - young + ages + (young + arrivals) ≡ t * (1 + count)
cell_more t young ages arrivals count below rest = omega (arith, below, rest)

queue_more : (t a b ages arrivals own count : ℕ) → a + b ≡ t * own → ages + arrivals ≡ t * count → a + ages + (b + arrivals) ≡ t * (own + count)
queue_more t a b ages arrivals own count one rest = omega (arith, one, rest)

age_of_queue : (t : ℕ) (cells : List ArrivedCell) → AllBefore t cells → sum_by (age t) cells + sum_by arrival cells ≡ t * length cells
age_of_queue t [] all = omega arith
age_of_queue t (x ∷ xs) all =
    rw (sum_by-cons (age t) x xs, sum_by-cons arrival x xs, length_cons x xs)
    (cell_more t x.arrival (sum_by (age t) xs) (sum_by arrival xs) (length xs) (all 0 x (omega arith))
    (age_of_queue t xs (λ k d inside. all (suc k) d (omega (arith, inside)))))

age_of_queues : (t : ℕ) (queues : List (List ArrivedCell)) → All (AllBefore t) queues
    → sum_by (sum_by (age t)) queues + sum_by (sum_by arrival) queues ≡ t * sum_by length queues
age_of_queues t [] all = omega arith
age_of_queues t (q ∷ qs) all =
    rw (sum_by-cons (sum_by (age t)) q qs, sum_by-cons (sum_by arrival) q qs, sum_by-cons (λ (cells : List ArrivedCell). length cells) q qs)
    (queue_more t (sum_by (age t) q) (sum_by arrival q) (sum_by (sum_by (age t)) qs) (sum_by (sum_by arrival) qs) (length q) (sum_by length qs)
    (age_of_queue t q (all 0 q (omega arith))) (age_of_queues t qs (λ k d inside. all (suc k) d (omega (arith, inside)))))

-- the age is the slots of all cells that wait, less the sum of those in which they came
pub age-is : (t : ℕ) (queues : Queues) → AllCame t queues → age_before t queues + sum_of_arrivals queues ≡ held_count queues * t
unfolding sum_of_arrivals held_count
age-is t queues came = age_of_queues t queues.cells came ∙ mul_comm t (sum_by length queues.cells)
