-- Numbers that are all below a bound: so is the greatest of them.
use Rattle.std.proofs.Common.{◌≡◌, ℕ, ◌+◌, ◌<◌, List, [], ◌∷◌, get_or, All, arith}
use Rattle.std.specs.List.{flat_map, range_with_len}
use Rattle.std.proofs.lemmas.List.Elements.{All-nil, All-head, All-tail, All-append, All-from_get_or}
use Rattle.std.proofs.lemmas.List.FromFn.{length-range_with_len, get_or-range_with_len}
use Rattle.service_bound.specs.Waits.{NotedSlot, greatest, waits_from, longest_wait}

pub greatest-lt : (bound : ℕ) (xs : List ℕ) → 0 < bound → All (λ x. x < bound) xs → greatest xs < bound
greatest-lt bound [] some all = some
greatest-lt bound (x ∷ xs) some all =
    let here = All-head (λ y. y < bound) x xs all in
    let rest = greatest-lt bound xs some (All-tail (λ y. y < bound) x xs all) in
    omega arith

All-flat_map : {X Y : Type 0} (P : Y → Type 0) (f : X → List Y) (xs : List X) → All (λ x. All P (f x)) xs → All P (flat_map f xs)
All-flat_map P f [] all = All-nil P
All-flat_map P f (x ∷ xs) all =
    All-append P (f x) (flat_map f xs) (All-head (λ z. All P (f z)) x xs all) (All-flat_map P f xs (All-tail (λ z. All P (f z)) x xs all))

-- of all ports together
pub All-ports : (n : ℕ) (P : ℕ → Type 0) (f : ℕ → List ℕ) → ((i : ℕ) → i < n → All P (f i)) → All P (flat_map f (range_with_len 0 n))
All-ports n P f each =
    All-flat_map P f (range_with_len 0 n)
    (All-from_get_or (λ i. All P (f i)) (range_with_len 0 n) 0
    (λ k k_in. let long = length-range_with_len 0 n in let here : get_or (range_with_len 0 n) k 0 ≡ 0 + k = get_or-range_with_len 0 n k 0 (omega arith) in
    each (get_or (range_with_len 0 n) k 0) (omega arith)))

-- where all waits of all queues are below a bound, so is the longest
pub longest_wait-below : (n level bound : ℕ) (slots : List NotedSlot) → 0 < bound
    → ((i j : ℕ) → i < n → j < n → All (λ w. w < bound) (waits_from 0 slots i j level)) → longest_wait n level slots < bound
unfolding longest_wait
longest_wait-below n level bound slots some all =
    let Below : ℕ → Type 0 = λ w. w < bound in
    greatest-lt bound (flat_map (λ i. flat_map (λ j. waits_from 0 slots i j level) (range_with_len 0 n)) (range_with_len 0 n)) some
    (All-ports n Below (λ i. flat_map (λ j. waits_from 0 slots i j level) (range_with_len 0 n))
    (λ i i_in. All-ports n Below (λ j. waits_from 0 slots i j level) (λ j j_in. all i j i_in j_in)))
