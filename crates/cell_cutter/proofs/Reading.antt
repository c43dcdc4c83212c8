-- Reading a cell: its fields are bytes of the 64, and spell them again.
use Rattle.std.proofs.Common.{◌≡◌, ℕ, ◌+◌, ◌*◌, ◌/◌, ◌%◌, ◌<◌, ◌≤◌, List, ◌∷◌, length, get_or, drop, arith}
use Rattle.std.proofs.lemmas.List.{drop_more}

-- a list by its first eight bytes and the rest
pub eight_and_rest : (bytes : List ℕ) → 8 ≤ length bytes → bytes ≡ get_or bytes 0 0 ∷ get_or bytes 1 0 ∷ get_or bytes 2 0 ∷ get_or bytes 3 0
    ∷ get_or bytes 4 0 ∷ get_or bytes 5 0 ∷ get_or bytes 6 0 ∷ get_or bytes 7 0 ∷ drop 8 bytes
eight_and_rest bytes h =
    let a = drop_more bytes 0 0 (omega arith) in
    let b = drop_more bytes 1 0 (omega arith) in
    let c = drop_more bytes 2 0 (omega arith) in
    let d = drop_more bytes 3 0 (omega arith) in
    let e = drop_more bytes 4 0 (omega arith) in
    let f = drop_more bytes 5 0 (omega arith) in
    let g = drop_more bytes 6 0 (omega arith) in
    let i = drop_more bytes 7 0 (omega arith) in
    cc

-- a number of two bytes, spelled again, is the bytes that it was read from
pub spelled_again : (bytes : List ℕ) (number : ℕ) → length bytes ≡ 64 → ((i : ℕ) → get_or bytes i 0 < 256) → get_or bytes 5 0 ≡ 0
    → number ≡ get_or bytes 6 0 * 256 + get_or bytes 7 0
    → get_or bytes 0 0 ∷ get_or bytes 1 0 ∷ get_or bytes 2 0 ∷ get_or bytes 3 0 ∷ get_or bytes 4 0
    ∷ 0 ∷ number / 256 % 256 ∷ number % 256 ∷ drop 8 bytes ≡ bytes
spelled_again bytes number len fits blank numbers =
    let all = eight_and_rest bytes (omega arith) in
    let high : number / 256 % 256 ≡ get_or bytes 6 0 = omega (arith, fits 6, fits 7) in
    let low : number % 256 ≡ get_or bytes 7 0 = omega (arith, fits 7) in
    cc
