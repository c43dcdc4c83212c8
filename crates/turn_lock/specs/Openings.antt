-- What a turn lock was made with.
use Rattle.std.specs.Prelude.{ℕ, List}
use Rattle.turn_lock.specs.declared.history.Opening.{Opening}

-- the entries and the fixed numbers of the first value, and how many seats there are
abbrev pub opening : {V E : Type 0} → (V → List E) → (V → List ℕ) → V → ℕ → Opening E
opening entries numbers value seats = record { first = entries value; numbers = numbers value; seats = seats }
