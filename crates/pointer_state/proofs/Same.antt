-- Pointers at ports are told apart by what each of them is.
use Rattle.std.proofs.Common.{◌≡◌, ℕ, ◌∙◌, sym}
use Rattle.std.proofs.lemmas.List.{ext_get_or}
use Rattle.pointer_state.specs.Places.{Places, grant_of, accept_of, shared_of, AreAtPorts}
use Rattle.pointer_state.proofs.Tables.{IsTable-same}

-- the two are at the same places
pub record AreAlike (a b : Places) : Type 0 where
  pub ports : a.ports ≡ b.ports
  pub grant : (j level : ℕ) → grant_of a j level ≡ grant_of b j level
  pub accept : (i level : ℕ) → accept_of a i level ≡ accept_of b i level
  pub shared : (level : ℕ) → shared_of a level ≡ shared_of b level

pub Places-same : (a b : Places) → AreAtPorts a → AreAtPorts b → AreAlike a b → a ≡ b
Places-same a b x y alike =
    let grants = IsTable-same a.grant b.grant x.grant_table y.grant_table (λ level j. alike.grant j level) in
    let accepts = IsTable-same a.accept b.accept x.accept_table y.accept_table (λ level i. alike.accept i level) in
    let shares = ext_get_or 0 a.shared b.shared (x.shared_levels ∙ sym y.shared_levels) (λ level below. alike.shared level) in
    λ t. record { ports = alike.ports t; grant = grants t; accept = accepts t; shared = shares t }
