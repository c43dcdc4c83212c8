-- Which words a caller may pass for the ports, the rounds and sets of ports.
use Rattle.std.specs.Prelude.{◌≡◌, ℕ, ◌<◌, ◌≤◌, List, Option, None, Some, All, length, slice_index}
use Rattle.rotating_pick.specs.PortSets.{IsAmong}
use Rattle.rotating_pick.specs.declared.limits.TheConstants.{MAX_PORTS, MAX_ROUNDS}

-- a switch of n ports, from 1 to 64, whose slots have from 1 to 64 rounds
pub record IsSize (n rounds : ℕ) : Type 0 where
  pub some : 0 < n
  pub size : n ≤ MAX_PORTS
  pub rounds_some : 0 < rounds
  pub rounds_few : rounds ≤ MAX_ROUNDS

-- there are n ports, each below n
pub record ArePorts (n : ℕ) (ports : List ℕ) : Type 0 where
  pub count : length ports ≡ n
  pub below : All (λ port. port < n) ports

-- there are n sets, each of the n ports
pub record AreSets (n : ℕ) (sets : List ℕ) : Type 0 where
  pub count : length sets ≡ n
  pub among : All (IsAmong n) sets

-- the two tables have the same port at each of the first n places
abbrev pub AreSame : ℕ → List ℕ → List ℕ → Type 0
AreSame n words places = (k : ℕ) → k < n → slice_index words k ≡ slice_index places k

-- the word of a port, or of none
abbrev pub port_word : Option ℕ → ℕ
port_word None = 4294967295
port_word (Some port) = port
