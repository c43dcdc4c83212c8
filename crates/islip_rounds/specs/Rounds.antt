-- One round of iSLIP for one level of unicast: request, grant, accept.
use Rattle.std.specs.Prelude.{◌≡◌, ℕ, ◌<◌, ◌↔◌, ◌⊎◌, List, [], ◌∷◌, Option, None, Some, slice_index, slice_index_or}
use Rattle.rotating_pick.specs.PortSets.{Has}
use Rattle.rotating_pick.specs.Rotation.{IsFirstFrom}
use Rattle.islip_rounds.specs.declared.unicast.UniPointers.{UniPointers}

-- the match has input i with output j; a match is the list of the inputs that feed each output
abbrev pub Feeds : List (Option ℕ) → ℕ → ℕ → Type 0
Feeds matched i j = slice_index_or matched j None ≡ Some i

-- output j is matched with no input
abbrev pub IsFreeOutput : List (Option ℕ) → ℕ → Type 0
IsFreeOutput matched j = slice_index_or matched j None ≡ None

-- input i is matched with no output
abbrev pub IsFreeInput : List (Option ℕ) → ℕ → Type 0
IsFreeInput matched i = (j : ℕ) → Feeds matched i j → ⊥

-- Request. Each free input asks every output that it has a cell for.
abbrev pub Requests : List ℕ → List (Option ℕ) → ℕ → ℕ → Type 0
Requests asks matched i j = IsFreeInput matched i × Has (slice_index asks i) j

-- Grant. Each free output takes the request that comes first from its grant pointer on.
pub record Grants (n : ℕ) (asks : List ℕ) (pointers : UniPointers) (matched : List (Option ℕ)) (i j : ℕ) : Type 0 where
  pub output_in : j < n
  pub output_free : IsFreeOutput matched j
  pub first : IsFirstFrom n (slice_index pointers.grant j) (λ x. Requests asks matched x j) i

-- Accept. Each input that was granted takes the grant that comes first from its accept pointer on.
abbrev pub Accepts : ℕ → List ℕ → UniPointers → List (Option ℕ) → ℕ → ℕ → Type 0
Accepts n asks pointers matched i j = IsFirstFrom n (slice_index pointers.accept i) (λ y. Grants n asks pointers matched i y) j

-- the round adds the accepted pairs to the match
abbrev pub IsRound : ℕ → List ℕ → UniPointers → List (Option ℕ) → List (Option ℕ) → Type 0
IsRound n asks pointers before after = (i j : ℕ) → Feeds after i j ↔ (Feeds before i j ⊎ Accepts n asks pointers before i j)

-- no free input asks a free output
abbrev pub IsMaximal : ℕ → List ℕ → List (Option ℕ) → Type 0
IsMaximal n asks matched = (i j : ℕ) → i < n → j < n → IsFreeInput matched i → IsFreeOutput matched j → Has (slice_index asks i) j → ⊥

-- these are the matches after each round, from the match before them
abbrev pub AreRounds : ℕ → List ℕ → UniPointers → List (Option ℕ) → List (List (Option ℕ)) → Type 0
AreRounds n asks pointers before [] = Unit {0}
AreRounds n asks pointers before (after ∷ rest) = IsRound n asks pointers before after × AreRounds n asks pointers after rest
