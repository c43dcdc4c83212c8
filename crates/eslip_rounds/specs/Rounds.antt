-- One round of a slot: request, grant, accept.
use Rattle.std.specs.Prelude.{◌≡◌, ℕ, ◌%◌, ◌<◌, ◌≤◌, ◌↔◌, ◌⊎◌, ◌==◌, if◌then◌else◌, List, [], ◌∷◌, Option, length}
use Rattle.rotating_pick.specs.Rotation.{IsFirstFrom}
use Rattle.rotating_pick.specs.declared.kinds.Kind.{Kind}
use Rattle.rotating_pick.specs.declared.kinds.Kind.TheVariants.{Uni, Multi}
use Rattle.rotating_pick.specs.declared.limits.TheConstants.{LEVELS}
use Rattle.slot_match.specs.declared.rows.Row.{Row}
use Rattle.slot_match.specs.declared.matching.Fed.{Fed}
use Rattle.slot_match.specs.Rows.{Names, row_of}
use Rattle.slot_match.specs.Matches.{Serves, IsFreeOutput, IsFreeInput, IsMulticasting}
use Rattle.pointer_state.specs.Places.{Places, grant_of, accept_of, shared_of}

-- the kind that slot t prefers: unicast in even slots, multicast in odd ones
abbrev pub preferred : ℕ → Kind
preferred t = if t % 2 == 0 then Uni else Multi

-- The row asks output j at the level with the kind: it is the best level at which the row names j.
pub record Asks (row : Row) (j level : ℕ) (kind : Kind) : Type 0 where
  pub level_in : level < LEVELS
  pub named : Names row level kind j
  pub best : (better : ℕ) (other : Kind) → better < level → Names row better other j → ⊥

-- An input that was matched in part as multicast of the level goes on asking for the rest of its head.
pub record GoesOn (rows : List Row) (before : List (Option Fed)) (i j level : ℕ) (kind : Kind) : Type 0 where
  pub level_in : level < LEVELS
  pub going_on : IsMulticasting before i level
  pub multicast : kind ≡ Multi
  pub named : Names (row_of rows i) level Multi j

-- Request. In a round that starts from the match `before`, input i asks output j.
abbrev pub Requests : List Row → List (Option Fed) → ℕ → ℕ → ℕ → Kind → Type 0
Requests rows before i j level kind = (IsFreeInput before i × Asks (row_of rows i) j level kind) ⊎ GoesOn rows before i j level kind

-- Of the levels and kinds with P this is the best level, and at it the slot's preferred kind if that is there.
pub record IsBest (t : ℕ) (P : ℕ → Kind → Type 0) (level : ℕ) (kind : Kind) : Type 0 where
  pub there : P level kind
  pub least : (other : ℕ) (also : Kind) → P other also → level ≤ other
  pub preferred_first : P level (preferred t) → kind ≡ preferred t

-- from where output j picks: its own grant pointer for unicast, the shared pointer for multicast
abbrev pub from_of : Places → ℕ → ℕ → Kind → ℕ
from_of places j level Uni = grant_of places j level
from_of places j level Multi = shared_of places level

-- Grant. Output j, which is free, takes the best of what it is asked, and of the inputs that ask it so
-- the one that comes first from its pointer on.
pub record IsGranted (n t : ℕ) (places : Places) (IsFree : ℕ → Type 0) (Asked : ℕ → ℕ → ℕ → Kind → Type 0) (i j level : ℕ) (kind : Kind) : Type 0 where
  pub output_in : j < n
  pub output_free : IsFree j
  pub best : IsBest t (λ m k. (x : ℕ) × (x < n) × Asked x j m k) level kind
  pub first : IsFirstFrom n (from_of places j level kind) (λ x. Asked x j level kind) i

-- of the outputs that grant it, a unicast input takes the first from its pointer on, a multicast input all
abbrev pub Takes : Kind → ℕ → ℕ → (ℕ → Type 0) → ℕ → Type 0
Takes Uni n from Offers j = IsFirstFrom n from Offers j
Takes Multi n from Offers j = Offers j

-- Accept. Input i takes the best of what it is granted, and of that one output or all.
pub record IsAccepted (n t : ℕ) (places : Places) (Granted : ℕ → ℕ → ℕ → Kind → Type 0) (i j level : ℕ) (kind : Kind) : Type 0 where
  pub best : IsBest t (λ m k. (y : ℕ) × Granted i y m k) level kind
  pub taken : Takes kind n (accept_of places i level) (λ y. Granted i y level kind) j

-- in a round that starts from the match `before`, output j grants input i
abbrev pub Grants : ℕ → ℕ → List Row → Places → List (Option Fed) → ℕ → ℕ → ℕ → Kind → Type 0
Grants n t rows places before = IsGranted n t places (IsFreeOutput before) (Requests rows before)

-- in a round that starts from the match `before`, input i accepts output j
abbrev pub Accepts : ℕ → ℕ → List Row → Places → List (Option Fed) → ℕ → ℕ → ℕ → Kind → Type 0
Accepts n t rows places before = IsAccepted n t places (Grants n t rows places before)

-- the round adds the accepted pairs to the match
pub record IsRound (n t : ℕ) (rows : List Row) (places : Places) (before after : List (Option Fed)) : Type 0 where
  pub count : length after ≡ n
  pub pairs : (i j level : ℕ) (kind : Kind) → Serves after i j level kind ↔ (Serves before i j level kind ⊎ Accepts n t rows places before i j level kind)

-- these are the matches after each round, from the match before them
abbrev pub AreRounds : ℕ → ℕ → List Row → Places → List (Option Fed) → List (List (Option Fed)) → Type 0
AreRounds n t rows places before [] = Unit {0}
AreRounds n t rows places before (after ∷ rest) = IsRound n t rows places before after × AreRounds n t rows places after rest

-- the kind that is not this one
abbrev pub other_kind : Kind → Kind
other_kind Uni = Multi
other_kind Multi = Uni
