-- Keeping: requests stay until they are served.
use Rattle.std.specs.Prelude.{◌≡◌, ℕ, ◌↔◌, List, Option, None, Some}
use Rattle.rotating_pick.specs.PortSets.{Has}
use Rattle.rotating_pick.specs.declared.kinds.Kind.{Kind}
use Rattle.rotating_pick.specs.declared.kinds.Kind.TheVariants.{Uni, Multi}
use Rattle.slot_match.specs.declared.rows.Row.{Row}
use Rattle.slot_match.specs.declared.matching.Fed.{Fed}
use Rattle.slot_match.specs.declared.matching.Served.{Served}
use Rattle.slot_match.specs.Rows.{Names}
use Rattle.slot_match.specs.Matches.{Serves}

-- The next row keeps the old one, of which the outputs with Given were served: it names each unicast
-- output that was not served, and where some of a head was not served, that rest is the head's fan-out.
pub record KeepsRest (Given : ℕ → ℕ → Kind → Type 0) (old new : Row) : Type 0 where
  pub uni : (level j : ℕ) → Names old level Uni j → (Given j level Uni → ⊥) → Names new level Uni j
  pub multi : (level j : ℕ) → Names old level Multi j → (Given j level Multi → ⊥) → (y : ℕ) → Names new level Multi y
      ↔ (Names old level Multi y × (Given y level Multi → ⊥))

-- the same for the sets of one level alone
pub record KeepsLevel (Given : ℕ → ℕ → Kind → Type 0) (old new : Row) (level : ℕ) : Type 0 where
  pub uni : (j : ℕ) → Names old level Uni j → (Given j level Uni → ⊥) → Names new level Uni j
  pub multi : (j : ℕ) → Names old level Multi j → (Given j level Multi → ⊥) → (y : ℕ) → Names new level Multi y
      ↔ (Names old level Multi y × (Given y level Multi → ⊥))

-- input i's next row keeps the old one, of which the match served its pairs
abbrev pub Keeps : List (Option Fed) → ℕ → Row → Row → Type 0
Keeps matched i = KeepsRest (Serves matched i)

-- the part serves output j, at the level with the kind
abbrev pub Gives : Option Served → ℕ → ℕ → Kind → Type 0
Gives None j level kind = ⊥
Gives (Some served) j level kind = Has served.outputs j × (level ≡ served.level) × (kind ≡ served.kind)
