-- What single steps of the calls answer.
use Rattle.std.specs.Prelude.{◌≡◌, ℕ, ◌<◌, ◌↔◌, ◌⊎◌, List, Option, None, Some}
use Rattle.rotating_pick.specs.PortSets.{Has}
use Rattle.rotating_pick.specs.declared.kinds.Kind.{Kind}
use Rattle.rotating_pick.specs.declared.kinds.Kind.TheVariants.{Uni, Multi}
use Rattle.slot_match.specs.declared.rows.Row.{Row}
use Rattle.slot_match.specs.declared.matching.Fed.{Fed}
use Rattle.slot_match.specs.declared.matching.Served.{Served}
use Rattle.slot_match.specs.Rows.{Names}
use Rattle.slot_match.specs.Matches.{Serves, IsFreeInput, IsMulticasting}

-- the input may be matched with these outputs, if they are free, at the level with the kind
abbrev pub IsReady : List (Option Fed) → ℕ → ℕ → ℕ → Kind → Type 0
IsReady matched input outputs level kind =
    (kind ≡ Uni → (j k : ℕ) → Has outputs j → Has outputs k → j ≡ k) × (IsFreeInput matched input ⊎ ((kind ≡ Multi) × IsMulticasting matched input level))

-- an input with this row could take output j: it is free and names it, or goes on for the rest of its head
abbrev pub Wants : List (Option Fed) → ℕ → Row → ℕ → Type 0
Wants matched input row j =
    (IsFreeInput matched input × ((level : ℕ) × (kind : Kind) × Names row level kind j))
    ⊎ ((level : ℕ) × IsMulticasting matched input level × Names row level Multi j)

-- the outputs of a part, none where there is no part
abbrev pub outputs_in : Option Served → ℕ
outputs_in None = 0
outputs_in (Some part) = part.outputs

-- input i's part among the first k outputs
pub record IsPartBelow (matched : List (Option Fed)) (k i : ℕ) (part : Served) : Type 0 where
  pub some : (j : ℕ) × Has part.outputs j
  pub outputs : (j : ℕ) → Has part.outputs j ↔ ((j < k) × Serves matched i j part.level part.kind)
  pub only : (j level : ℕ) (kind : Kind) → j < k → Serves matched i j level kind → (level ≡ part.level) × (kind ≡ part.kind)

-- what stands for input i after the first k outputs
abbrev pub StandsBelow : List (Option Fed) → ℕ → ℕ → Option Served → Type 0
StandsBelow matched k i None = (j level : ℕ) (kind : Kind) → j < k → Serves matched i j level kind → ⊥
StandsBelow matched k i (Some part) = IsPartBelow matched k i part
