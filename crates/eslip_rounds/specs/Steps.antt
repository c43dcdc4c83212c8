-- What the steps of a slot keep and answer: columns of asks, choices, offers and takings.
use Rattle.std.specs.Prelude.{◌≡◌, ◌≢◌, ℕ, ◌+◌, ◌%◌, ◌<◌, ◌≤◌, ◌↔◌, ◌⊎◌, List, [], Option, Some, length, slice_index, slice_index_or}
use Rattle.rotating_pick.specs.PortSets.{Has}
use Rattle.rotating_pick.specs.Rotation.{IsFirstFrom}
use Rattle.rotating_pick.specs.declared.kinds.Kind.{Kind}
use Rattle.rotating_pick.specs.declared.kinds.Kind.TheVariants.{Uni, Multi}
use Rattle.slot_match.specs.declared.rows.Row.{Row}
use Rattle.slot_match.specs.declared.matching.Fed.{Fed}
use Rattle.slot_match.specs.Rows.{Names, row_of, HasHead}
use Rattle.slot_match.specs.Matches.{unmatched, Serves, IsFreeInput, IsFreeOutput, IsMulticasting, Completes}
use Rattle.pointer_state.specs.Places.{Places, grant_of, accept_of, shared_of}
use Rattle.eslip_rounds.specs.declared.asks.Asks.{Asks}
use Rattle.eslip_rounds.specs.declared.ranks.TheConstants.{RANKS, SETS}
use Rattle.eslip_rounds.specs.declared.grants.Choice.{Choice}
use Rattle.islip_rounds.specs.Numbers.{last_of, slot_numbers}
use Rattle.eslip_rounds.specs.declared.grants.Offers.{Offers}
use Rattle.eslip_rounds.specs.declared.grants.Ready.{Ready}
use Rattle.eslip_rounds.specs.declared.refusals.Refused.{Refused}
use Rattle.eslip_rounds.specs.declared.rounds.Made.{Made}
use Rattle.eslip_rounds.specs.RankSteps.{level_at, kind_at, set_at}
use Rattle.eslip_rounds.specs.Rounds.{from_of, Takes, AreRounds}
use Rattle.eslip_rounds.specs.Refusals.{Tells}

-- the column of output j in the set
abbrev pub column_of : List (List ℕ) → ℕ → ℕ → ℕ
column_of columns set j = slice_index (slice_index_or columns set []) j

-- in the set some row names an output
abbrev pub IsUsed : Asks → ℕ → Type 0
IsUsed asks set = slice_index asks.outputs set ≢ 0

-- for each set the outputs that some row names there, and where there is one, for each output the inputs whose rows do
pub record AreAsks (n : ℕ) (rows : List Row) (asks : Asks) : Type 0 where
  pub columns : (set i j : ℕ) → set < SETS → IsUsed asks set → j < n → Has (column_of asks.columns set j) i
      ↔ ((i < n) × Names (row_of rows i) (level_at set) (kind_at Uni set) j)
  pub outputs : (set i j : ℕ) → set < SETS → i < n → Names (row_of rows i) (level_at set) (kind_at Uni set) j → Has (slice_index asks.outputs set) j
  pub outputs_in : (set j : ℕ) → set < SETS → Has (slice_index asks.outputs set) j → j < n

-- some row names output j, in whatever set
abbrev pub IsNamed : Asks → ℕ → Type 0
IsNamed asks j = (set : ℕ) × (set < SETS) × Has (slice_index asks.outputs set) j

-- a column that is read names inputs only where its output is named
abbrev pub AreNamed : ℕ → Asks → Type 0
AreNamed n asks = (set i j : ℕ) → set < SETS → IsUsed asks set → j < n → Has (column_of asks.columns set j) i → Has (slice_index asks.outputs set) j

-- the input may ask at the level with the kind: it is free, or goes on there
abbrev pub MayAsk : List (Option Fed) → ℕ → Kind → ℕ → Type 0
MayAsk before level kind i = IsFreeInput before i ⊎ ((kind ≡ Multi) × IsMulticasting before i level)

-- the ranks at which some row names an output, and for each of them the inputs that may ask there
pub record AreReady (n : ℕ) (first_kind : Kind) (asks : Asks) (before : List (Option Fed)) (ready : Ready) : Type 0 where
  pub ranks : (rank : ℕ) → Has ready.ranks rank ↔ ((rank < RANKS) × IsUsed asks (set_at first_kind rank))
  pub inputs : (rank i : ℕ) → Has ready.ranks rank → Has (slice_index ready.inputs rank) i
      ↔ ((i < n) × MayAsk before (level_at rank) (kind_at first_kind rank) i)

-- these are ranks, and inputs of a switch of n ports
pub record KeepsToPorts (n : ℕ) (ready : Ready) : Type 0 where
  pub ranks : (rank : ℕ) → Has ready.ranks rank → rank < RANKS
  pub inputs : (rank i : ℕ) → Has ready.ranks rank → Has (slice_index ready.inputs rank) i → i < n

-- input i asks output j at the rank, by the columns: those of the ranks that occur
abbrev pub AsksAt : Kind → Asks → Ready → ℕ → ℕ → ℕ → Type 0
AsksAt first_kind asks ready j rank i =
    (Has ready.ranks rank × Has (column_of asks.columns (set_at first_kind rank) j) i) × Has (slice_index ready.inputs rank) i

-- output j's choice: the lowest rank at which it is asked, and there the first input from its pointer on
pub record IsChosen (n : ℕ) (first_kind : Kind) (asks : Asks) (ready : Ready) (places : Places) (j : ℕ) (choice : Choice) : Type 0 where
  pub rank_in : choice.rank < RANKS
  pub picked : IsFirstFrom n (from_of places j (level_at choice.rank) (kind_at first_kind choice.rank)) (AsksAt first_kind asks ready j choice.rank) choice.input
  pub best : (rank i : ℕ) → rank < choice.rank → AsksAt first_kind asks ready j rank i → ⊥

-- to each input that is granted, where output j grants input i at the rank with P, the outputs that
-- grant it at its lowest rank
pub record AreOffers (P : ℕ → ℕ → ℕ → Type 0) (offers : Offers) : Type 0 where
  pub some : (i : ℕ) → Has offers.granted i → (j : ℕ) × P i j (slice_index offers.ranks i)
  pub listed : (i j : ℕ) → Has offers.granted i → Has (slice_index offers.outputs i) j ↔ P i j (slice_index offers.ranks i)
  pub least : (i j rank : ℕ) → P i j rank → Has offers.granted i × (slice_index offers.ranks i ≤ rank)

-- the offers with one more, of the output to the input at the rank
pub record IsOffered (old new : Offers) (input output rank : ℕ) : Type 0 where
  pub granted : (i : ℕ) → Has new.granted i ↔ ((i ≡ input) ⊎ Has old.granted i)
  pub others : (i : ℕ) → i ≢ input → (slice_index new.ranks i ≡ slice_index old.ranks i) × (slice_index new.outputs i ≡ slice_index old.outputs i)
  pub better : ((Has old.granted input → ⊥) ⊎ (rank < slice_index old.ranks input)) → (slice_index new.ranks input ≡ rank)
      × ((j : ℕ) → Has (slice_index new.outputs input) j ↔ (j ≡ output))
  pub equal : Has old.granted input → slice_index old.ranks input ≡ rank → (slice_index new.ranks input ≡ rank)
      × ((j : ℕ) → Has (slice_index new.outputs input) j ↔ ((j ≡ output) ⊎ Has (slice_index old.outputs input) j))
  pub worse : Has old.granted input → slice_index old.ranks input < rank → (slice_index new.ranks input ≡ slice_index old.ranks input)
      × (slice_index new.outputs input ≡ slice_index old.outputs input)

-- the match may take what input i is offered: outputs that are free, for an input that is free or goes on
pub record IsOpen (n : ℕ) (first_kind : Kind) (matched : List (Option Fed)) (offers : Offers) (i : ℕ) : Type 0 where
  pub input_in : i < n
  pub rank_in : slice_index offers.ranks i < RANKS
  pub some : (j : ℕ) × Has (slice_index offers.outputs i) j
  pub free : (j : ℕ) → Has (slice_index offers.outputs i) j → (j < n) × IsFreeOutput matched j
  pub ready : MayAsk matched (level_at (slice_index offers.ranks i)) (kind_at first_kind (slice_index offers.ranks i)) i

-- the match may take what each input is offered, and no output is offered twice
pub record AreOpen (n : ℕ) (first_kind : Kind) (matched : List (Option Fed)) (offers : Offers) : Type 0 where
  pub each : (i : ℕ) → Has offers.granted i → IsOpen n first_kind matched offers i
  pub apart : (i k j : ℕ) → Has offers.granted i → Has offers.granted k → Has (slice_index offers.outputs i) j → Has (slice_index offers.outputs k) j → i ≡ k

-- input i takes output j of what it is offered
pub record IsTaken (n : ℕ) (first_kind : Kind) (places : Places) (offers : Offers) (i j level : ℕ) (kind : Kind) : Type 0 where
  pub granted : Has offers.granted i
  pub level_is : level ≡ level_at (slice_index offers.ranks i)
  pub kind_is : kind ≡ kind_at first_kind (slice_index offers.ranks i)
  pub taken : Takes kind n (accept_of places i level) (Has (slice_index offers.outputs i)) j

-- one round by the columns: the inputs that may ask, the offers of the free outputs, and what is taken
pub record IsStep (n : ℕ) (first_kind : Kind) (asks : Asks) (places : Places) (before after : List (Option Fed)) : Type 0 where
  pub ready : Ready
  pub offers : Offers
  pub readies : AreReady n first_kind asks before ready
  pub offered : AreOffers (λ i j rank. ((j < n) × IsFreeOutput before j) × IsChosen n first_kind asks ready places j (record { rank = rank; input = i })) offers
  pub pairs : (i j level : ℕ) (kind : Kind) → Serves after i j level kind ↔ (Serves before i j level kind ⊎ IsTaken n first_kind places offers i j level kind)

-- the pointers of the pairs are moved one beyond each other, and all others stay
pub record AreMet (Pairs : ℕ → ℕ → ℕ → Type 0) (before after : Places) : Type 0 where
  pub ports : after.ports ≡ before.ports
  pub granted : (i j level : ℕ) → Pairs i j level → grant_of after j level ≡ (i + 1) % before.ports
  pub accepted : (i j level : ℕ) → Pairs i j level → accept_of after i level ≡ (j + 1) % before.ports
  pub grant_stays : (j level : ℕ) → ((i : ℕ) → Pairs i j level → ⊥) → grant_of after j level ≡ grant_of before j level
  pub accept_stays : (i level : ℕ) → ((j : ℕ) → Pairs i j level → ⊥) → accept_of after i level ≡ accept_of before i level
  pub shared : (level : ℕ) → shared_of after level ≡ shared_of before level

-- the shared pointer of the level is moved one beyond the first head from it on, if that completes
pub record IsPassed (n : ℕ) (rows : List Row) (matched : List (Option Fed)) (before after : Places) (level : ℕ) : Type 0 where
  pub passed : (i : ℕ) → IsFirstFrom n (shared_of before level) (HasHead rows level) i → Completes rows matched level i → shared_of after level ≡ (i + 1) % n
  pub stays : ((i : ℕ) → IsFirstFrom n (shared_of before level) (HasHead rows level) i → Completes rows matched level i → ⊥)
      → shared_of after level ≡ shared_of before level

-- `rounds` rounds from nothing matched made this match, and are told by their numbers and by the outputs that the
-- first of them matched
pub record AreMade (n rounds t : ℕ) (rows : List Row) (places : Places) (matched : List (Option Fed)) (made : Made) : Type 0 where
  pub steps : List (List (Option Fed))
  pub count : length steps ≡ rounds
  pub chain : AreRounds n t rows places (unmatched n) steps
  pub result : matched ≡ last_of (unmatched n) steps
  pub numbered : made.numbers ≡ slot_numbers steps
  pub firsts : (j : ℕ) → Has made.first_outputs j ↔ ((j < n) × (IsFreeOutput (slice_index_or steps 0 (unmatched n)) j → ⊥))

-- the choice is of input i, as unicast of the level
abbrev pub IsUnicastChoice : Kind → Option Choice → ℕ → ℕ → Type 0
IsUnicastChoice first_kind choice i level = (rank : ℕ) × (choice ≡ Some (record { rank = rank; input = i })) × (kind_at first_kind rank ≡ Uni)
    × (level ≡ level_at rank)

-- output j grants input i as unicast of the level
abbrev pub GrantsUnicast : ℕ → Kind → Asks → Ready → Places → ℕ → ℕ → ℕ → Type 0
GrantsUnicast n first_kind asks ready places i j level = (rank : ℕ) × IsChosen n first_kind asks ready places j (record { rank = rank; input = i })
    × (kind_at first_kind rank ≡ Uni) × (level ≡ level_at rank)

-- of these outputs each that grants unicast, where nothing is matched yet, is told with what it grants
pub record AreToldOf (n : ℕ) (first_kind : Kind) (asks : Asks) (places : Places) (Outputs : ℕ → Type 0) (refused : Refused) : Type 0 where
  pub ready : Ready
  pub readies : AreReady n first_kind asks (unmatched n) ready
  pub told : (i j level : ℕ) → Tells refused i j level ↔ (Outputs j × GrantsUnicast n first_kind asks ready places i j level)
