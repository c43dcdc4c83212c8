-- The rule of the turn lock. Word 0 is the turn (0 free, 1 held), word 1 the count of turns, and the slot holds the value with its count of turns.
-- The kinds of atomic step are take and held (`Tried`), raise (`IsRaised`), free (`IsFreed`), split (`dealer_after`,
-- `dealt`) and join (`joined_with`, `spent_view`).
-- The seat that is in a turn also reads and writes the slot, which is out with it: of that the rule says nothing, and
-- the seat's own list of slots knows the value.
use Rattle.std.specs.Prelude.{◌≡◌, ◌≢◌, ◌+◌, ◌^◌, ◌<◌, ◌≤◌, ◌==◌, ◌⊎◌, ℕ, false, List, [], ◌∷◌, ◌++◌, length, drop, Option, Some}
use Rattle.std.specs.Bool.{MatchBool}
use mathlib.Core.Option.{some, none}
use lib.ListN.{get_elem?}
use Rattle.atomic_table.specs.Table.{State, Me}
use Rattle.turn_lock.specs.declared.history.TurnOf.{TurnOf}
use Rattle.turn_lock.specs.declared.history.Opening.{Opening}
use Rattle.turn_lock.specs.declared.view.View.{View}
use Rattle.turn_lock.specs.declared.view.JoinedSeat.{JoinedSeat}
use Rattle.turn_lock.specs.declared.view.Phase.TheVariants.{Idle, Begun, Raised}
use Rattle.turn_lock.specs.declared.rule.Stamped.{Stamped}
use Rattle.turn_lock.specs.Histories.{IsPrefixOf, entries_of, turns_of, IsAllowed, IsBelow}
use Rattle.turn_lock.specs.Views.{begun, found_held, raised, freed_at, numbers_of}

-- n is one of the numbers
abbrev pub IsIn : ℕ → List ℕ → Type 0
IsIn n [] = ⊥
IsIn n (x ∷ xs) = (n ≡ x) ⊎ IsIn n xs

module _ {E : Type 0} where
  -- the rule speaks of all views but spent ones
  abbrev pub Live : List (View E) → ℕ → View E → Type 0
  Live views id v = (get_elem? views id ≡ some v) × (v.spent ≡ false)

  -- what a seat of this number has seen is a prefix of the history, and has all turns of that number
  abbrev pub HasSeen : List (TurnOf E) → ℕ → List (TurnOf E) → Type 0
  HasSeen h number seen = IsPrefixOf seen h × (turns_of number h ≡ turns_of number seen)

  -- a seat with finds since its last turn has seen less than the whole history, or the history may yet grow, or it is at its last length
  abbrev pub IsOvertaken : List (TurnOf E) → Type 0 → List (TurnOf E) → ℕ → Type 0
  IsOvertaken h may_grow seen since = 0 < since → (length seen < length h) ⊎ (may_grow ⊎ (2 ^ 64 ≤ length h + 1))

  -- both of each seat that was joined
  abbrev pub JoinedHaveSeen : List (TurnOf E) → Type 0 → List (JoinedSeat E) → Type 0
  JoinedHaveSeen h may_grow [] = Unit {0}
  JoinedHaveSeen h may_grow (m ∷ ms) = HasSeen h m.number m.seen × IsOvertaken h may_grow m.seen m.since × JoinedHaveSeen h may_grow ms

  -- the views' numbers differ, and those that were given are below the next one to give, which one view at most gives
  pub record Numbered (h : List (TurnOf E)) (views : List (View E)) : Type 0 where
    pub apart : (i j : ℕ) (u v : View E) → Live views i u → Live views j v → (n : ℕ) → IsIn n (numbers_of u) → IsIn n (numbers_of v) → i ≡ j
    pub below : (i : ℕ) (u : View E) → Live views i u → 0 < u.given → IsBelow u.given h
        × ((j : ℕ) (v : View E) → Live views j v → (n : ℕ) → IsIn n (numbers_of v) → n < u.given)
    pub one_dealer : (i j : ℕ) (u v : View E) → Live views i u → Live views j v → 0 < u.given → 0 < v.given → i ≡ j

  -- what holds of one view beside the history, where `other_in_turn` says that another view is in a turn, and
  -- `not_raised` that some view is in a turn before its raise
  pub record Fits (o : Opening E) (h : List (TurnOf E)) (other_in_turn not_raised : Type 0) (v : View E) : Type 0 where
    pub opening : v.opening ≡ o
    pub seen : HasSeen h v.number v.seen
    pub joined : JoinedHaveSeen h not_raised v.joined
    pub overtaken : IsOvertaken h other_in_turn v.seen v.since

module _ {V E : Type 0} (entries : V → List E) (numbers : V → List ℕ) (may : ℕ → List E → Type 0) where
  -- the value has the count of the history's turns, and stands for its entries
  pub record Stands (o : Opening E) (h : List (TurnOf E)) (x : Stamped V) : Type 0 where
    pub turns : x.turns ≡ length h
    pub entries_are : entries x.value ≡ o.first ++ entries_of h
    pub numbers_are : numbers x.value ≡ o.numbers

  module _ (o : Opening E) (h : List (TurnOf E)) (s : State (Option (Stamped V)) (View E)) where
    -- no view is in a turn, and the value is home
    pub record IsFree : Type 0 where
      pub words : s.words ≡ 0 ∷ length h ∷ []
      pub fits : (id : ℕ) (v : View E) → Live s.views id v → Fits o h ⊥ ⊥ v
      pub idle : (id : ℕ) (v : View E) → get_elem? s.views id ≡ some v → v.phase ≡ Idle
      pub value : Stamped V
      pub home : s.homes ≡ some (Some value) ∷ []
      pub stands : Stands o h value

    -- before the raise the view knows the history, and after it has seen the whole, which no other view has
    abbrev pub IsAt : ℕ → View E → Type 0
    IsAt who v = ((v.phase ≡ Begun) × (v.before ≡ h))
        ⊎ ((v.phase ≡ Raised) × (v.seen ≡ h) × ((j : ℕ) (u : View E) → Live s.views j u → j ≢ who → length u.seen < length h) × (v.since ≡ 0) × (0 < length h))

    -- one view is in a turn, and has the slot
    pub record IsTaken : Type 0 where
      pub who : ℕ
      pub words : s.words ≡ 1 ∷ length h ∷ []
      pub there : (v : View E) × Live s.views who v
      pub fits : (id : ℕ) (v : View E) → Live s.views id v → Fits o h (id ≢ who) (there.0.phase ≡ Begun) v
      pub idle : (id : ℕ) (v : View E) → get_elem? s.views id ≡ some v → id ≢ who → v.phase ≡ Idle
      pub stage : (v : View E) → get_elem? s.views who ≡ some v → IsAt who v
      pub home : s.homes ≡ none ∷ []

  -- there is one history, of which all views have seen a prefix
  pub record Keeps (o : Opening E) (s : State (Option (Stamped V)) (View E)) : Type 0 where
    pub history : List (TurnOf E)
    pub numbered : Numbered history s.views
    pub in_range : IsBelow o.seats history
    pub allowed : IsAllowed may history
    pub turn : IsFree o history s ⊎ IsTaken o history s

  -- take: the turn was free and is this seat's, with the value; a seat that gave no other number has seen the whole history
  pub record Begins (me after : Me (Option (Stamped V)) (View E)) : Type 0 where
    pub history : List (TurnOf E)
    pub value : Stamped V
    pub after_is : after ≡ (begun me.0 history, (0, Some value) ∷ [])
    pub stands : Stands me.0.opening history value
    pub seen : HasSeen history me.0.number me.0.seen
    pub allowed : IsAllowed may history
    pub in_range : IsBelow me.0.opening.seats history
    pub alone : me.0.given ≡ 1 → history ≡ me.0.seen

  -- held: another seat was in a turn
  pub record FindsHeld (me after : Me (Option (Stamped V)) (View E)) : Type 0 where
    pub after_is : after ≡ (found_held me.0, [])
    pub not_alone : me.0.given ≢ 1

  abbrev pub Tried : Me (Option (Stamped V)) (View E) → ℕ → Me (Option (Stamped V)) (View E) → Type 0
  Tried me found after = MatchBool (found == 0) (Begins me after) (FindsHeld me after)

  -- raise: the turn's entries are those that the value has beyond the history before
  abbrev pub IsRaised : Me (Option (Stamped V)) (View E) → Me (Option (Stamped V)) (View E) → Type 0
  IsRaised me after = (x : Stamped V) × (me.1 ≡ (0, Some x) ∷ [])
      × (after ≡ (raised me.0 (drop (length (me.0.opening.first ++ entries_of me.0.before)) (entries x.value)), me.1))

  -- it may free after its raise, or without one where the count is at its last value
  abbrev pub MayFree : Me (Option (Stamped V)) (View E) → Type 0
  MayFree me = (x : Stamped V) × (me.1 ≡ (0, Some x) ∷ [])
      × (((me.0.phase ≡ Raised) × Stands me.0.opening me.0.seen x)
      ⊎ ((me.0.phase ≡ Begun) × (2 ^ 64 ≤ length me.0.before + 1) × Stands me.0.opening me.0.before x))

  -- free: the slot is back
  abbrev pub IsFreed : Me (Option (Stamped V)) (View E) → Me (Option (Stamped V)) (View E) → Type 0
  IsFreed me after = after ≡ (freed_at me.0.phase me.0, [])

  -- the end: the value stands for one history, of which the view and those that were joined into it have seen a prefix,
  -- with all of their turns, and less than the whole where they have finds since
  pub record Ended (o : Opening E) (v : View E) (value : V) : Type 0 where
    pub history : List (TurnOf E)
    pub entries_are : entries value ≡ o.first ++ entries_of history
    pub numbers_are : numbers value ≡ o.numbers
    pub allowed : IsAllowed may history
    pub in_range : IsBelow o.seats history
    pub seen : HasSeen history v.number v.seen
    pub overtaken : IsOvertaken history ⊥ v.seen v.since
    pub joined : JoinedHaveSeen history ⊥ v.joined
