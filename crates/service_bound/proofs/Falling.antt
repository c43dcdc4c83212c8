-- A rank that falls in each slot in which a request is left: as many slots as its bound are enough, and no wait reaches the bound.
use Rattle.std.proofs.Common.{◌≡◌, ℕ, zero, suc, ◌+◌, ◌<◌, ◌≤◌, ◌⊎◌, List, [], ◌∷◌, length, map, slice_index_or, All, Any, refl, subst, inl, inr, arith}
use Rattle.std.proofs.lemmas.List.Elements.{All-nil, All-cons, All-head, All-tail}
use Rattle.std_lemmas.proofs.Lists.{Any-here, Any-later}
use Rattle.rotating_pick.specs.declared.kinds.Kind.TheVariants.{Uni}
use Rattle.slot_match.specs.declared.rows.Row.{Row}
use Rattle.slot_match.specs.Rows.{Names, row_of, AreWithin}
use Rattle.slot_match.specs.Matches.{Serves}
use Rattle.slot_match.specs.Keeping.{Keeps}
use Rattle.slot_match.proofs.Pairs.{Serves-decides}
use Rattle.pointer_state.specs.Places.{Places, ArePointing}
use Rattle.eslip_rounds.specs.Slots.{Moving}
use Rattle.eslip_rounds.specs.Schedules.{DecidedSlot}
use Rattle.service_bound.specs.Windows.{IsClean, IsWithoutMulticast, IsQuietFor, GainAtMostOne, AreAtLineRate, InFirst, AreFollowing}
use Rattle.service_bound.specs.Windows.{IsKeptScheduleBy, IsWindowBy}
use Rattle.service_bound.specs.Waits.{noted_of, wait_in, waits_from}
use Rattle.service_bound.proofs.InWindows.{AskOn, KeepPointing, IsKeptSlotBy, IsKept-window, first_kept_by, later_kept_by}
use Rattle.service_bound.proofs.Granting.{IsQuietFor-clean}
use Rattle.service_bound.proofs.Waiting.{wait_in-or}

-- Which rows are posted in slots one after the other: what holds of those of each slot, and how those of the next follow
-- them. Rows may be posted again.
pub record Traffic : Type 1 where
  pub Held : List Row → Type 0
  pub Follows : List Row → List Row → Type 0
  pub again : (rows : List Row) → Follows rows rows

-- the slots of a schedule of rows that are kept, which are posted so
pub record IsPostedSo (traffic : Traffic) (Moves : Moving) (n rounds t level : ℕ) (places : Places) (slots : List DecidedSlot) : Type 0 where
  pub schedule : IsKeptScheduleBy Moves n rounds t level places slots
  pub held : All (λ slot. traffic.Held slot.rows) slots
  pub follow : AreFollowing traffic.Follows slots

-- The request of input i for output j has a rank below `bound`, where AsksWithin says of pointers and of the rows posted
-- next that the input asks and the rank is below a number. The rank falls in each slot that leaves the request.
pub record FallingRank (traffic : Traffic) (Moves : Moving) (n rounds level i j bound : ℕ) : Type 1 where
  pub AsksWithin : Places → ℕ → List Row → Type 0
  pub keep : KeepPointing Moves n level
  pub positive : 0 < bound
  pub begins : (t : ℕ) (places : Places) (slot : DecidedSlot) → IsKeptSlotBy Moves n rounds t level places slot → traffic.Held slot.rows
      → Names (row_of slot.rows i) level Uni j → AsksWithin places bound slot.rows
  pub some : (places : Places) (most : ℕ) (rows : List Row) → ArePointing n level places → AreWithin n rows → AsksWithin places most rows → 0 < most
  pub falls : (t : ℕ) (places : Places) (slot : DecidedSlot) (most : ℕ) → IsKeptSlotBy Moves n rounds t level places slot → traffic.Held slot.rows
      → (Serves slot.decision.matched i j level Uni → ⊥) → AsksWithin places (most + 1) slot.rows
      → (later : List Row) → traffic.Follows slot.rows later → AskOn n level slot.decision.matched slot.rows later j
      → AsksWithin slot.decision.places most later

-- In slots that are posted so, as many as the bound are enough for the request, and no wait of its queue reaches the bound.
pub record IsBound (traffic : Traffic) (Moves : Moving) (n rounds level i j bound : ℕ) : Type 0 where
  pub served : (t : ℕ) (places : Places) (slots : List DecidedSlot) → IsPostedSo traffic Moves n rounds t level places slots
      → InFirst (λ rows. Names (row_of rows i) level Uni j) slots → bound ≤ length slots
      → Any (λ slot. Serves slot.decision.matched i j level Uni) slots
  pub waits : (t : ℕ) (places : Places) (slots : List DecidedSlot) → IsPostedSo traffic Moves n rounds t level places slots
      → All (λ w. w < bound) (waits_from 0 (map noted_of slots) i j level)

module _ (traffic : Traffic) (Moves : Moving) (n rounds level i j bound : ℕ) (rank : FallingRank traffic Moves n rounds level i j bound) where
  -- the slots after the first are posted so
  next_so : (t : ℕ) (places : Places) (slot : DecidedSlot) (slots : List DecidedSlot) → IsPostedSo traffic Moves n rounds t level places (slot ∷ slots)
      → IsPostedSo traffic Moves n rounds (t + 1) level slot.decision.places slots
  next_so t places slot slots so =
      record {
        schedule = later_kept_by Moves n rounds t level places slot slots so.schedule rank.keep;
        held = All-tail (λ s. traffic.Held s.rows) slot slots so.held;
        follow = so.follow.1;
      }

  module _ (t : ℕ) (places : Places) (slot : DecidedSlot) (slots : List DecidedSlot)
      (so : IsPostedSo traffic Moves n rounds t level places (slot ∷ slots)) where
    now : IsKeptSlotBy Moves n rounds t level places slot
    now = first_kept_by Moves n rounds t level places slot slots so.schedule

    held : traffic.Held slot.rows
    held = All-head (λ s. traffic.Held s.rows) slot slots so.held

    module _ (left : Serves slot.decision.matched i j level Uni → ⊥) where
      -- after a slot that leaves the request the rank is below a lower number
      some_left : (most : ℕ) → rank.AsksWithin places (most + 1) slot.rows → 0 < most
      some_left most asks =
          rank.some slot.decision.places most slot.rows (next_so t places slot slots so).schedule.pointing now.within
          (rank.falls t places slot most now held left asks slot.rows (traffic.again slot.rows) (λ x x_in named unserved. named))

      -- and the next slot's rows keep the request
      in_next : (most : ℕ) → rank.AsksWithin places (most + 1) slot.rows → InFirst (rank.AsksWithin slot.decision.places most) slots
      in_next most asks = go slots so.follow.0 so.schedule.kept.0 where
        go : (rest : List DecidedSlot) → InFirst (traffic.Follows slot.rows) rest
            → InFirst (λ rows. (x : ℕ) → x < n → Keeps slot.decision.matched x (row_of slot.rows x) (row_of rows x)) rest
            → InFirst (rank.AsksWithin slot.decision.places most) rest
        go [] follow kept = kept
        go (later ∷ rest) follow kept =
            rank.falls t places slot most now held left asks later.rows follow (λ x x_in named unserved. (kept x x_in).uni level j named unserved)

  served_by_then : (slots : List DecidedSlot) (t : ℕ) (places : Places) (most : ℕ) → IsPostedSo traffic Moves n rounds t level places slots
      → InFirst (rank.AsksWithin places most) slots → 0 < most → most ≤ length slots → Any (λ slot. Serves slot.decision.matched i j level Uni) slots
  served_by_then [] t places most so asks more short = absurd (omega arith)
  served_by_then (slot ∷ slots) t places zero so asks more short = absurd (omega arith)
  served_by_then (slot ∷ slots) t places (suc most) so asks more short =
      let Served : DecidedSlot → Type 0 = λ s. Serves s.decision.matched i j level Uni in
      let e : suc most ≡ most + 1 = omega arith in
      let here : rank.AsksWithin places (most + 1) slot.rows = subst (λ m. rank.AsksWithin places m slot.rows) e asks in
      elim (Serves-decides slot.decision.matched i j level Uni) [
        | inl served ↦ Any-here Served slot slots served
        | inr left ↦ Any-later Served slot slots
            (served_by_then slots (t + 1) slot.decision.places most (next_so t places slot slots so) (in_next t places slot slots so left most here)
            (some_left t places slot slots so left most here) (omega arith))
      ]

  -- as many slots as the bound are enough
  served_over : (t : ℕ) (places : Places) (slots : List DecidedSlot) → IsPostedSo traffic Moves n rounds t level places slots
      → InFirst (λ rows. Names (row_of rows i) level Uni j) slots → bound ≤ length slots
      → Any (λ slot. Serves slot.decision.matched i j level Uni) slots
  served_over t places [] so named long = let positive = rank.positive in absurd (omega arith)
  served_over t places (slot ∷ slots) so named long =
      served_by_then (slot ∷ slots) t places bound so
      (rank.begins t places slot (now t places slot slots so) (held t places slot slots so) named) rank.positive long

  -- before these slots the rank leaves room for the wait
  record HasRoom (places : Places) (slots : List DecidedSlot) (wait : ℕ) : Type 0 where
    most : ℕ
    more : 0 < most
    room : most + wait ≤ bound
    asks : InFirst (rank.AsksWithin places most) slots

  -- the queue does not wait, or there is room for its wait
  abbrev IsRoomy : Places → List DecidedSlot → ℕ → Type 0
  IsRoomy places slots wait = (wait ≡ 0) ⊎ HasRoom places slots wait

  fits : (places : Places) (slots : List DecidedSlot) (wait : ℕ) → IsRoomy places slots wait → wait < bound
  fits places slots wait roomy = let positive = rank.positive in elim roomy [ inl none ↦ omega arith | inr has ↦ omega (arith, has.room, has.more) ]

  module _ (t : ℕ) (places : Places) (slot : DecidedSlot) (slots : List DecidedSlot)
      (so : IsPostedSo traffic Moves n rounds t level places (slot ∷ slots)) where
    -- a slot in which the queue waits takes no more room than the rank falls
    room_after : (wait most : ℕ) → (Serves slot.decision.matched i j level Uni → ⊥) → 0 < most → most + wait ≤ bound
        → rank.AsksWithin places most slot.rows → HasRoom slot.decision.places slots (wait + 1)
    room_after wait zero left more room asks = absurd (omega arith)
    room_after wait (suc most) left more room asks =
        let e : suc most ≡ most + 1 = omega arith in
        let here : rank.AsksWithin places (most + 1) slot.rows = subst (λ m. rank.AsksWithin places m slot.rows) e asks in
        record {
          most = most;
          more = some_left t places slot slots so left most here;
          room = omega arith;
          asks = in_next t places slot slots so left most here;
        }

    -- a queue that begins to wait has room by itself
    roomy_after : (wait : ℕ) → IsRoomy places (slot ∷ slots) wait → IsRoomy slot.decision.places slots (wait_in (noted_of slot) wait i j level)
    roomy_after wait roomy =
        elim (wait_in-or (noted_of slot) wait i j level) [
          | inr none ↦ inl none
          | inl waits ↦
              rw waits.2 (inr (elim roomy [
                | inl none ↦ room_after wait bound waits.1 rank.positive (omega arith)
                    (rank.begins t places slot (now t places slot slots so) (held t places slot slots so) waits.0)
                | inr has ↦ room_after wait has.most waits.1 has.more has.room has.asks
              ]))
        ]

  waits_fit : (slots : List DecidedSlot) (t : ℕ) (places : Places) (wait : ℕ) → IsPostedSo traffic Moves n rounds t level places slots
      → IsRoomy places slots wait → All (λ w. w < bound) (waits_from wait (map noted_of slots) i j level)
  waits_fit [] t places wait so roomy = All-nil (λ w. w < bound)
  waits_fit (slot ∷ slots) t places wait so roomy =
      let next = wait_in (noted_of slot) wait i j level in
      let on = roomy_after t places slot slots so wait roomy in
      All-cons (λ w. w < bound) next (waits_from next (map noted_of slots) i j level) (fits slot.decision.places slots next on)
      (waits_fit slots (t + 1) slot.decision.places next (next_so t places slot slots so) on)

  pub bound_by : IsBound traffic Moves n rounds level i j bound
  bound_by = record { served = served_over; waits = λ t places slots so. waits_fit slots t places 0 so (inl refl) }

-- any rows may come next
any_first : (old : List Row) (slots : List DecidedSlot) → InFirst (λ rows. Unit {0}) slots
any_first old [] = tt
any_first old (slot ∷ slots) = tt

pub any_follow : (slots : List DecidedSlot) → AreFollowing (λ old new. Unit {0}) slots
any_follow [] = tt
any_follow (slot ∷ slots) = (any_first slot.rows slots, any_follow slots)

-- rows of which output j is asked as unicast of the level alone
abbrev pub quiet_rows : ℕ → ℕ → ℕ → Traffic
quiet_rows n level j = record { Held = IsQuietFor n level j; Follows = λ old new. Unit {0}; again = λ rows. tt }

-- rows of a window without multicast at the level
abbrev pub IsUnicast : ℕ → ℕ → List Row → Type 0
IsUnicast n level rows = IsClean n level rows × IsWithoutMulticast n level rows

-- a window without multicast
pub record IsUnicastWindow (Moves : Moving) (n rounds t level : ℕ) (places : Places) (slots : List DecidedSlot) : Type 0 where
  pub window : IsWindowBy Moves n rounds t level places slots
  pub alone : All (λ slot. IsWithoutMulticast n level slot.rows) slots

-- in it each output is asked so
pub quiet_in : (Moves : Moving) (n rounds t level : ℕ) (places : Places) (slots : List DecidedSlot) → IsUnicastWindow Moves n rounds t level places slots
    → (j : ℕ) → IsPostedSo (quiet_rows n level j) Moves n rounds t level places slots
quiet_in Moves n rounds t level places slots is j =
    record {
      schedule = IsKept-window Moves n rounds t level places slots is.window;
      held = λ k d short. IsQuietFor-clean n level j (slice_index_or slots k d).rows (is.window.clean k d short) (is.alone k d short);
      follow = any_follow slots;
    }

-- its rows, where any may come next
abbrev pub unicast_rows : ℕ → ℕ → Traffic
unicast_rows n level = record { Held = IsUnicast n level; Follows = λ old new. Unit {0}; again = λ rows. tt }

pub unicast_in : (Moves : Moving) (n rounds t level : ℕ) (places : Places) (slots : List DecidedSlot) → IsUnicastWindow Moves n rounds t level places slots
    → IsPostedSo (unicast_rows n level) Moves n rounds t level places slots
unicast_in Moves n rounds t level places slots is =
    record {
      schedule = IsKept-window Moves n rounds t level places slots is.window;
      held = λ k d short. (is.window.clean k d short, is.alone k d short);
      follow = any_follow slots;
    }

-- and where they come at line rate; rows that are posted again gain nothing
abbrev pub line_rate_rows : ℕ → ℕ → Traffic
line_rate_rows n level = record {
  Held = IsUnicast n level;
  Follows = GainAtMostOne n level;
  again = λ rows x x_in j k names also none also_none. absurd (none names);
}

pub line_rate_in : (Moves : Moving) (n rounds t level : ℕ) (places : Places) (slots : List DecidedSlot) → IsUnicastWindow Moves n rounds t level places slots
    → AreAtLineRate n level slots → IsPostedSo (line_rate_rows n level) Moves n rounds t level places slots
line_rate_in Moves n rounds t level places slots is gains =
    record {
      schedule = IsKept-window Moves n rounds t level places slots is.window;
      held = λ k d short. (is.window.clean k d short, is.alone k d short);
      follow = gains;
    }
