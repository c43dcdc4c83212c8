-- n * n slots are enough for a request, and no wait reaches as many.
use Rattle.std.proofs.Common.{ℕ, ◌*◌, ◌<◌, ◌≤◌, List, length, map, All, Any, arith}
use Rattle.std.proofs.Math.Nat.{mul-le-mul_left}
use Rattle.rotating_pick.specs.declared.kinds.Kind.TheVariants.{Uni}
use Rattle.slot_match.specs.Rows.{Names, row_of}
use Rattle.slot_match.specs.Matches.{Serves}
use Rattle.pointer_state.specs.Places.{Places}
use Rattle.eslip_rounds.specs.Schedules.{DecidedSlot}
use Rattle.service_bound.specs.Windows.{IsWithoutMulticast, IsQuietFor, InFirst, IsKeptScheduleBy, IsWindowBy}
use Rattle.service_bound.specs.Waits.{noted_of, longest_wait}
use Rattle.service_bound.proofs.InWindows.{pointing_by}
use Rattle.service_bound.proofs.LaterRounds.{first_of, BeginsWith-slot}
use Rattle.service_bound.proofs.AllBelow.{longest_wait-below}
use Rattle.service_bound.proofs.Falling.{IsBound, any_follow, bound_by, quiet_in, quiet_rows}
use Rattle.firm_rounds.specs.Slots.{AreMovedByFirm}
use Rattle.firm_rounds.proofs.PointersKept.{firm_keep}
use Rattle.firm_rounds.proofs.RequestRank.{RanksBelow, RanksBelow-all, rank_falls}

square_some : (n : ℕ) → 0 < n → 0 < n * n
square_some n some = let scaled : n * 1 ≤ n * n = mul-le-mul_left n some in omega (arith, scaled)

-- n * n slots are enough for a request, and no wait reaches as many
firm_bound : (n rounds level i j : ℕ) → 0 < rounds → i < n → IsBound (quiet_rows n level j) AreMovedByFirm n rounds level i j (n * n)
firm_bound n rounds level i j some i_in =
    bound_by (quiet_rows n level j) AreMovedByFirm n rounds level i j (n * n) (record {
      AsksWithin = RanksBelow n level i j;
      keep = firm_keep n level;
      positive = square_some n (omega arith);
      begins = λ t places slot now quiet named. RanksBelow-all n level i j places slot.rows now.pointing (now.within.ports i i_in level j Uni named) named;
      some = λ places most rows pointing within ranks. let far = ranks.far in omega (arith, far);
      falls = λ t places slot most now quiet left ranks later follow on.
          rank_falls n t level slot.rows (first_of n now.decided.steps) slot.decision.matched places slot.decision.places
          (now.within.levels i i_in level j Uni ranks.named)
          (BeginsWith-slot n t slot.rows places AreMovedByFirm rounds slot.decision some now.decided) now.decided.moved now.pointing
          (pointing_by AreMovedByFirm n rounds t level places slot (firm_keep n level) now.pointing now.within now.decided)
          i j most i_in (now.within.ports i i_in level j Uni ranks.named) quiet ranks left later (on i i_in ranks.named left);
    })

-- in slots in which the output is asked as unicast of the level alone
pub firm_quiet_served_in_time : (n rounds t level i j : ℕ) (places : Places) (slots : List DecidedSlot) → 0 < rounds → i < n
    → IsKeptScheduleBy AreMovedByFirm n rounds t level places slots → All (λ slot. IsQuietFor n level j slot.rows) slots
    → InFirst (λ rows. Names (row_of rows i) level Uni j) slots
    → n * n ≤ length slots → Any (λ slot. Serves slot.decision.matched i j level Uni) slots
firm_quiet_served_in_time n rounds t level i j places slots some i_in schedule quiet =
    (firm_bound n rounds level i j some i_in).served t places slots (record { schedule = schedule; held = quiet; follow = any_follow slots })

pub firm_served_in_time : (n rounds t level i j : ℕ) (places : Places) (slots : List DecidedSlot) → 0 < rounds → i < n
    → IsWindowBy AreMovedByFirm n rounds t level places slots → All (λ slot. IsWithoutMulticast n level slot.rows) slots
    → InFirst (λ rows. Names (row_of rows i) level Uni j) slots
    → n * n ≤ length slots → Any (λ slot. Serves slot.decision.matched i j level Uni) slots
firm_served_in_time n rounds t level i j places slots some i_in window alone =
    (firm_bound n rounds level i j some i_in).served t places slots
    (quiet_in AreMovedByFirm n rounds t level places slots (record { window = window; alone = alone }) j)

pub firm_longest_wait : (n rounds t level : ℕ) (places : Places) (slots : List DecidedSlot) → 0 < n → 0 < rounds
    → IsWindowBy AreMovedByFirm n rounds t level places slots → All (λ slot. IsWithoutMulticast n level slot.rows) slots
    → longest_wait n level (map noted_of slots) < n * n
firm_longest_wait n rounds t level places slots ports some window alone =
    longest_wait-below n level (n * n) (map noted_of slots) (square_some n ports) (λ i j i_in j_in.
    (firm_bound n rounds level i j some i_in).waits t places slots
    (quiet_in AreMovedByFirm n rounds t level places slots (record { window = window; alone = alone }) j))
