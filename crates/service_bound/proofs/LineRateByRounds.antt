-- At line rate a request is served within the longest service for its number of ports and rounds, and no wait reaches it.
use Rattle.std.proofs.Common.{◌≡◌, ℕ, ◌-◌, ◌<◌, ◌≤◌, List, length, map, slice_index_or, All, Any, refl, sym, subst, inl, inr, arith}
use Rattle.std.proofs.lemmas.Bool.{cases_lt, cases_eq, lt-ltb, le-ltb, ne_eqb}
use Rattle.std.proofs.lemmas.Bool.Decides.{eqb_tells}
use Rattle.rotating_pick.specs.declared.kinds.Kind.TheVariants.{Uni}
use Rattle.slot_match.specs.Rows.{Names, row_of}
use Rattle.slot_match.specs.Matches.{Serves}
use Rattle.pointer_state.specs.Places.{Places}
use Rattle.eslip_rounds.specs.Slots.{AreMoved}
use Rattle.eslip_rounds.specs.Schedules.{DecidedSlot}
use Rattle.service_bound.specs.Windows.{IsKeptScheduleBy, IsWindow, IsWithoutMulticast, IsQuietFor, InFirst, AreAtLineRate}
use Rattle.service_bound.specs.Waits.{noted_of, longest_wait, longest_service, longest_service_in_one_round, longest_service_by, longest_service_at_line_rate}
use Rattle.service_bound.proofs.Granting.{IsQuietFor-clean}
use Rattle.service_bound.proofs.InWindows.{IsKept-window}
use Rattle.service_bound.proofs.Falling.{IsUnicastWindow, any_follow, line_rate_in}
use Rattle.service_bound.proofs.ServedInTime.{longest_service-bound}
use Rattle.service_bound.proofs.OneRoundServed.{one_bound}
use Rattle.service_bound.proofs.WaitsByRounds.{longest_wait-below_service}
use Rattle.service_bound.proofs.OneRoundServedAtLineRate.{one_bound-at_line_rate, one_longest_wait-at_line_rate}
use Rattle.service_bound.proofs.ServedAtLineRate.{served_at_line_rate, longest_wait-at_line_rate}
use Rattle.service_bound.proofs.TwoPorts.{two_served_in_time, two_longest_wait-bound}

-- ---- the number of slots by cases
from_three : (n rounds : ℕ) → 2 < n → longest_service_at_line_rate n rounds ≡ longest_service_by n rounds - 1
from_three n rounds more = rw (lt-ltb 2 n more) refl

of_two : (rounds : ℕ) → (rounds ≡ 1 → ⊥) → longest_service_at_line_rate 2 rounds ≡ 3
of_two rounds more = rw (ne_eqb rounds 1 more) refl

below_two : (n rounds : ℕ) → n ≤ 2 → (n ≡ 2 → ⊥) → longest_service_at_line_rate n rounds ≡ longest_service_by n rounds
below_two n rounds few other = rw (le-ltb 2 n few, ne_eqb n 2 other) refl

-- Either the number is the general one; or there are two ports and more rounds than one, and it is three; or there are
-- three ports or more, and it is one less.
by_ports_and_rounds : (P : ℕ → ℕ → ℕ → Type 0) (n rounds : ℕ)
    → P n rounds (longest_service_by n rounds) → ((rounds ≡ 1 → ⊥) → n ≡ 2 → P 2 rounds 3) → (2 < n → P n rounds (longest_service_by n rounds - 1))
    → P n rounds (longest_service_at_line_rate n rounds)
by_ports_and_rounds P n rounds general two more = elim (cases_lt 2 n) [
  | inl three ↦ subst (P n rounds) (sym (from_three n rounds three)) (more three)
  | inr few ↦ elim (cases_eq n 2) [
    | inr other ↦ subst (P n rounds) (sym (below_two n rounds few other)) general
    | inl same ↦ elim (cases_eq rounds 1) [
      | inr several ↦ subst (λ m. P m rounds (longest_service_at_line_rate m rounds)) (sym same)
          (subst (P 2 rounds) (sym (of_two rounds several)) (two several same))
      | inl one ↦
          let here : longest_service_by n rounds ≡ longest_service_at_line_rate n rounds = rw (same, one) refl in
          subst (P n rounds) here general
    ]
  ]
]

-- ---- so many slots are enough, in which the output is asked as unicast of the level alone
pub quiet_served_by_rounds : (n rounds t level i j : ℕ) (places : Places) (slots : List DecidedSlot) → 0 < rounds → i < n
    → IsKeptScheduleBy AreMoved n rounds t level places slots → All (λ slot. IsQuietFor n level j slot.rows) slots
    → InFirst (λ rows. Names (row_of rows i) level Uni j) slots → longest_service_by n rounds ≤ length slots
    → Any (λ slot. Serves slot.decision.matched i j level Uni) slots
quiet_served_by_rounds n rounds t level i j places slots some inside schedule quiet first long =
    elim (eqb_tells rounds 1) [
      | inl one ↦
          (one_bound n level i j inside).served t places slots
          (record { schedule = subst (λ r. IsKeptScheduleBy AreMoved n r t level places slots) one.1 schedule; held = quiet; follow = any_follow slots })
          first (rw one.0 at long)
      | inr more ↦ (longest_service-bound n rounds level i j some inside).served t places slots
          (record { schedule = schedule; held = quiet; follow = any_follow slots }) first (rw more.0 at long)
    ]

-- so they are in a window without multicast
pub served_by_rounds : (n rounds t level i j : ℕ) (places : Places) (slots : List DecidedSlot) → 0 < rounds → i < n → IsWindow n rounds t level places slots
    → All (λ slot. IsWithoutMulticast n level slot.rows) slots
    → InFirst (λ rows. Names (row_of rows i) level Uni j) slots → longest_service_by n rounds ≤ length slots
    → Any (λ slot. Serves slot.decision.matched i j level Uni) slots
served_by_rounds n rounds t level i j places slots some inside window alone =
    quiet_served_by_rounds n rounds t level i j places slots some inside (IsKept-window AreMoved n rounds t level places slots window)
    (λ k d short. IsQuietFor-clean n level j (slice_index_or slots k d).rows (window.clean k d short) (alone k d short))

-- from three ports on, one less
served_from_three : (n rounds t level i j : ℕ) (places : Places) (slots : List DecidedSlot) → 2 < n → 0 < rounds → i < n
    → IsWindow n rounds t level places slots → All (λ slot. IsWithoutMulticast n level slot.rows) slots → AreAtLineRate n level slots
    → InFirst (λ rows. Names (row_of rows i) level Uni j) slots → longest_service_by n rounds - 1 ≤ length slots
    → Any (λ slot. Serves slot.decision.matched i j level Uni) slots
served_from_three n rounds t level i j places slots more some inside window alone gains first long =
    elim (eqb_tells rounds 1) [
      | inl one ↦
          let enough : longest_service_in_one_round n - 1 ≤ length slots = rw one.0 at long in
          let is : IsUnicastWindow AreMoved n 1 t level places slots =
          record { window = subst (λ r. IsWindow n r t level places slots) one.1 window; alone = alone } in
          (one_bound-at_line_rate n level i j more inside).served t places slots (line_rate_in AreMoved n 1 t level places slots is gains) first
          (omega (arith, enough))
      | inr several ↦
          let enough : longest_service n - 1 ≤ length slots = rw several.0 at long in
          served_at_line_rate n rounds t level i j places slots more some inside window alone gains first (omega (arith, enough))
    ]

pub served_by_rounds_at_line_rate : (n rounds t level i j : ℕ) (places : Places) (slots : List DecidedSlot) → 0 < rounds → i < n
    → IsWindow n rounds t level places slots → All (λ slot. IsWithoutMulticast n level slot.rows) slots → AreAtLineRate n level slots
    → InFirst (λ rows. Names (row_of rows i) level Uni j) slots → longest_service_at_line_rate n rounds ≤ length slots
    → Any (λ slot. Serves slot.decision.matched i j level Uni) slots
served_by_rounds_at_line_rate n rounds t level i j places slots some inside window alone gains first =
    by_ports_and_rounds (λ n rounds count. 0 < rounds → i < n → IsWindow n rounds t level places slots
    → All (λ slot. IsWithoutMulticast n level slot.rows) slots → AreAtLineRate n level slots → count ≤ length slots
    → Any (λ slot. Serves slot.decision.matched i j level Uni) slots) n rounds
    (λ some inside window alone gains. served_by_rounds n rounds t level i j places slots some inside window alone first)
    (λ several same some inside window alone gains. two_served_in_time rounds t level i j places slots (omega (arith, some, several)) inside window alone first)
    (λ more some inside window alone gains. served_from_three n rounds t level i j places slots more some inside window alone gains first)
    some inside window alone gains

-- ---- and no wait reaches the number
below_from_three : (n rounds t level : ℕ) (places : Places) (slots : List DecidedSlot) → 2 < n → 0 < rounds → IsWindow n rounds t level places slots
    → All (λ slot. IsWithoutMulticast n level slot.rows) slots → AreAtLineRate n level slots
    → longest_wait n level (map noted_of slots) < longest_service_by n rounds - 1
below_from_three n rounds t level places slots more some window alone gains =
    elim (eqb_tells rounds 1) [
      | inl one ↦
          let is : IsUnicastWindow AreMoved n 1 t level places slots =
          record { window = subst (λ r. IsWindow n r t level places slots) one.1 window; alone = alone } in
          let below = one_longest_wait-at_line_rate n t level places slots more is gains in
          rw one.0 (omega (arith, below))
      | inr several ↦
          let below = longest_wait-at_line_rate n rounds t level places slots more some window alone gains in
          rw several.0 (omega (arith, below))
    ]

pub longest_wait-below_at_line_rate : (n rounds t level : ℕ) (places : Places) (slots : List DecidedSlot) → 0 < n → 0 < rounds
    → IsWindow n rounds t level places slots → All (λ slot. IsWithoutMulticast n level slot.rows) slots → AreAtLineRate n level slots
    → longest_wait n level (map noted_of slots) < longest_service_at_line_rate n rounds
longest_wait-below_at_line_rate n rounds t level places slots ports some window alone gains =
    by_ports_and_rounds (λ n rounds count. 0 < n → 0 < rounds → IsWindow n rounds t level places slots
    → All (λ slot. IsWithoutMulticast n level slot.rows) slots → AreAtLineRate n level slots → longest_wait n level (map noted_of slots) < count) n rounds
    (λ ports some window alone gains. longest_wait-below_service n rounds t level places slots ports some
    (record { window = window; alone = alone }))
    (λ several same ports some window alone gains. two_longest_wait-bound rounds t level places slots (omega (arith, some, several)) window alone)
    (λ more ports some window alone gains. below_from_three n rounds t level places slots more some window alone gains)
    ports some window alone gains
