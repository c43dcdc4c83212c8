-- All slots that the traffic feeds, and that there are such slots.
use Rattle.std.proofs.Common.{◌≡◌, ℕ, zero, suc, ◌+◌, ◌%◌, ◌<◌, ◌≤◌, ◌↔◌, ◌∙◌, List, [], ◌∷◌, Some, All, length, refl, sym, ap, subst, inl, inr, arith}
use Rattle.std.specs.Prelude.{slice_get}
use Rattle.std.proofs.lemmas.List.Elements.{All-nil, All-cons}
use Rattle.std.proofs.lemmas.Option.{slice_get_within, same_Some}
use Rattle.rotating_pick.specs.declared.kinds.Kind.{Kind}
use Rattle.slot_match.specs.declared.rows.Row.{Row}
use Rattle.slot_match.specs.Rows.{Names, row_of, AreWithin}
use Rattle.pointer_state.specs.Places.{Places, AreAtPorts, ArePointing}
use Rattle.eslip_rounds.specs.Slots.{Moving}
use Rattle.eslip_rounds.specs.Schedules.{DecidedSlot, IsScheduleBy}
use Rattle.eslip_rounds.specs.Schedulers.{Scheduler, IsSchedulerBy, IsScheduler}
use Rattle.service_bound.proofs.Postings.{Posting, IsPosted, rows_of, posted, names, AreWithin-rows}
use Rattle.scheduler_laws.specs.FedSlots.{AreFed, waiting}
use Rattle.scheduler_laws.specs.Growth.{cycle, growing, GrowsForEver}
use Rattle.scheduler_laws.proofs.GrowingTurns.{input_at, output_at}
use Rattle.scheduler_laws.proofs.OneSlot.{IsAsked, AskFor, MovePairs}
use Rattle.scheduler_laws.proofs.Queues.{waiting_is, waits_asked}
use Rattle.scheduler_laws.proofs.Runs.{AreGoing, AskInTurn, KeepAsking, going_on}

-- in slot t the queues have cells whose pairs ask in turn
abbrev WaitInTurn : ℕ → ℕ → List DecidedSlot → ℕ → Type 0
WaitInTurn n m slots t = (i j : ℕ) → i < n → j < n
    → (0 < waiting (growing n m) slots i j t) ↔ IsAsked (input_at n (t % cycle n)) (output_at n (t % cycle n)) i j

-- they do, where so much has left
waiting_asked : (n m t : ℕ) (places : Places) (slots : List DecidedSlot) → 1 < n → 0 < m → AreGoing n places slots t → WaitInTurn n m slots t
waiting_asked n m t places slots more some going i j i_in j_in =
    let a : ℕ = input_at n (t % cycle n) in
    let b : ℕ = output_at n (t % cycle n) in
    let same = waiting_is n m t slots more some i j (going.left i j i_in j_in) in
    subst (λ w. (0 < w) ↔ IsAsked a b i j) (sym same) (waits_asked n m t i j more i_in j_in)

-- slots that the traffic feeds ask in turn
asks_in_turn : (n m : ℕ) (places : Places) (slots : List DecidedSlot) → 1 < n → 0 < m → AreFed n (growing n m) slots → KeepAsking n places slots
asks_in_turn n m places slots more some fed k slot there going i j level kind i_in j_in =
    let asks = fed.asks k i j level kind slot there i_in j_in in
    let waits = waiting_asked n m k places slots more some going i j i_in j_in in (
      λ named. let is = asks.0 named in (is.0, is.1, waits.0 is.2),
      λ is. asks.1 (is.0, is.1, waits.1 is.2),
    )

-- ---- such slots
-- input 0 asks output 0, and input a output b
both_ask : ℕ → ℕ → Posting
both_ask a b = record { input = 0; beside = 0; own = 0; other = a; output = b }

posted_both : (a b i j : ℕ) → IsPosted (both_ask a b) i j ↔ IsAsked a b i j
unfolding both_ask
posted_both a b i j = (
  λ is. elim is [
    | inl one ↦ elim one.1 [ inl e ↦ inl (one.0, e) | inr e ↦ inl (one.0, e) ]
    | inr more ↦ elim more [ inl own ↦ elim own.1 [ inl e ↦ inl (own.0, e) | inr e ↦ inl (own.0, e) ] | inr it ↦ inr it ]
  ],
  λ asked. elim asked [ inl one ↦ inl (one.0, inl one.1) | inr it ↦ inr (inr it) ],
)

-- the rows of slot t
rows_at : ℕ → ℕ → List Row
rows_at n t = rows_of n (both_ask (input_at n (t % cycle n)) (output_at n (t % cycle n)))

within_at : (n t : ℕ) → AreWithin n (rows_at n t)
unfolding rows_at
within_at n t = AreWithin-rows n (both_ask (input_at n (t % cycle n)) (output_at n (t % cycle n)))

asks_at : (n t : ℕ) → AskFor n (input_at n (t % cycle n)) (output_at n (t % cycle n)) (rows_at n t)
unfolding rows_at
asks_at n t i j level kind i_in j_in =
    let a : ℕ = input_at n (t % cycle n) in
    let b : ℕ = output_at n (t % cycle n) in
    let P : ℕ → Type 0 = λ l. Names (row_of (rows_of n (both_ask a b)) i) l kind j in
    let Q : Kind → Type 0 = λ k. Names (row_of (rows_of n (both_ask a b)) i) 0 k j in (
      λ named. let is = posted n (both_ask a b) i j level kind i_in named in (is.0, is.1, (posted_both a b i j).0 is.3),
      λ is. subst P (sym is.0) (subst Q (sym is.1) (names n (both_ask a b) i j i_in j_in ((posted_both a b i j).1 is.2))),
    )

-- the pointers of the level are at ports
pointing_at : (n : ℕ) (places : Places) → AreAtPorts places → places.ports ≡ n → ArePointing n 0 places
pointing_at n places at_ports ports = subst (λ k. ArePointing k 0 places) ports (at_ports.pointing 0 (omega arith))

module _ (Moves : Moving) (pairs : MovePairs Moves) (scheduler : Scheduler) (by : IsSchedulerBy Moves scheduler) (stays : IsScheduler scheduler)
    (n rounds : ℕ) where
  -- slot t
  slot_at : ℕ → Places → DecidedSlot
  slot_at t places = record { rows = rows_at n t; decision = scheduler n rounds t (rows_at n t) places }

  -- so many slots from slot t on
  run : ℕ → Places → ℕ → List DecidedSlot
  run t places zero = []
  run t places (suc count) = slot_at t places ∷ run (t + 1) (slot_at t places).decision.places count

  length-run : (count t : ℕ) (places : Places) → length (run t places count) ≡ count
  unfolding run
  length-run zero t places = refl
  length-run (suc count) t places = ap suc (length-run count (t + 1) (slot_at t places).decision.places)

  rows_in_run : (count t k : ℕ) (places : Places) (slot : DecidedSlot) → slice_get (run t places count) k ≡ Some slot → slot.rows ≡ rows_at n (t + k)
  unfolding run slot_at
  rows_in_run zero t k places slot there = absurd (let none = slice_get_within [] k slot there in omega arith)
  rows_in_run (suc count) t zero places slot there =
      let now : t ≡ t + 0 = omega arith in
      ap (λ x. x.rows) (sym (same_Some (slot_at t places) slot there)) ∙ ap (rows_at n) now
  rows_in_run (suc count) t (suc k) places slot there =
      let now : t + 1 + k ≡ t + suc k = omega arith in
      rows_in_run count (t + 1) k (slot_at t places).decision.places slot there ∙ ap (rows_at n) now

  within-run : (count t : ℕ) (places : Places) → All (λ slot. AreWithin n slot.rows) (run t places count)
  unfolding run slot_at
  within-run zero t places = All-nil (λ slot. AreWithin n slot.rows)
  within-run (suc count) t places =
      let slot = slot_at t places in
      All-cons (λ x. AreWithin n x.rows) slot (run (t + 1) slot.decision.places count) (within_at n t) (within-run count (t + 1) slot.decision.places)

  schedule-run : (count t : ℕ) (places : Places) → AreAtPorts places → places.ports ≡ n → IsScheduleBy Moves n rounds t places (run t places count)
  unfolding run slot_at
  schedule-run zero t places at_ports ports = tt
  schedule-run (suc count) t places at_ports ports =
      let after = (stays n rounds t (rows_at n t) places (within_at n t) at_ports ports).moved in (
        by n rounds t (rows_at n t) places (within_at n t) at_ports ports,
        schedule-run count (t + 1) (slot_at t places).decision.places after.0 (after.1 ∙ ports),
      )

  module _ (m : ℕ) (places : Places) (more : 2 ≤ n) (some : 0 < m) (some_rounds : 0 < rounds) (at_ports : AreAtPorts places) (ports : places.ports ≡ n) where
    pointing : ArePointing n 0 places
    pointing = pointing_at n places at_ports ports

    asking : (count k : ℕ) (slot : DecidedSlot) → slice_get (run 0 places count) k ≡ Some slot → AskInTurn n k slot
    asking count k slot there =
        let a : ℕ = input_at n (k % cycle n) in
        let b : ℕ = output_at n (k % cycle n) in
        let now : 0 + k ≡ k = omega arith in
        let same : slot.rows ≡ rows_at n k = rows_in_run count 0 k places slot there ∙ ap (rows_at n) now in
        subst (AskFor n a b) (sym same) (asks_at n k)

    going : (count k : ℕ) → k ≤ length (run 0 places count) → AreGoing n places (run 0 places count) k
    going count =
        going_on Moves pairs n rounds places (run 0 places count) (omega arith) pointing some_rounds (schedule-run count 0 places at_ports ports)
        (within-run count 0 places) (λ k slot there before. asking count k slot there)

    -- such slots are fed
    feeds : (count : ℕ) → AreFed n (growing n m) (run 0 places count)
    feeds count =
        record {
          within = within-run count 0 places;
          asks = λ t i j level kind slot there i_in j_in.
              let below = slice_get_within (run 0 places count) t slot there in
              let asks = asking count t slot there i j level kind i_in j_in in
              let waits = waiting_asked n m t places (run 0 places count) (omega arith) some (going count t (omega arith)) i j i_in j_in in (
                λ named. let is = asks.0 named in (is.0, is.1, waits.1 is.2),
                λ is. asks.1 (is.0, is.1, waits.0 is.2),
              );
        }

    -- in all slots that are fed the cells wait
    pub grows_for_ever : GrowsForEver Moves n m rounds places
    grows_for_ever = record {
      fed = λ count. (run 0 places count, schedule-run count 0 places at_ports ports, feeds count, length-run count 0 places);
      grows = λ slots schedule fed t below.
          let before = going_on Moves pairs n rounds places slots (omega arith) pointing some_rounds schedule fed.within
          (asks_in_turn n m places slots (omega arith) some fed) t (omega arith) in
          waiting_is n m t slots (omega arith) some 0 0 (before.left 0 0 (omega arith) (omega arith));
    }
