-- The slots of a simulation are at line rate, and so its waits are bounded.
use Rattle.std.proofs.Common.{◌≡◌, ◌∙◌, ◌+◌, ◌*◌, ◌/◌, ◌%◌, ◌<◌, ap, refl, sym, subst, arith, ℕ, zero, suc, List, [], ◌∷◌, map}
use Rattle.std.specs.Prelude.{All, Option, None, Some, IfSome, false, option_map, slice_get}
use Rattle.std.specs.List.{range_with_len}
use Rattle.std.proofs.lemmas.List.Elements.{All-nil}
use Rattle.std.proofs.lemmas.Nat.{div-mul-add, mod-mul-add}
use Rattle.std.proofs.lemmas.Option.{same_Some}
use Rattle.std.proofs.lemmas.Simd.{map-map}
use Rattle.scheduler_names.specs.declared.names.SchedulerName.TheVariants.{Firm, Islip}
use Rattle.rotating_pick.specs.declared.kinds.Kind.TheVariants.{Uni}
use Rattle.slot_match.specs.Rows.{AreWithin, row_of}
use Rattle.pointer_state.specs.Places.{ArePointing}
use Rattle.eslip_rounds.specs.Slots.{AreMoved, IsSlotBy, Moving}
use Rattle.eslip_rounds.specs.Schedulers.{IsSchedulerBy}
use Rattle.eslip_rounds.proofs.Scheduling.{IsSchedulerBy-decision_of}
use Rattle.firm_rounds.specs.Slots.{AreMovedByFirm}
use Rattle.firm_rounds.proofs.InTime.{firm_longest_wait}
use Rattle.named_schedulers.specs.Named.{decision_named}
use Rattle.named_schedulers.proofs.FirmScheduler.{IsSchedulerBy-firm_decision}
use Rattle.service_bound.specs.Waits.{longest_service_at_line_rate, longest_wait, noted_of}
use Rattle.service_bound.specs.Windows.{AreAtLineRate, GainsAtMostOne, IsClean, IsWindowBy, IsWithoutMulticast}
use Rattle.service_bound.proofs.LineRateByRounds.{longest_wait-below_at_line_rate}
use Rattle.made_traffic.specs.Sources.{IsTraffic, comes}
use Rattle.arrival_queues.specs.declared.cell.ArrivedCell.{ArrivedCell}
use Rattle.arrival_queues.specs.declared.queueing.Queueing.{Queueing}
use Rattle.arrival_queues.specs.declared.queueing.Queueing.TheVariants.{ByPair}
use Rattle.arrival_queues.specs.Queues.{Queues, head_of, queue_at, queue_of}
use Rattle.simulated_slots.specs.declared.discipline.Discipline.{Discipline}
use Rattle.simulated_slots.specs.declared.discipline.Discipline.TheVariants.{Scheduled}
use Rattle.simulated_slots.specs.Jobs.{IsJob, JobValue, is_ideal, is_random, queueing_of, rounds_by, scheduler_of}
use Rattle.simulated_slots.specs.Slots.{cell_at, coming, slot_of, switch_before}
use Rattle.simulated_runs.specs.Numbers.{numbers_after}
use Rattle.simulated_runs.proofs.Coming.{All-given, All-range}
use Rattle.simulated_runs.proofs.HeadCells.{All-first, IsOwn, at-entered, at-left, owns}
use Rattle.simulated_runs.proofs.MadeSlots.{after-is, filled-is, left-is, served_in}
use Rattle.simulated_runs.proofs.ScheduledSlots.{IsFirst, all-slots, alone-in, at_ports, decided_in, first-named, named-first, place, rounds_in}
use Rattle.simulated_runs.proofs.ScheduledSlots.{rows_in, places_in, slot-moved, slots-kept, slots-scheduled, slots_in, within-in}

module _ (job : JobValue) (by : queueing_of job.settings.discipline ≡ ByPair) where
  -- the cell that comes to an input
  abbrev Comes : ℕ → ArrivedCell → Type 0
  Comes t c = cell_at job t c.input ≡ Some c

  coming-comes : (t : ℕ) → All (Comes t) (coming job t)
  coming-comes t = All-given (cell_at job t) (λ i. i < job.traffic.ports) (Comes t) (λ i i_in. one i (comes job.traffic job.seed i t) refl)
      (range_with_len 0 job.traffic.ports) (All-range job.traffic.ports)
    where
      one : (i : ℕ) (o : Option ℕ) → comes job.traffic job.seed i t ≡ o
          → IfSome (option_map (λ j. record { arrival = t; input = i; output = j }) o) (Comes t)
      one i None is = tt
      one i (Some j) is = ap (option_map (λ (j : ℕ). record { arrival = t; input = i; output = j })) is

  -- where no cell of the pair waits in a slot, each that waits in the next one comes then
  none-waits : (t i j : ℕ) → j < job.traffic.ports → (IsFirst job t i j → ⊥) → (cells : List ArrivedCell)
      → queue_at (slot_of job t).filled (place job i j) ≡ cells → All (Comes (t + 1)) cells
  none-waits t i j inside not [] is = All-nil (Comes (t + 1))
  none-waits t i j inside not (c ∷ cs) is = absurd (not (record {
    inside = inside;
    cell = c;
    first = first;
    input = same.0;
    output = same.1;
  }))
    where
      first : head_of (slot_of job t).filled (place job i j) ≡ Some c
      first = ap (λ (cells : List ArrivedCell). slice_get cells 0) is

      own : IsOwn (queueing_of job.settings.discipline) job.traffic.ports (place job i j) c
      own = All-first (IsOwn (queueing_of job.settings.discipline) job.traffic.ports (place job i j)) (queue_at (slot_of job t).filled (place job i j)) c
          ((owns job t).own (place job i j)) first

      placed : c.input * job.traffic.ports + c.output ≡ i * job.traffic.ports + j
      placed = sym (ap (λ (q : Queueing). queue_of q job.traffic.ports c.input c.output) by)
          ∙ own.2 ∙ ap (λ (q : Queueing). queue_of q job.traffic.ports i j) by

      same : (c.input ≡ i) × (c.output ≡ j)
      same = let n = job.traffic.ports in (
        sym (div-mul-add c.input n c.output own.1) ∙ ap (λ (q : ℕ). q / n) placed ∙ div-mul-add i n j inside,
        sym (mod-mul-add c.input n c.output own.1) ∙ ap (λ (q : ℕ). q % n) placed ∙ mod-mul-add i n j inside,
      )

  first-comes : (t i j : ℕ) → (IsFirst job t i j → ⊥) → (is : IsFirst job (t + 1) i j) → cell_at job (t + 1) i ≡ Some is.cell
  first-comes t i j not is =
      let q = place job i j in
      let old = none-waits t i j is.inside not (queue_at (slot_of job t).filled q) refl in
      let left = at-left (Comes (t + 1)) (slot_of job t).filled (served_in job t) q old in
      let before = subst (λ (queues : Queues). All (Comes (t + 1)) (queue_at queues q))
      (sym (left-is job t) ∙ sym (ap (λ switch. switch.queues) (after-is job t))) left in
      let now = subst (λ (queues : Queues). All (Comes (t + 1)) (queue_at queues q)) (sym (filled-is job (t + 1)))
      (at-entered (Comes (t + 1)) (switch_before job (t + 1)).queues (coming job (t + 1)) q before (coming-comes (t + 1))) in
      ap (cell_at job (t + 1)) (sym is.input) ∙ All-first (Comes (t + 1)) (queue_at (slot_of job (t + 1)).filled q) is.cell now is.first

  gains : (t i : ℕ) → i < job.traffic.ports → GainsAtMostOne 0 (row_of (rows_in job t) i) (row_of (rows_in job (t + 1)) i)
  gains t i i_in j k j_named k_named j_silent k_silent =
      let one = (named-first job (t + 1) i i_in 0 j Uni j_named).2 in
      let other = (named-first job (t + 1) i i_in 0 k Uni k_named).2 in
      let first = first-comes t i j (λ was. j_silent (first-named job t i i_in j was)) one in
      let second = first-comes t i k (λ was. k_silent (first-named job t i i_in k was)) other in
      let same = same_Some one.cell other.cell (sym first ∙ second) in
      sym one.output ∙ ap (λ (c : ArrivedCell). c.output) same ∙ other.output

  pub slots-line_rate : (t count : ℕ) → AreAtLineRate job.traffic.ports 0 (slots_in job t count)
  slots-line_rate t zero = tt
  slots-line_rate t (suc zero) = (tt, tt)
  slots-line_rate t (suc (suc count)) = (λ i i_in. gains t i i_in, slots-line_rate (t + 1) (suc count))

-- ---- the slots are a window
module _ (job : JobValue) (traffic : IsTraffic job.traffic) (scheduled : is_ideal job.settings.discipline ≡ false) where
  pub slots-window : (named : is_random job.settings.discipline ≡ false) → (Moves : Moving) → ((u : ℕ) → IsSlotBy Moves job.traffic.ports (rounds_in job traffic scheduled) u (rows_in job u) (places_in job u)
      (slot_of job u).decision)
      → (count : ℕ) → IsWindowBy Moves job.traffic.ports (rounds_in job traffic scheduled) 0 0 (places_in job 0) (slots_in job 0 count)
  slots-window named Moves each count = record {
    pointing = subst (λ (n : ℕ). ArePointing n 0 (places_in job 0)) (at_ports job traffic scheduled named 0).1
        ((at_ports job traffic scheduled named 0).0.pointing 0 (omega arith));
    schedule = slots-scheduled job traffic scheduled named Moves each 0 count;
    within = all-slots job (AreWithin job.traffic.ports) (within-in job) 0 count;
    kept = slots-kept job traffic scheduled 0 count;
    clean = all-slots job (IsClean job.traffic.ports 0) (λ u i better j kind i_in less names. absurd (omega (arith, less))) 0 count;
  }

  pub slots-alone : (count : ℕ) → All (λ slot. IsWithoutMulticast job.traffic.ports 0 slot.rows) (slots_in job 0 count)
  slots-alone count = all-slots job (IsWithoutMulticast job.traffic.ports 0) (alone-in job) 0 count

  pub wait-told : (t : ℕ) → (numbers_after job t).longest_wait ≡ longest_wait job.traffic.ports 0 (map noted_of (slots_in job 0 t))
  unfolding numbers_after
  wait-told t = rw scheduled (ap (longest_wait job.traffic.ports 0) (sym (map-map noted_of (decided_in job) (range_with_len 0 t))))

pub waits-islip : (job : JobValue) (t : ℕ) → IsTraffic job.traffic → IsJob job → job.settings.discipline ≡ Scheduled Islip
    → (numbers_after job t).longest_wait < longest_service_at_line_rate job.traffic.ports job.settings.rounds
waits-islip job t traffic good is =
    let scheduled = ap is_ideal is in
    let named = ap is_random is in
    let rounds = ap (λ (d : Discipline). rounds_by d job.settings.rounds) is in
    let moving = subst (λ (d : Discipline). IsSchedulerBy AreMoved (decision_named (scheduler_of d))) (sym is) IsSchedulerBy-decision_of in
    let some : 0 < rounds_in job traffic scheduled = omega (arith, rounds, good.settings.some_rounds) in
    let below = longest_wait-below_at_line_rate job.traffic.ports (rounds_in job traffic scheduled) 0 0 (places_in job 0) (slots_in job 0 t) traffic.some some
    (slots-window job traffic scheduled named AreMoved (slot-moved job traffic scheduled named AreMoved moving) t)
    (slots-alone job traffic scheduled t) (slots-line_rate job (ap queueing_of is) 0 t) in
    subst (λ (wait : ℕ). wait < longest_service_at_line_rate job.traffic.ports job.settings.rounds) (sym (wait-told job traffic scheduled t))
    (subst (λ (r : ℕ). longest_wait job.traffic.ports 0 (map noted_of (slots_in job 0 t)) < longest_service_at_line_rate job.traffic.ports r) rounds below)

pub waits-firm : (job : JobValue) (t : ℕ) → IsTraffic job.traffic → IsJob job → job.settings.discipline ≡ Scheduled Firm
    → (numbers_after job t).longest_wait < job.traffic.ports * job.traffic.ports
waits-firm job t traffic good is =
    let scheduled = ap is_ideal is in
    let named = ap is_random is in
    let rounds = ap (λ (d : Discipline). rounds_by d job.settings.rounds) is in
    let moving = subst (λ (d : Discipline). IsSchedulerBy AreMovedByFirm (decision_named (scheduler_of d))) (sym is) IsSchedulerBy-firm_decision in
    let some : 0 < rounds_in job traffic scheduled = omega (arith, rounds, good.settings.some_rounds) in
    let below = firm_longest_wait job.traffic.ports (rounds_in job traffic scheduled) 0 0 (places_in job 0) (slots_in job 0 t) traffic.some some
    (slots-window job traffic scheduled named AreMovedByFirm (slot-moved job traffic scheduled named AreMovedByFirm moving) t)
    (slots-alone job traffic scheduled t) in
    subst (λ (wait : ℕ). wait < job.traffic.ports * job.traffic.ports) (sym (wait-told job traffic scheduled t)) below
