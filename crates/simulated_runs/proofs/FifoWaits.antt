-- Where each input asks for one output alone, an output's pointer passes the others once at most before it grants it.
use Rattle.std.proofs.Common.{◌≡◌, ◌∙◌, ◌+◌, ◌<◌, ap, map, sym, subst, arith, ℕ, List}
use Rattle.std.proofs.lemmas.Option.{same_Some}
use Rattle.rotating_pick.specs.Rotation.{distance}
use Rattle.rotating_pick.specs.declared.kinds.Kind.TheVariants.{Uni}
use Rattle.rotating_pick.specs.declared.limits.TheConstants.{LEVELS}
use Rattle.rotating_pick.proofs.Circle.{distance-lt}
use Rattle.rotating_pick.proofs.Picking.{distance-injective}
use Rattle.slot_match.specs.declared.rows.Row.{Row}
use Rattle.slot_match.specs.Rows.{Names, row_of}
use Rattle.slot_match.specs.Matches.{Serves}
use Rattle.pointer_state.specs.Places.{Places, grant_of}
use Rattle.eslip_rounds.specs.Slots.{AreMoved, IsSlotBy, Moving}
use Rattle.eslip_rounds.specs.Schedules.{DecidedSlot}
use Rattle.eslip_rounds.specs.Schedulers.{IsSchedulerBy}
use Rattle.eslip_rounds.proofs.Scheduling.{IsSchedulerBy-decision_of, IsSlotBy-moved}
use Rattle.named_schedulers.specs.Named.{decision_named}
use Rattle.service_bound.specs.Waits.{noted_of}
use Rattle.service_bound.specs.Windows.{IsWithoutMulticast}
use Rattle.service_bound.proofs.Distances.{distance-passed}
use Rattle.service_bound.proofs.AllBelow.{longest_wait-below}
use Rattle.service_bound.proofs.Falling.{IsBound, bound_by, unicast_in, unicast_rows}
use Rattle.service_bound.proofs.FirstRound.{first_granted, grants_first}
use Rattle.service_bound.proofs.Granting.{kind_is_first, served_by_first}
use Rattle.service_bound.proofs.InWindows.{AreMoved-keep, IsWindowSlotBy, KeepPointing}
use Rattle.service_bound.proofs.LaterRounds.{BeginsWith, BeginsWith-slot, first_of}
use Rattle.service_bound.proofs.OneRound.{nearest_of}
use Rattle.made_traffic.specs.Sources.{IsTraffic}
use Rattle.arrival_queues.specs.declared.cell.ArrivedCell.{ArrivedCell}
use Rattle.arrival_queues.specs.declared.queueing.Queueing.{Queueing}
use Rattle.arrival_queues.specs.declared.queueing.Queueing.TheVariants.{ByInput}
use Rattle.arrival_queues.specs.Queues.{head_of, queue_of}
use Rattle.simulated_slots.specs.declared.discipline.Discipline.{Discipline}
use Rattle.simulated_slots.specs.declared.discipline.Discipline.TheVariants.{Fifo}
use Rattle.simulated_slots.specs.Jobs.{IsJob, JobValue, is_ideal, is_random, queueing_of, rounds_by, scheduler_of}
use Rattle.simulated_slots.specs.Slots.{slot_of}
use Rattle.simulated_runs.specs.Numbers.{numbers_after}
use Rattle.simulated_runs.proofs.ScheduledSlots.{named-first, place, places_in, rounds_in, rows_in, slot-moved, slots_in}
use Rattle.simulated_runs.proofs.ScheduledWaits.{slots-alone, slots-window, wait-told}

-- each input asks for at most one output of level 0
abbrev AskForOne : ℕ → List Row → Type 0
AskForOne n rows = (i j k : ℕ) → i < n → Names (row_of rows i) 0 Uni j → Names (row_of rows i) 0 Uni k → j ≡ k

-- pointers move as those of iSLIP do, by such rows
abbrev MoveByOne : Moving
MoveByOne n t rows first_match matched before after = AreMoved n t rows first_match matched before after × AskForOne n rows

keep-by_one : (n : ℕ) → KeepPointing MoveByOne n 0
keep-by_one n t rows first matched before after size within pointing moved = AreMoved-keep n 0 t rows first matched before after size within pointing moved.0

-- Where these rows are posted: the input asks, and is so near to the output's pointer.
record AsksNear (n i j : ℕ) (places : Places) (most : ℕ) (rows : List Row) : Type 0 where
  named : Names (row_of rows i) 0 Uni j
  near : distance n (grant_of places j 0) i < most

module _ (n rounds : ℕ) (some : 0 < rounds) where
  comes-nearer : (i j t : ℕ) → i < n → (places : Places) (slot : DecidedSlot) (most : ℕ) → IsWindowSlotBy MoveByOne n rounds t 0 places slot
      → IsWithoutMulticast n 0 slot.rows → (Serves slot.decision.matched i j 0 Uni → ⊥) → AsksNear n i j places (most + 1) slot.rows
      → distance n (grant_of slot.decision.places j 0) i < most
  comes-nearer i j t i_in places slot most now alone left asks =
      let rows = slot.rows in
      let level_in : 0 < LEVELS = omega arith in
      let first = first_of n now.decided.steps in
      let begins : BeginsWith n t rows places first slot.decision.matched = BeginsWith-slot n t rows places MoveByOne rounds slot.decision some now.decided in
      let j_in : j < n = now.within.ports i i_in 0 j Uni asks.named in
      let from_in = now.pointing.grant j j_in in
      let (g, nearest) = nearest_of n 0 places rows i j from_in i_in asks.named in
      let g_in = nearest.below in
      let only = kind_is_first n t 0 rows first places level_in begins.opening now.pointing now.clean alone in
      let granted = grants_first n t rows places 0 level_in now.clean Uni only g j j_in nearest in
      let (y, taken, serves) = served_by_first n t 0 rows first places level_in begins.opening now.pointing now.clean alone g j g_in granted in
      let also : Names (row_of rows g) 0 Uni y = (first_granted n t rows places 0 level_in now.clean Uni only g y taken.member).member in
      let same : y ≡ j = now.decided.moved.1 g y j g_in also nearest.member in
      let served : Serves first g j 0 Uni = subst (λ (k : ℕ). Serves first g k 0 Uni) same serves in
      let other : g ≡ i → ⊥ = λ is. left (subst (λ (x : ℕ). Serves slot.decision.matched x j 0 Uni) is (begins.stays g j 0 Uni served)) in
      let apart : distance n (grant_of places j 0) g ≡ distance n (grant_of places j 0) i → ⊥ =
      λ e. other (distance-injective n (grant_of places j 0) g i from_in g_in i_in e) in
      let at_most = nearest.least i i_in asks.named in
      let ahead : distance n (grant_of places j 0) g < distance n (grant_of places j 0) i = omega arith in
      let passed = distance-passed n (grant_of places j 0) g i from_in g_in i_in ahead in
      let moved = now.decided.moved.0.granted g j 0 served in
      let near = asks.near in
      rw moved (omega (arith, passed, near))

  one-bound : (i j : ℕ) → i < n → IsBound (unicast_rows n 0) MoveByOne n rounds 0 i j n
  one-bound i j i_in = bound_by (unicast_rows n 0) MoveByOne n rounds 0 i j n (record {
    AsksWithin = AsksNear n i j;
    keep = keep-by_one n;
    positive = omega arith;
    begins = λ t places slot now held named.
        record { named = named; near = distance-lt n (grant_of places j 0) i (now.pointing.grant j (now.within.ports i i_in 0 j Uni named)) };
    some = λ places most rows pointing within asks. let near = asks.near in omega (arith, near);
    falls = λ t places slot most now held left asks later follow on.
        let window : IsWindowSlotBy MoveByOne n rounds t 0 places slot = record {
          pointing = now.pointing;
          decided = now.decided;
          within = now.within;
          clean = held.0;
        } in
        record { named = on i i_in asks.named left; near = comes-nearer i j t i_in places slot most window held.1 left asks };
  })

-- ---- the rows of fifo are such rows: an input's one queue has one first cell
module _ (job : JobValue) (t : ℕ) (by : queueing_of job.settings.discipline ≡ ByInput) where
  ask-for_one : AskForOne job.traffic.ports (rows_in job t)
  ask-for_one i j k i_in j_named k_named =
      let one = (named-first job t i i_in 0 j Uni j_named).2 in
      let other = (named-first job t i i_in 0 k Uni k_named).2 in
      let places : place job i j ≡ place job i k =
      ap (λ (q : Queueing). queue_of q job.traffic.ports i j) by ∙ sym (ap (λ (q : Queueing). queue_of q job.traffic.ports i k) by) in
      let cell = same_Some one.cell other.cell (sym one.first ∙ ap (head_of (slot_of job t).filled) places ∙ other.first) in
      sym one.output ∙ ap (λ (c : ArrivedCell). c.output) cell ∙ other.output

pub waits-fifo : (job : JobValue) (t : ℕ) → IsTraffic job.traffic → IsJob job → job.settings.discipline ≡ Fifo
    → (numbers_after job t).longest_wait < job.traffic.ports
waits-fifo job t traffic good is =
    let scheduled = ap is_ideal is in
    let named = ap is_random is in
    let n = job.traffic.ports in
    let rounds = rounds_in job traffic scheduled in
    let one : rounds ≡ 1 = ap (λ (d : Discipline). rounds_by d job.settings.rounds) is in
    let some : 0 < rounds = omega (arith, one) in
    let moving = subst (λ (d : Discipline). IsSchedulerBy AreMoved (decision_named (scheduler_of d))) (sym is) IsSchedulerBy-decision_of in
    let each : (u : ℕ) → IsSlotBy MoveByOne n rounds u (rows_in job u) (places_in job u) (slot_of job u).decision =
    λ u. IsSlotBy-moved MoveByOne n rounds u (rows_in job u) (places_in job u) (slot_of job u).decision (slot-moved job traffic scheduled named AreMoved moving u)
    (λ first_match moved. (moved, ask-for_one job u (ap queueing_of is))) in
    let so = unicast_in MoveByOne n rounds 0 0 (places_in job 0) (slots_in job 0 t) (record {
      window = slots-window job traffic scheduled named MoveByOne each t;
      alone = slots-alone job traffic scheduled t;
    }) in
    let below = longest_wait-below n 0 n (map noted_of (slots_in job 0 t)) traffic.some
    (λ i j i_in j_in. (one-bound n rounds some i j i_in).waits 0 (places_in job 0) (slots_in job 0 t) so) in
    subst (λ (wait : ℕ). wait < n) (sym (wait-told job traffic scheduled t)) below
