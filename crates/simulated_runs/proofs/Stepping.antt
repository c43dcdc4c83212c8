-- A simulation after one slot more.
use Rattle.std.proofs.Common.{◌≡◌, ◌∙◌, ◌+◌, ◌*◌, ◌^◌, ◌<◌, ◌≤◌, ◌==◌, ap, subst, refl, sym, arith, ℕ, Bool, true, false, max}
use Rattle.std.proofs.Common.{List, [], ◌∷◌, ◌++◌, map, append-nil, inl, inr}
use Rattle.std.specs.Prelude.{Option, None, Some, flat_map, sum_by, if◌then◌else◌}
use Rattle.std.specs.List.{range_with_len}
use Rattle.std.proofs.lemmas.Bool.{cases_eq, eq-eqb, ne_eqb}
use Rattle.std.proofs.lemmas.List.Concat.{flat_map-append}
use Rattle.std.proofs.lemmas.List.FromFn.{map-range_with_len_more}
use Rattle.std.proofs.lemmas.Simd.{map-map}
use Rattle.std_lemmas.proofs.Ranges.{range_more}
use Rattle.rotating_pick.specs.declared.limits.TheConstants.{MAX_PORTS}
use Rattle.slot_match.specs.declared.matching.Fed.{Fed}
use Rattle.islip_rounds.specs.declared.numbers.RoundsUsed.{RoundsUsed}
use Rattle.pointer_state.specs.Places.{Places}
use Rattle.eslip_rounds.specs.Slots.{Decision}
use Rattle.service_bound.specs.Waits.{NotedSlot, greatest}
use Rattle.service_bound.specs.MeterSteps.{HasNoted}
use Rattle.delay_counts.specs.CountSteps.{HasCounted as HasDelays}
use Rattle.arrival_queues.specs.declared.cell.ArrivedCell.{ArrivedCell}
use Rattle.arrival_queues.specs.declared.limits.TheConstants.{MAX_CELLS}
use Rattle.arrival_queues.specs.Queues.{Queues, held_count, rows_of}
use Rattle.simulated_slots.specs.declared.arrivals.Arrivals.{Arrivals}
use Rattle.simulated_slots.specs.declared.departed.Departed.{Departed}
use Rattle.simulated_slots.specs.declared.discipline.Discipline.{Discipline}
use Rattle.simulated_slots.specs.Jobs.{JobValue, batch_at, batch_of, is_ideal, is_measured, queueing_of}
use Rattle.simulated_slots.specs.Slots.{all_entered, coming, decision_by, dropped, lengths, picks_by, served_queues, slot_of, switch_before}
use Rattle.simulated_slots.specs.ArbiterSteps.{ArbiterValue}
use Rattle.simulated_slots.specs.ArrivalSteps.{AllCame, AreArrivals, HaveCome, where_measured}
use Rattle.simulated_slots.specs.DepartureSteps.{AreDeparted, HaveDeparted, delay_in, where_batched}
use Rattle.simulated_slots.specs.TableSteps.{HasBatched, HasCounted}
use Rattle.simulated_runs.specs.declared.numbers.WaitingNumbers.{WaitingNumbers}
use Rattle.simulated_runs.specs.declared.slot_counts.SlotCounts.{SlotCounts}
use Rattle.simulated_runs.specs.Numbers.{Departure, arrivals, delay_of, departed_cells, departures, departures_in, drops, inputs}
use Rattle.simulated_runs.specs.Numbers.{measured, noted_in, outputs, waiting_before}
use Rattle.simulated_runs.specs.SimulationSteps.{HasCountedDeparted, HasDecided, HasSummed, HasTakenIn, batch_delays}
use Rattle.simulated_runs.specs.SlotSteps.{begun, ended, filled}
use Rattle.simulated_runs.proofs.MadeSlots.{after-is, came-is, decision-is, dropped-is, filled-is, lengths-is, picks-is, places-is, served_in}
use Rattle.simulated_runs.proofs.MeasuredSlots.{map_flat_map-measured, sum_by-measured}

greatest-append : (xs ys : List ℕ) → greatest (xs ++ ys) ≡ max (greatest xs) (greatest ys)
greatest-append [] ys = omega arith
greatest-append (x ∷ xs) ys = let tail = greatest-append xs ys in omega arith

flat_map-range_more : (f : ℕ → List ℕ) (t : ℕ) → flat_map f (range_with_len 0 (t + 1)) ≡ flat_map f (range_with_len 0 t) ++ f t
flat_map-range_more f t = ap (flat_map f) (range_more t)
    ∙ (flat_map-append f (range_with_len 0 t) (t ∷ [])
    ∙ ap (λ (more : List ℕ). flat_map f (range_with_len 0 t) ++ more) (append-nil (f t)))

-- how many cells each queue that is entered in slot s has then
abbrev lengths_in : JobValue → ℕ → List ℕ
lengths_in job s = (slot_of job s).lengths

-- the queues with the cells of a slot are those before the decision
pub filled-are : (job : JobValue) (t : ℕ) (old mid : Arrivals) → HasTakenIn job t old → HaveCome (is_measured job t) (coming job t) old mid
    → mid.queues ≡ (slot_of job t).filled
filled-are job t old mid has come =
    come.queues ∙ (ap (λ (queues : Queues). all_entered queues (coming job t)) has.queues ∙ sym (filled-is job t))

-- the cells that came, and the queues after what is served left
pub HasTakenIn-more : (job : JobValue) (t : ℕ) (old mid : Arrivals) (after : Queues) → job.traffic.ports ≤ MAX_PORTS
    → HasTakenIn job t old → HaveCome (is_measured job t) (coming job t) old mid → AreArrivals job.traffic.ports (MAX_PORTS * t + job.traffic.ports) mid
    → after ≡ (slot_of job t).after.queues → after.ports ≡ job.traffic.ports → after.queueing ≡ queueing_of job.settings.discipline → AllCame (t + 1) after
    → HasTakenIn job (t + 1) (record mid { queues = after })
HasTakenIn-more job t old mid after size has come sizes left ports queueing came = record {
  queues = left ∙ sym (ap (λ switch. switch.queues) (after-is job t));
  queueing = queueing;
  sizes = record {
    ports = ports;
    arrived = sizes.arrived;
    dropped = sizes.dropped;
    few = omega (arith, size, sizes.few);
    few_dropped = omega (arith, size, sizes.few_dropped);
  };
  came = came;
  arrived = subst (HasCounted mid.arrived)
      (ap (λ (cells : List ArrivedCell). inputs (arrivals job t) ++ where_measured (is_measured job t) (inputs cells)) (sym (came-is job t))
      ∙ sym (map_flat_map-measured (λ s. (slot_of job s).came) job t (λ c. c.input)))
      (come.arrived (inputs (arrivals job t)) has.arrived);
  dropped = subst (HasCounted mid.dropped)
      (ap (λ (cells : List ArrivedCell). inputs (drops job t) ++ where_measured (is_measured job t) (inputs cells)) dropped_same
      ∙ sym (map_flat_map-measured (λ s. (slot_of job s).dropped) job t (λ c. c.input)))
      (come.dropped (inputs (drops job t)) has.dropped);
  peak = come.peak ∙ (ap (λ (n : ℕ). max n (greatest (lengths old.queues (coming job t)))) has.peak
      ∙ (ap (λ (ns : List ℕ). max (greatest (flat_map (lengths_in job) (range_with_len 0 t))) (greatest ns)) lengths_same
      ∙ (sym (greatest-append (flat_map (lengths_in job) (range_with_len 0 t)) (lengths_in job t))
      ∙ ap greatest (sym (flat_map-range_more (lengths_in job) t)))));
}
  where
    dropped_same : dropped old.queues (coming job t) ≡ (slot_of job t).dropped
    dropped_same = ap (λ (queues : Queues). dropped queues (coming job t)) has.queues ∙ sym (dropped-is job t)

    lengths_same : lengths old.queues (coming job t) ≡ (slot_of job t).lengths
    lengths_same = ap (λ (queues : Queues). lengths queues (coming job t)) has.queues ∙ sym (lengths-is job t)

-- what is decided by the same is the same
same_decision : (d e : Discipline) (n m r s t : ℕ) (queues filled : Queues) (p q : Places) (w x : ℕ) → d ≡ e → n ≡ m → r ≡ s → queues ≡ filled → p ≡ q
    → w ≡ x → decision_by d n r t (rows_of queues) p w ≡ decision_by e m s t (rows_of filled) q x
same_decision d e n m r s t queues filled p q w x discipline ports rounds same places picks =
    λ i. decision_by (discipline i) (ports i) (rounds i) t (rows_of (same i)) (places i) (picks i)

same_picks : (d e : Discipline) (n m r s : ℕ) (queues filled : Queues) (w x : ℕ) → d ≡ e → n ≡ m → r ≡ s → queues ≡ filled → w ≡ x
    → picks_by d n r (rows_of queues) w ≡ picks_by e m s (rows_of filled) x
same_picks d e n m r s queues filled w x discipline ports rounds same picks =
    λ i. picks_by (discipline i) (ports i) (rounds i) (rows_of (same i)) (picks i)

-- the decision of the slot
pub decided-is : (job : JobValue) (t : ℕ) (old : ArbiterValue) (queues : Queues) (decision : Decision) → HasDecided job t old
    → queues ≡ (slot_of job t).filled
    → decision ≡ decision_by old.discipline old.places.ports old.rounds t (rows_of queues) old.places old.picks
    → decision ≡ (slot_of job t).decision
decided-is job t old queues decision has same is =
    is ∙ (same_decision old.discipline job.settings.discipline old.places.ports job.traffic.ports old.rounds job.settings.rounds t queues (slot_of job t).filled
    old.places (switch_before job t).places old.picks (switch_before job t).picks has.discipline has.ports has.rounds same has.places has.picks
    ∙ sym (decision-is job t))

-- and where the stream of picks is after it
picked-is : (job : JobValue) (t : ℕ) (old : ArbiterValue) (queues : Queues) (picks : ℕ) → HasDecided job t old → queues ≡ (slot_of job t).filled
    → picks ≡ picks_by old.discipline old.places.ports old.rounds (rows_of queues) old.picks → picks ≡ (switch_before job (t + 1)).picks
picked-is job t old queues picks has same is =
    is ∙ (same_picks old.discipline job.settings.discipline old.places.ports job.traffic.ports old.rounds job.settings.rounds queues (slot_of job t).filled
    old.picks (switch_before job t).picks has.discipline has.ports has.rounds same has.picks
    ∙ (sym (picks-is job t) ∙ sym (ap (λ switch. switch.picks) (after-is job t))))

-- the arbiter
pub HasDecided-more : (job : JobValue) (t : ℕ) (old new : ArbiterValue) (queues : Queues) (used : RoundsUsed)
    → HasDecided job t old → queues ≡ (slot_of job t).filled
    → (new.discipline ≡ old.discipline) × (new.rounds ≡ old.rounds) × (new.places.ports ≡ old.places.ports)
    → record { matched = new.matched; numbers = used; places = new.places } ≡ (slot_of job t).decision
    → new.picks ≡ picks_by old.discipline old.places.ports old.rounds (rows_of queues) old.picks
    → new.meter.count ≤ old.meter.count + 1
    → (is_ideal old.discipline ≡ false → (slots : List NotedSlot) → HasNoted old.meter slots
    → HasNoted new.meter (slots ++ record { rows = rows_of queues; matched = new.matched } ∷ []))
    → HasDecided job (t + 1) new
HasDecided-more job t old new queues used has same kept decided picked count noted = record {
  discipline = kept.0 ∙ has.discipline;
  rounds = kept.1 ∙ has.rounds;
  places = ap (λ (d : Decision). d.places) decided ∙ (sym (places-is job t) ∙ sym (ap (λ switch. switch.places) (after-is job t)));
  picks = picked-is job t old queues new.picks has same picked;
  ports = kept.2 ∙ has.ports;
  few = omega (arith, count, has.few);
  noted = λ scheduled. subst (HasNoted new.meter)
      (ap (λ (slot : NotedSlot). map (noted_in job) (range_with_len 0 t) ++ slot ∷ []) noted_same
      ∙ sym (map-range_with_len_more (noted_in job) 0 t t (omega arith)))
      (noted (ap is_ideal has.discipline ∙ scheduled) (map (noted_in job) (range_with_len 0 t)) (has.noted scheduled));
}
  where
    noted_same : record { rows = rows_of queues; matched = new.matched } ≡ noted_in job t
    noted_same = ap (λ (queues : Queues). record { rows = rows_of queues; matched = new.matched }) same
        ∙ ap (λ (matched : List (Option Fed)). record { rows = rows_of (slot_of job t).filled; matched = matched }) (ap (λ (d : Decision). d.matched) decided)

-- ---- what leaves
module _ (job : JobValue) (t : ℕ) where
  -- what is served of the switch of a job
  pub served-are : (d : Discipline) (n : ℕ) (matched : List (Option Fed)) → d ≡ job.settings.discipline → n ≡ job.traffic.ports
      → matched ≡ (slot_of job t).decision.matched → served_queues d n matched n ≡ served_in job t
  served-are d n matched discipline ports same =
      ap (λ (d : Discipline). served_queues d n matched n) discipline ∙ (ap (λ (n : ℕ). served_queues job.settings.discipline n matched n) ports
      ∙ ap (λ (m : List (Option Fed)). served_queues job.settings.discipline job.traffic.ports m job.traffic.ports) same)

  -- of a batch, what the measured slot of the batch has
  batched-is : {Y : Type 0} (f : ℕ → ArrivedCell → Y) (cells : List ArrivedCell)
      → where_batched (batch_at job t) f cells ≡ where_measured (is_measured job t) (map (f (batch_of job t)) cells)
  batched-is {Y} f cells = go (is_measured job t)
    where
      go : (begun : Bool) → where_batched (if begun then Some (batch_of job t) else None) f cells ≡ where_measured begun (map (f (batch_of job t)) cells)
      go true = refl
      go false = refl

  -- what is told of the departures with those of the slot
  departures-more : {Y : Type 0} (g : Departure → Y)
      → map g (departures job (t + 1))
      ≡ map g (departures job t) ++ where_measured (is_measured job t) (map (λ cell. g (record { slot = t; cell = cell })) (slot_of job t).departed)
  departures-more {Y} g = map_flat_map-measured (departures_in job) job t g
      ∙ ap (λ (more : List Y). map g (departures job t) ++ where_measured (is_measured job t) more)
      (map-map g (λ cell. record { slot = t; cell = cell }) (slot_of job t).departed)

  -- the same, as it is counted
  counted-more : {Y : Type 0} (g : Departure → Y) (f : ℕ → ArrivedCell → Y) → f (batch_of job t) ≡ (λ cell. g (record { slot = t; cell = cell }))
      → map g (departures job t) ++ where_batched (batch_at job t) f (slot_of job t).departed ≡ map g (departures job (t + 1))
  counted-more {Y} g f same = ap (λ (more : List Y). map g (departures job t) ++ more)
      (batched-is f (slot_of job t).departed
      ∙ ap (λ (h : ArrivedCell → Y). where_measured (is_measured job t) (map h (slot_of job t).departed)) same)
      ∙ sym (departures-more g)

  -- a port of the cells that departed
  of_cells : (port : ArrivedCell → ℕ) (s : ℕ) → map port (departed_cells job s) ≡ map (λ (d : Departure). port d.cell) (departures job s)
  of_cells port s = map-map port (λ (d : Departure). d.cell) (departures job s)

  ports-more : (port : ArrivedCell → ℕ)
      → map port (departed_cells job t) ++ where_batched (batch_at job t) (λ b cell. port cell) (slot_of job t).departed ≡ map port (departed_cells job (t + 1))
  ports-more port = ap (λ (ports : List ℕ). ports ++ where_batched (batch_at job t) (λ b cell. port cell) (slot_of job t).departed) (of_cells port t)
      ∙ (counted-more (λ d. port d.cell) (λ b cell. port cell) refl ∙ sym (of_cells port (t + 1)))

  pub HasCountedDeparted-more : (old new : Departed) → job.traffic.ports ≤ MAX_PORTS → HasCountedDeparted job t old
      → HaveDeparted t (batch_at job t) (slot_of job t).departed old new
      → AreDeparted job.traffic.ports job.settings.batches (MAX_PORTS * t + job.traffic.ports) new → HasCountedDeparted job (t + 1) new
  HasCountedDeparted-more old new size has departed sizes = record {
    sizes = record {
      left = sizes.left;
      fed = sizes.fed;
      delays = sizes.delays;
      counts = sizes.counts;
      few_left = omega (arith, size, sizes.few_left);
      few_fed = omega (arith, size, sizes.few_fed);
      few_batched = omega (arith, size, sizes.few_batched);
      few_delays = omega (arith, size, sizes.few_delays);
    };
    left = subst (HasCounted new.left) (ports-more (λ c. c.input)) (departed.left (inputs (departed_cells job t)) has.left);
    fed = subst (HasCounted new.fed) (ports-more (λ c. c.output)) (departed.fed (outputs (departed_cells job t)) has.fed);
    batches = subst (HasBatched new.batches)
        (counted-more (λ d. record { batch = batch_of job d.slot; delay = delay_of d }) (λ b c. record { batch = b; delay = delay_in t c }) refl)
        (departed.batches (batch_delays job t) has.batches);
    delays = subst (HasDelays new.delays) (counted-more delay_of (λ b c. delay_in t c) refl) (departed.delays (map delay_of (departures job t)) has.delays);
  }

-- ---- what is counted of the whole slot
part_within : (begun : Bool) (x most : ℕ) → x ≤ most → (if begun then x else 0) ≤ most
part_within true x most le = le
part_within false x most le = omega arith

-- of slot s: the cells that wait when all have come and when it ends, the rounds that added a pair, and the pairs of the first
abbrev held_in : JobValue → ℕ → ℕ
held_in job s = held_count (slot_of job s).filled

abbrev rest_in : JobValue → ℕ → ℕ
rest_in job s = held_count (slot_of job s).after.queues

abbrev used_in : JobValue → ℕ → ℕ
used_in job s = (slot_of job s).decision.numbers.used

abbrev first_in : JobValue → ℕ → ℕ
first_in job s = (slot_of job s).decision.numbers.first

module _ (job : JobValue) (t : ℕ) (counts : SlotCounts) (waiting : WaitingNumbers) (used : RoundsUsed) (held rest : ℕ) where
  -- the counts with the slot
  abbrev pub counts_after : SlotCounts
  counts_after = ended (is_measured job t) used rest (filled held (begun (t == job.settings.warm_up) waiting counts))

  before-more : (w : ℕ) → (w < t → counts.before ≡ waiting_before job w) → waiting ≡ waiting_before job t → w < t + 1
      → (if t == w then waiting else counts.before) ≡ waiting_before job w
  before-more w was is later = elim (cases_eq t w) [
    | inl same ↦ ap (λ (b : Bool). if b then waiting else counts.before) (eq-eqb t w same) ∙ (is ∙ ap (waiting_before job) same)
    | inr ne ↦ ap (λ (b : Bool). if b then waiting else counts.before) (ne_eqb t w ne) ∙ was (omega (arith, later, ne))
  ]

  pub HasSummed-more : HasSummed job t counts → waiting ≡ waiting_before job t → held ≡ held_count (slot_of job t).filled
      → rest ≡ held_count (slot_of job t).after.queues → rest ≤ MAX_CELLS → used ≡ (slot_of job t).decision.numbers
      → counts_after.rounds_used ≤ counts.rounds_used + 2 ^ 32 → counts_after.first_pairs ≤ counts.first_pairs + 2 ^ 32
      → HasSummed job (t + 1) counts_after
  HasSummed-more has waits fills rests few uses few_rounds few_pairs = let last : held ≡ greatest (held_in job t ∷ []) = omega (arith, fills) in record {
    most = ap (λ (n : ℕ). max n held) has.most
        ∙ (ap (λ (n : ℕ). max (greatest (map (held_in job) (range_with_len 0 t))) n) last
        ∙ (sym (greatest-append (map (held_in job) (range_with_len 0 t)) (held_in job t ∷ []))
        ∙ ap greatest (sym (map-range_with_len_more (held_in job) 0 t t (omega arith)))));
    before = before-more job.settings.warm_up has.before waits;
    cell_slots = ap (λ (n : ℕ). n + (if is_measured job t then rest else 0)) has.cell_slots
        ∙ (ap (λ (n : ℕ). sum_by (rest_in job) (measured job t) + (if is_measured job t then n else 0)) rests ∙ sym (sum_by-measured (rest_in job) job t));
    rounds_used = ap (λ (n : ℕ). n + (if is_measured job t then used.used else 0)) has.rounds_used
        ∙ (ap (λ (u : RoundsUsed). sum_by (used_in job) (measured job t) + (if is_measured job t then u.used else 0)) uses
        ∙ sym (sum_by-measured (used_in job) job t));
    first_pairs = ap (λ (n : ℕ). n + (if is_measured job t then used.first else 0)) has.first_pairs
        ∙ (ap (λ (u : RoundsUsed). sum_by (first_in job) (measured job t) + (if is_measured job t then u.first else 0)) uses
        ∙ sym (sum_by-measured (first_in job) job t));
    few_cells = omega (arith, has.few_cells, part_within (is_measured job t) rest MAX_CELLS few);
    few_rounds = omega (arith, has.few_rounds, few_rounds);
    few_pairs = omega (arith, has.few_pairs, few_pairs);
  }
