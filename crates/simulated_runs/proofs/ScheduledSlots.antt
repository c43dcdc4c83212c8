-- The slots of a simulation are a schedule of rows that are kept.
use Rattle.std.proofs.Common.{◌≡◌, ◌≢◌, ◌∙◌, ◌+◌, ◌<◌, ◌==◌, ◌&&◌, ap, refl, sym, subst, arith, ℕ, zero, suc, add-one, Bool, true, false, List, map, inl, inr}
use Rattle.std.specs.Prelude.{All, Option, None, Some, IfSome, option_map, slice_index_or}
use Rattle.std.specs.List.{range_with_len}
use Rattle.std.proofs.lemmas.Bool.{cases_Bool, eq-eqb, eqb-true}
use Rattle.std.proofs.lemmas.List.FromFn.{get_or-map-range_with_len, length-map-range_with_len}
use Rattle.std.proofs.lemmas.Option.{same_Some}
use Rattle.rotating_pick.specs.PortSets.{Has}
use Rattle.rotating_pick.specs.declared.kinds.Kind.{Kind}
use Rattle.rotating_pick.specs.declared.kinds.Kind.TheVariants.{Uni, Multi}
use Rattle.rotating_pick.proofs.Bits.{no_member-zero}
use Rattle.rotating_pick.proofs.Tables.{no_members}
use Rattle.slot_match.specs.declared.rows.Row.{Row}
use Rattle.slot_match.specs.declared.matching.Fed.{Fed}
use Rattle.slot_match.specs.Rows.{AreWithin, Names, no_row, row_of}
use Rattle.slot_match.specs.Parts.{set_of}
use Rattle.slot_match.specs.Matches.{Serves, fed_of}
use Rattle.slot_match.specs.Keeping.{Keeps}
use Rattle.slot_match.proofs.Sets.{Has-set_of}
use Rattle.pointer_state.specs.Places.{AreAtPorts, Places, places_at_first}
use Rattle.pointer_state.proofs.Moves.{AreAtPorts-at_first}
use Rattle.eslip_rounds.specs.Slots.{Decision, IsSlotBy, Moving}
use Rattle.eslip_rounds.specs.Schedules.{DecidedSlot, IsScheduleBy}
use Rattle.eslip_rounds.specs.Schedulers.{IsSchedulerBy, Scheduler, StayAtPorts}
use Rattle.eslip_rounds.proofs.Unique.{IsMatch-slot_by, Serves-named_by}
use Rattle.named_schedulers.specs.Named.{decision_named}
use Rattle.named_schedulers.proofs.Schedulers.{IsScheduler-named}
use Rattle.service_bound.specs.Windows.{AreKept, IsWithoutMulticast}
use Rattle.made_traffic.specs.Sources.{IsTraffic}
use Rattle.random_picks.proofs.Asked.{pairs-asked}
use Rattle.arrival_queues.specs.declared.cell.ArrivedCell.{ArrivedCell}
use Rattle.arrival_queues.specs.Queues.{Queues, head_of, is_asked, is_between, queue_of, row_asking, rows_of}
use Rattle.arrival_queues.proofs.Asking.{rows-within}
use Rattle.simulated_slots.specs.Jobs.{JobValue, is_ideal, is_random, queueing_of, rounds_by, scheduler_of}
use Rattle.simulated_slots.specs.Slots.{coming, random_decision, served_queue, slot_of, switch_before}
use Rattle.simulated_runs.proofs.Coming.{All-given, All-range}
use Rattle.simulated_runs.proofs.HeadCells.{head-entered, head-left, owns, place-of}
use Rattle.simulated_runs.proofs.MadeSlots.{after-is, decision-is, filled-is, left-is, places-is, served_in}

-- ---- what a row names
named-one : (outputs level j : ℕ) (kind : Kind) → Names (row_asking outputs) level kind j → (level ≡ 0) × (kind ≡ Uni) × Has outputs j
named-one outputs zero j Uni names = (refl, refl, names)
named-one outputs (suc zero) j Uni names = absurd (no_member-zero j names)
named-one outputs (suc (suc zero)) j Uni names = absurd (no_member-zero j names)
named-one outputs (suc (suc (suc zero))) j Uni names = absurd (no_member-zero j names)
named-one outputs (suc (suc (suc (suc level)))) j Uni names = absurd (no_member-zero j names)
named-one outputs level j Multi names = absurd (no_members 4 level j names)

both_true : (a b : Bool) → (a && b) ≡ true → (a ≡ true) × (b ≡ true)
both_true true true is = (refl, refl)
both_true true false is = absurd cc
both_true false b is = absurd cc

between-some : (i j : ℕ) (o : Option ArrivedCell) → is_between i j o ≡ true → (c : ArrivedCell) × (o ≡ Some c) × (c.input ≡ i) × (c.output ≡ j)
between-some i j None is = absurd cc
between-some i j (Some c) is =
    let p = both_true (c.input == i) (c.output == j) is in
    (c, refl, eqb-true c.input i p.0, eqb-true c.output j p.1)

between-is : (i j : ℕ) (o : Option ArrivedCell) (c : ArrivedCell) → o ≡ Some c → c.input ≡ i → c.output ≡ j → is_between i j o ≡ true
between-is i j o c is input output = rw (is, eq-eqb c.input i input, eq-eqb c.output j output) refl

row-at : (queues : Queues) (i : ℕ) → i < queues.ports → row_of (rows_of queues) i ≡ row_asking (set_of queues.ports (is_asked queues i))
unfolding rows_of
row-at queues i inside =
    get_or-map-range_with_len (λ k. row_asking (set_of queues.ports (is_asked queues k))) 0 queues.ports i i no_row inside (omega arith)

ports-at_first : (n : ℕ) → (places_at_first n).ports ≡ n
unfolding places_at_first
ports-at_first n = refl

module _ (job : JobValue) where
  abbrev pub rows_in : ℕ → List Row
  rows_in t = rows_of (slot_of job t).filled

  abbrev pub places_in : ℕ → Places
  places_in t = (switch_before job t).places

  -- the queue of the cells from input i to output j
  abbrev pub place : ℕ → ℕ → ℕ
  place i j = queue_of (queueing_of job.settings.discipline) job.traffic.ports i j

  -- a cell from input i to output j is the first of its queue
  pub record IsFirst (t i j : ℕ) : Type 0 where
    pub inside : j < job.traffic.ports
    pub cell : ArrivedCell
    pub first : head_of (slot_of job t).filled (place i j) ≡ Some cell
    pub input : cell.input ≡ i
    pub output : cell.output ≡ j

  module _ (t i : ℕ) (i_in : i < job.traffic.ports) where
    row-is : row_of (rows_in t) i ≡ row_asking (set_of job.traffic.ports (is_asked (slot_of job t).filled i))
    row-is = row-at (slot_of job t).filled i (omega (arith, i_in, (owns job t).ports))
        ∙ ap (λ (n : ℕ). row_asking (set_of n (is_asked (slot_of job t).filled i))) (owns job t).ports

    place-is : (j : ℕ) → head_of (slot_of job t).filled (queue_of (slot_of job t).filled.queueing (slot_of job t).filled.ports i j)
        ≡ head_of (slot_of job t).filled (place i j)
    place-is j = ap (head_of (slot_of job t).filled)
        (place-of (queueing_of job.settings.discipline) job.traffic.ports (slot_of job t).filled i j (owns job t))

    pub named-first : (level j : ℕ) (kind : Kind) → Names (row_of (rows_in t) i) level kind j → (level ≡ 0) × (kind ≡ Uni) × IsFirst t i j
    named-first level j kind names =
        let asks = is_asked (slot_of job t).filled i in
        let here = named-one (set_of job.traffic.ports asks) level j kind (subst (λ (row : Row). Names row level kind j) row-is names) in
        let member = (Has-set_of job.traffic.ports asks j).0 here.2 in
        let found = between-some i j (head_of (slot_of job t).filled (place i j)) (ap (is_between i j) (sym (place-is j)) ∙ member.1) in
        (here.0, here.1, record { inside = member.0; cell = found.0; first = found.1; input = found.2; output = found.3 })

    pub first-named : (j : ℕ) → IsFirst t i j → Names (row_of (rows_in t) i) 0 Uni j
    first-named j is =
        let asks = is_asked (slot_of job t).filled i in
        let yes : asks j ≡ true = ap (is_between i j) (place-is j)
        ∙ between-is i j (head_of (slot_of job t).filled (place i j)) is.cell is.first is.input is.output in
        subst (λ (row : Row). Names row 0 Uni j) (sym row-is) ((Has-set_of job.traffic.ports asks j).1 (is.inside, yes))

  pub alone-in : (t : ℕ) → IsWithoutMulticast job.traffic.ports 0 (rows_in t)
  alone-in t i j i_in names = let kind : Multi ≡ Uni = (named-first t i i_in 0 j Multi names).1 in cc

  pub within-in : (t : ℕ) → AreWithin job.traffic.ports (rows_in t)
  within-in t = subst (λ (n : ℕ). AreWithin n (rows_in t)) (owns job t).ports (rows-within (slot_of job t).filled)

  pub places-next : (t : ℕ) → places_in (t + 1) ≡ (slot_of job t).decision.places
  places-next t = ap (λ switch. switch.places) (after-is job t) ∙ places-is job t

  places-first : places_in 0 ≡ places_at_first job.traffic.ports
  unfolding switch_before
  places-first = refl

  abbrev pub decided_in : ℕ → DecidedSlot
  decided_in t = record { rows = rows_in t; decision = (slot_of job t).decision }

  abbrev pub slots_in : ℕ → ℕ → List DecidedSlot
  slots_in t count = map decided_in (range_with_len t count)

  pub all-slots : (P : List Row → Type 0) → ((u : ℕ) → P (rows_in u)) → (t count : ℕ) → All (λ slot. P slot.rows) (slots_in t count)
  all-slots P each t count k d below =
      let long = length-map-range_with_len decided_in t count in
      let here : slice_index_or (slots_in t count) k d ≡ decided_in (t + k) =
      get_or-map-range_with_len decided_in t count k (t + k) d (omega (arith, long, below)) (omega arith) in
      subst (λ (slot : DecidedSlot). P slot.rows) (sym here) (each (t + k))

  module _ (traffic : IsTraffic job.traffic) (scheduled : is_ideal job.settings.discipline ≡ false) where
    abbrev pub rounds_in : ℕ
    rounds_in = rounds_by job.settings.discipline job.settings.rounds

    abbrev pub scheduler_in : Scheduler
    scheduler_in = decision_named (scheduler_of job.settings.discipline)

    -- ---- where a scheduler decides
    module _ (named : is_random job.settings.discipline ≡ false) where
      decided : (t : ℕ) → (slot_of job t).decision ≡ scheduler_in job.traffic.ports rounds_in t (rows_in t) (places_in t)
      decided t = decision-is job t ∙ rw (scheduled, named) refl

      at_ports-next : (t : ℕ) → AreAtPorts (places_in t) × ((places_in t).ports ≡ job.traffic.ports)
          → AreAtPorts (places_in (t + 1)) × ((places_in (t + 1)).ports ≡ job.traffic.ports)
      at_ports-next t at =
          let slot = IsScheduler-named (scheduler_of job.settings.discipline) job.traffic.ports rounds_in t (rows_in t) (places_in t) (within-in t) at.0 at.1 in
          let next = places-next t ∙ ap (λ decision. decision.places) (decided t) in
          (subst AreAtPorts (sym next) slot.moved.0, ap (λ (p : Places). p.ports) next ∙ slot.moved.1 ∙ at.1)

      pub at_ports : (t : ℕ) → AreAtPorts (places_in t) × ((places_in t).ports ≡ job.traffic.ports)
      at_ports zero = (
        subst AreAtPorts (sym places-first) (AreAtPorts-at_first job.traffic.ports traffic.some traffic.ports),
        ap (λ (p : Places). p.ports) places-first ∙ ports-at_first job.traffic.ports,
      )
      at_ports (suc t) = subst (λ (s : ℕ). AreAtPorts (places_in s) × ((places_in s).ports ≡ job.traffic.ports)) (add-one t) (at_ports-next t (at_ports t))

      pub slot-moved : (Moves : Moving) → IsSchedulerBy Moves scheduler_in → (t : ℕ)
          → IsSlotBy Moves job.traffic.ports rounds_in t (rows_in t) (places_in t) (slot_of job t).decision
      slot-moved Moves moving t = subst (IsSlotBy Moves job.traffic.ports rounds_in t (rows_in t) (places_in t)) (sym (decided t))
          (moving job.traffic.ports rounds_in t (rows_in t) (places_in t) (within-in t) (at_ports t).0 (at_ports t).1)

      -- what is so of each slot is so of a schedule
      pub slots-scheduled : (Moves : Moving)
          → ((u : ℕ) → IsSlotBy Moves job.traffic.ports rounds_in u (rows_in u) (places_in u) (slot_of job u).decision)
          → (t count : ℕ) → IsScheduleBy Moves job.traffic.ports rounds_in t (places_in t) (slots_in t count)
      slots-scheduled Moves each t zero = tt
      slots-scheduled Moves each t (suc count) = (
        each t,
        subst (λ (places : Places). IsScheduleBy Moves job.traffic.ports rounds_in (t + 1) places (slots_in (t + 1) count)) (places-next t)
            (slots-scheduled Moves each (t + 1) count),
      )

      served-named : (t i j level : ℕ) (kind : Kind) → Serves (slot_of job t).decision.matched i j level kind → (level ≡ 0) × (kind ≡ Uni) × IsFirst t i j
      served-named t i j level kind serves =
          let slot = slot-moved StayAtPorts (IsScheduler-named (scheduler_of job.settings.discipline)) t in
          let matched = IsMatch-slot_by job.traffic.ports rounds_in t (rows_in t) (places_in t) (within-in t) (at_ports t).0 (at_ports t).1 StayAtPorts
          (slot_of job t).decision slot in
          named-first t i (matched.input_in i j level kind serves) level j kind
          (Serves-named_by StayAtPorts job.traffic.ports rounds_in t (rows_in t) (places_in t) (slot_of job t).decision slot i j level kind serves)

    -- ---- where ports pick at random
    served-picked : is_random job.settings.discipline ≡ true → (t i j level : ℕ) (kind : Kind) → Serves (slot_of job t).decision.matched i j level kind
        → (level ≡ 0) × (kind ≡ Uni) × IsFirst t i j
    served-picked random t i j level kind serves =
        let decision : (slot_of job t).decision
        ≡ random_decision job.traffic.ports job.settings.rounds (rows_in t) (places_in t) (switch_before job t).picks =
        decision-is job t ∙ rw (scheduled, random) refl in
        let asked = pairs-asked job.traffic.ports (rows_in t) job.settings.rounds (switch_before job t).picks i j level kind
        (subst (λ (d : Decision). Serves d.matched i j level kind) decision serves) in
        (asked.1, asked.2, (named-first t i asked.0 0 j Uni asked.3).2)

    -- ---- a pair that is served is a first cell
    module _ (t : ℕ) where
      pub served-first : (i j level : ℕ) (kind : Kind) → Serves (slot_of job t).decision.matched i j level kind
          → (level ≡ 0) × (kind ≡ Uni) × IsFirst t i j
      served-first i j level kind serves = elim (cases_Bool (is_random job.settings.discipline)) [
        | inl random ↦ served-picked random t i j level kind serves
        | inr named ↦ served-named named t i j level kind serves
      ]

      -- the queue of a first cell that is not served is not served
      unserved : (i j : ℕ) → IsFirst t i j → (Serves (slot_of job t).decision.matched i j 0 Uni → ⊥) → All (λ k. place i j ≢ k) (served_in job t)
      unserved i j is not = All-given (served_queue job.settings.discipline job.traffic.ports (slot_of job t).decision.matched)
          (λ k. k < job.traffic.ports) (λ k. place i j ≢ k) (λ k k_in. rw scheduled (one k (fed_of (slot_of job t).decision.matched k) refl))
          (range_with_len 0 job.traffic.ports) (All-range job.traffic.ports)
        where
          one : (k : ℕ) (o : Option Fed) → fed_of (slot_of job t).decision.matched k ≡ o
              → IfSome (option_map (λ fed. place fed.input k) o) (λ q. place i j ≢ q)
          one k None fed = tt
          one k (Some fed) found = λ same.
              let other = served-first fed.input k fed.level fed.kind found in
              let cell : is.cell ≡ other.2.cell = same_Some is.cell other.2.cell
              (sym is.first ∙ ap (head_of (slot_of job t).filled) same ∙ other.2.first) in
              let input : fed.input ≡ i = sym other.2.input ∙ sym (ap (λ (c : ArrivedCell). c.input) cell) ∙ is.input in
              let output : k ≡ j = sym other.2.output ∙ sym (ap (λ (c : ArrivedCell). c.output) cell) ∙ is.output in
              not (ap (fed_of (slot_of job t).decision.matched) (sym output) ∙ found ∙ whole fed input other.0 other.1)
            where
              whole : (fed : Fed) → fed.input ≡ i → fed.level ≡ 0 → fed.kind ≡ Uni → Some fed ≡ Some (record { input = i; level = 0; kind = Uni })
              whole fed input level kind = λ x. Some (record { input = input x; level = level x; kind = kind x })

      pub first-stays : (i j : ℕ) → IsFirst t i j → (Serves (slot_of job t).decision.matched i j 0 Uni → ⊥) → IsFirst (t + 1) i j
      first-stays i j is not =
          let left = head-left (slot_of job t).filled (served_in job t) is.cell (place i j) (unserved i j is not) is.first in
          let before = ap (λ (queues : Queues). head_of queues (place i j)) (ap (λ switch. switch.queues) (after-is job t) ∙ left-is job t) ∙ left in
          let now = head-entered (switch_before job (t + 1)).queues (coming job (t + 1)) is.cell (place i j) before in
          record {
            inside = is.inside;
            cell = is.cell;
            first = ap (λ (queues : Queues). head_of queues (place i j)) (filled-is job (t + 1)) ∙ now;
            input = is.input;
            output = is.output;
          }

      -- so each row keeps the one before
      pub row-kept : (i : ℕ) → i < job.traffic.ports → Keeps (slot_of job t).decision.matched i (row_of (rows_in t) i) (row_of (rows_in (t + 1)) i)
      row-kept i i_in = record {
        uni = λ level j names not.
            let named = named-first t i i_in level j Uni names in
            let stays = first-stays i j named.2 (λ serves. not (subst (λ (l : ℕ). Serves (slot_of job t).decision.matched i j l Uni) (sym named.0) serves)) in
            subst (λ (l : ℕ). Names (row_of (rows_in (t + 1)) i) l Uni j) (sym named.0) (first-named (t + 1) i i_in j stays);
        multi = λ level j names. absurd (let kind : Multi ≡ Uni = (named-first t i i_in level j Multi names).1 in cc);
      }

    pub slots-kept : (t count : ℕ) → AreKept job.traffic.ports (slots_in t count)
    slots-kept t zero = tt
    slots-kept t (suc zero) = (tt, tt)
    slots-kept t (suc (suc count)) = (λ i i_in. row-kept t i i_in, slots-kept (t + 1) (suc count))
