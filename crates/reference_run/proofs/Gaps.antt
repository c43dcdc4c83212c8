-- Gaps of a run: in them nothing is matched, no cell waits in the reference's queues, and no packet of its own comes.
use Rattle.std.proofs.Common.{◌≡◌, ◌∙◌, ℕ, zero, suc, ◌+◌, ◌-◌, ◌<◌, ◌≤◌, List, [], ◌∷◌, ◌++◌, length, replicate, Some, slice_get, slice_index_or}
use Rattle.std.proofs.Common.{sym, ap, subst, arith, inl, inr, append_assoc}
use Rattle.std.proofs.lemmas.Bool.{cases_lt}
use Rattle.std.proofs.lemmas.List.{append-nil, replicate_more, get_or-replicate, get_or-map, get_or_past, length-map}
use Rattle.std.proofs.lemmas.List.FromFn.{get_or-map-range_with_len}
use Rattle.std.proofs.lemmas.Option.{slice_get_within, get_or_from_slice_get}
use Rattle.rotating_pick.specs.declared.kinds.Kind.{Kind}
use Rattle.rotating_pick.specs.declared.kinds.Kind.TheVariants.{Uni, Multi}
use Rattle.slot_match.specs.Rows.{IsEmptyRow, empty_row, no_row}
use Rattle.slot_match.specs.Matches.{unmatched}
use Rattle.slot_histories.proofs.EventTests.{IsEmptyRow-empty}
use Rattle.eslip_rounds.specs.Slots.{Decision}
use Rattle.eslip_rounds.specs.Schedulers.{Scheduler}
use Rattle.card_core.specs.declared.plan.Planned.{Planned}
use Rattle.card_core.specs.Queues.{waiting, before as queue_before}
use Rattle.card_core.specs.Posts.{row_at}
use Rattle.switch_plan.specs.GoodPlans.{SwitchPlan, IsGood}
use Rattle.run_laws.specs.Runs.{ports_of, card_at, no_plan, parts_under}
use Rattle.run_laws.specs.Crossings.{queue_to}
use Rattle.run_laws.proofs.Base.{good-card, decision-same, row_at-same}
use Rattle.run_laws.proofs.Emptied.{none_waits, stays_empty}
use Rattle.idle_slots.specs.Skipped.{IsGap}
use Rattle.output_queued.specs.declared.coming.Coming.{Coming}
use Rattle.output_queued.specs.Switches.{Matched, served_in, card_of, AreEmptied}
use Rattle.output_queued.specs.NotingSteps.{Source, State, no_source, source_at, cards_in}
use Rattle.output_queued.proofs.Noted.{coming-at, cards-in-good, cards-long}
use Rattle.reference_run.specs.RunLines.{run_matches_under}
use Rattle.reference_run.specs.Meeting.{coming_in}
use Rattle.reference_run.specs.MeetingSteps.{IsReferenceOf}
use Rattle.reference_run.proofs.Alike.{row-told}
use Rattle.reference_run.proofs.Matches.{match_of, matches-long, matches-more, served-run}
use Rattle.reference_run.proofs.Told.{card-told}
use Rattle.reference_run.proofs.ToldInputs.{stands-at}

-- ---- what is matched
module _ (scheduler : Scheduler) (plan : SwitchPlan) (slot next : ℕ) (gap : IsGap scheduler plan slot next) where
  nothing-matched : (t : ℕ) → slot ≤ t → t < next → match_of scheduler plan t ≡ unmatched (ports_of plan)
  nothing-matched t from until =
      let begins = gap.begins in
      ap (λ (d : Decision). d.matched) (sym (decision-same scheduler plan t) ∙ gap.idle.decisions t (omega arith) until)

  matches-to : (k : ℕ) → slot + k ≤ next
      → run_matches_under scheduler plan (slot + k) ≡ run_matches_under scheduler plan slot ++ replicate k (unmatched (ports_of plan))
  matches-to zero within =
      let same : slot + 0 ≡ slot = omega arith in
      ap (run_matches_under scheduler plan) same ∙ sym (append-nil (run_matches_under scheduler plan slot))
  matches-to (suc k) within =
      let one = unmatched (ports_of plan) in
      let first = run_matches_under scheduler plan slot in
      let at : slot + suc k ≡ slot + k + 1 = omega arith in
      let count : k + 1 ≡ suc k = omega arith in
      ap (run_matches_under scheduler plan) at
      ∙ matches-more scheduler plan (slot + k)
      ∙ ap (λ m. run_matches_under scheduler plan (slot + k) ++ m ∷ []) (nothing-matched (slot + k) (omega arith) (omega arith))
      ∙ ap (λ ms. ms ++ one ∷ []) (matches-to k (omega arith))
      ∙ append_assoc first (replicate k one) (one ∷ [])
      ∙ ap (λ ms. first ++ ms) (replicate_more k one ∙ ap (λ n. replicate n one) count)

  pub gap-matches : run_matches_under scheduler plan next ≡ run_matches_under scheduler plan slot ++ replicate (next - slot) (unmatched (ports_of plan))
  gap-matches =
      let begins = gap.begins in
      let some = gap.some in
      let whole : slot + (next - slot) ≡ next = omega arith in
      ap (run_matches_under scheduler plan) (sym whole) ∙ matches-to (next - slot) (omega arith)

module _ (scheduler : Scheduler) (plan : SwitchPlan) (good : IsGood plan) (slot next : ℕ) (gap : IsGap scheduler plan slot next) (r : State)
    (is : IsReferenceOf plan r (run_matches_under scheduler plan slot)) where
  abbrev matches : List Matched
  matches = run_matches_under scheduler plan slot

  -- ---- what waits
  -- in the slot before it no input asks
  empty-row : (i : ℕ) → i < ports_of plan → row_at (card_at plan i) (parts_under scheduler plan i gap.before) gap.before ≡ empty_row
  empty-row i inside =
      sym (get_or-map-range_with_len (λ j. row_at (card_at plan j) (parts_under scheduler plan j gap.before) gap.before) 0 (ports_of plan) i i no_row inside
      (omega arith))
      ∙ ap (λ rows. slice_index_or rows i no_row) (gap.idle.rows gap.before (omega arith) gap.some)
      ∙ get_or-replicate (ports_of plan) i empty_row no_row inside

  told-row : (i : ℕ) → i < ports_of plan → row_at (card_of (cards_in r) i) (served_in matches i) gap.before ≡ empty_row
  told-row i inside =
      let begins = gap.begins in
      ap (λ card. row_at card (served_in matches i) gap.before) (card-told plan good r matches is i inside)
      ∙ row-told (card_at plan i) (good-card plan good i inside).good (served_in matches i) gap.before
      ∙ ap (λ served. row_at (card_at plan i) served gap.before) (served-run scheduler plan slot i)
      ∙ row_at-same scheduler plan i gap.before slot (omega arith)
      ∙ empty-row i inside

  emptied : (i j level : ℕ) (kind : Kind) → i < length (cards_in r) → j < length (cards_in r) → level < 4
      → waiting (queue_before (card_of (cards_in r) i) (queue_to j level kind) (served_in matches i) (length matches)) ≡ []
  emptied i j level kind inside to below =
      let card = card_of (cards_in r) i in
      let q = queue_to j level kind in
      let served = served_in matches i in
      let cards = cards-in-good r matches is.noted in
      let long = cards-long r matches is.noted in
      let ports = is.ports in
      let mine = cards.ports i inside in
      let slots = matches-long scheduler plan slot in
      let begins = gap.begins in
      let last : length matches ≡ suc gap.before = omega arith in
      let none = subst IsEmptyRow (sym (told-row i (omega arith))) IsEmptyRow-empty in
      ap (λ t. waiting (queue_before card q served t)) last
      ∙ stays_empty card q j served gap.before (none_waits card (cards.good i inside) served gap.before none j level kind (omega arith) below)

  pub gap-emptied : AreEmptied (cards_in r) matches
  gap-emptied = record {
    unicast = λ i j level inside to below. emptied i j level Uni inside to below;
    multicast = λ i level inside below. emptied i i level Multi inside inside below;
  }

  -- ---- what comes
  coming-there : (i : ℕ) → i < ports_of plan → (source_at r.sources i).coming ≡ coming_in (card_at plan i)
  coming-there i inside =
      let long = ap length is.coming in
      let all = length-map plan.cards coming_in in
      let sources = length-map r.sources (λ (source : Source). source.coming) in
      sym (coming-at r.ports r.depth r.sources i (omega arith)) ∙ ap (λ lists. slice_index_or lists i []) is.coming
      ∙ get_or-map coming_in plan.cards i no_plan [] inside

  comes-of : (i k : ℕ) (c : Coming) → i < ports_of plan → slice_get (coming_in (card_at plan i)) k ≡ Some c → slot ≤ c.slot → next ≤ c.slot
  comes-of i k c inside there from =
      let packets = (card_at plan i).packets in
      let at = stands-at packets k c there in
      let arrives : at.packet.arrival ≡ c.slot = ap (λ (d : Coming). d.slot) at.same in
      let same = get_or_from_slice_get packets at.place at.packet at.packet at.found in
      let arrival = ap (λ (p : Planned). p.arrival) same in
      elim (gap.none i inside at.place at.packet (slice_get_within packets at.place at.packet at.found)) [
        | inl early ↦ absurd (omega arith)
        | inr late ↦ omega arith
      ]

  pub gap-comes : (i k : ℕ) (c : Coming) → slice_get (source_at r.sources i).coming k ≡ Some c → length matches ≤ c.slot
      → length matches + (next - slot) ≤ c.slot
  gap-comes i k c there from =
      let slots = matches-long scheduler plan slot in
      let begins = gap.begins in
      let some = gap.some in
      let long = ap length is.coming in
      let all = length-map plan.cards coming_in in
      let sources = length-map r.sources (λ (source : Source). source.coming) in
      elim (cases_lt i (ports_of plan)) [
        | inl inside ↦
            let late = comes-of i k c inside (ap (λ (cs : List Coming). slice_get cs k) (sym (coming-there i inside)) ∙ there) (omega arith) in
            omega arith
        | inr past ↦
            let nothing : (source_at r.sources i).coming ≡ [] =
            ap (λ (source : Source). source.coming) (get_or_past r.sources i no_source (omega arith)) in
            let gone = rw nothing at there in
            absurd (cc)
      ]
