-- A gap of a run changes nothing of what is kept.
use Rattle.std.proofs.Common.{◌≡◌, ◌∙◌, ℕ, zero, suc, ◌+◌, ◌-◌, ◌<◌, ◌≤◌, Bool, false, List, [], ◌∷◌, ◌++◌, length, map, filter, take, Option, None, replicate}
use Rattle.std.proofs.Common.{◌^◌, refl, sym, ap, subst, arith, inl, inr, slice_index_or}
use Rattle.std.specs.Prelude.{All}
use Rattle.std.specs.List.{range_with_len}
use Rattle.std.proofs.lemmas.Bool.{cases_eq}
use Rattle.std.proofs.lemmas.List.{append-nil}
use Rattle.std.proofs.lemmas.List.Elements.{filter-append}
use Rattle.std_lemmas.proofs.Ranges.{range_more}
use Rattle.slot_match.specs.declared.matching.Fed.{Fed}
use Rattle.slot_match.specs.Matches.{fed_of, unmatched}
use Rattle.slot_match.proofs.Kept.{fed_of-unmatched}
use Rattle.eslip_rounds.specs.Slots.{Decision}
use Rattle.eslip_rounds.specs.Schedulers.{Scheduler}
use Rattle.slot_histories.specs.Slots.{decision_under, crossed_under}
use Rattle.queue_lengths.proofs.Gaps.{kept-counts}
use Rattle.switch_plan.specs.GoodPlans.{SwitchPlan}
use Rattle.run_laws.specs.Runs.{ports_of, setup_for, card_at, parts_under, posts_under}
use Rattle.run_laws.proofs.Base.{decision-same, served-length}
use Rattle.run_laws.proofs.Crossed.{crossed-free}
use Rattle.idle_slots.specs.Skipped.{IsGap}
use Rattle.idle_slots.proofs.Gaps.{gap-ahead, gap-parts, gap-queues}
use Rattle.run_laws.specs.Departures.{Flow, is_end_of, ends_of}
use Rattle.packet_times.specs.NotingSteps.{Input, Times, no_input, was_admitted, IsNoted, IsLastMatch, HasNoted}
use Rattle.packet_times.proofs.Arriving.{all-later}

module _ (scheduler : Scheduler) (plan : SwitchPlan) (slot next : ℕ) (gap : IsGap scheduler plan slot next) where
  abbrev matched_in : ℕ → List (Option Fed)
  matched_in t = (decision_under scheduler (setup_for plan) (posts_under scheduler plan) t).matched

  nothing : (t : ℕ) → gap.before ≤ t → t < next → matched_in t ≡ unmatched (ports_of plan)
  nothing t from until = ap (λ (d : Decision). d.matched) (sym (decision-same scheduler plan t) ∙ gap.idle.decisions t from until)

  -- no message ends
  none-ends : (flow : Flow) (t : ℕ) → slot ≤ t → t < next
      → is_end_of flow (crossed_under scheduler (setup_for plan) (posts_under scheduler plan) flow.output t) ≡ false
  none-ends flow zero from until = let begins = gap.begins in absurd (omega arith)
  none-ends flow (suc v) from until =
      let begins = gap.begins in
      let free : fed_of (matched_in v) flow.output ≡ None =
      ap (λ m. fed_of m flow.output) (nothing v (omega arith) (omega arith)) ∙ fed_of-unmatched (ports_of plan) flow.output in
      ap (is_end_of flow) (crossed-free scheduler plan flow.output v free)

  ends-next : (flow : Flow) (t : ℕ) → slot ≤ t → t < next → ends_of scheduler plan flow (suc t) ≡ ends_of scheduler plan flow t
  ends-next flow t from until =
      let test : ℕ → Bool = λ s. is_end_of flow (crossed_under scheduler (setup_for plan) (posts_under scheduler plan) flow.output s) in
      let more : suc t ≡ t + 1 = omega arith in
      let none : filter test (t ∷ []) ≡ [] = rw (none-ends flow t from until) refl in
      ap (λ n. filter test (range_with_len 0 n)) more
      ∙ ap (filter test) (range_more t)
      ∙ filter-append test (range_with_len 0 t) (t ∷ [])
      ∙ ap (λ es. ends_of scheduler plan flow t ++ es) none
      ∙ append-nil (ends_of scheduler plan flow t)

  same-ends : (flow : Flow) (t : ℕ) → slot ≤ t → t ≤ next → ends_of scheduler plan flow t ≡ ends_of scheduler plan flow slot
  same-ends flow zero from until = let e : 0 ≡ slot = omega arith in ap (ends_of scheduler plan flow) e
  same-ends flow (suc t) from until = elim (cases_eq (suc t) slot) [
    | inl e ↦ ap (ends_of scheduler plan flow) e
    | inr ne ↦ ends-next flow t (omega arith) (omega arith) ∙ same-ends flow t (omega arith) (omega arith)
  ]

  module _ (i : ℕ) (inside : i < ports_of plan) (input : Input) (was : IsNoted (card_at plan i) input (parts_under scheduler plan i slot)) where
    kept-input : IsNoted (card_at plan i) input (parts_under scheduler plan i next)
    kept-input =
        let card = card_at plan i in
        let before = parts_under scheduler plan i slot in
        let long = served-length scheduler plan i slot in
        let parts = gap-parts scheduler plan slot next gap i in
        record {
          few = was.few;
          counts = kept-counts card before (parts_under scheduler plan i next) slot next long (gap-ahead scheduler plan slot next gap) parts
              input.counters was.counts (gap.none i inside) (gap-queues scheduler plan slot next gap i inside);
          admitted = was.admitted
              ∙ all-later card before (replicate (next - slot) None) (length before) input.counters.next was.counts.next (omega arith)
              ∙ ap (λ ps. map (was_admitted card ps) (take input.counters.next card.packets)) (sym parts);
        }

  -- the match of the slot before is that of no pairs
  last-kept : (matched : List (Option Fed)) (t u : ℕ) → t ≡ slot → u ≡ next → IsLastMatch scheduler plan matched t → IsLastMatch scheduler plan matched u
  last-kept matched zero u this that last = absurd (omega (arith, gap.begins))
  last-kept matched (suc t) zero this that last = absurd (omega (arith, gap.some))
  last-kept matched (suc t) (suc u) this that last =
      let ahead = gap-ahead scheduler plan slot next gap in
      last ∙ nothing t (omega (arith, gap.begins)) (omega (arith, ahead)) ∙ sym (nothing u (omega (arith, gap.some)) (omega arith))

  pub kept-times : (times : Times) → HasNoted scheduler plan times slot → HasNoted scheduler plan times next
  kept-times times was = record {
    good = was.good;
    count = was.count;
    each = λ i inside. kept-input i inside (slice_index_or times.inputs i no_input) (was.each i inside);
    flows = was.flows;
    ends = λ flow flows. was.ends flow flows ∙ (let ahead = gap-ahead scheduler plan slot next gap in sym (same-ends flow next ahead (omega arith)));
    last = last-kept times.matched slot next refl refl was.last;
    narrow = λ flow.
        let ahead = gap-ahead scheduler plan slot next gap in
        subst (λ ends. All (λ t. t < 2 ^ 32) ends) (sym (same-ends flow next ahead (omega arith))) (was.narrow flow);
  }
