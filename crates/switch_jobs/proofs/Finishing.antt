-- The outputs and the numbers of a run that was made to its end.
use Rattle.std.proofs.Common.{◌≡◌, ◌∙◌, ℕ, ◌≤◌, List, length, map, sym, ap, arith}
use Rattle.std.specs.Prelude.{Some, slice_get}
use Rattle.std.specs.List.{sum_by, range_with_len}
use Rattle.std.proofs.lemmas.List.FromFn.{length-map-range_with_len}
use Rattle.std.proofs.lemmas.Option.{slice_get_within}
use Rattle.std.proofs.lemmas.Simd.{map-map}
use Rattle.std_lemmas.proofs.Lists.{at_place}
use Rattle.std_lemmas.proofs.MappedSums.{sum_of}
use Rattle.rotating_pick.specs.declared.limits.TheConstants.{LEVELS}
use Rattle.eslip_rounds.specs.Decisions.{decision_of}
use Rattle.slot_histories.specs.Events.{Setup, decides}
use Rattle.slot_histories.specs.Answers.{journal_of}
use Rattle.service_bound.specs.Waits.{NotedSlot, noted_of, longest_wait}
use Rattle.slot_board.specs.Schedules.{decided_slot}
use Rattle.slot_board.specs.States.{StateValue, JournalValue}
use Rattle.card_core.specs.declared.outcome.CardOut.{CardOut}
use Rattle.card_core.specs.Plans.{Plan as CardPlan}
use Rattle.card_worker.specs.declared.hands.Hand.{Hand}
use Rattle.switch_plan.specs.GoodPlans.{SwitchPlan, packets_in, IsGood, IsBurst}
use Rattle.run_laws.specs.Runs.{ports_of, setup_for, run_journal}
use Rattle.run_laws.specs.RunSteps.{posts_in, run_slot}
use Rattle.run_laws.specs.Sums.{run_schedule}
use Rattle.run_laws.specs.Crossings.{cells_under}
use Rattle.switch_jobs.specs.declared.ready.Terms.{Terms}
use Rattle.run_laws.specs.Outcomes.{messages_under, admitted_count, dropped_count, over_ports, longest_under, summary_under, summary_of}
use Rattle.run_laws.specs.Outcomes.{IsOutput}
use Rattle.switch_jobs.specs.ReadinessSteps.{plan_with}
use Rattle.switch_jobs.specs.JournalSteps.{noted_in, longest_in, HaveSums, summary_in}
use Rattle.switch_jobs.specs.EndingSteps.{AreLeft, IsRunOf}
use Rattle.switch_jobs.proofs.Adding.{sum_fits}
use Rattle.switch_jobs.proofs.Leaving.{IsFew, few_of}
use Rattle.run_laws.proofs.Limits.{slots_few}

-- the waits of a run are those of its journal
noted_same : (plan : SwitchPlan) (slots : ℕ) → map noted_in (run_journal plan slots) ≡ map noted_of (run_schedule plan slots)
noted_same plan slots = map-map noted_in (run_slot plan) (range_with_len 0 slots)
    ∙ sym (map-map noted_of (decided_slot (setup_for plan) (posts_in plan)) (range_with_len 0 slots))

module _ (terms : Terms) (cards : List CardPlan) (good : IsGood (plan_with terms cards)) (burst : IsBurst (plan_with terms cards))
    (state : StateValue) (hands : List Hand) (is : IsRunOf (plan_with terms cards) state hands) where
  abbrev plan : SwitchPlan
  plan = plan_with terms cards

  abbrev slots : ℕ
  slots = decides state.events

  few_slots : slots ≤ 262145
  few_slots = let within = is.within in let few = slots_few plan good burst in omega arith

  -- so its journal can be noted
  pub journal_few : journal_of state.setup state.events ≡ run_journal plan slots → length (journal_of state.setup state.events) ≤ 262145
  journal_few same = let long = ap length same ∙ length-map-range_with_len (run_slot plan) 0 slots in let few = few_slots in omega arith

  module _ (outputs : List CardOut) (left : AreLeft hands outputs) where
    pub ports_left : length outputs ≡ ports_of plan
    ports_left = left.count ∙ is.ports

    pub output_is : (j : ℕ) (out : CardOut) → slice_get outputs j ≡ Some out → IsOutput plan slots j out
    output_is j out at =
        let inside = slice_get_within outputs j out at in
        let count = left.count in
        let (hand, mine) = at_place hands j (omega arith) in
        is.outputs j hand out mine (left.each j hand out mine at)

    few_at : (j : ℕ) (out : CardOut) → slice_get outputs j ≡ Some out → IsFew decision_of plan slots j out
    few_at j out at = few_of decision_of plan slots j out (output_is j out at)

    pub sums_fit : HaveSums outputs
    sums_fit =
        let few = few_slots in
        let ports : length outputs ≤ 64 = let count = ports_left in let most = good.size.most in omega arith in
        record {
          dropped = sum_fits (λ (out : CardOut). out.dropped) outputs ports (λ j out at. let most = (few_at j out at).dropped in omega arith);
          admitted = sum_fits (λ (out : CardOut). out.admitted) outputs ports (λ j out at. let most = (few_at j out at).admitted in omega arith);
          packets = sum_fits (λ (out : CardOut). out.packets) outputs ports (λ j out at. let most = (few_at j out at).packets in omega arith);
          cells = sum_fits (λ (out : CardOut). out.cells) outputs ports (λ j out at. let most = (few_at j out at).cells in omega arith);
        }

    -- a sum over the outputs is that over the ports of what each of them has
    sum_is : (f : CardOut → ℕ) (g : ℕ → ℕ) → ((j : ℕ) (out : CardOut) → IsOutput plan slots j out → f out ≡ g j) → sum_by f outputs ≡ over_ports plan g
    sum_is f g same = sum_of f g outputs (ports_of plan) ports_left (λ j out at. same j out (output_is j out at))

    -- the outputs and the journal are summed up to the numbers of the run
    pub summary_is : (journal : JournalValue) → journal.setup ≡ state.setup → journal.slots ≡ journal_of state.setup state.events
        → terms.packets ≡ sum_by length (packets_in plan) → summary_in terms journal outputs ≡ summary_of plan slots
    unfolding summary_under
    summary_is journal same decided packets =
        let ports : journal.setup.ports ≡ ports_of plan = ap (λ (s : Setup). s.ports) (same ∙ is.setup) in
        let rounds : journal.setup.rounds ≡ terms.rounds = ap (λ (s : Setup). s.rounds) (same ∙ is.setup) in
        let journal_same : journal.slots ≡ run_journal plan slots = decided ∙ is.journal in
        let count : length journal.slots ≡ slots = ap length journal_same ∙ length-map-range_with_len (run_slot plan) 0 slots in
        let waits : longest_in journal.setup.ports journal.slots ≡ map (longest_under decision_of plan slots) (range_with_len 0 LEVELS) =
        ap (λ n. longest_in n journal.slots) ports
        ∙ (ap (longest_in (ports_of plan)) journal_same
        ∙ ap (λ (noted : List NotedSlot). map (λ level. longest_wait (ports_of plan) level noted) (range_with_len 0 LEVELS)) (noted_same plan slots)) in
        let drops = sum_is (λ (out : CardOut). out.dropped) (dropped_count decision_of plan slots) (λ j out o. o.dropped) in
        let admits = sum_is (λ (out : CardOut). out.admitted) (admitted_count decision_of plan slots) (λ j out o. o.admitted) in
        let copies = sum_is (λ (out : CardOut). out.packets) (λ j. length (messages_under decision_of plan j slots)) (λ j out o. o.packets) in
        let cells = sum_is (λ (out : CardOut). out.cells) (λ j. length (cells_under decision_of plan j slots)) (λ j out o. o.cells) in
        cc
