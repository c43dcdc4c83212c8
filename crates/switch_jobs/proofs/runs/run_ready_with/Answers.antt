use Rattle.std.proofs.Common.{◌≡◌, ◌∙◌, ℕ, List, ◌++◌, length, take, drop, ap, sym, subst, arith}
use Rattle.std.proofs.lemmas.List.{length-map}
use Rattle.std_lemmas.proofs.Lists.{whole_back}
use Rattle.slot_histories.specs.Events.{decides}
use Rattle.slot_board.specs.States.{StateValue, JournalValue}
use Rattle.card_worker.specs.declared.hands.Hand.{Hand}
use Rattle.card_worker.specs.declared.hands.Group.{Group}
use Rattle.card_worker.specs.declared.hands.Member.{Member}
use Rattle.card_worker.specs.Groups.{AreGroups}
use Rattle.switch_plan.specs.GoodPlans.{SwitchPlan, IsGood}
use Rattle.run_laws.specs.Runs.{setup_for}
use Rattle.run_laws.specs.Promises.{CompletesMulticast, ServesWaiting, WaitsAreShort}
use Rattle.run_laws.proofs.RunWindows.{served-in-window, waits-short}
use Rattle.run_laws.proofs.RunCompletes.{heads-complete}
use Rattle.run_laws.specs.declared.outcome.Outcome.{Outcome}
use Rattle.run_laws.specs.Outcomes.{IsOutcome}
use Rattle.switch_jobs.specs.ReadinessSteps.{plan_with, plans_in}
use Rattle.switch_jobs.specs.OneJournal.{HaveWaited, WasTried}
use Rattle.switch_jobs.specs.SharingSteps.{ArePlanned, AreUnrefused}
use Rattle.switch_jobs.specs.JournalSteps.{HaveSums, summary_in}
use Rattle.switch_jobs.specs.EndingSteps.{AreOfPlans, IsRunOf}
use Rattle.switch_jobs.proofs.Finishing.{journal_few, ports_left, output_is, sums_fit, summary_is}
use Rattle.switch_jobs.proofs.runs.run_ready_with.Goals as goal

-- groups that a call got as a slice and gave back
back : (P : List Group → Type 0) (k : ℕ) (new old slice : List Group) → k ≡ length old → length new ≡ length slice → slice ≡ old → P new
    → P (take k (new ++ drop (length new) old))
back P k new old slice all same value is = subst P (sym (whole_back k new old all (same ∙ ap length value))) is

-- the run is that of the plan whose cards the hands have
run_of : (plan : SwitchPlan) (state : StateValue) (hands slice : List Hand) → slice ≡ hands
    → ((plan : SwitchPlan) → IsGood plan → state.setup ≡ setup_for plan → AreOfPlans plan.cards slice → IsRunOf plan state slice)
    → IsGood plan → state.setup ≡ setup_for plan → AreOfPlans plan.cards hands → IsRunOf plan state hands
run_of plan state hands slice same law good setup planned =
    subst (IsRunOf plan state) same (law plan good setup (subst (AreOfPlans plan.cards) (sym same) planned))

pub share-groups-requires-clause-room : goal.share-groups-requires-clause-room
share-groups-requires-clause-room g c = λ place group at.
    let room = c.for_processors.ensures.room _ c.ready.invariant.rooms_are.groups_room place group at in
    omega (arith, room, length-map c.ready.inside.members.items (λ (member : Member). member.hand.card.sends.plan))

pub end_run-state-requires-clause-groups : goal.end_run-state-requires-clause-groups
end_run-state-requires-clause-groups g c =
    let board = c.ready.inside.board in
    back (AreGroups board board.seats) c.share-groups.result.len c.drive_groups.new.groups c.share-groups.result.items _ c.share-groups.result.ok.0
    c.drive_groups.auto.groups c.deref_mut.ensures.value c.drive_groups.ensures.groups

pub summarize-summary-requires-clause-slots : goal.summarize-summary-requires-clause-slots
summarize-summary-requires-clause-slots g c =
    let r = c.ready.inside in
    let cards = plans_in r.members.items in
    let state = c.end_run-state.result.0 in
    let hands = c.end_run-state.result.1.items in
    let shared : ArePlanned cards c.deref_mut.result.now = subst (ArePlanned cards) (sym c.deref_mut.ensures.value) c.share-groups.ensures.shared.planned in
    let planned : AreOfPlans cards hands =
    c.end_run-state.ensures.planned cards
    (back (ArePlanned cards) c.share-groups.result.len c.drive_groups.new.groups c.share-groups.result.items _ c.share-groups.result.ok.0
    c.drive_groups.auto.groups c.deref_mut.ensures.value (c.drive_groups.ensures.planned cards shared)) in
    let made : IsRunOf (plan_with r.terms cards) state hands =
    run_of (plan_with r.terms cards) state hands c.deref.result.now c.deref.ensures.value c.run_is_made.ensures c.ready.invariant.good
    (c.end_run-state.ensures.setup ∙ c.ready.invariant.setup) planned in
    let few = journal_few r.terms cards c.ready.invariant.good c.ready.invariant.burst state hands made made.journal in
    let journal = ap (λ (j : JournalValue). length j.slots) c.journal-journal.ensures.journal in
    omega (arith, few, journal)

pub summarize-summary-requires-clause-sums : goal.summarize-summary-requires-clause-sums
summarize-summary-requires-clause-sums g c =
    let r = c.ready.inside in
    let cards = plans_in r.members.items in
    let state = c.end_run-state.result.0 in
    let hands = c.end_run-state.result.1.items in
    let shared : ArePlanned cards c.deref_mut.result.now = subst (ArePlanned cards) (sym c.deref_mut.ensures.value) c.share-groups.ensures.shared.planned in
    let planned : AreOfPlans cards hands =
    c.end_run-state.ensures.planned cards
    (back (ArePlanned cards) c.share-groups.result.len c.drive_groups.new.groups c.share-groups.result.items _ c.share-groups.result.ok.0
    c.drive_groups.auto.groups c.deref_mut.ensures.value (c.drive_groups.ensures.planned cards shared)) in
    let made : IsRunOf (plan_with r.terms cards) state hands =
    run_of (plan_with r.terms cards) state hands c.deref.result.now c.deref.ensures.value c.run_is_made.ensures c.ready.invariant.good
    (c.end_run-state.ensures.setup ∙ c.ready.invariant.setup) planned in
    subst HaveSums (sym c.deref-2.ensures.value)
    (sums_fit r.terms cards c.ready.invariant.good c.ready.invariant.burst state hands made c.finish_cards-outputs.result.items c.finish_cards-outputs.ensures)

pub returns-clause-run : goal.returns-clause-run
returns-clause-run g c =
    let r = c.ready.inside in
    let cards = plans_in r.members.items in
    let state = c.end_run-state.result.0 in
    let hands = c.end_run-state.result.1.items in
    let shared : ArePlanned cards c.deref_mut.result.now = subst (ArePlanned cards) (sym c.deref_mut.ensures.value) c.share-groups.ensures.shared.planned in
    let planned : AreOfPlans cards hands =
    c.end_run-state.ensures.planned cards
    (back (ArePlanned cards) c.share-groups.result.len c.drive_groups.new.groups c.share-groups.result.items _ c.share-groups.result.ok.0
    c.drive_groups.auto.groups c.deref_mut.ensures.value (c.drive_groups.ensures.planned cards shared)) in
    let made : IsRunOf (plan_with r.terms cards) state hands =
    run_of (plan_with r.terms cards) state hands c.deref.result.now c.deref.ensures.value c.run_is_made.ensures c.ready.invariant.good
    (c.end_run-state.ensures.setup ∙ c.ready.invariant.setup) planned in
    let outputs = c.finish_cards-outputs.result.items in
    let left = c.finish_cards-outputs.ensures in
    let journal = c.journal-journal.ensures.journal in
    let setup = ap (λ (j : JournalValue). j.setup) journal in
    let slots = ap (λ (j : JournalValue). j.slots) journal in
    let outcome : Outcome = record { outputs = c.finish_cards-outputs.result; journal = c.journal-journal.result; summary = c.summarize-summary.result } in
    subst (λ (plan : SwitchPlan). IsOutcome plan outcome) c.ready.view_is (record {
      slots = decides state.events;
      ends = made.ends;
      setup = setup ∙ made.setup;
      journal = slots ∙ made.journal;
      ports = ports_left r.terms cards c.ready.invariant.good c.ready.invariant.burst state hands made outputs left;
      outputs = output_is r.terms cards c.ready.invariant.good c.ready.invariant.burst state hands made outputs left;
      summary = c.summarize-summary.ensures
          ∙ (ap (summary_in r.terms c.journal-journal.result) c.deref-2.ensures.value
          ∙ summary_is r.terms cards c.ready.invariant.good c.ready.invariant.burst state hands made outputs left c.journal-journal.result setup slots
          c.ready.invariant.packets);
    })

pub returns-clause-tried : goal.returns-clause-tried
returns-clause-tried g c =
    let unrefused : AreUnrefused c.deref_mut.result.now = subst AreUnrefused (sym c.deref_mut.ensures.value) c.share-groups.ensures.shared.unrefused in
    let waited : HaveWaited c.args.patience _ =
    back (HaveWaited c.args.patience) c.share-groups.result.len c.drive_groups.new.groups c.share-groups.result.items _ c.share-groups.result.ok.0
    c.drive_groups.auto.groups c.deref_mut.ensures.value (c.drive_groups.ensures.waited unrefused) in
    subst (WasTried c.args.patience) (sym c.journal-journal.ensures.journal) (c.end_run-state.ensures.refused c.args.patience waited)

pub returns-clause-serves : goal.returns-clause-serves
returns-clause-serves g c =
    let r = c.ready.inside in
    let plan = plan_with r.terms (plans_in r.members.items) in
    let slots = length c.journal-journal.result.slots in
    subst (λ (plan : SwitchPlan). ServesWaiting plan slots) c.ready.view_is (served-in-window plan c.ready.invariant.good slots)

pub returns-clause-waits : goal.returns-clause-waits
returns-clause-waits g c =
    let r = c.ready.inside in
    let plan = plan_with r.terms (plans_in r.members.items) in
    let slots = length c.journal-journal.result.slots in
    subst (λ (plan : SwitchPlan). WaitsAreShort plan slots) c.ready.view_is (waits-short plan c.ready.invariant.good slots)

pub returns-clause-completes : goal.returns-clause-completes
returns-clause-completes g c =
    let r = c.ready.inside in
    let plan = plan_with r.terms (plans_in r.members.items) in
    let slots = length c.journal-journal.result.slots in
    subst (λ (plan : SwitchPlan). CompletesMulticast plan slots) c.ready.view_is (heads-complete plan c.ready.invariant.good slots)

pub returns-clause-journal : goal.returns-clause-journal
returns-clause-journal g c =
    let unrefused : AreUnrefused c.deref_mut.result.now = subst AreUnrefused (sym c.deref_mut.ensures.value) c.share-groups.ensures.shared.unrefused in
    record {
      board = c.ready.inside.board;
      groups = _;
      state = c.end_run-state.result.0;
      goes_on = c.end_run-state.ensures.journal;
      waited = back (HaveWaited c.args.patience) c.share-groups.result.len c.drive_groups.new.groups c.share-groups.result.items _ c.share-groups.result.ok.0
          c.drive_groups.auto.groups c.deref_mut.ensures.value (c.drive_groups.ensures.waited unrefused);
      is = c.journal-journal.ensures.journal;
    }
