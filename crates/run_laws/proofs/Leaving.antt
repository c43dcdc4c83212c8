-- Each packet that leaves has a departure of its own; those of a flow rise, and those at an output differ.
use Rattle.std.proofs.Common.{◌≡◌, ◌∙◌, ℕ, ◌<◌, ◌==◌, ◌&&◌, true, length, Option, None, Some, slice_get, slice_index_or, refl, sym, ap, subst, arith, inl, inr}
use Rattle.std.proofs.lemmas.Bool.{and_parts, eqb-true, cases_order}
use Rattle.std.proofs.lemmas.Option.{slice_get-get_or, same_Some}
use Rattle.rotating_pick.specs.declared.kinds.Kind.{Kind}
use Rattle.rotating_pick.specs.declared.limits.TheConstants.{LEVELS}
use Rattle.eslip_rounds.specs.Decisions.{is_kind}
use Rattle.eslip_rounds.specs.Schedulers.{Scheduler, IsScheduler}
use Rattle.eslip_rounds.proofs.Testing.{Decides-kind}
use Rattle.cell_cutter.specs.declared.cell.Cell.{Cell}
use Rattle.slot_histories.specs.Slots.{crossed_under}
use Rattle.card_core.specs.declared.plan.Planned.{Planned}
use Rattle.card_core.specs.Plans.{level_of, kind_of, queue_of}
use Rattle.card_core.specs.Deliveries.{is_of_flow}
use Rattle.card_core.proofs.After.{level-queue}
use Rattle.switch_plan.specs.GoodPlans.{SwitchPlan, IsGood}
use Rattle.run_laws.proofs.Departing.{departures-are}
use Rattle.run_laws.specs.Runs.{setup_for, card_at, posts_under}
use Rattle.run_laws.specs.Ends.{IsLengthUnder}
use Rattle.run_laws.proofs.Base.{good-card}
use Rattle.run_laws.specs.Departures.{Flow, flow_of, is_end_of, ends_of, goes_by, earlier_by, departure_under}
use Rattle.run_laws.specs.DeparturePromises.{Leaves, EachDeparts, DeparturesRise, DeparturesDiffer}
use Rattle.std_lemmas.proofs.Filters.{count_less, count_within, slot_of, slots_rise}
use Rattle.run_laws.proofs.FlowEnds.{leaving_goes, ends_count}
use Rattle.run_laws.proofs.Earliest.{earliest}

-- of one flow, as tests say
abbrev IsOfFlow : ℕ → ℕ → Kind → Cell → Type 0
IsOfFlow i level kind cell = (cell.input ≡ i) × (cell.level ≡ level) × (cell.kind ≡ kind)

end_flow : (flow : Flow) (o : Option Cell) → is_end_of flow o ≡ true → (cell : Cell) × (o ≡ Some cell) × IsOfFlow flow.input flow.level flow.kind cell
end_flow flow None is = absurd (cc)
end_flow flow (Some cell) is =
    let both = and_parts cell.last (is_of_flow flow.input flow.level flow.kind cell) is in
    let parts = and_parts ((cell.input == flow.input) && (cell.level == flow.level)) (is_kind cell.kind flow.kind) both.1 in
    let ports = and_parts (cell.input == flow.input) (cell.level == flow.level) parts.0 in
    (cell, refl, (eqb-true cell.input flow.input ports.0, eqb-true cell.level flow.level ports.1, (Decides-kind cell.kind flow.kind).0 parts.1))

module _ (scheduler : Scheduler) (plan : SwitchPlan) (slots : ℕ) where
  abbrev ends_at : Flow → ℕ → Option Cell
  ends_at flow t = crossed_under scheduler (setup_for plan) (posts_under scheduler plan) flow.output t

  -- a departure is a slot of the run in which a last cell of the flow crosses
  pub departs : (i j k : ℕ) (p : Planned) (t : ℕ) → departure_under scheduler plan slots i j k p ≡ Some t
      → (t < slots) × (is_end_of (flow_of i j p) (ends_at (flow_of i j p) t) ≡ true)
  departs i j k p t is =
      let o = slot_of (λ u. is_end_of (flow_of i j p) (ends_at (flow_of i j p) u)) slots (earlier_by scheduler plan slots (flow_of i j p) k) t is in
      (o.0, o.1)

  pub rise : DeparturesRise scheduler plan slots
  rise i j k m p r t u leaves leaves' same less is is' =
      let flow = flow_of i j p in
      let second : slice_get (ends_of scheduler plan flow slots) (earlier_by scheduler plan slots flow m) ≡ Some u =
      ap (λ f. slice_get (ends_of scheduler plan f slots) (earlier_by scheduler plan slots f m)) same ∙ is' in
      let fewer : earlier_by scheduler plan slots flow k < earlier_by scheduler plan slots flow m =
      count_less (goes_by scheduler plan slots flow) (card_at plan i).packets k m p leaves.found (leaving_goes scheduler plan slots i j k p leaves) less in
      slots_rise (λ v. is_end_of flow (ends_at flow v)) slots
      (earlier_by scheduler plan slots flow k) (earlier_by scheduler plan slots flow m) t u is second fewer

  same_flow : (i h j : ℕ) (p r : Planned) (cell : Cell) → IsOfFlow i (level_of (queue_of p)) (kind_of (queue_of p)) cell
      → IsOfFlow h (level_of (queue_of r)) (kind_of (queue_of r)) cell
      → flow_of h j p ≡ flow_of h j r
  same_flow i h j p r cell of of' =
      ap (λ l. let f : Flow = record { input = h; output = j; level = l; kind = kind_of (queue_of p) } in f) (sym of.1 ∙ of'.1)
      ∙ ap (λ k. let f : Flow = record { input = h; output = j; level = level_of (queue_of r); kind = k } in f) (sym of.2 ∙ of'.2)

  pub differ : DeparturesDiffer scheduler plan slots
  differ j i k h m p r t leaves leaves' is is' =
      let (cell, at, of) = end_flow (flow_of i j p) (ends_at (flow_of i j p) t) (departs i j k p t is).1 in
      let (cell', at', of'') = end_flow (flow_of h j r) (ends_at (flow_of h j r) t) (departs h j m r t is').1 in
      let one : cell' ≡ cell = same_Some cell' cell (sym at' ∙ at) in
      let of' : IsOfFlow h (level_of (queue_of r)) (kind_of (queue_of r)) cell = subst (IsOfFlow h (level_of (queue_of r)) (kind_of (queue_of r))) one of'' in
      let input : i ≡ h = sym of.0 ∙ of'.0 in
      let same = same_flow i h j p r cell of of' in
      let mine = subst (λ x. Leaves scheduler plan slots x j k p) input leaves in
      let there = subst (λ x. departure_under scheduler plan slots x j k p ≡ Some t) input is in (
        input,
        elim (cases_order k m) [
          | inl equal ↦ equal
          | inr (inl less) ↦ let l = rise h j k m p r t t mine leaves' same less there is' in absurd (omega arith)
          | inr (inr more) ↦ let l = rise h j m k r p t t leaves' mine (sym same) more is' there in absurd (omega arith)
        ],
      )

-- ---- there is a departure
module _ (scheduler : Scheduler) (scheduling : IsScheduler scheduler) (plan : SwitchPlan) (good : IsGood plan) (slots : ℕ)
    (ends : IsLengthUnder scheduler plan slots) where
  pub level_below : (i j k : ℕ) (p : Planned) → Leaves scheduler plan slots i j k p → level_of (queue_of p) < LEVELS
  level_below i j k p leaves = omega (arith, level-queue p, ((good-card plan good i leaves.input).good.packets k p leaves.found).level)

  pub number_within : (i j k : ℕ) (p : Planned) → Leaves scheduler plan slots i j k p
      → earlier_by scheduler plan slots (flow_of i j p) k < length (ends_of scheduler plan (flow_of i j p) slots)
  number_within i j k p leaves =
      let (departures, are) = departures-are scheduler scheduling plan good slots ends j leaves.output in
      let flow = flow_of i j p in
      let goes = leaving_goes scheduler plan slots i j k p leaves in
      let few = count_within (goes_by scheduler plan slots flow) (card_at plan i).packets k p leaves.found goes in
      let below = level_below i j k p leaves in
      let all = ends_count scheduler plan slots ends i j (level_of (queue_of p)) (kind_of (queue_of p)) leaves.input departures are below in
      omega (arith, few, all)

  pub each_departs : EachDeparts scheduler plan slots
  each_departs i j k p leaves =
      let flow = flow_of i j p in
      let n = earlier_by scheduler plan slots flow k in
      let all = ends_of scheduler plan flow slots in
      let t = slice_index_or all n 0 in
      let is : departure_under scheduler plan slots i j k p ≡ Some t = slice_get-get_or all n 0 (number_within i j k p leaves) in (
        t,
        is,
        (departs scheduler plan slots i j k p t is).0,
        earliest scheduler scheduling plan good slots ends i j (level_of (queue_of p)) (kind_of (queue_of p)) leaves.input k p leaves.found
            (leaving_goes scheduler plan slots i j k p leaves) t is,
      )
