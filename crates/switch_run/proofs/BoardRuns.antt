-- What a run at a board leaves, in the form of a run on one thread.
use Rattle.std.proofs.Common.{◌≡◌, ◌<◌, ◌≤◌, ◌+◌, ℕ, List, map, length, Some, Vec, Global, inl, inr, sym, ◌∙◌, ap, arith}
use Rattle.std.specs.Prelude.{slice_get}
use Rattle.std.specs.List.{range_with_len}
use Rattle.std.proofs.lemmas.List.{get_or-map, length-map, same_lists}
use Rattle.std.proofs.lemmas.List.FromFn.{get_or-map-range_with_len, length-map-range_with_len}
use Rattle.std.proofs.lemmas.Option.{slice_get_cases}
use Rattle.eslip_rounds.specs.Decisions.{decision_of}
use Rattle.eslip_rounds.proofs.Scheduling.{IsScheduler-decision_of}
use Rattle.card_core.specs.declared.outcome.CardOut.{CardOut}
use Rattle.slot_report.specs.declared.summary.OutLine.{OutLine}
use Rattle.switch_plan.specs.GoodPlans.{SwitchPlan, IsGood}
use Rattle.switch_plan.specs.ReadingSteps.{bytes_of_files}
use Rattle.run_laws.specs.Runs.{ports_of}
use Rattle.run_laws.proofs.FirstDone.{one_length}
use Rattle.run_laws.proofs.RunEnds.{run_ends}
use Rattle.run_laws.specs.declared.outcome.Outcome.{Outcome}
use Rattle.run_laws.specs.Outcomes.{IsOutcome, messages_under}
use Rattle.descriptor_runs.specs.declared.outputs.Captures.TheVariants.{Kept}
use Rattle.descriptor_runs.specs.Outcomes.{IsRunOutcome, capture_under, line_under}
use Rattle.switch_run.specs.MakingSteps.{HaveMessages, line_of_card}

-- what is made of each element is what is made of its place
mapped : {X Y : Type 0} (f : X → Y) (g : ℕ → Y) (xs : List X) (n : ℕ) → length xs ≡ n → ((j : ℕ) (x : X) → slice_get xs j ≡ Some x → f x ≡ g j)
    → map f xs ≡ map g (range_with_len 0 n)
mapped f g xs n count each =
    same_lists (map f xs) (map g (range_with_len 0 n)) (length-map xs f ∙ count ∙ sym (length-map-range_with_len g 0 n))
    (λ j d j_in.
    let within : j < length xs = omega (arith, j_in, length-map xs f) in
    let place : 0 + j ≡ j = omega arith in
    let below : j < n = omega (arith, within, count) in
    elim (slice_get_cases xs j).1 [
      | inl w ↦ get_or-map f xs j w.0 d within ∙ ap f w.3 ∙ each j w.0 w.2 ∙ sym (get_or-map-range_with_len g 0 n j j d below place)
      | inr past ↦ absurd (omega (arith, within, past.0))
    ])

module _ (plan : SwitchPlan) (run : Outcome) (is : IsOutcome plan run) where
  -- the outputs got the messages of the run
  pub have_messages : HaveMessages (λ j. messages_under decision_of plan j is.slots) run.outputs.items
  have_messages j out found = let each = is.outputs j out found in (each.body, each.lens)

  line_at : (j : ℕ) (out : CardOut) → slice_get run.outputs.items j ≡ Some out → line_of_card out ≡ line_under decision_of plan is.slots j
  line_at j out found =
      let each = is.outputs j out found in
      let line : ℕ → ℕ → OutLine = λ packets cells. record { packets = packets; cells = cells } in
      let same : line out.packets out.cells ≡ line _ _ = ap (λ packets. line packets out.cells) each.packets ∙ ap (line _) each.cells in
      same

  pub within : IsGood plan → is.slots ≤ plan.max_slots
  within good =
      let ends = run_ends decision_of IsScheduler-decision_of plan good in
      omega (arith, one_length decision_of plan is.slots ends.0 is.ends ends.1, ends.2)

  pub left_at_board : (captures : Vec (Vec ℕ Global) Global) (lines : Vec OutLine Global) → IsGood plan
      → bytes_of_files captures ≡ map (capture_under decision_of plan is.slots) (range_with_len 0 (length run.outputs.items))
      → lines.items ≡ map line_of_card run.outputs.items
      → IsRunOutcome Kept decision_of plan is.slots (record { summary = run.summary; captures = captures; lines = lines })
  left_at_board captures lines good captures_made lines_made = record {
    ends = is.ends;
    within = within good;
    captures = captures_made ∙ ap (λ (n : ℕ). map (capture_under decision_of plan is.slots) (range_with_len 0 n)) is.ports;
    lines = lines_made ∙ mapped line_of_card (line_under decision_of plan is.slots) run.outputs.items (ports_of plan) is.ports line_at;
    summary = is.summary;
  }
