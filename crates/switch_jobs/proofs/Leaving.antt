-- What the cards of a run leave.
use Rattle.std.proofs.Common.{◌≡◌, ◌∙◌, ℕ, ◌≤◌, Bool, true, false, List, [], length, map, refl, ap, subst, arith}
use Rattle.std.specs.Prelude.{Some, None, Option}
use Rattle.std.specs.List.{concat}
use Rattle.std.proofs.lemmas.Bool.{both_ways}
use Rattle.std.proofs.lemmas.List.FromFn.{length-map-range_with_len}
use Rattle.card_core.proofs.Posted.{count-few}
use Rattle.crossbar.specs.declared.cards.Post.{Post}
use Rattle.crossbar.specs.declared.cards.Taken.{Taken}
use Rattle.cell_cutter.specs.declared.cell.Cell.{Cell}
use Rattle.slot_match.specs.declared.matching.Served.{Served}
use Rattle.eslip_rounds.specs.Schedulers.{Scheduler}
use Rattle.eslip_rounds.specs.Decisions.{decision_of}
use Rattle.slot_histories.specs.Slots.{taken_under, crossed_under}
use Rattle.slot_histories.specs.Columns.{Column}
use Rattle.card_core.specs.declared.outcome.CardOut.{CardOut}
use Rattle.card_core.specs.Plans.{Plan as CardPlan}
use Rattle.card_core.specs.Queues.{admitted, dropped}
use Rattle.card_core.specs.Cards.{CardState, IsAfter, IsOut}
use Rattle.card_core.specs.Deliveries.{delivered}
use Rattle.card_worker.specs.declared.hands.Hand.{Hand}
use Rattle.card_worker.specs.Agreeing.{AreGiven, IsInStep}
use Rattle.switch_plan.specs.GoodPlans.{SwitchPlan}
use Rattle.run_laws.specs.Runs.{card_at, setup_for, parts_under, posts_under, takings_under, run_takings}
use Rattle.run_laws.specs.Crossings.{cells_under}
use Rattle.run_laws.specs.Ends.{IsLength}
use Rattle.run_laws.specs.Outcomes.{IsOutputUnder, IsOutput}
use Rattle.switch_jobs.specs.EndingSteps.{Leaves}
use Rattle.switch_jobs.proofs.Adding.{messages-le, cells-le}
use Rattle.switch_jobs.proofs.Serving.{served_taken, cells_crossed, takings_end}

-- the card was given these of the takings, and posted since or not
record Stands (card : CardState) (takings : List Taken) : Type 0 where
  pub given : List Taken
  pub are_given : AreGiven card.sends.plan takings given
  pub posted : Bool
  pub after : IsAfter card given posted

stands : (kept : Option Post) (card : CardState) (column : Column) → IsInStep kept card column → Stands card column.takings
stands None card column level = record { given = level.given; are_given = level.are_given; posted = card.sends.posted; after = level.after }
stands (Some post) card column ahead = record { given = ahead.given; are_given = ahead.are_given; posted = true; after = ahead.after }

not_posted : (posted done : Bool) → (posted ≡ true → done ≡ false) → done ≡ true → posted ≡ false
not_posted true done going over = absurd (both_ways done (going refl) over)
not_posted false done going over = refl

-- what a card leaves that took what the run has for its port
module _ (scheduler : Scheduler) (plan : SwitchPlan) (slots j : ℕ) where
  pub output_of : (out : CardOut) → IsOut (card_at plan j) (takings_under scheduler plan j slots) false out → IsOutputUnder scheduler plan slots j out
  output_of out left =
      let takings = takings_under scheduler plan j slots in
      let long : length takings ≡ slots = length-map-range_with_len (taken_under scheduler (setup_for plan) (posts_under scheduler plan) j) 0 slots in
      let cells = cells_crossed scheduler plan j slots in
      let served = served_taken scheduler plan j slots in
      let card = card_at plan j in
      record {
        body = left.body ∙ ap (λ (cs : List Cell). concat (delivered cs)) cells;
        lens = left.lens ∙ ap (λ (cs : List Cell). map length (delivered cs)) cells;
        packets = left.packets ∙ ap (λ (cs : List Cell). length (delivered cs)) cells;
        cells = left.cells ∙ ap (λ (cs : List Cell). length cs) cells;
        admitted = left.admitted ∙ (ap (λ (parts : List (Option Served)). admitted card parts (length takings)) served
            ∙ ap (admitted card (parts_under scheduler plan j slots)) long);
        dropped = left.dropped ∙ (ap (λ (parts : List (Option Served)). dropped card parts (length takings)) served
            ∙ ap (dropped card (parts_under scheduler plan j slots)) long);
      }

  -- the numbers of a port are within its slots
  pub record IsFew (out : CardOut) : Type 0 where
    pub packets : out.packets ≤ slots
    pub cells : out.cells ≤ slots
    pub admitted : out.admitted ≤ slots
    pub dropped : out.dropped ≤ slots

  pub few_of : (out : CardOut) → IsOutputUnder scheduler plan slots j out → IsFew out
  few_of out is =
      let cells = cells-le (crossed_under scheduler (setup_for plan) (posts_under scheduler plan) j) slots in
      let messages = messages-le [] (cells_under scheduler plan j slots) in
      let admits = count-few true (card_at plan j) (parts_under scheduler plan j slots) slots in
      let drops = count-few false (card_at plan j) (parts_under scheduler plan j slots) slots in
      let a = is.packets in
      let b = is.cells in
      let c = is.admitted in
      let d = is.dropped in
      record {
        packets = omega (arith, a, cells, messages);
        cells = omega (arith, b, cells);
        admitted = omega (arith, c, admits);
        dropped = omega (arith, d, drops);
      }

-- what the card of a hand leaves at the end
module _ (plan : SwitchPlan) (slots j : ℕ) (ends : IsLength plan slots) where
  pub output_left : (hand : Hand) (column : Column) (out : CardOut) → IsInStep hand.kept hand.card column → hand.card.sends.plan ≡ card_at plan j
      → column.takings ≡ run_takings plan j slots
      → ((given : List Taken) → AreGiven (card_at plan j) (run_takings plan j slots) given → given ≡ run_takings plan j slots) → Leaves hand.card out
      → IsOutput plan slots j out
  output_left hand column out step planned took all leaves =
      let s = stands hand.kept hand.card column step in
      let are : AreGiven (card_at plan j) (run_takings plan j slots) s.given =
      subst (λ (p : CardPlan). AreGiven p (run_takings plan j slots) s.given) planned
      (subst (λ (ts : List Taken). AreGiven hand.card.sends.plan ts s.given) took s.are_given) in
      let after : IsAfter hand.card (run_takings plan j slots) s.posted =
      subst (λ (ts : List Taken). IsAfter hand.card ts s.posted) (all s.given are) s.after in
      let free : s.posted ≡ false = not_posted s.posted hand.card.done after.going (after.done ∙ takings_end decision_of plan j slots ends) in
      let left : IsOut hand.card.sends.plan (run_takings plan j slots) s.posted out = leaves (run_takings plan j slots) s.posted after in
      output_of decision_of plan slots j out
      (subst (λ (p : CardPlan). IsOut p (run_takings plan j slots) false out) planned
      (subst (λ b. IsOut hand.card.sends.plan (run_takings plan j slots) b out) free left))
