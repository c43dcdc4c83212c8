-- What the port of an input posts.
use Rattle.std.proofs.Common.{◌≡◌, ◌∙◌, ℕ, ◌||◌, not, nat_lt, Bool, true, List, length, Option, Some, None, slice_index_or, refl, sym, ap, subst}
use Rattle.std.specs.Prelude.{slice_get}
use Rattle.std.specs.List.{list_any}
use Rattle.cell_cutter.specs.declared.cell.Cell.{Cell}
use Rattle.cell_cutter.specs.declared.cell.CellName.{CellName}
use Rattle.crossbar.specs.declared.cards.Post.{Post}
use Rattle.slot_match.specs.declared.rows.Row.{Row}
use Rattle.slot_match.specs.declared.matching.Served.{Served}
use Rattle.slot_histories.specs.Tests.{is_empty}
use Rattle.eslip_rounds.specs.Schedulers.{Scheduler}
use Rattle.card_core.specs.declared.plan.Planned.{Planned}
use Rattle.card_core.specs.Plans.{Plan as CardPlan}
use Rattle.card_core.specs.Posts.{row_at, granted_at, more_at, post_at}
use Rattle.card_core.proofs.NextPackets.{more_is}
use Rattle.card_core.proofs.Posted.{row-is}
use Rattle.switch_plan.specs.GoodPlans.{SwitchPlan}
use Rattle.run_laws.specs.Runs.{card_at, parts_under, posts_under}
use Rattle.run_laws.proofs.Base.{served-length}
use Rattle.descriptor_runs.specs.InputSteps.{InputValue, HasServed, row_in}
use Rattle.descriptor_runs.specs.SwitchSteps.{AreInputs, IsNameOf, AreNames}
use Rattle.descriptor_runs.proofs.InputPorts.{plan-of, in-ports}

-- ---- an input that has been served these parts
module _ (input : InputValue) (served : List (Option Served)) (was : HasServed input served true) where
  -- a post of its row, with the cell that was granted and whether more is to come
  pub is_post : (row : Row) (cell : Option Cell) (more : Bool) → row ≡ row_in input → cell ≡ granted_at input.plan served (length served)
      → more ≡ (nat_lt input.next (length input.plan.packets) || not (is_empty row))
      → ◌≡◌ {A = Post} (record { row = row; cell = cell; more = more }) (post_at input.plan served (length served))
  is_post row cell more own cell_is told =
      let row_is : row ≡ row_at input.plan served (length served) =
      own ∙ row-is input.plan served (length served) input.next input.banks input.fans was.queues in
      let later = list_any (λ (packet : Planned). nat_lt (length served) packet.arrival) input.plan.packets in
      let more_same : more ≡ more_at input.plan (length served) (row_at input.plan served (length served)) =
      told ∙ ap (λ b. b || not (is_empty row)) (more_is input.plan.packets (length served) input.next was.next)
      ∙ ap (λ (r : Row). later || not (is_empty r)) row_is in
      rw (row_is, cell_is, more_same) refl

-- ---- an input of a run
module _ (scheduler : Scheduler) (plan : SwitchPlan) (slot : ℕ) (inputs : List InputValue) (are : AreInputs scheduler plan slot true inputs)
    (names : List (Option CellName)) (named : AreNames scheduler plan slot names) (i : ℕ) (input : InputValue) (at : slice_get inputs i ≡ Some input) where
  abbrev parts : List (Option Served)
  parts = parts_under scheduler plan i slot

  own : input.plan ≡ card_at plan i
  own = plan-of plan inputs are.plans i input at

  -- the name of the cell that was granted to it
  pub name_of_it : IsNameOf input.plan (granted_at input.plan parts (length parts)) (slice_index_or names i None)
  name_of_it =
      let there = named i (in-ports plan inputs are.plans i input at) in
      subst (λ (card : CardPlan). IsNameOf card (granted_at card parts (length parts)) (slice_index_or names i None)) (sym own)
      (subst (λ n. IsNameOf (card_at plan i) (granted_at (card_at plan i) parts n) (slice_index_or names i None))
      (sym (served-length scheduler plan i slot)) there)

  -- its post is that of the run
  pub post_of_it : post_at input.plan parts (length parts) ≡ posts_under scheduler plan i slot
  post_of_it = ap (λ (card : CardPlan). post_at card parts (length parts)) own ∙ ap (post_at (card_at plan i) parts) (served-length scheduler plan i slot)
