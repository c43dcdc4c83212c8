-- The cells that cross in a slot of a run: what the inputs that fed the outputs in the slot before post.
use Rattle.std.proofs.Common.{◌≡◌, ◌∙◌, ℕ, suc, ◌<◌, Option, None, Some, map, refl, sym, ap, subst, arith}
use Rattle.std.proofs.lemmas.List.{get_or-map}
use Rattle.std.proofs.lemmas.List.FromFn.{get_or-map-range_with_len}
use Rattle.std.proofs.lemmas.Option.{same_Some, none-some}
use Rattle.slot_match.specs.declared.matching.Fed.{Fed}
use Rattle.slot_match.specs.declared.matching.Served.{Served}
use Rattle.slot_match.specs.Matches.{fed_of}
use Rattle.slot_match.proofs.ServedParts.{served_of-served}
use Rattle.cell_cutter.specs.declared.cell.Cell.{Cell}
use Rattle.crossbar.specs.Crossing.{deposit_of, deposit_by}
use Rattle.crossbar.specs.declared.cards.Post.{Post as CardPost}
use Rattle.eslip_rounds.specs.Schedulers.{Scheduler, IsScheduler}
use Rattle.slot_histories.specs.Events.{no_post}
use Rattle.slot_histories.specs.Slots.{slot_posts, decision_under, crossed_under}
use Rattle.slot_histories.specs.Legal.{IsGrantedCell}
use Rattle.slot_histories.specs.Parts.{IsCellOf}
use Rattle.slot_histories.proofs.PostedRows.{length-slot_posts}
use Rattle.switch_plan.specs.GoodPlans.{SwitchPlan, IsGood}
use Rattle.run_laws.specs.Runs.{ports_of, setup_for, posts_under}
use Rattle.run_laws.proofs.Base.{accepted, sound}

-- a granted cell, against the part for which it was granted
granted : (card : ℕ) (part : Served) (cell : Option Cell) (fed : Fed) → IsGrantedCell card (Some part) cell → card ≡ fed.input → fed.level ≡ part.level
    → fed.kind ≡ part.kind → (found : Cell) × (cell ≡ Some found) × IsCellOf fed found
granted card part None fed grant own level kind = absurd grant
granted card part (Some found) fed grant own level kind =
    (found, refl, record { form = grant.0; input = grant.1 ∙ own; level = grant.2 ∙ sym level; kind = grant.3 ∙ sym kind })

module _ (scheduler : Scheduler) (plan : SwitchPlan) where
  -- the cell that an input posts
  pub posted_cell : (t i : ℕ) → i < ports_of plan
      → deposit_of (map (λ post. post.cell) (slot_posts (ports_of plan) (posts_under scheduler plan) t)) i ≡ (posts_under scheduler plan i t).cell
  posted_cell t i inside =
      let cell : CardPost → Option Cell = λ post. post.cell in
      get_or-map cell (slot_posts (ports_of plan) (posts_under scheduler plan) t) i no_post None
      (omega (arith, length-slot_posts (ports_of plan) (posts_under scheduler plan) t))
      ∙ ap cell (get_or-map-range_with_len (λ j. posts_under scheduler plan j t) 0 (ports_of plan) i i no_post inside (omega arith))

  -- what crosses to an output that nothing fed, and to one that an input fed
  pub crossed-free : (j t : ℕ) → fed_of (decision_under scheduler (setup_for plan) (posts_under scheduler plan) t).matched j ≡ None
      → crossed_under scheduler (setup_for plan) (posts_under scheduler plan) j (suc t) ≡ None
  crossed-free j t free = ap (deposit_by (map (λ post. post.cell) (slot_posts (ports_of plan) (posts_under scheduler plan) (suc t)))) free

  pub crossed-from : (j t : ℕ) (fed : Fed) → fed.input < ports_of plan
      → fed_of (decision_under scheduler (setup_for plan) (posts_under scheduler plan) t).matched j ≡ Some fed
      → crossed_under scheduler (setup_for plan) (posts_under scheduler plan) j (suc t) ≡ (posts_under scheduler plan fed.input (suc t)).cell
  crossed-from j t fed inside feeds =
      ap (deposit_by (map (λ post. post.cell) (slot_posts (ports_of plan) (posts_under scheduler plan) (suc t)))) feeds ∙ posted_cell (suc t) fed.input inside

module _ (scheduler : Scheduler) (scheduling : IsScheduler scheduler) (plan : SwitchPlan) (good : IsGood plan) where
  -- an output that is fed gets a cell in the next slot, of what feeds it
  pub fed-cell : (j t : ℕ) (fed : Fed) → fed_of (decision_under scheduler (setup_for plan) (posts_under scheduler plan) t).matched j ≡ Some fed
      → (cell : Cell) × (crossed_under scheduler (setup_for plan) (posts_under scheduler plan) j (suc t) ≡ Some cell) × IsCellOf fed cell
  fed-cell j t fed feeds =
      let matches = (sound scheduler scheduling plan good t).matches in
      let inside : fed.input < ports_of plan = matches.input_in fed.input j fed.level fed.kind feeds in
      let part = served_of-served (ports_of plan)
      (decision_under scheduler (setup_for plan) (posts_under scheduler plan) t).matched matches fed.input j fed.level fed.kind feeds in
      let only = part.2.only j fed.level fed.kind feeds in
      let post = (posts_under scheduler plan fed.input (suc t)).cell in
      let grant : IsGrantedCell fed.input (Some part.0) post =
      subst (λ served. IsGrantedCell fed.input served post) part.1 (accepted scheduler scheduling plan good fed.input (suc t) inside).cell in
      let cell = granted fed.input part.0 post fed grant refl only.0 only.1 in
      (cell.0, crossed-from scheduler plan j t fed inside feeds ∙ cell.1, cell.2)

  by_feed : (j t : ℕ) (cell : Cell) (feed : Option Fed) → fed_of (decision_under scheduler (setup_for plan) (posts_under scheduler plan) t).matched j ≡ feed
      → crossed_under scheduler (setup_for plan) (posts_under scheduler plan) j (suc t) ≡ Some cell
      → (fed : Fed) × (fed_of (decision_under scheduler (setup_for plan) (posts_under scheduler plan) t).matched j ≡ Some fed) × IsCellOf fed cell
  by_feed j t cell None feeds is = absurd (none-some cell (sym (crossed-free scheduler plan j t feeds) ∙ is))
  by_feed j t cell (Some fed) feeds is =
      let found = fed-cell j t fed feeds in
      (fed, feeds, subst (IsCellOf fed) (same_Some found.0 cell (sym found.1 ∙ is)) found.2)

  -- a cell that crosses is of what fed its output in the slot before
  pub cell-fed : (j t : ℕ) (cell : Cell) → crossed_under scheduler (setup_for plan) (posts_under scheduler plan) j (suc t) ≡ Some cell
      → (fed : Fed) × (fed_of (decision_under scheduler (setup_for plan) (posts_under scheduler plan) t).matched j ≡ Some fed) × IsCellOf fed cell
  cell-fed j t cell is = by_feed j t cell (fed_of (decision_under scheduler (setup_for plan) (posts_under scheduler plan) t).matched j) refl is
