-- Each cell that crosses is of the flow that fed the output.
use Rattle.std.proofs.Common.{◌≡◌, ◌∙◌, ℕ, zero, suc, ◌<◌, All, List, [], ◌∷◌, map, Option, Some, None, refl, sym, ap, subst, arith}
use Rattle.std.specs.Option.{option_to_list}
use Rattle.std.proofs.lemmas.List.Elements.{All-append, All-nil, All-cons}
use Rattle.rotating_pick.specs.declared.kinds.Kind.{Kind}
use Rattle.rotating_pick.specs.declared.limits.TheConstants.{LEVELS}
use Rattle.cell_cutter.specs.declared.cell.Cell.{Cell}
use Rattle.slot_match.specs.declared.matching.Fed.{Fed}
use Rattle.slot_match.specs.Matches.{fed_of, Serves}
use Rattle.slot_match.proofs.Pairs.{Serves-from}
use Rattle.multicast_queue.specs.FanQueues.{FanCell}
use Rattle.crossbar.specs.Crossing.{deposit_by}
use Rattle.eslip_rounds.specs.Schedulers.{Scheduler, IsScheduler}
use Rattle.slot_histories.specs.Slots.{slot_posts, decision_under, crossed_under}
use Rattle.card_core.specs.Plans.{Plan}
use Rattle.card_core.specs.Grants.{first_of}
use Rattle.switch_plan.specs.GoodPlans.{SwitchPlan, IsGood}
use Rattle.run_laws.specs.Runs.{ports_of, setup_for, card_at, posts_under}
use Rattle.run_laws.specs.Crossings.{cells_under, queue_to}
use Rattle.run_laws.proofs.Base.{sound}
use Rattle.run_laws.proofs.PacketCells.{named}
use Rattle.run_laws.proofs.FlowCells.{IsFrom, FirstsAre, cells_to-push, waits_at, crossed_is, crossed_from}

-- the one cell that crosses is the first
one_from : (i level : ℕ) (kind : Kind) (card : Plan) (cell : Cell) (w : List FanCell) → cell ∷ [] ≡ named card (first_of w) → FirstsAre i level kind card w
    → IsFrom i level kind cell
one_from i level kind card cell [] is are = absurd (cc)
one_from i level kind card cell (c ∷ w) is are = subst (IsFrom i level kind) (sym (head_is cell _ is)) are where
  head_is : (c d : Cell) → c ∷ [] ≡ d ∷ [] → c ≡ d
  head_is c d e = cc

module _ (scheduler : Scheduler) (scheduling : IsScheduler scheduler) (plan : SwitchPlan) (good : IsGood plan) where
  abbrev matched_at : ℕ → List (Option Fed)
  matched_at t = (decision_under scheduler (setup_for plan) (posts_under scheduler plan) t).matched

  abbrev cell_at : ℕ → ℕ → Option Cell
  cell_at j t = crossed_under scheduler (setup_for plan) (posts_under scheduler plan) j t

  -- an input feeds the output to which a cell crosses
  feeds_by : (j t : ℕ) (cell : Cell) (o : Option Fed) → fed_of (matched_at t) j ≡ o → cell_at j (suc t) ≡ Some cell → (fed : Fed)
      × Serves (matched_at t) fed.input j fed.level fed.kind
  feeds_by j t cell None none is =
      let deposits : List (Option Cell) = map (λ post. post.cell) (slot_posts (ports_of plan) (posts_under scheduler plan) (suc t)) in
      let nothing : None ≡ Some cell = sym (ap (deposit_by deposits) none) ∙ is in
      absurd (cc)
  feeds_by j t cell (Some fed) some is = (fed, Serves-from (matched_at t) j fed some)

  pub feeds : (j t : ℕ) (cell : Cell) → cell_at j (suc t) ≡ Some cell → (fed : Fed) × Serves (matched_at t) fed.input j fed.level fed.kind
  feeds j t cell is = feeds_by j t cell (fed_of (matched_at t) j) refl is

  pub comes_from : (i j level : ℕ) (kind : Kind) (t : ℕ) (cell : Cell) → Serves (matched_at t) i j level kind → cell_at j (suc t) ≡ Some cell
      → IsFrom i level kind cell
  comes_from i j level kind t cell serves is =
      let inside = (sound scheduler scheduling plan good t).matches.input_in i j level kind serves in
      one_from i level kind (card_at plan i) cell (waits_at scheduler scheduling plan good i (queue_to j level kind) t)
      (sym (ap option_to_list is) ∙ crossed_is scheduler scheduling plan good i j level kind t serves)
      (crossed_from scheduler scheduling plan good i j level kind t inside)

  -- ---- each cell that crosses is of a flow
  one_of : (j t : ℕ) (o : Option Cell) → cell_at j (suc t) ≡ o → All (λ cell. (cell.input < ports_of plan) × (cell.level < LEVELS)) (option_to_list o)
  one_of j t None is = λ k d short. absurd (omega arith)
  one_of j t (Some cell) is =
      let (fed, serves) = feeds j t cell is in
      let matches = (sound scheduler scheduling plan good t).matches in
      let inside = matches.input_in fed.input j fed.level fed.kind serves in
      let below = matches.level_in fed.input j fed.level fed.kind serves in
      let from = comes_from fed.input j fed.level fed.kind t cell serves is in
      let P : Cell → Type 0 = λ cell. (cell.input < ports_of plan) × (cell.level < LEVELS) in
      All-cons P cell [] (omega (arith, from.0, inside), omega (arith, from.1, below)) (All-nil P)

  pub all_of_flows : (j slots : ℕ) → All (λ cell. (cell.input < ports_of plan) × (cell.level < LEVELS)) (cells_under scheduler plan j slots)
  all_of_flows j zero = λ k d short. absurd (omega arith)
  all_of_flows j (suc zero) = λ k d short. absurd (omega arith)
  all_of_flows j (suc (suc t)) =
      let P : Cell → Type 0 = λ cell. (cell.input < ports_of plan) × (cell.level < LEVELS) in
      subst (All P) (sym (cells_to-push scheduler plan j (suc t)))
      (All-append P (cells_under scheduler plan j (suc t)) (option_to_list (cell_at j (suc t))) (all_of_flows j (suc t))
      (one_of j t (cell_at j (suc t)) refl))
