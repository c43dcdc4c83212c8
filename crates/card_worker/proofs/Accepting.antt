-- A board accepts the posts of a plan, and what a slot serves may be served of its row.
use Rattle.std.proofs.Common.{◌≡◌, ℕ, zero, suc, ◌<◌, ◌≤◌, List, [], ◌∷◌, ◌++◌, length, Option, None, Some, refl, sym, ap, subst, arith, slice_index_or}
use Rattle.std.proofs.lemmas.List.{length_push}
use Rattle.slot_match.specs.declared.rows.Row.{Row}
use Rattle.slot_match.specs.declared.matching.Served.{Served}
use Rattle.crossbar.specs.declared.cards.Post.{Post as CardPost}
use Rattle.crossbar.specs.declared.cards.Taken.{Taken}
use Rattle.slot_histories.specs.declared.events.Event.{Event}
use Rattle.slot_histories.specs.Events.{Setup, posted, takes_of, decides, no_post}
use Rattle.slot_histories.specs.Slots.{row_before, served_before, served_at}
use Rattle.slot_histories.specs.Legal.{IsAccepted, IsLegal}
use Rattle.slot_histories.specs.Parts.{IsPartOf}
use Rattle.slot_histories.specs.Columns.{Column, column_of, with_taking, row_told, part_told, served_told}
use Rattle.slot_histories.proofs.Telling.{IsTold-legal}
use Rattle.slot_histories.proofs.ServedParts.{served-part}
use Rattle.slot_histories.proofs.LegalLists.{AreInStep-legal}
use Rattle.card_core.specs.Plans.{Plan, IsGoodPlan}
use Rattle.card_core.specs.Posts.{post_at, row_at, IsServable}
use Rattle.card_core.specs.Cards.{served_in}
use Rattle.card_core.proofs.Accepting.{first_accepted, next_accepted}
use Rattle.card_worker.specs.declared.hands.Hand.{Hand}
use Rattle.card_worker.specs.Agreeing.{IsDriven, Agrees}

-- a part of the row may be served of it
servable : (row : Row) (part : Served) → IsPartOf row part → IsServable row (Some part)
servable row part is = assumption is

servable_any : (row : Row) (part : Option Served) → ((one : Served) → part ≡ Some one → IsPartOf row one) → IsServable row part
servable_any row None is = tt
servable_any row (Some part) is = servable row part (is part refl)

module _ (s : Setup) (i : ℕ) (events : List Event) (some : 0 < s.ports) (size : s.ports ≤ 64) (legal : IsLegal s events) (inside : i < s.ports) where
  servable_before : (t : ℕ) → t ≤ decides events → IsServable (row_before (posted events) i t) (served_before s (posted events) i t)
  servable_before zero within = tt
  servable_before (suc t) within =
      servable_any (posted events i t).row (served_at s (posted events) i t) (λ one is. served-part s events some size legal i t one (omega arith) inside is)

  -- what the column tells of its last slot may be served of the row that it tells
  pub servable_told : IsServable (row_told (column_of s i events)) (served_told (column_of s i events))
  servable_told =
      let told = IsTold-legal s i events legal inside in
      let before = servable_before (takes_of i events) ((AreInStep-legal s events legal).taken_decided i inside) in
      let by_row = subst (λ (row : Row). IsServable row (served_before s (posted events) i (takes_of i events))) told.row before in
      subst (IsServable (row_told (column_of s i events))) told.served by_row

-- what the column was served last
told_part : (takings : List Taken) (k : ℕ) → k < length takings → part_told (suc k) takings ≡ slice_index_or (served_in takings) k None
told_part [] k inside = absurd (omega arith)
told_part (taken ∷ takings) zero inside = refl
told_part (taken ∷ takings) (suc k) inside = told_part takings k (omega arith)

last_part : (takings : List Taken) (taken : Taken) → part_told (suc (length takings)) (takings ++ taken ∷ []) ≡ taken.served
last_part [] taken = refl
last_part (first ∷ takings) taken = last_part takings taken

-- the next post of a column with as many posts as takings
accepted_from : (plan : Plan) (posts : List CardPost) (takings : List Taken) (k : ℕ) → IsGoodPlan plan → k ≡ length takings → length posts ≡ k
    → IsDriven plan (record { posts = posts; takings = takings })
    → IsServable (row_before (λ j t. slice_index_or posts t no_post) 0 k) (part_told k takings)
    → IsAccepted plan.ports plan.card (row_before (λ j t. slice_index_or posts t no_post) 0 k) (part_told k takings) (post_at plan (served_in takings) k)
accepted_from plan posts takings zero good long same driven may = first_accepted plan good (served_in takings)
accepted_from plan posts takings (suc t) good long same driven may =
    let served = served_in takings in
    let row : (slice_index_or posts t no_post).row ≡ row_at plan served t = ap (λ (p : CardPost). p.row) (driven t (omega arith)) in
    let part = told_part takings t (omega arith) in
    let may_by_row : IsServable (row_at plan served t) (part_told (suc t) takings) = subst (λ (r : Row). IsServable r (part_told (suc t) takings)) row may in
    let next = next_accepted plan good served t (subst (IsServable (row_at plan served t)) part may_by_row) in
    let by_part : IsAccepted plan.ports plan.card (row_at plan served t) (part_told (suc t) takings) (post_at plan served (suc t)) =
    subst (λ (p : Option Served). IsAccepted plan.ports plan.card (row_at plan served t) p (post_at plan served (suc t))) (sym part) next in
    subst (λ (r : Row). IsAccepted plan.ports plan.card r (part_told (suc t) takings) (post_at plan served (suc t))) (sym row) by_part

pub accepted_next : (plan : Plan) (s : Setup) (events : List Event) → IsGoodPlan plan → IsLegal s events → plan.ports ≡ s.ports
    → IsDriven plan (column_of s plan.card events) → length (column_of s plan.card events).posts ≡ length (column_of s plan.card events).takings
    → IsAccepted s.ports plan.card (row_told (column_of s plan.card events)) (served_told (column_of s plan.card events))
    (post_at plan (served_in (column_of s plan.card events).takings) (length (column_of s plan.card events).takings))
accepted_next plan s events good legal ports driven same =
    let column = column_of s plan.card events in
    let some = good.some in
    let size = good.size in
    let own = good.card in
    let may = servable_told s plan.card events (omega arith) (omega arith) legal (omega arith) in
    subst (λ n. IsAccepted n plan.card (row_told column) (served_told column) (post_at plan (served_in column.takings) (length column.takings))) ports
    (accepted_from plan column.posts column.takings (length column.takings) good refl same driven may)

-- of a hand that agrees with the column of its card
pub accepted_at : (hand : Hand) (s : Setup) (i : ℕ) (events : List Event) → IsGoodPlan hand.card.sends.plan → IsLegal s events
    → Agrees hand s i (column_of s i events) → length (column_of s i events).posts ≡ length (column_of s i events).takings
    → IsAccepted s.ports i (row_told (column_of s i events)) (served_told (column_of s i events))
    (post_at hand.card.sends.plan (served_in (column_of s i events).takings) (length (column_of s i events).takings))
accepted_at hand s i events good legal agrees =
    let plan = hand.card.sends.plan in
    subst (λ k. IsDriven plan (column_of s k events) → length (column_of s k events).posts ≡ length (column_of s k events).takings
    → IsAccepted s.ports k (row_told (column_of s k events)) (served_told (column_of s k events))
    (post_at plan (served_in (column_of s k events).takings) (length (column_of s k events).takings))) agrees.card
    (accepted_next plan s events good legal agrees.ports) agrees.driven

-- what the slot of the posted row serves may be served of it
pub servable_taking : (column : Column) (taken : Taken) → IsServable (row_told (with_taking column taken)) (served_told (with_taking column taken))
    → IsServable (slice_index_or column.posts (length column.takings) no_post).row taken.served
servable_taking column taken may =
    let all = column.takings ++ taken ∷ [] in
    let k = length column.takings in
    let rows = λ (n : ℕ). row_before (λ j t. slice_index_or column.posts t no_post) 0 n in
    let long : length all ≡ suc k = omega (arith, length_push column.takings taken) in
    let moved : IsServable (rows (suc k)) (part_told (suc k) all) = subst (λ n. IsServable (rows n) (part_told n all)) long may in
    subst (IsServable (rows (suc k))) (last_part column.takings taken) moved
