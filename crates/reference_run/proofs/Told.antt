-- A plan's reference, and the plan's cards.
use Rattle.std.proofs.Common.{◌≡◌, ◌∙◌, ℕ, ◌<◌, List, [], map, length, refl, sym, ap, subst, arith}
use Rattle.std.specs.List.{range_with_len}
use Rattle.std.proofs.lemmas.List.{length-map, get_or-map, ext_get_or}
use Rattle.std.proofs.lemmas.List.FromFn.{length-map-range_with_len, get_or-map-range_with_len}
use Rattle.slot_match.specs.Rows.{Names, no_row}
use Rattle.slot_match.specs.Matches.{IsMatch}
use Rattle.card_core.specs.Posts.{row_at}
use Rattle.eslip_rounds.specs.Schedulers.{Scheduler, IsScheduler}
use Rattle.switch_plan.specs.GoodPlans.{SwitchPlan, IsGood, IsCountable}
use Rattle.run_laws.specs.Runs.{ports_of, card_at, no_plan, parts_under, slot_under}
use Rattle.run_laws.specs.Ends.{IsLengthUnder}
use Rattle.run_laws.proofs.Base.{good-card}
use Rattle.output_queued.specs.Ideal.{total}
use Rattle.output_queued.specs.Switches.{Matched, served_in, card_of, no_card, card_for, cells_from, comes, rows_after}
use Rattle.output_queued.specs.Lines.{ideal, ran, line_of}
use Rattle.output_queued.specs.NotingSteps.{State, cards_in}
use Rattle.output_queued.specs.Following.{MayFollow}
use Rattle.output_queued.proofs.Totals.{total-same}
use Rattle.output_queued.proofs.Following.{given-same, line-same}
use Rattle.output_queued.proofs.Noted.{cards-are}
use Rattle.reference_run.specs.RunLines.{run_matches_under}
use Rattle.reference_run.specs.Meeting.{coming_in}
use Rattle.reference_run.specs.MeetingSteps.{IsReferenceOf, run_rows_under}
use Rattle.reference_run.proofs.Alike.{row-told, cells-told}
use Rattle.reference_run.proofs.Matches.{match_of, matches-long, served-run, rows-run, row-run, run-whole, run-named, run-few}

module _ (plan : SwitchPlan) (good : IsGood plan) (r : State) (matches : List Matched) (is : IsReferenceOf plan r matches) where
  cards-told : cards_in r ≡ map (card_for r.ports r.depth) (map coming_in plan.cards)
  cards-told = cards-are r.ports r.depth r.sources ∙ ap (map (card_for r.ports r.depth)) is.coming

  told-long : length (cards_in r) ≡ ports_of plan
  told-long = ap length cards-told ∙ length-map (map coming_in plan.cards) (card_for r.ports r.depth) ∙ length-map plan.cards coming_in

  pub card-told : (i : ℕ) → i < ports_of plan → card_of (cards_in r) i ≡ card_for (card_at plan i).ports (card_at plan i).depth (coming_in (card_at plan i))
  card-told i inside =
      let mine = good-card plan good i inside in
      let long = length-map plan.cards coming_in in
      ap (λ cards. card_of cards i) cards-told
      ∙ get_or-map (card_for r.ports r.depth) (map coming_in plan.cards) i [] no_card (omega arith)
      ∙ ap (card_for r.ports r.depth) (get_or-map coming_in plan.cards i no_plan [] inside)
      ∙ ap (λ n. card_for n r.depth (coming_in (card_at plan i))) (is.ports ∙ sym mine.ports)
      ∙ ap (λ n. card_for (card_at plan i).ports n (coming_in (card_at plan i))) (is.depth ∙ sym mine.depth)

  pub comes-told : (those : List Matched) (j t : ℕ) → comes (cards_in r) those j t ≡ comes plan.cards those j t
  unfolding comes
  comes-told those j t =
      ap (total (λ i. cells_from (card_of (cards_in r) i) (served_in those i) j t)) told-long
      ∙ total-same (λ i. cells_from (card_of (cards_in r) i) (served_in those i) j t) (λ i. cells_from (card_at plan i) (served_in those i) j t) (ports_of plan)
      (λ i inside. ap (λ card. cells_from card (served_in those i) j t) (card-told i inside)
      ∙ cells-told (card_at plan i) (good-card plan good i inside).good (served_in those i) j t)

  pub line-told : (those : List Matched) (j : ℕ) → line_of (cards_in r) those j ≡ line_of plan.cards those j
  unfolding line_of
  line-told those j =
      line-same (ideal (cards_in r) those j) (ideal plan.cards those j) (ran those j) (ran those j) (length those)
      (λ t within. given-same (comes (cards_in r) those j) (comes plan.cards those j) t (λ u below. comes-told those j u)) (λ t within. refl)

module _ (scheduler : Scheduler) (plan : SwitchPlan) (good : IsGood plan) (r : State) (t : ℕ)
    (is : IsReferenceOf plan r (run_matches_under scheduler plan t)) where
  rows-told : run_rows_under scheduler plan t ≡ rows_after (cards_in r) (run_matches_under scheduler plan t)
  rows-told =
      let f = λ (i : ℕ). row_at (card_at plan i) (parts_under scheduler plan i t) t in
      let g = λ (i : ℕ). row_at (card_of (cards_in r) i) (served_in (run_matches_under scheduler plan t) i) (length (run_matches_under scheduler plan t)) in
      let n = told-long plan good r (run_matches_under scheduler plan t) is in
      let a = length-map-range_with_len f 0 (ports_of plan) in
      let b = length-map-range_with_len g 0 (length (cards_in r)) in
      rows-run scheduler plan t
      ∙ ext_get_or no_row (map f (range_with_len 0 (ports_of plan))) (rows_after (cards_in r) (run_matches_under scheduler plan t)) (omega arith)
      (λ i inside.
      get_or-map-range_with_len f 0 (ports_of plan) i i no_row (omega arith) (omega arith)
      ∙ sym (ap (λ card. row_at card (served_in (run_matches_under scheduler plan t) i) (length (run_matches_under scheduler plan t)))
      (card-told plan good r (run_matches_under scheduler plan t) is i (omega arith))
      ∙ row-told (card_at plan i) (good-card plan good i (omega arith)).good (served_in (run_matches_under scheduler plan t) i)
      (length (run_matches_under scheduler plan t))
      ∙ ap (λ served. row_at (card_at plan i) served (length (run_matches_under scheduler plan t))) (served-run scheduler plan t i)
      ∙ ap (row_at (card_at plan i) (parts_under scheduler plan i t)) (matches-long scheduler plan t))
      ∙ sym (get_or-map-range_with_len g 0 (length (cards_in r)) i i no_row (omega arith) (omega arith)))

  pub may_follow : IsScheduler scheduler → IsCountable plan → (slots : ℕ) → IsLengthUnder scheduler plan slots → t < slots
      → MayFollow (cards_in r) (run_matches_under scheduler plan t) (run_rows_under scheduler plan t) (slot_under scheduler plan t).matched
  may_follow scheduling countable slots end below =
      let few = run-few scheduler scheduling plan good countable slots end in
      let long = matches-long scheduler plan t in
      record {
        few = omega arith;
        rows_are = rows-told;
        whole = subst (λ n. IsMatch n (match_of scheduler plan t)) (sym (told-long plan good r (run_matches_under scheduler plan t) is))
            (run-whole scheduler scheduling plan good t);
        named = λ i j level kind pair. subst (λ row. Names row level kind j)
            (sym (row-run scheduler plan t i ((run-whole scheduler scheduling plan good t).input_in i j level kind pair)))
            (run-named scheduler scheduling plan good t i j level kind pair);
      }
