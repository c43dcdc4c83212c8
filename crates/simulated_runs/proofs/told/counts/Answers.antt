use Rattle.std.proofs.Common.{◌∙◌, ◌∷◌, [], ◌++◌, ap, append-nil, arith, sym, ℕ}
use Rattle.std.specs.Prelude.{List, Option, filter_map, option_to_list}
use Rattle.std.specs.List.{range_with_len}
use Rattle.delay_counts.specs.declared.counts.DelayCount.{DelayCount}
use Rattle.delay_counts.specs.CountSteps.{count_at}
use Rattle.simulated_runs.proofs.Telling.{all-places, filter_map-range_more}
use Rattle.simulated_runs.proofs.told.counts.Goals as goal
use Rattle.simulated_runs.proofs.told.counts.Goals.{in-Some+in_ok-push, in_default}

pub loop-place-preserved : goal.loop-place-preserved
loop-place-preserved c =
    let at = count_at c.args.delays.now in
    let k = c.loop-place.place in
    let so_far = filter_map at (range_with_len 0 k) in
    elim c.match-count_at.branch [
      | in-Some+in_ok-push w ↦ ap (λ counts. counts.items) w.counts-is ∙ (w.in_ok-push.ensures.items
          ∙ (ap (λ (counts : List DelayCount). counts ++ w.in-Some.count ∷ []) c.loop-place.invariant
          ∙ (ap (λ (o : Option DelayCount). so_far ++ option_to_list o) w.in-Some.ensures ∙ sym (filter_map-range_more at k))))
      | in_default w ↦ ap (λ counts. counts.items) w.counts-is ∙ (c.loop-place.invariant ∙ (sym (append-nil so_far)
          ∙ (ap (λ (o : Option DelayCount). so_far ++ option_to_list o) w.in_default.ensures ∙ sym (filter_map-range_more at k))))
    ]

pub returns : goal.returns
returns c = λ noted has.
    let all = all-places c.loop-place.place (omega arith) (omega arith) in
    c.loop-place.invariant ∙ (ap (λ (k : ℕ). filter_map (count_at c.args.delays.now) (range_with_len 0 k)) all ∙ c.places_have_all_counts.ensures noted has)
