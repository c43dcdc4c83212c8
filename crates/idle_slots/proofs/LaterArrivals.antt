-- Before a packet arrives a run is not at its end.
use Rattle.std.proofs.Common.{◌≡◌, ◌∙◌, ℕ, ◌<◌, ◌||◌, not, nat_lt, Bool, true, false, Some, slice_get, slice_index_or, ap, arith}
use Rattle.std.specs.List.{list_any}
use Rattle.std.proofs.lemmas.Bool.{lt-ltb}
use Rattle.std.proofs.lemmas.List.Folds.{list_any_at, list_all_at}
use Rattle.std.proofs.lemmas.List.FromFn.{get_or-map-range_with_len}
use Rattle.std.proofs.lemmas.Option.{get_or_from_slice_get, slice_get_within}
use Rattle.crossbar.specs.declared.cards.Post.{Post as CardPost}
use Rattle.eslip_rounds.specs.Schedulers.{Scheduler}
use Rattle.slot_histories.specs.Events.{no_post}
use Rattle.slot_histories.specs.Slots.{slot_posts, is_done_at}
use Rattle.slot_histories.specs.Tests.{is_empty}
use Rattle.slot_histories.proofs.PostedRows.{length-slot_posts}
use Rattle.card_core.specs.declared.plan.Planned.{Planned}
use Rattle.switch_plan.specs.GoodPlans.{SwitchPlan}
use Rattle.run_laws.specs.Runs.{ports_of, card_at, posts_under}

module _ (scheduler : Scheduler) (plan : SwitchPlan) (i k s : ℕ) (packet : Planned) (inside : i < ports_of plan)
    (there : slice_get (card_at plan i).packets k ≡ Some packet) (later : s < packet.arrival) where
  more_comes : (posts_under scheduler plan i s).more ≡ true
  more_comes =
      let comes : Planned → Bool = λ p. nat_lt s p.arrival in
      let packets = (card_at plan i).packets in
      let here : slice_index_or packets k packet ≡ packet = get_or_from_slice_get packets k packet packet there in
      let some : list_any comes packets ≡ true =
      list_any_at comes packets k packet (slice_get_within packets k packet there) (ap comes here ∙ lt-ltb s packet.arrival later) in
      ap (λ b. b || not (is_empty (posts_under scheduler plan i s).row)) some

  pub goes_on : is_done_at (ports_of plan) (posts_under scheduler plan) s ≡ false
  goes_on =
      let posts = slot_posts (ports_of plan) (posts_under scheduler plan) s in
      let ends : CardPost → Bool = λ post. not post.more in
      let here : slice_index_or posts i no_post ≡ posts_under scheduler plan i s =
      get_or-map-range_with_len (λ j. posts_under scheduler plan j s) 0 (ports_of plan) i i no_post inside (omega arith) in
      list_all_at ends posts i no_post (omega (arith, length-slot_posts (ports_of plan) (posts_under scheduler plan) s)) (ap ends here ∙ ap not more_comes)
