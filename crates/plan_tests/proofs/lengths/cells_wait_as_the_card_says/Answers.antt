use Rattle.std.proofs.Common.{rules, ◌≡◌, ◌∙◌, List, length, Option, true, ◌∷◌, [], ◌++◌, ap, sym, subst}
use Rattle.std.proofs.lemmas.List.{length-map, map_push}
use Rattle.slot_match.specs.declared.matching.Served.{Served}
use Rattle.crossbar.specs.declared.cards.Post.{Post}
use Rattle.crossbar.specs.declared.cards.Taken.{Taken}
use Rattle.card_core.specs.Plans.{Plan}
use Rattle.card_core.specs.Posts.{row_at, post_at, IsServable}
use Rattle.card_core.specs.Cards.{CardState, IsAfter, served_in}
use Rattle.queue_lengths.specs.Counters.{Counters, CountBefore}
use Rattle.plan_tests.proofs.lengths.cells_wait_as_the_card_says.Goals as goal

-- the row that a card posts is that of its slot
row_posted : (plan : Plan) (takings : List Taken) (post : Post) → post ≡ post_at plan (served_in takings) (length takings)
    → post.row ≡ row_at plan (served_in takings) (length (served_in takings))
row_posted plan takings post is =
    ap (λ (p : Post). p.row) is ∙ ap (row_at plan (served_in takings)) (sym (length-map takings (λ (t : Taken). t.served)))

-- what may be taken of the card's row may be served of that of its post
servable_by : (old new : CardState) (takings : List Taken) (part : Option Served) (post : Post) → IsAfter new takings true → new.sends.plan ≡ old.sends.plan
    → post ≡ post_at old.sends.plan (served_in takings) (length takings) → IsServable new.sends.row part → IsServable post.row part
servable_by old new takings part post after same is may =
    let row = ap (λ p. row_at p (served_in takings) (length (served_in takings))) same in
    subst (λ r. IsServable r part) (after.sent.row ∙ row ∙ sym (row_posted old.sends.plan takings post is)) may

-- one taking more
count_push : (plan now : Plan) (counters : Counters) (takings : List Taken) (taken : Taken) → now ≡ plan
    → CountBefore plan counters (served_in takings ++ taken.served ∷ []) → CountBefore now counters (served_in (takings ++ taken ∷ []))
count_push plan now counters takings taken same count =
    subst (λ p. CountBefore p counters (served_in (takings ++ taken ∷ []))) (sym same)
    (subst (CountBefore plan counters) (sym (map_push (λ (t : Taken). t.served) takings taken)) count)

pub arrive-arrival-requires : goal.arrive-arrival-requires
arrive-arrival-requires g c =
    let (takings, after, count, two) = c.loop-want.invariant in
    (c.loop-want.card.sends.plan, served_in takings, count, sym (c.slot-number.ensures ∙ after.sent.slot))

pub leave-requires : goal.leave-requires
leave-requires g c =
    let (takings, after, count, two) = c.loop-want.invariant in
    let plan = c.loop-want.card.sends.plan in
    let posted = c.post-post.ensures.after takings after in
    let truth : c.may_take.result ≡ true = search rules in
    let may = c.may_take.ensures.0 truth in
    let is = c.post-post.ensures.post takings after in (
      plan,
      served_in takings,
      c.arrive-arrival.ensures.counts plan (served_in takings) count (sym (c.slot-number.ensures ∙ after.sent.slot)),
      row_posted plan takings c.post-post.result is,
      servable_by c.loop-want.card c.post-post.new.self takings _ c.post-post.result posted c.post-post.ensures.plan is may.served,
    )

pub loop-want-preserved : goal.loop-want-preserved
loop-want-preserved g c =
    let (takings, after, count, two) = c.loop-want.invariant in
    let plan = c.loop-want.card.sends.plan in
    let posted = c.post-post.ensures.after takings after in
    let truth : c.may_take.result ≡ true = search rules in
    let may = c.may_take.ensures.0 truth in
    let is = c.post-post.ensures.post takings after in
    let same = c.take.ensures.plan ∙ c.post-post.ensures.plan in
    let counts = c.arrive-arrival.ensures.counts plan (served_in takings) count (sym (c.slot-number.ensures ∙ after.sent.slot)) in (
      takings ++ _ ∷ [],
      c.take.ensures.after takings posted,
      count_push plan c.take.new.self.sends.plan c.leave.new.self takings _ same
          (c.leave.ensures plan (served_in takings) counts
          (row_posted plan takings c.post-post.result is)
          (servable_by c.loop-want.card c.post-post.new.self takings _ c.post-post.result posted c.post-post.ensures.plan is may.served)),
      ap (λ (p : Plan). p.ports) same ∙ two,
    )
