use Rattle.std.proofs.Common.{None, false, ◌∙◌, ◌<◌, ◌++◌, ◌∷◌, [], sym, subst, arith, length-set, slice_index_or}
use Rattle.std.proofs.lemmas.List.{get_or_default}
use Rattle.crossbar.specs.declared.cards.Post.{Post}
use Rattle.card_core.specs.Posts.{IsServable}
use Rattle.run_laws.specs.Runs.{ports_of, card_at, parts_under}
use Rattle.run_laws.proofs.Base.{served-length}
use Rattle.packet_times.specs.NotingSteps.{Input, no_input, IsNoted}
use Rattle.packet_times.proofs.Noted.{posts-long, row-at, servable-at, noted-more}
use Rattle.packet_times.proofs.inputs.note_inputs.Goals as goal

pub bounds-posts-i : goal.bounds-posts-i
bounds-posts-i c =
    let (scheduler, plan, first, is) = c.requires.noted in
    let now = c.loop-i.invariant.noted scheduler plan first is in
    let long = posts-long scheduler plan c.args.slot c.args.posts.now c.args.matched.now is in
    omega (arith, now.count, long)

abbrev no_post : Post
no_post = record { row = record { uni = []; multi = [] }; cell = None; more = false }

pub part_of-part-requires : goal.part_of-part-requires
part_of-part-requires c = c.put_parts.ensures.parts

pub note-requires : goal.note-requires
note-requires c =
    let (scheduler, plan, first, is) = c.requires.noted in
    let now = c.loop-i.invariant.noted scheduler plan first is in
    let i = c.loop-i.i in
    let slot = c.args.slot in
    let inside : i < ports_of plan = omega (arith, now.count) in
    let noted : IsNoted (card_at plan i) (slice_index_or c.loop-i.inputs i c.index-inputs-i.result) (parts_under scheduler plan i slot) =
    subst (λ (s : Input). IsNoted (card_at plan i) s (parts_under scheduler plan i slot))
    (get_or_default c.loop-i.inputs i no_input c.index-inputs-i.result (omega (arith, now.count))) (now.left i inside (omega arith)) in (
      card_at plan i,
      parts_under scheduler plan i slot,
      noted,
      served-length scheduler plan i slot,
      row-at scheduler plan slot c.args.posts.now c.args.matched.now is i inside no_post,
      subst (IsServable (slice_index_or c.args.posts.now i no_post).row) (sym c.part_of-part.ensures)
          (servable-at scheduler plan slot c.args.posts.now c.args.matched.now is i inside no_post),
    )

pub loop-i-preserved : goal.loop-i-preserved
loop-i-preserved c =
    let i = c.loop-i.i in
    let slot = c.args.slot in
    let posts = c.args.posts.now in
    let matched = c.args.matched.now in
    record {
      long = length-set c.loop-i.inputs i c.note.new.self ∙ c.loop-i.invariant.long;
      noted = λ scheduler plan first is.
          let now = c.loop-i.invariant.noted scheduler plan first is in
          let inside : i < ports_of plan = omega (arith, now.count) in
          let parts = parts_under scheduler plan i slot in
          let noted : IsNoted (card_at plan i) (slice_index_or c.loop-i.inputs i c.index-inputs-i.result) parts =
          subst (λ (s : Input). IsNoted (card_at plan i) s parts)
          (get_or_default c.loop-i.inputs i no_input c.index-inputs-i.result (omega (arith, now.count))) (now.left i inside (omega arith)) in
          let servable = subst (IsServable (slice_index_or posts i no_post).row) (sym c.part_of-part.ensures)
          (servable-at scheduler plan slot posts matched is i inside no_post) in
          let here = c.in_ok-note.ensures (card_at plan i) parts noted (served-length scheduler plan i slot)
          (row-at scheduler plan slot posts matched is i inside no_post) servable in
          noted-more scheduler plan slot posts matched is i c.loop-i.inputs c.note.new.self inside now
          (subst (λ part. IsNoted (card_at plan i) c.note.new.self (parts ++ part ∷ [])) c.part_of-part.ensures here);
    }
