use Rattle.std.proofs.Common.{◌≡◌, ◌∙◌, true, map, length, ap, sym, subst}
use Rattle.std.specs.List.{range_with_len}
use Rattle.std.proofs.lemmas.Result.{on_ok_weaker}
use Rattle.run_laws.specs.Runs.{ports_of, posts_under}
use Rattle.descriptor_runs.specs.InputSteps.{row_in}
use Rattle.descriptor_runs.specs.SwitchSteps.{AreInputs}
use Rattle.descriptor_runs.proofs.NotedSlots.{posts-back, is-run_slot, with-posts}
use Rattle.descriptor_runs.proofs.switch.Switch.note_slot.Goals as goal

pub note-requires : goal.note-requires
note-requires g c =
    let (scheduler, plan, slots, scheduling, good, ends, below, is, noted) = c.requires in
    let t = c.args.slot in
    let switch = c.args.self.now in
    let posts = c.put_posts.new.posts in
    let are : posts ≡ map (λ i. posts_under scheduler plan i t) (range_with_len 0 (ports_of plan)) =
    c.put_posts.ensures scheduler plan t scheduling good (subst (AreInputs scheduler plan t true) (sym c.as_slice.ensures) is.inputs)
    (c.rows.ensures ∙ (c.columns.ensures ∙ ap (map row_in) (sym c.as_slice.ensures))) is.names
    (ap length c.deref_mut.ensures.value ∙ is.switch_is.posts) in
    let again = is-run_slot scheduler scheduling plan good t switch is posts are c.deref.result.now
    (c.deref.ensures.value ∙ posts-back scheduler scheduling plan good t switch is posts are) in
    (scheduler, plan, slots, scheduling, ends, below, noted, again)

pub returns-clause-noted : goal.returns-clause-noted
returns-clause-noted g c = λ scheduler plan scheduling good is noted.
    let t = c.args.slot in
    let switch = c.args.self.now in
    let posts = c.put_posts.new.posts in
    let are : posts ≡ map (λ i. posts_under scheduler plan i t) (range_with_len 0 (ports_of plan)) =
    c.put_posts.ensures scheduler plan t scheduling good (subst (AreInputs scheduler plan t true) (sym c.as_slice.ensures) is.inputs)
    (c.rows.ensures ∙ (c.columns.ensures ∙ ap (map row_in) (sym c.as_slice.ensures))) is.names
    (ap length c.deref_mut.ensures.value ∙ is.switch_is.posts) in
    let again = is-run_slot scheduler scheduling plan good t switch is posts are c.deref.result.now
    (c.deref.ensures.value ∙ posts-back scheduler scheduling plan good t switch is posts are) in
    let after = with-posts scheduler scheduling plan good t switch is posts are in
    on_ok_weaker c.note.result (λ more. (after, more)) (c.note.ensures.noted scheduler plan noted again)
