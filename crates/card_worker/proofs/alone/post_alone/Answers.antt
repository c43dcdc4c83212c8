use Rattle.std.proofs.Common.{◌∙◌, true, ap, sym, subst}
use Rattle.std.specs.Prelude.{None}
use Rattle.slot_board.specs.States.{StateValue}
use Rattle.slot_histories.specs.Columns.{column_of}
use Rattle.card_worker.proofs.Steps.{next_post}
use Rattle.card_worker.specs.Agreeing.{IsAhead}
use Rattle.card_worker.specs.Alone.{IsHandOf}
use Rattle.card_worker.specs.AloneSteps.{AfterAct}
use Rattle.card_worker.proofs.Columns.{posts_same, can_post, may_post, hand-posted, AfterAct-post}
use Rattle.card_worker.proofs.alone.post_alone.Goals as goal

pub next_post-post-requires : goal.next_post-post-requires
next_post-post-requires c =
    let b = c.args.state.now in
    can_post b.setup c.args.card b.events c.legal.ensures.setup c.legal.ensures.legal c.requires.card c.args.hand.now c.requires.hand c.requires.free
    c.requires.going c.requires.room

pub put-requires : goal.put-requires
put-requires c =
    let b = c.args.state.now in
    let column = column_of b.setup c.args.card b.events in
    let same = posts_same b.setup c.args.card b.events c.legal.ensures.setup c.legal.ensures.legal c.requires.card c.args.hand.now c.requires.hand
    c.requires.free in
    let ahead : IsAhead c.next_post-post.result c.next_post-post.new.hand.card column = c.next_post-post.ensures.ahead column c.requires.hand.step same in
    may_post b.setup c.args.card b.events c.legal.ensures.setup c.legal.ensures.legal c.requires.card c.args.hand.now c.requires.hand c.requires.free
    c.requires.going c.requires.room c.next_post-post.result (ahead.is ∙ ap (λ p. next_post p column) c.next_post-post.ensures.plan)

pub returns-clause-hand : goal.returns-clause-hand
returns-clause-hand c =
    let b = c.args.state.now in
    let column = column_of b.setup c.args.card b.events in
    let same = posts_same b.setup c.args.card b.events c.legal.ensures.setup c.legal.ensures.legal c.requires.card c.args.hand.now c.requires.hand
    c.requires.free in
    let ahead : IsAhead c.next_post-post.result c.next_post-post.new.hand.card column = c.next_post-post.ensures.ahead column c.requires.hand.step same in
    let card = c.next_post-post.new.hand.card in
    subst (λ kept. IsHandOf (record { card = card; kept = kept }) c.put.new.self.setup c.args.card c.put.new.self.events) (sym c.forget.ensures)
    (subst (λ (board : StateValue). IsHandOf (record { card = card; kept = None }) board.setup c.args.card board.events) (sym c.put.ensures)
    (hand-posted b.setup c.args.card b.events c.legal.ensures.setup c.legal.ensures.legal c.requires.card c.args.hand.now c.requires.hand c.requires.free
    c.next_post-post.new.hand.card c.next_post-post.result c.next_post-post.ensures.plan ahead))

pub returns-clause-act : goal.returns-clause-act
returns-clause-act c =
    let b = c.args.state.now in
    subst (λ (board : StateValue). AfterAct c.args.card b board true) (sym c.put.ensures) (AfterAct-post c.args.card b c.next_post-post.result)
