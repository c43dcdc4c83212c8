use Rattle.std.proofs.Common.{◌∙◌, ap, subst, sym}
use Rattle.std.proofs.lemmas.Bool.{both_ways}
use Rattle.slot_board.specs.Seats.{IsPosted, column_at}
use Rattle.card_worker.specs.Agreeing.{IsDriven}
use Rattle.card_worker.specs.Trying.{IsSound}
use Rattle.card_worker.proofs.Members.{can_post, posts_same}
use Rattle.card_worker.proofs.tests.groups.keep_post.Goals as goal

pub next_post-post-requires : goal.next_post-post-requires
next_post-post-requires c =
    let old = c.args.member.now in
    let sound : IsSound c.args.board.now old = record { agrees = c.requires; told = c.legal.ensures } in
    let free : IsPosted old.seat → ⊥ = λ it. both_ways c.posted.result c.if-not-posted.true (c.posted.ensures.1 it) in
    can_post c.args.board.now old sound free (sym c.is_due.ensures ∙ c.if-is_due.true)

pub returns-then-is_due-clause-member : goal.returns-then-is_due-clause-member
returns-then-is_due-clause-member c =
    let old = c.args.member.now in
    let column = column_at old.seat in
    let sound : IsSound c.args.board.now old = record { agrees = c.requires; told = c.legal.ensures } in
    let free : IsPosted old.seat → ⊥ = λ it. both_ways c.posted.result c.if-not-posted.true (c.posted.ensures.1 it) in
    let agrees = c.requires.agrees in
    let plan = c.next_post-post.ensures.plan in
    record {
      turn = c.requires.turn;
      agrees = record {
        ports = ap (λ p. p.ports) plan ∙ agrees.ports;
        card = ap (λ p. p.card) plan ∙ agrees.card;
        driven = subst (λ p. IsDriven p column) (sym plan) agrees.driven;
        step = c.next_post-post.ensures.ahead column agrees.step (posts_same c.args.board.now old sound free);
      };
    }
