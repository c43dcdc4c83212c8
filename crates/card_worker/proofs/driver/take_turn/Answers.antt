use Rattle.std.proofs.Common.{◌≡◌, ◌∙◌, true, sym, arith}
use Rattle.card_worker.specs.DrivingSteps.{is_patient}
use Rattle.card_worker.proofs.Passes.{AfterTurn-refused, patience_left}
use Rattle.card_worker.proofs.driver.take_turn.Goals as goal

pub overflow_add-refused : goal.overflow_add-refused
overflow_add-refused g c =
    let on : is_patient c.args.patience c.args.member.now c.args.refused.now ≡ true = sym c.goes_on.ensures ∙ c.if-not-goes_on.false in
    let left = patience_left c.args.patience c.args.member.now c.args.refused.now on in
    let fits = c.ranges.patience.fits in
    omega arith

pub returns-then-not-acted : goal.returns-then-not-acted
returns-then-not-acted g c =
    let old = c.args.member.now in
    let before = c.args.refused.now in
    let on : is_patient c.args.patience old before ≡ true = sym c.goes_on.ensures ∙ c.if-not-goes_on.false in
    AfterTurn-refused c.args.board.now c.args.patience old before c.try_member-acted.new.member c.try_member-acted.result on
    c.try_member-acted.ensures c.if-not-acted.true
