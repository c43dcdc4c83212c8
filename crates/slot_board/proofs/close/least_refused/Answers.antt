use Rattle.std.proofs.Common.{◌≡◌, ◌∙◌, ◌+◌, ◌∷◌, ◌++◌, [], min, take, sym, ap, arith}
use Rattle.std.proofs.lemmas.List.{take_more}
use Rattle.slot_board.specs.Seats.{due_tries}
use Rattle.slot_board.specs.Boards.{least_refused}
use Rattle.slot_board.proofs.LeastTries.{least_refused-snoc}
use Rattle.slot_board.proofs.close.least_refused.Goals.{then-tries-least, else-tries-least}
use Rattle.slot_board.proofs.close.least_refused.Goals as goal

pub loop-seat-preserved : goal.loop-seat-preserved
loop-seat-preserved c =
    let seats = c.args.seats.now in
    let i = c.loop-seat.seat-index in
    let seat = c.seat-item.result in
    let tries : c.due_tries-tries.result ≡ due_tries seat = c.due_tries-tries.ensures in
    let grown : take (i + 1) seats ≡ take i seats ++ seat ∷ [] = take_more seats i seat c.loop-seat-test.true
    ∙ ap (λ s. take i seats ++ s ∷ []) (sym c.seat-item.is) in
    let least : c.if-tries-least.least ≡ min c.loop-seat.least c.due_tries-tries.result = elim c.if-tries-least.branch [
      | then-tries-least w ↦ let less = w.if-tries-least.true in let is = w.least-is in omega arith
      | else-tries-least w ↦ let more = w.if-tries-least.false in let is = w.least-is in omega arith
    ] in
    let before = c.loop-seat.invariant in
    least ∙ ap (λ x. min x c.due_tries-tries.result) before ∙ ap (min (least_refused (take i seats))) tries ∙ sym (least_refused-snoc (take i seats) seat)
    ∙ ap least_refused (sym grown)
