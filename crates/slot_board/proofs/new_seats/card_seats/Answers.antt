use Rattle.std.proofs.Common.{◌≡◌, ◌∙◌, ◌∷◌, ◌++◌, Some, sym, ap}
use Rattle.std.specs.Prelude.{slice_get}
use Rattle.std.specs.Vec.Iter.{into_iter_items}
use Rattle.std_lemmas.proofs.Lists.{slice_get-seam}
use Rattle.slot_board.proofs.new_seats.card_seats.Goals as goal

pub card_seat-requires-clause-new : goal.card_seat-requires-clause-new
card_seat-requires-clause-new c =
    let at = c.loop-seat in
    let seat = c.in-Some.seat in
    let rest = into_iter_items c.next.new.self in
    let steps : into_iter_items at.seat-iterator ≡ seat ∷ rest = c.in-Some.ensures.steps.0 in
    let whole : at.yielded ++ seat ∷ rest ≡ c.args.turn_seats.items = ap (λ xs. at.yielded ++ xs) (sym steps) ∙ at.invariant.rest
    ∙ c.into_iter-seat-iterator.ensures.into_iter_gives.0 in
    let found : slice_get c.args.turn_seats.items at.card ≡ Some seat = ap (λ xs. slice_get xs at.card) (sym whole)
    ∙ ap (slice_get (at.yielded ++ seat ∷ rest)) at.invariant.card ∙ slice_get-seam at.yielded rest seat in
    c.requires.new at.card seat found
