-- What a packet that is offered to a queue adds to it.
use Rattle.std.proofs.Common.{◌≡◌, ◌∙◌, ℕ, zero, suc, ◌+◌, ◌-◌, ◌<◌, ◌≤◌, Bool, true, false, [], ◌∷◌, ◌++◌, List, refl, sym, ap}
use Rattle.std.proofs.Common.{arith, if◌then◌else◌}
use Rattle.std.proofs.lemmas.List.{append-nil}
use Rattle.voq_banks.specs.CellQueues.{cells_with_fan}
use Rattle.multicast_queue.specs.FanQueues.{FanQueue, FanCell, queue_with, rest_with}
use Rattle.card_core.specs.StateSteps.{rest_after}

pub less_one : (spare new : ℕ) (fits : Bool) → new ≡ (if fits then spare - 1 else spare) → spare ≤ new + 1
less_one spare new true is = omega (arith, is)
less_one spare new false is = omega (arith, is)

pub cells-in : (q new : FanQueue) (number cells fan : ℕ) (fits : Bool) → new ≡ (if fits then queue_with q number cells fan else q)
    → new.cells ≡ q.cells ++ (if fits then cells_with_fan number cells fan else [])
cells-in q new number cells fan true is = ap (λ (x : FanQueue). x.cells) is
cells-in q new number cells fan false is = ap (λ (x : FanQueue). x.cells) is ∙ sym (append-nil q.cells)

rest-first : (waits : List FanCell) (rest number cells fan : ℕ) → 0 < cells → rest_with waits rest fan ≡ rest_after waits rest (cells_with_fan number cells fan)
rest-first [] rest number zero fan some = absurd (omega (arith, some))
rest-first [] rest number (suc cells) fan some = refl
rest-first (cell ∷ waits) rest number cells fan some = refl

rest-none : (waits : List FanCell) (rest : ℕ) → rest ≡ rest_after waits rest []
rest-none [] rest = refl
rest-none (cell ∷ waits) rest = refl

pub rest-in : (q new : FanQueue) (number cells fan : ℕ) (fits : Bool) → 0 < cells → new ≡ (if fits then queue_with q number cells fan else q)
    → new.rest ≡ rest_after q.cells q.rest (if fits then cells_with_fan number cells fan else [])
rest-in q new number cells fan true some is = ap (λ (x : FanQueue). x.rest) is ∙ rest-first q.cells q.rest number cells fan some
rest-in q new number cells fan false some is = ap (λ (x : FanQueue). x.rest) is ∙ rest-none q.cells q.rest

pub spare-in : (q new : FanQueue) (number cells fan : ℕ) (fits : Bool) → new ≡ (if fits then queue_with q number cells fan else q) → q.spare ≤ new.spare + 1
spare-in q new number cells fan true is = omega (arith, ap (λ (x : FanQueue). x.spare) is)
spare-in q new number cells fan false is = omega (arith, ap (λ (x : FanQueue). x.spare) is)
