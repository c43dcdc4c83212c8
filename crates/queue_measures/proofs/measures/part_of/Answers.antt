use Rattle.std.proofs.Common.{◌≡◌, ℕ, ◌≤◌, List, Option, Some, None, refl, sym, arith}
use Rattle.slot_match.specs.declared.matching.Fed.{Fed}
use Rattle.slot_match.specs.declared.matching.Served.{Served}
use Rattle.slot_match.specs.Matches.{IsMatch}
use Rattle.slot_match.specs.Parts.{served_of}
use Rattle.slot_match.proofs.ServedParts.{served_of-is}
use Rattle.queue_measures.proofs.measures.part_of.Goals as goal

none-outside : (n : ℕ) (matched : List (Option Fed)) → IsMatch n matched → (i : ℕ) → n ≤ i → (part : Option Served) → served_of matched i ≡ part → part ≡ None
none-outside n matched whole i past None is = refl
none-outside n matched whole i past (Some part) is =
    let mine = served_of-is n matched whole i part is in
    let first = mine.some in
    let inside = whole.input_in i first.0 part.level part.kind ((mine.outputs first.0).0 first.1) in
    absurd (omega (arith, inside))

pub returns-else-input-ports : goal.returns-else-input-ports
returns-else-input-ports c =
    sym (none-outside c.ports.result c.args.matched.now c.ports.ensures.whole c.args.input c.if-input-ports.false
    (served_of c.args.matched.now c.args.input) refl)

pub returns-then-input-ports : goal.returns-then-input-ports
returns-then-input-ports c =
    let inside = c.if-input-ports.true in
    let ports = c.ports.ensures.value in
    c.requires c.args.input (omega arith)
