use Rattle.std.proofs.Common.{ℕ, ◌∙◌, None, Option, drop, length, slice_index_or, ap, arith}
use Rattle.std.proofs.lemmas.List.{drop_at, get_or_append_left}
use Rattle.std.proofs.lemmas.List.FromFn.{get_or-map-range_with_len, length-map-range_with_len}
use Rattle.slot_match.specs.declared.matching.Served.{Served}
use Rattle.slot_match.specs.Parts.{served_of}
use Rattle.slot_match.proofs.matching.Match.change_parts.Goals as goal

pub returns-clause-parts : goal.returns-clause-parts
returns-clause-parts c i below =
    let m = c.args.self.now in
    let none : Option Served = None in
    let long = ap length c.replace_parts.ensures ∙ length-map-range_with_len (served_of m) 0 (length m) in
    get_or_append_left c.replace_parts.new.parts _ none i (omega arith)
    ∙ ap (λ parts. slice_index_or parts i none) c.replace_parts.ensures
    ∙ get_or-map-range_with_len (served_of m) 0 (length m) i i none below (omega arith)

pub returns-clause-others : goal.returns-clause-others
returns-clause-others c =
    let m = c.args.self.now in
    let long = ap length c.replace_parts.ensures ∙ length-map-range_with_len (served_of m) 0 (length m) in
    drop_at c.replace_parts.new.parts _ (length m) long ∙ ap (λ (k : ℕ). drop k c.args.parts.now) c.ports-ports.ensures.value
