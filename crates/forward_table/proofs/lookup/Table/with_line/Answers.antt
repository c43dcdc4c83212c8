use Rattle.std.proofs.Common.{◌≡◌, ◌∙◌, ◌++◌, ◌∷◌, [], List, Some, slice_index_or, ap, sym, subst}
use Rattle.std.specs.Prelude.{option_map}
use Rattle.std.proofs.lemmas.List.{get_or_default}
use Rattle.forward_table.specs.declared.faults.TableFault.TheVariants.{Repeated}
use Rattle.forward_table.specs.declared.route_lines.RouteLine.{RouteLine}
use Rattle.forward_table.specs.Reading.{line_with}
use Rattle.forward_table.specs.IndexSteps.{no_line, IsGapFor, IsPlaceOf}
use Rattle.forward_table.proofs.Indexing.{IsIndexed-push, AreLengths-push, line_at, line_in_gap}
use Rattle.forward_table.proofs.lookup.Table.with_line.Goals as goal

pub invariant_of-result : goal.invariant_of-result
invariant_of-result c =
    let gap = subst (λ xs. IsGapFor xs c.args.line.target c.in-Err.at) c.deref.ensures.value c.in-Err.ensures.absent in
    rw (c.in_ok-push-in-Err.ensures.items, c.in_ok-insert-in-Err.ensures.items) (
      IsIndexed-push c.self.inside.lines.items c.self.inside.ordered.items c.args.line c.in-Err.at c.self.invariant.0 c.requires gap,
      AreLengths-push c.self.inside.lines.items c.self.inside.lengths c.with_length.result c.args.line c.self.invariant.1 c.requires c.with_length.ensures,
    )

pub returns-in-Ok-clause-fault : goal.returns-in-Ok-clause-fault
returns-in-Ok-clause-fault c = λ other.
    let place = subst (λ xs. IsPlaceOf xs c.args.line.target c.in-Ok.at) c.deref.ensures.value c.in-Ok.ensures.found in
    let target = c.args.line.target in
    let ordered = c.self.inside.ordered.items in
    let first : c.index.result.now ≡ slice_index_or ordered c.in-Ok.at no_line = c.index.ensures
    ∙ get_or_default ordered c.in-Ok.at c.index.result.now no_line place.in_range in
    let found = ap (line_with target) (sym c.self.view_is) ∙ sym (c.self.invariant.0.found target)
    ∙ line_at ordered target c.in-Ok.at c.self.invariant.0.in_order place in
    ap (option_map (λ (line : RouteLine). Repeated c.args.line.number line.number)) found
    ∙ ap (λ (line : RouteLine). Some (Repeated c.args.line.number line.number)) (sym first)

pub returns-in_ok-push-in-Err-clause-ok : goal.returns-in_ok-push-in-Err-clause-ok
returns-in_ok-push-in-Err-clause-ok c =
    let gap = subst (λ xs. IsGapFor xs c.args.line.target c.in-Err.at) c.deref.ensures.value c.in-Err.ensures.absent in
    let target = c.args.line.target in (
      ap (line_with target) (sym c.self.view_is) ∙ sym (c.self.invariant.0.found target) ∙ line_in_gap c.self.inside.ordered.items target c.in-Err.at gap,
      c.in_ok-push-in-Err.ensures.items ∙ ap (λ (xs : List RouteLine). xs ++ c.args.line ∷ []) c.self.view_is,
    )
