use Rattle.std.proofs.Common.{ℕ, ◌∙◌, ◌-◌, ap, sym, refl, arith}
use Rattle.std.proofs.option.Match.{None-if_not_some}
use Rattle.forward_table.specs.declared.route_lines.Target.TheVariants.{Prefix}
use Rattle.forward_table.specs.Reading.{line_with}
use Rattle.forward_table.proofs.Covering.{prefix_at, longest_none}
use Rattle.forward_table.proofs.Searching.{searched_in, none_before, found_longest, none_left, searched_more}
use Rattle.forward_table.proofs.ordered_lines.longest_of.Goals as goal

pub loop-host_bits-preserved : goal.loop-host_bits-preserved
loop-host_bits-preserved c =
    let k = c.in-Some.host_bits in
    let looked = c.line_of-line.ensures ∙ ap (λ (a : ℕ). line_with (Prefix (32 - k) a) c.args.ordered.now) c.without_host_bits.ensures in
    let none = None-if_not_some c.line_of-line.result (sym c.is_some.ensures ∙ c.if-is_some.false) in
    record {
      left = λ j has. c.loop-host_bits.invariant.left j ((c.without-rest.ensures.members j).0 has).1;
      searched = searched_more c.args.ordered.now c.args.lengths c.loop-host_bits.rest c.without-rest.result c.args.address k
          c.loop-host_bits.invariant.searched (sym looked ∙ none) (λ j other has. (c.without-rest.ensures.members j).1 (other, has));
    }

pub returns-then-is_some : goal.returns-then-is_some
returns-then-is_some c table indexed lengths =
    let k = c.in-Some.host_bits in
    let looked = c.line_of-line.ensures ∙ ap (λ (a : ℕ). line_with (Prefix (32 - k) a) c.args.ordered.now) c.without_host_bits.ensures in
    let few = c.requires.within k (c.loop-host_bits.invariant.left k c.in-Some.ensures.member) in
    let searched = searched_in table c.args.ordered.now c.args.lengths c.loop-host_bits.rest c.args.address indexed c.loop-host_bits.invariant.searched in
    let none = none_before table c.args.lengths c.loop-host_bits.rest c.args.address k lengths searched c.in-Some.ensures.least (omega arith) in
    found_longest table c.args.address k c.line_of-line.result few indexed.prefixes none (sym c.is_some.ensures ∙ c.if-is_some.true)
    (looked ∙ indexed.found (prefix_at c.args.address k))

pub returns : goal.returns
returns c table indexed lengths =
    let least = none_left c.loop-host_bits.rest 33 (c.in_default.ensures.none.0 refl) in
    let searched = searched_in table c.args.ordered.now c.args.lengths c.loop-host_bits.rest c.args.address indexed c.loop-host_bits.invariant.searched in
    sym (longest_none c.args.address table indexed.prefixes
    (none_before table c.args.lengths c.loop-host_bits.rest c.args.address 33 lengths searched least (omega arith)))
