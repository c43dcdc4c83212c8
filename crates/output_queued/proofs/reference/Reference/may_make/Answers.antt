use Rattle.std.proofs.Common.{◌∙◌, sym}
use Rattle.std.proofs.lemmas.List.{length-map}
use Rattle.output_queued.proofs.reference.Reference.may_make.Goals as goal

pub returns-then-are_sizes : goal.returns-then-are_sizes
returns-then-are_sizes c =
    let sizes = c.are_sizes.ensures.0 c.if-are_sizes.true in
    let long = length-map c.args.coming.now (λ list. list.items) in (
      λ yes_.
          let all = c.are_inputs.ensures.0 yes_ in (
            record { some = sizes.0; size = sizes.1; deep = sizes.2; count = long ∙ sizes.4; each = all.0 },
            record { depth_in = sizes.3; early = all.1 },
          ),
      λ all. c.are_inputs.ensures.1 (all.0.each, all.1.early),
    )

pub returns-else-are_sizes : goal.returns-else-are_sizes
returns-else-are_sizes c =
    let long = length-map c.args.coming.now (λ list. list.items) in (
      λ no_. absurd (cc),
      λ all.
          let yes_ = c.are_sizes.ensures.1 (all.0.some, all.0.size, all.0.deep, all.1.depth_in, sym long ∙ all.0.count) in
          let no_ = c.if-are_sizes.false in
          absurd (cc),
    )
