use Rattle.std.proofs.Common.{◌≡◌, ◌∙◌, Some, length, set, ap, arith, rules}
use Rattle.rotating_pick.specs.declared.limits.TheConstants.{MAX_PORTS}
use Rattle.slot_match.proofs.FeedTables.{feeds_of-set, AreMarked-set}
use Rattle.slot_match.proofs.feeds.Feeds.set.Goals as goal

pub invariant_of-self : goal.invariant_of-self
invariant_of-self c =
    let long : length c.self.inside.inputs ≡ MAX_PORTS = search rules in
    let inside = c.requires.output_in in
    AreMarked-set c.self.inside.inputs c.self.inside.marks c.set.new.self c.args.output c.args.by.input (omega arith)
    c.requires.input_in (λ j other. (c.set.ensures.others j other).1) c.self.invariant

pub returns : goal.returns
returns c =
    let s = c.set.ensures in
    feeds_of-set c.self.inside.inputs c.self.inside.marks c.set.new.self c.args.output c.args.by (search rules) c.requires.output_in
    c.requires.input_in (record { level = s.level; kind = s.kind; others = s.others })
    ∙ ap (λ m. set m c.args.output (Some c.args.by)) c.self.view_is
