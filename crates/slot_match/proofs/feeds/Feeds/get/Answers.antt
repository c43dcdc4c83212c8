use Rattle.std.proofs.Common.{◌∙◌, ◌≤◌, ◌<◌, slice_index, sym, ap, arith}
use Rattle.rotating_pick.specs.declared.limits.TheConstants.{MAX_PORTS}
use Rattle.slot_match.specs.Matches.{fed_of}
use Rattle.slot_match.specs.FieldSteps.{level_at, kind_at}
use Rattle.slot_match.proofs.FeedTables.{fed_as-some, fed_as-none, fed_of-feeds_of}
use Rattle.slot_match.proofs.feeds.Feeds.get.Goals as goal

pub returns-then-input-ge-MAX_PORTS : goal.returns-then-input-ge-MAX_PORTS
returns-then-input-ge-MAX_PORTS c =
    let inputs = c.self.inside.inputs in
    let marks = c.self.inside.marks in
    let j = c.args.output in
    let above : MAX_PORTS ≤ slice_index inputs j = omega (arith, c.from-input.ensures, c.if-input-ge-MAX_PORTS.true) in
    sym (ap (λ m. fed_of m j) (sym c.self.view_is)
    ∙ (fed_of-feeds_of inputs marks j c.requires ∙ fed_as-none (slice_index inputs j) (level_at marks j) (kind_at marks j) above))

pub returns : goal.returns
returns c =
    let inputs = c.self.inside.inputs in
    let marks = c.self.inside.marks in
    let j = c.args.output in
    let below : slice_index inputs j < MAX_PORTS = omega (arith, c.from-input.ensures, c.if-input-ge-MAX_PORTS.false) in
    rw (c.from-input.ensures, c.level.ensures, c.kind.ensures)
    (sym (ap (λ m. fed_of m j) (sym c.self.view_is)
    ∙ (fed_of-feeds_of inputs marks j c.requires ∙ fed_as-some (slice_index inputs j) (level_at marks j) (kind_at marks j) below)))
