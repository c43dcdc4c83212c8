use Rattle.std.proofs.Common.{◌≡◌, ◌∙◌, Some, ap, sym}
use Rattle.slot_match.specs.Matches.{fed_of}
use Rattle.slot_match.specs.FieldSteps.{feeds_of}
use Rattle.slot_match.proofs.FeedTables.{marks-fed}
use Rattle.slot_match.proofs.feeds.Feeds.alike.Goals as goal

pub returns : goal.returns
returns c j fed e =
    let inputs = c.self.inside.inputs in
    let marks = c.self.inside.marks in
    let here : fed_of (feeds_of inputs marks) j ≡ Some fed = ap (λ m. fed_of m j) c.self.view_is ∙ e in
    let known = marks-fed inputs marks j fed here in
    let alike = c.alike.ensures j in (
      λ has. let p = alike.0 has in (sym known.1 ∙ p.1, sym known.2 ∙ p.2),
      λ p. alike.1 (known.0, known.1 ∙ p.0, known.2 ∙ p.1),
    )
