use Rattle.std.proofs.Common.{◌∙◌, Option, None, take, ap}
use Rattle.std.proofs.lemmas.List.{take-replicate}
use Rattle.rotating_pick.specs.declared.limits.TheConstants.{MAX_PORTS}
use Rattle.slot_match.specs.declared.matching.Fed.{Fed}
use Rattle.slot_match.proofs.Kept.{AreKept-new, IsMatch-unmatched}
use Rattle.slot_match.proofs.matching.Match.new.Goals as goal

pub invariant_of-result : goal.invariant_of-result
invariant_of-result c =
    AreKept-new c.args.n c.new.result c.all.result c.all-2.result c.requires.some c.requires.size c.new.ensures c.all.ensures.members c.all-2.ensures.members

pub returns-clause-value : goal.returns-clause-value
returns-clause-value c = let nothing : Option Fed = None in ap (take c.args.n) c.new.ensures ∙ take-replicate c.args.n MAX_PORTS nothing c.requires.size

pub returns-clause-whole : goal.returns-clause-whole
returns-clause-whole c = rw (returns-clause-value c) (IsMatch-unmatched c.args.n)
