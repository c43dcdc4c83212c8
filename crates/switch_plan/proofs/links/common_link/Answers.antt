use Rattle.std.proofs.Common.{◌∙◌, Some, ap, sym}
use Rattle.pcap_records.specs.Format.{link_type}
use Rattle.switch_plan.proofs.Linked.{first_link_is, link_passed, link_found, mixed_are}
use Rattle.switch_plan.proofs.links.common_link.Goals as goal

pub loop-capture-preserved : goal.loop-capture-preserved
loop-capture-preserved c =
    link_passed c.args.captures.now c.loop-capture.capture-index c.capture-item.result c.number-first.result c.loop-capture-test.true c.capture-item.is
    (sym c.number-other.ensures ∙ c.if-other-first.false) c.loop-capture.invariant

pub returns-then-other-first-clause-mixed : goal.returns-then-other-first-clause-mixed
returns-then-other-first-clause-mixed c =
    let captures = c.args.captures.now in
    let found = link_found captures c.loop-capture.capture-index c.capture-item.result c.number-first.result c.loop-capture-test.true c.capture-item.is
    (λ same. c.if-other-first.true (c.number-other.ensures ∙ same)) c.loop-capture.invariant in
    mixed_are captures c.number-first.result c.number-other.result
    (c.number-first.ensures ∙ ap link_type (sym (first_link_is captures c.index-captures-0.result c.requires)))
    (found ∙ ap (λ n. Some n) (sym c.number-other.ensures))
