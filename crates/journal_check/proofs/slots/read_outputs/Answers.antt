use Rattle.std.proofs.Common.{◌≡◌, ◌+◌, ℕ, subst, arith}
use Rattle.journal_check.proofs.SlotLoops.{AreOutputsRead, outputs_begin, outputs_go_on, outputs_end}
use Rattle.journal_check.proofs.slots.read_outputs.Goals as goal

pub loop-j-init : goal.loop-j-init
loop-j-init c = outputs_begin c.args.ports c.args.bytes.now c.args.at c.args.fed.now c.requires.place c.told-fed

pub loop-j-preserved : goal.loop-j-preserved
loop-j-preserved c = outputs_go_on c.args.ports c.args.bytes.now c.args.at c.loop-j.j c.loop-j.next
    (c.loop-j.next + 2) c.loop-j.fed c.in_ok-fed.field-0 c.loop-j-test.true c.requires.few c.loop-j.invariant c.in_ok-fed.ensures

pub returns : goal.returns
returns c =
    let end : c.loop-j.j ≡ c.args.ports = omega arith in
    let P = λ (j : ℕ). AreOutputsRead c.args.ports c.args.bytes.now c.args.at j c.loop-j.next c.loop-j.fed in
    outputs_end c.args.ports c.args.bytes.now c.args.at c.loop-j.next c.loop-j.fed (subst P end c.loop-j.invariant)
