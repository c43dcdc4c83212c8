use Rattle.std.proofs.Common.{◌≡◌, ◌∙◌, ◌-◌, ◌<◌, ◌==◌, false, length, slice_index_or, sym, arith}
use Rattle.std.proofs.lemmas.Bool.Decides.{nat_tests}
use Rattle.card_core.specs.Plans.{no_packet}
use Rattle.switch_plan.proofs.Summing.{slots_last}
use Rattle.switch_plan.proofs.totals.slots_of.Goals as goal

pub returns : goal.returns
returns c =
    let packets = c.args.packets.now in
    let none : (length packets == 0) ≡ false = sym c.is_empty.ensures ∙ c.if-is_empty.false in
    let some : 0 < length packets = grind (arith, nat_tests, none) in
    let last = slots_last packets (length packets - 1) (omega (arith, some)) in
    let here : c.from.result ≡ (slice_index_or packets (length packets - 1) no_packet).arrival = c.from.ensures in
    omega (arith, last, here)
