use Rattle.std.proofs.Common.{◌≡◌, ◌∙◌, refl, arith}
use Rattle.switch_plan.specs.JobSteps.{packets_of_ports}
use Rattle.switch_plan.proofs.PortSums.{aside_is, oversize_is}
use Rattle.switch_plan.proofs.AllPorts.{end_is}
use Rattle.switch_plan.proofs.jobs.plan_with.Goals as goal

pub overflow_cast-result : goal.overflow_cast-result
overflow_cast-result c =
    let end = c.requires.ports.end in
    omega (
      arith,
      end,
      end_is c.args.ports.items c.args.brought.now c.args.settings.now.depth c.in_ok-cards.cards.items c.deref.result.now c.requires.brought
          c.in_ok-cards.ensures c.deref.ensures.value,
      c.greatest_slots.ensures,
      c.total_work-cells.ensures,
    )

pub overflow_add-result : goal.overflow_add-result
overflow_add-result c = let fits = overflow_cast-result c in omega (arith, fits)

pub overflow_add-result-2 : goal.overflow_add-result-2
overflow_add-result-2 c = let fits = overflow_cast-result c in omega (arith, fits)

pub returns : goal.returns
returns c =
    let packets = packets_of_ports c.args.ports.items in
    let oversize : c.total_oversize-oversize.result ≡ _ = c.total_oversize-oversize.ensures ∙ oversize_is packets c.args.brought.now c.requires.brought in
    let aside = c.total_aside-aside.ensures ∙ aside_is packets c.args.brought.now c.requires.brought in
    let long = c.requires.ports.long in
    let end = end_is c.args.ports.items c.args.brought.now c.args.settings.now.depth c.in_ok-cards.cards.items c.deref.result.now c.requires.brought
    c.in_ok-cards.ensures c.deref.ensures.value in
    record {
      nano = refl;
      link = refl;
      rounds = refl;
      depth = refl;
      workers = refl;
      max_slots = omega (arith, end, c.greatest_slots.ensures, c.total_work-cells.ensures);
      oversize = oversize;
      aside = omega (arith, oversize, aside, long);
      cards = c.in_ok-cards.ensures;
    }
