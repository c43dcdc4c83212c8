use Rattle.std.proofs.Common.{◌∙◌, [], List, length, slice_index_or, ap, sym, arith}
use Rattle.std.proofs.lemmas.List.{get_or-replicate, length-replicate}
use Rattle.card_core.specs.Plans.{plan_of}
use Rattle.queue_lengths.specs.Lengths.{place_of}
use Rattle.queue_measures.specs.declared.numbers.QueueNumbers.{QueueNumbers}
use Rattle.queue_measures.specs.NotingSteps.{no_numbers}
use Rattle.queue_measures.proofs.SoFar.{numbers-first}
use Rattle.queue_lengths.proofs.Places.{place-inside}
use Rattle.queue_measures.proofs.inputs.Input.make.Goals as goal

pub returns : goal.returns
returns c =
    let plan = plan_of c.args.plan.now in
    let items = c.in_ok-numbers.ensures in
    let count = c.queue_count.ensures in
    record {
      counted = c.requires.counted;
      counts = c.in_ok-queues.ensures;
      count = ap length items ∙ length-replicate c.queue_count.result no_numbers ∙ count;
      numbers = λ q mine. ap (λ (ns : List QueueNumbers). slice_index_or ns (place_of plan.ports q) no_numbers) items
          ∙ get_or-replicate c.queue_count.result (place_of plan.ports q) no_numbers no_numbers
          (let inside = place-inside plan.ports q mine in omega (arith, inside, count))
          ∙ sym (numbers-first plan [] q);
    }
