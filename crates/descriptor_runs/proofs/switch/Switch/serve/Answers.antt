use Rattle.std.proofs.Common.{◌∙◌, List, map, Option, ap, sym}
use Rattle.std.proofs.lemmas.Result.{on_ok_weaker}
use Rattle.slot_match.specs.declared.matching.Fed.{Fed}
use Rattle.slot_match.specs.Parts.{served_of}
use Rattle.descriptor_runs.specs.InputSteps.{InputValue}
use Rattle.descriptor_runs.proofs.Resting.{rests-after}
use Rattle.descriptor_runs.proofs.ServedSlots.{outputs-given, outputs-fed}
use Rattle.descriptor_runs.proofs.switch.Switch.serve.Goals as goal

pub serve_inputs-requires : goal.serve_inputs-requires
serve_inputs-requires c =
    let (scheduler, plan, t, scheduling, good, countable, below, is) = c.requires in
    (scheduler, plan, t, scheduling, good, is.inputs, is.matched, is.parts)

pub feed_outputs-requires : goal.feed_outputs-requires
feed_outputs-requires c =
    let (scheduler, plan, t, scheduling, good, countable, below, is) = c.requires in
    let (inputs, granted, names) = c.serve_inputs.ensures.served scheduler plan t scheduling good is.inputs is.matched is.parts in
    let plans = ap (map (λ (input : InputValue). input.plan)) c.as_slice.ensures ∙ inputs.plans in (
      scheduler,
      plan,
      t,
      scheduling,
      good,
      countable,
      below,
      plans,
      granted,
      is.matched,
      is.switch_is.nano,
      outputs-given scheduler plan t c.args.self.now is c.deref_mut.result.now c.deref_mut.ensures.value,
    )

pub returns-clause-served : goal.returns-clause-served
returns-clause-served c = on_ok_weaker c.feed_outputs.result
    (λ fed scheduler plan t scheduling good is.
    let switch = c.args.self.now in
    let given = c.deref_mut.result.now in
    let same = c.deref_mut.ensures.value in
    let (inputs, granted, names) = c.serve_inputs.ensures.served scheduler plan t scheduling good is.inputs is.matched is.parts in
    let plans = ap (map (λ (input : InputValue). input.plan)) c.as_slice.ensures ∙ inputs.plans in
    record {
      switch_is = record {
        decides = is.switch_is.decides;
        rounds = is.switch_is.rounds;
        nano = is.switch_is.nano;
        pointers = is.switch_is.pointers;
        matched = is.switch_is.matched;
        posts = is.switch_is.posts;
        meter_ports = is.switch_is.meter_ports;
        meter_count = is.switch_is.meter_count;
        noted = is.switch_is.noted;
      };
      inputs = inputs;
      names = names;
      outputs = outputs-fed scheduler plan t switch is given same c.feed_outputs.new.outputs c.feed_outputs.auto.outputs
          (fed scheduler plan t scheduling good plans granted is.matched is.switch_is.nano (outputs-given scheduler plan t switch is given same));
      parts = λ i inside. is.parts i inside ∙ ap (λ (m : List (Option Fed)). served_of m i) (sym is.matched);
      resting = rests-after scheduler plan t switch is c.serve_inputs.new.inputs c.serve_inputs.ensures.others;
    })
    c.feed_outputs.ensures.fed
