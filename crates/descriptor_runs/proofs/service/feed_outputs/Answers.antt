use Rattle.std.proofs.Common.{◌∙◌, ◌+◌, refl, sym, arith}
use Rattle.std.specs.Prelude.{is_some}
use Rattle.std.proofs.Math.Seq.{map-set_same}
use Rattle.slot_match.proofs.Sets.{zero-has}
use Rattle.descriptor_runs.specs.OutputSteps.{OutputValue}
use Rattle.descriptor_runs.proofs.Feeding.{feeding, fed_first, fed_all, match-long, inputs-long, fed_from, some_name, good-input, packet-there}
use Rattle.descriptor_runs.proofs.Feeding.{fed_more, come_before, few_cells, few_packets}
use Rattle.descriptor_runs.proofs.service.feed_outputs.Goals as goal

pub loop-output-init : goal.loop-output-init
loop-output-init c = record {
  left = λ j has. (c.fed_outputs-rest.ensures j).0 has;
  fed = λ scheduler plan t is are. fed_first scheduler plan t _ _ _ _ is c.slots_add_records.ensures c.args.outputs.now are c.fed_outputs-rest.result
      c.fed_outputs-rest.ensures;
  kept = refl;
}

pub without-rest-requires : goal.without-rest-requires
without-rest-requires c =
    let f = feeding c.args.inputs.now c.args.names.now c.args.matched.now c.args.nano c.args.outputs.now c.requires in
    let long = match-long f.scheduler f.plan f.t _ _ _ _ f.is in
    let most = f.is.good.size.most in
    let left = (c.loop-output.invariant.left c.in-Some.output c.in-Some.ensures.member).0 in
    omega arith

pub fed-requires : goal.fed-requires
fed-requires c = (c.loop-output.invariant.left c.in-Some.output c.in-Some.ensures.member).0

pub get-requires : goal.get-requires
get-requires c =
    let f = feeding c.args.inputs.now c.args.names.now c.args.matched.now c.args.nano c.args.outputs.now c.requires in
    let long = match-long f.scheduler f.plan f.t _ _ _ _ f.is in
    let count = f.outputs_are.count in
    let left = (c.loop-output.invariant.left c.in-Some.output c.in-Some.ensures.member).0 in
    let from = fed_from f.scheduler f.plan f.t _ _ _ _ f.is c.slots_add_records.ensures _ f.outputs_are c.in-Some.output (omega arith) c.in-Some-fed.fed
    (sym c.in-Some-fed.ensures.value) in
    let input = from.adds.input in
    let most = f.is.good.size.most in
    omega arith

pub bounds-outputs-output : goal.bounds-outputs-output
bounds-outputs-output c =
    let f = feeding c.args.inputs.now c.args.names.now c.args.matched.now c.args.nano c.args.outputs.now c.requires in
    let long = match-long f.scheduler f.plan f.t _ _ _ _ f.is in
    let count = (c.loop-output.invariant.fed f.scheduler f.plan f.t f.is f.outputs_are).count in
    let left = (c.loop-output.invariant.left c.in-Some.output c.in-Some.ensures.member).0 in
    omega arith

pub bounds-inputs-fed : goal.bounds-inputs-fed
bounds-inputs-fed c =
    let f = feeding c.args.inputs.now c.args.names.now c.args.matched.now c.args.nano c.args.outputs.now c.requires in
    let long = match-long f.scheduler f.plan f.t _ _ _ _ f.is in
    let count = f.outputs_are.count in
    let left = (c.loop-output.invariant.left c.in-Some.output c.in-Some.ensures.member).0 in
    let from = fed_from f.scheduler f.plan f.t _ _ _ _ f.is c.slots_add_records.ensures _ f.outputs_are c.in-Some.output (omega arith) c.in-Some-fed.fed
    (sym c.in-Some-fed.ensures.value) in
    let input = from.adds.input in
    let inputs = inputs-long f.scheduler f.plan f.t _ _ _ _ f.is in
    omega arith

pub feed-requires-clause-cells : goal.feed-requires-clause-cells
feed-requires-clause-cells c =
    let f = feeding c.args.inputs.now c.args.names.now c.args.matched.now c.args.nano c.args.outputs.now c.requires in
    let at = c.loop-output in
    let j = c.in-Some.output in
    let now = at.invariant.fed f.scheduler f.plan f.t f.is f.outputs_are in
    let long = match-long f.scheduler f.plan f.t _ _ _ _ f.is in
    let count = now.count in
    let left = (at.invariant.left j c.in-Some.ensures.member).0 in
    few_cells f.scheduler f.plan f.t j _
    (come_before f.scheduler f.plan f.t at.outputs at.rest j c.index-outputs-output.result now c.in-Some.ensures.member (omega arith))
    f.below f.slots (c.slots_add_one_cell.ensures.cells f.scheduler f.plan j f.t)

pub feed-requires-clause-packets : goal.feed-requires-clause-packets
feed-requires-clause-packets c =
    let f = feeding c.args.inputs.now c.args.names.now c.args.matched.now c.args.nano c.args.outputs.now c.requires in
    let at = c.loop-output in
    let j = c.in-Some.output in
    let now = at.invariant.fed f.scheduler f.plan f.t f.is f.outputs_are in
    let long = match-long f.scheduler f.plan f.t _ _ _ _ f.is in
    let count = now.count in
    let left = (at.invariant.left j c.in-Some.ensures.member).0 in
    few_packets f.scheduler f.plan f.t j _
    (come_before f.scheduler f.plan f.t at.outputs at.rest j c.index-outputs-output.result now c.in-Some.ensures.member (omega arith))
    (c.slots_add_one_cell.ensures.messages f.scheduler f.plan j (f.t + 1))

pub feed-requires-clause-good : goal.feed-requires-clause-good
feed-requires-clause-good c =
    let f = feeding c.args.inputs.now c.args.names.now c.args.matched.now c.args.nano c.args.outputs.now c.requires in
    let long = match-long f.scheduler f.plan f.t _ _ _ _ f.is in
    let count = f.outputs_are.count in
    let left = (c.loop-output.invariant.left c.in-Some.output c.in-Some.ensures.member).0 in
    good-input f.scheduler f.plan f.t _ _ _ _ f.is c.slots_add_records.ensures _ f.outputs_are c.in-Some.output (omega arith) c.in-Some-fed.fed
    c.index-inputs-fed.result (sym c.in-Some-fed.ensures.value) c.index-inputs-fed.is

pub feed-requires-clause-there : goal.feed-requires-clause-there
feed-requires-clause-there c =
    let f = feeding c.args.inputs.now c.args.names.now c.args.matched.now c.args.nano c.args.outputs.now c.requires in
    let long = match-long f.scheduler f.plan f.t _ _ _ _ f.is in
    let count = f.outputs_are.count in
    let left = (c.loop-output.invariant.left c.in-Some.output c.in-Some.ensures.member).0 in
    packet-there f.scheduler f.plan f.t _ _ _ _ f.is c.slots_add_records.ensures _ f.outputs_are c.in-Some.output (omega arith) c.in-Some-fed.fed
    c.in-Some-get.name c.index-inputs-fed.result (sym c.in-Some-fed.ensures.value) (sym c.get.ensures ∙ c.in-Some-get.is) c.index-inputs-fed.is

pub loop-output-preserved-in_default-get : goal.loop-output-preserved-in_default-get
loop-output-preserved-in_default-get c = record {
  left = λ j has. c.loop-output.invariant.left j ((c.without-rest.ensures.members j).0 has).1;
  fed = λ scheduler plan t is are.
      let long = match-long scheduler plan t _ _ _ _ is in
      let count = are.count in
      let left = (c.loop-output.invariant.left c.in-Some.output c.in-Some.ensures.member).0 in
      absurd (some_name scheduler plan t _ _ _ _ is c.slots_add_records.ensures _ are c.in-Some.output (omega arith) c.in-Some-fed.fed
      (sym c.in-Some-fed.ensures.value) (sym c.get.ensures ∙ c.in_default-get.is));
  kept = c.loop-output.invariant.kept;
}

pub loop-output-preserved : goal.loop-output-preserved
loop-output-preserved c = record {
  left = λ j has. c.loop-output.invariant.left j ((c.without-rest.ensures.members j).0 has).1;
  fed = λ scheduler plan t is are.
      let at = c.loop-output in
      let j = c.in-Some.output in
      let member = c.in-Some.ensures.member in
      let now = at.invariant.fed scheduler plan t is are in
      let long = match-long scheduler plan t _ _ _ _ is in
      let count = are.count in
      let counted = now.count in
      let left = (at.invariant.left j member).0 in
      fed_more scheduler plan t _ _ _ _ is c.slots_add_records.ensures _ are j (omega arith) at.outputs at.rest c.without-rest.result _ c.feed.new.output
      c.in-Some-fed.fed c.in-Some-get.name c.index-inputs-fed.result now c.without-rest.ensures.members
      (come_before scheduler plan t at.outputs at.rest j c.index-outputs-output.result now member (omega arith)) (sym c.in-Some-fed.ensures.value)
      (sym c.get.ensures ∙ c.in-Some-get.is) c.index-inputs-fed.is c.in_ok-feed.ensures;
  kept = map-set_same (λ (output : OutputValue). is_some output.text) c.loop-output.outputs c.in-Some.output c.feed.new.output
      c.index-outputs-output.result c.in_ok-feed.ensures.kept
      ∙ c.loop-output.invariant.kept;
}

pub returns-clause-fed : goal.returns-clause-fed
returns-clause-fed c = λ scheduler plan t scheduling good plans granted matched nano are.
    fed_all scheduler plan t c.loop-output.outputs c.loop-output.rest
    (c.loop-output.invariant.fed scheduler plan t
    (record { scheduling = scheduling; good = good; plans = plans; granted = granted; matched_is = matched; nano_is = nano }) are)
    (λ j. zero-has c.loop-output.rest j (c.in_default.ensures.none.0 refl))
