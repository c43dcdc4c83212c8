use Rattle.std.proofs.Common.{◌≡◌, ◌∙◌, ◌+◌, suc, List, map, Option, sym, ap, subst, arith, inl, inr}
use Rattle.slot_match.specs.declared.matching.Fed.{Fed}
use Rattle.slot_match.specs.Parts.{served_of}
use Rattle.slot_match.specs.Rows.{AreWithin}
use Rattle.slot_match.proofs.ServedParts.{served_of-free}
use Rattle.eslip_rounds.specs.Slots.{Decision}
use Rattle.named_schedulers.specs.Named.{decision_named}
use Rattle.slot_histories.specs.Slots.{places_under}
use Rattle.service_bound.specs.Waits.{noted_of}
use Rattle.run_laws.specs.Runs.{setup_for, posts_under}
use Rattle.run_laws.specs.Sums.{schedule_under}
use Rattle.descriptor_runs.proofs.DecidedSlots.{rows-within, ports-are, can-decide, has-parts, decision-is, noted, kept}
use Rattle.descriptor_runs.proofs.ServedPorts.{free-unless}
use Rattle.descriptor_runs.proofs.switch.Switch.decide.Goals as goal

pub let_in-came-requires : goal.let_in-came-requires
let_in-came-requires c =
    let (scheduler, plan, scheduling, good, countable, below, is) = c.requires in
    let few = countable.slots in
    (scheduler, plan, omega arith, is.inputs)

pub decide_over-self-requires : goal.decide_over-self-requires
decide_over-self-requires c =
    let (scheduler, plan, scheduling, good, countable, below, is) = c.requires in
    can-decide scheduler scheduling plan good c.args.slot c.args.self.now is c.let_in-came.new.self (c.let_in-came.ensures.arrived scheduler plan is.inputs)
    c.columns.result.now c.columns.ensures c.ports-ports.result c.ports-ports.ensures.value

pub change_parts-requires-clause-inside : goal.change_parts-requires-clause-inside
change_parts-requires-clause-inside c = λ i has.
    let switch = c.args.self.now in
    let (scheduler, plan, scheduling, good, countable, below, is) = c.requires in
    let ports_are = ports-are scheduler scheduling plan good c.args.slot switch is c.let_in-came.new.self
    (c.let_in-came.ensures.arrived scheduler plan is.inputs) c.columns.result.now c.columns.ensures c.ports-ports.result c.ports-ports.ensures.value in
    let inside = ((c.served_inputs-before.ensures i).0 has).0 in
    let count = c.decide_over-self.ensures.decided.whole.count in
    let long = is.switch_is.matched in
    omega arith

pub change_parts-requires-clause-free : goal.change_parts-requires-clause-free
change_parts-requires-clause-free c = λ i inside lacks.
    let switch = c.args.self.now in
    let (scheduler, plan, scheduling, good, countable, below, is) = c.requires in
    let ports_are = ports-are scheduler scheduling plan good c.args.slot switch is c.let_in-came.new.self
    (c.let_in-came.ensures.arrived scheduler plan is.inputs) c.columns.result.now c.columns.ensures c.ports-ports.result c.ports-ports.ensures.value in
    let count = c.decide_over-self.ensures.decided.whole.count in
    let long = is.switch_is.matched in
    is.parts i (omega arith)
    ∙ served_of-free switch.matched i (free-unless switch.matched c.served_inputs-before.result i c.served_inputs-before.ensures (omega arith) lacks)

pub note_news-requires-clause-rows : goal.note_news-requires-clause-rows
note_news-requires-clause-rows c =
    let switch = c.args.self.now in
    let (scheduler, plan, scheduling, good, countable, below, is) = c.requires in
    subst (AreWithin switch.meter.ports) (sym c.rows-rows.ensures)
    (rows-within scheduler scheduling plan good c.args.slot switch is c.let_in-came.new.self (c.let_in-came.ensures.arrived scheduler plan is.inputs)
    c.columns-2.result.now c.columns-2.ensures switch.meter.ports is.switch_is.meter_ports)

pub note_news-requires-clause-kept : goal.note_news-requires-clause-kept
note_news-requires-clause-kept c =
    let switch = c.args.self.now in
    let t = c.args.slot in
    let (scheduler, plan, scheduling, good, countable, below, is) = c.requires in
    let inputs = c.let_in-came.new.self in
    let are = c.let_in-came.ensures.arrived scheduler plan is.inputs in
    let matched = c.decide_over-self.new.out in
    let ports = c.ports-ports.result in
    let rows = c.columns.result.now in
    let ports_are = ports-are scheduler scheduling plan good t switch is inputs are rows c.columns.ensures ports c.ports-ports.ensures.value in
    let whole = c.decide_over-self.ensures.decided.whole in (
      map noted_of (schedule_under scheduler plan t),
      matched,
      is.switch_is.noted,
      has-parts scheduler scheduling plan good t switch is inputs are rows c.columns.ensures ports c.ports-ports.ensures.value matched
          c.change_parts.new.parts whole c.change_parts.ensures.parts,
      kept scheduler scheduling plan good t switch is inputs are c.columns-2.result.now c.columns-2.ensures c.rows-rows.result.now c.rows-rows.ensures
          switch.meter.ports is.switch_is.meter_ports matched (whole.count ∙ ports_are) c.let_in-came.result
          c.served_inputs-before.result c.served_inputs.result c.union-news.result c.let_in-came.ensures.others
          c.served_inputs-before.ensures c.served_inputs.ensures
          (λ i has. (c.union-news.ensures i).1 (elim has [ inl came ↦ inl came | inr served ↦ inr ((c.union.ensures i).1 served) ])),
    )

pub returns-clause-decided : goal.returns-clause-decided
returns-clause-decided c = λ scheduler plan scheduling good is.
    let switch = c.args.self.now in
    let t = c.args.slot in
    let one : suc t ≡ t + 1 = omega arith in
    let inputs = c.let_in-came.new.self in
    let are = c.let_in-came.ensures.arrived scheduler plan is.inputs in
    let rows = c.columns.result.now in
    let rows_are = c.columns.ensures in
    let ports = c.ports-ports.result in
    let ports_are = c.ports-ports.ensures.value in
    let decided = decision-is scheduler scheduling plan good t switch is inputs are rows rows_are ports ports_are _
    c.decide_over-self.ensures.decided.decision in
    let matched_is = ap (λ (d : Decision). d.matched) decided in
    let whole = c.decide_over-self.ensures.decided.whole in
    let count = whole.count ∙ ports-are scheduler scheduling plan good t switch is inputs are rows rows_are ports ports_are in
    let matched = c.decide_over-self.new.out in
    let parts = has-parts scheduler scheduling plan good t switch is inputs are rows rows_are ports ports_are matched c.change_parts.new.parts whole
    c.change_parts.ensures.parts in
    record {
      switch_is = record {
        decides = ap decision_named c.decide_over-self.ensures.name ∙ is.switch_is.decides;
        rounds = is.switch_is.rounds;
        nano = is.switch_is.nano;
        pointers = ap (λ (d : Decision). d.places) decided ∙ ap (places_under scheduler (setup_for plan) (posts_under scheduler plan)) one;
        matched = count;
        posts = is.switch_is.posts;
        meter_ports = c.note_news.ensures.ports ∙ is.switch_is.meter_ports;
        meter_count = c.note_news.ensures.count ∙ ap (λ k. k + 1) is.switch_is.meter_count;
        noted = noted scheduler scheduling plan good t switch is inputs are rows rows_are c.rows-rows.result.now
            (c.rows-rows.ensures ∙ (c.columns-2.ensures ∙ sym rows_are)) c.note_news.new.self matched
            (λ slots was. c.note_news.ensures.noted slots matched was parts) matched_is;
      };
      inputs = are;
      names = is.names;
      outputs = is.outputs;
      matched = matched_is;
      numbers = ap (λ (d : Decision). d.numbers) decided;
      parts = λ i inside. c.change_parts.ensures.parts i (omega arith) ∙ ap (λ (matched : List (Option Fed)). served_of matched i) matched_is;
    }

pub returns-clause-activity : goal.returns-clause-activity
returns-clause-activity c = λ scheduler plan scheduling good is.
    c.activity.ensures scheduler plan c.args.slot (c.let_in-came.ensures.arrived scheduler plan is.inputs)
