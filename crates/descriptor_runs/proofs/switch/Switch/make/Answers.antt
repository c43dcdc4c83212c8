use Rattle.std.proofs.Common.{◌≡◌, ◌∙◌, List, [], Option, None, Some, slice_index_or, length, map, refl, sym, ap, subst, arith}
use Rattle.std.specs.Prelude.{slice_get, is_some}
use Rattle.std.specs.Option.{option_map}
use Rattle.std.proofs.lemmas.List.{length-map}
use Rattle.std.proofs.lemmas.List.Sums.{get_or-le-sum_by}
use Rattle.std.proofs.lemmas.Option.{slice_get-map, slice_get_within, get_or_from_slice_get}
use Rattle.std_lemmas.proofs.Lists.{get_or-same}
use Rattle.rotating_pick.specs.declared.limits.TheConstants.{MAX_PORTS}
use Rattle.slot_match.specs.declared.matching.Fed.{Fed}
use Rattle.slot_match.specs.Matches.{unmatched}
use Rattle.slot_match.specs.Parts.{served_of}
use Rattle.slot_match.proofs.Kept.{nobody_at_first}
use Rattle.slot_match.proofs.ServedParts.{served_of-free}
use Rattle.pointer_state.specs.Places.{places_at_first}
use Rattle.named_schedulers.specs.Named.{decision_named}
use Rattle.card_core.specs.Plans.{Plan, plan_of}
use Rattle.switch_plan.specs.GoodPlans.{switch_plan_of, packets_in}
use Rattle.run_laws.specs.Runs.{ports_of, card_at, before_under}
use Rattle.descriptor_runs.specs.OutputSteps.{OutputValue, HasCome}
use Rattle.descriptor_runs.specs.SwitchSteps.{IsNameOf}
use Rattle.descriptor_runs.proofs.Keeping.{new_come, new_keeps}
use Rattle.descriptor_runs.proofs.Resting.{rests-first}
use Rattle.descriptor_runs.proofs.switch.Switch.make.Goals as goal

pub make-requires-clause-good : goal.make-requires-clause-good
make-requires-clause-good c = λ port card there.
    (c.requires.good.cards port (plan_of card) (slice_get-map plan_of c.args.plan.cards.items port ∙ ap (option_map plan_of) there)).good

pub make-requires-clause-few : goal.make-requires-clause-few
make-requires-clause-few c = λ port card there.
    let packets = packets_in (switch_plan_of c.args.plan) in
    let mine : slice_get packets port ≡ Some card.packets.items =
    slice_get-map (λ (p : Plan). p.packets) (map plan_of c.args.plan.cards.items) port
    ∙ ap (option_map (λ (p : Plan). p.packets)) (slice_get-map plan_of c.args.plan.cards.items port ∙ ap (option_map plan_of) there) in
    let inside = slice_get_within packets port card.packets.items mine in
    let here = ap length (get_or_from_slice_get packets port card.packets.items [] mine) in
    let most = get_or-le-sum_by length packets port [] inside in
    let few = c.requires.countable.packets in
    omega arith

pub returns-clause-before : goal.returns-clause-before
unfolding before_under
returns-clause-before c =
    let plan = switch_plan_of c.args.plan in
    let ports : c.len-ports.result ≡ ports_of plan = c.len-ports.ensures ∙ (c.args.plan.cards.ok.0 ∙ sym (length-map c.args.plan.cards.items plan_of)) in
    let made = c.in_ok-make-2.ensures in
    record {
      switch_is = record {
        decides = ap decision_named c.new.ensures;
        rounds = refl;
        nano = refl;
        pointers = c.new-2.ensures.value ∙ ap places_at_first ports;
        matched = c.new-3.ensures.whole.count ∙ ports;
        posts = sym c.in_ok-posts.posts.ok.0 ∙ (c.in_ok-posts.ensures.len ∙ ports);
        meter_ports = made.0 ∙ ports;
        meter_count = made.1.count;
        noted = made.1;
      };
      inputs = record { plans = c.in_ok-make.ensures.plans; served = c.in_ok-make.ensures.served };
      names = λ i inside.
          subst (IsNameOf (card_at plan i) None) (sym (ap (λ names. slice_index_or names i None) c.new-4.ensures ∙ get_or-same None MAX_PORTS i)) refl;
      outputs = record {
        count = c.in_ok-outputs.ensures.count ∙ (ap length c.deref.ensures.value ∙ sym (length-map c.args.plan.cards.items plan_of));
        come = λ j output at. subst (HasCome (decision_named c.args.scheduler) plan 1 j) (sym (c.in_ok-outputs.ensures.each j output at))
            (new_come c.args.captures (decision_named c.args.scheduler) plan j);
      };
      parts = λ i inside. get_or-same None MAX_PORTS i ∙ sym (ap (λ (m : List (Option Fed)). served_of m i) c.new-3.ensures.value
          ∙ served_of-free (unmatched c.len-ports.result) i (nobody_at_first c.len-ports.result i));
      resting = rests-first c.in_ok-make.field-0 c.new-3.result c.in_ok-make.ensures.served;
    }

pub returns-clause-kept : goal.returns-clause-kept
returns-clause-kept c = λ j output at.
    ap (λ (x : OutputValue). is_some x.text) (c.in_ok-outputs.ensures.each j output at) ∙ new_keeps c.args.captures c.args.plan.nano c.args.plan.link
