use Rattle.std.proofs.Common.{◌≡◌, ◌∙◌, ◌<◌, Option, None, Some, refl, sym, subst, arith, slice_index_or}
use Rattle.slot_match.specs.declared.matching.Served.{Served}
use Rattle.slot_match.specs.Matches.{IsFreeInput}
use Rattle.slot_match.proofs.Sets.{zero-has}
use Rattle.run_laws.specs.Runs.{ports_of}
use Rattle.descriptor_runs.proofs.ServedPorts.{IsServing, AreServed, match-long, some-part, served-first, input-there, now, was, may, served-more, served-all}
use Rattle.descriptor_runs.proofs.service.serve_inputs.Goals as goal

-- what is no value is none
no-value : (part : Option Served) → ((x : Served) → part ≡ Some x → ⊥) → part ≡ None
no-value None other = refl
no-value (Some x) other = absurd (other x refl)

pub loop-port-init : goal.loop-port-init
loop-port-init c = record {
  left = λ i has. (c.served_inputs-rest.ensures i).0 has;
  served = λ scheduler plan t is. served-first scheduler plan t c.args.inputs.now c.args.matched.now c.args.parts.now is c.served_inputs-rest.result
      c.clear.new.self c.served_inputs-rest.ensures c.clear.ensures;
  others = λ i free. refl;
}

pub without-rest-requires : goal.without-rest-requires
without-rest-requires c =
    let (scheduler, plan, t, scheduling, good, are, matched, parts) = c.requires in
    let is : IsServing scheduler plan t c.args.inputs.now c.args.matched.now c.args.parts.now =
    record { scheduling = scheduling; good = good; inputs_are = are; matched_is = matched; parts_are = parts } in
    let long = match-long scheduler plan t c.args.inputs.now c.args.matched.now c.args.parts.now is in
    let most = good.size.most in
    let inside = (c.loop-port.invariant.left c.in-Some.port c.in-Some.ensures.member).0 in
    omega arith

pub bounds : goal.bounds
bounds c =
    let (scheduler, plan, t, scheduling, good, are, matched, parts) = c.requires in
    let is : IsServing scheduler plan t c.args.inputs.now c.args.matched.now c.args.parts.now =
    record { scheduling = scheduling; good = good; inputs_are = are; matched_is = matched; parts_are = parts } in
    let long = match-long scheduler plan t c.args.inputs.now c.args.matched.now c.args.parts.now is in
    let most = good.size.most in
    let inside = (c.loop-port.invariant.left c.in-Some.port c.in-Some.ensures.member).0 in
    omega arith

pub leave-name-requires : goal.leave-name-requires
leave-name-requires c =
    let (scheduler, plan, t, scheduling, good, are, matched, parts_are) = c.requires in
    let given = c.args.inputs.now in
    let m = c.args.matched.now in
    let parts = c.args.parts.now in
    let is : IsServing scheduler plan t given m parts =
    record { scheduling = scheduling; good = good; inputs_are = are; matched_is = matched; parts_are = parts_are } in
    let i = c.in-Some.port in
    let long = match-long scheduler plan t given m parts is in
    let left = (c.loop-port.invariant.left i c.in-Some.ensures.member).0 in
    let inside : i < ports_of plan = omega arith in
    let part : Served = c.in-Some-parts.part in
    let own = c.in-Some-parts.is in
    let there = input-there scheduler plan t given m parts is i inside part own in (
      there.0,
      now scheduler plan t given m parts is i inside part own,
      (c.loop-port.invariant.served scheduler plan t is).waiting i c.in-Some.ensures.member ∙ there.1,
      was scheduler plan t given m parts is i inside part own,
      may scheduler plan t given m parts is i inside part own,
    )

pub loop-port-preserved : goal.loop-port-preserved
loop-port-preserved c = record {
  left = λ i has. c.loop-port.invariant.left i ((c.without-rest.ensures.members i).0 has).1;
  served = λ scheduler plan t is.
      let given = c.args.inputs.now in
      let m = c.args.matched.now in
      let parts = c.args.parts.now in
      let i = c.in-Some.port in
      let long = match-long scheduler plan t given m parts is in
      let left = c.loop-port.invariant.left i c.in-Some.ensures.member in
      let inside : i < ports_of plan = let below = left.0 in omega arith in
      absurd (some-part scheduler plan t given m parts is i inside left.1 (no-value (slice_index_or parts i None) c.in_default-parts.not-Some));
  others = c.loop-port.invariant.others;
}

pub loop-port-preserved-in-Some-parts : goal.loop-port-preserved-in-Some-parts
loop-port-preserved-in-Some-parts c = record {
  left = λ i has. c.loop-port.invariant.left i ((c.without-rest.ensures.members i).0 has).1;
  served = λ scheduler plan t is.
      let given = c.args.inputs.now in
      let m = c.args.matched.now in
      let parts = c.args.parts.now in
      let i = c.in-Some.port in
      let member = c.in-Some.ensures.member in
      let long = match-long scheduler plan t given m parts is in
      let left = (c.loop-port.invariant.left i member).0 in
      let inside : i < ports_of plan = omega arith in
      let part : Served = c.in-Some-parts.part in
      let own = c.in-Some-parts.is in
      let there = input-there scheduler plan t given m parts is i inside part own in
      let served = now scheduler plan t given m parts is i inside part own in
      let so_far = c.loop-port.invariant.served scheduler plan t is in
      let at = so_far.waiting i member ∙ there.1 in
      let has = was scheduler plan t given m parts is i inside part own in
      let fits = may scheduler plan t given m parts is i inside part own in
      let (after, there_now, left_now) = c.leave-name.ensures.left there.0 served at has fits in
      subst (AreServed scheduler plan t given c.without-rest.result c.leave-name.new.self) (sym c.put.ensures)
      (served-more scheduler plan t given m parts is i inside part own c.loop-port.rest c.without-rest.result c.loop-port.inputs c.leave-name.new.self
      c.loop-port.names after c.leave-name.result so_far member c.without-rest.ensures.members c.leave-name.ensures.plans c.leave-name.ensures.others
      there_now left_now (c.leave-name.ensures.name there.0 served at has fits));
  others = λ i free.
      let serves = (c.loop-port.invariant.left c.in-Some.port c.in-Some.ensures.member).1 in
      c.leave-name.ensures.others i (λ same. serves (subst (IsFreeInput c.args.matched.now) same free)) ∙ c.loop-port.invariant.others i free;
}

pub returns : goal.returns
returns c = record {
  served = λ scheduler plan t scheduling good are matched parts.
      served-all scheduler plan t c.args.inputs.now c.args.matched.now c.args.parts.now
      (record { scheduling = scheduling; good = good; inputs_are = are; matched_is = matched; parts_are = parts })
      c.loop-port.inputs c.loop-port.names c.loop-port.rest
      (c.loop-port.invariant.served scheduler plan t
      (record { scheduling = scheduling; good = good; inputs_are = are; matched_is = matched; parts_are = parts }))
      (λ i. zero-has c.loop-port.rest i (c.in_default.ensures.none.0 refl));
  others = c.loop-port.invariant.others;
}
