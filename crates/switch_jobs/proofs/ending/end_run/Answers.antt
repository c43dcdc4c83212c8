use Rattle.std.proofs.Common.{◌≡◌, ◌⊎◌, ◌-◌, ◌^◌, ◌∙◌, ap, sym, subst}
use Rattle.std.specs.Prelude.{slice_get}
use Rattle.switch_jobs.proofs.Disbanded.{planned_left, waited_left}
use Rattle.switch_jobs.proofs.ending.end_run.Goals as goal

pub close_with-state-requires-clause-seats : goal.close_with-state-requires-clause-seats
close_with-state-requires-clause-seats c =
    (c.disbanded_groups_agree.ensures.seats c.args.board c.args.groups.items c.disband-seats.result.0.items c.disband-seats.result.1.items c.requires.groups
    c.disband-seats.ensures).0

pub close_with-state-requires-clause-members : goal.close_with-state-requires-clause-members
close_with-state-requires-clause-members c = λ i hand seat at too.
    c.disbanded_groups_agree.ensures.members c.args.board c.args.groups.items c.disband-seats.result.0.items c.disband-seats.result.1.items c.requires.groups
    c.disband-seats.ensures i hand seat (ap (λ hs. slice_get hs i) (sym c.deref.ensures.value) ∙ at) too

pub returns-clause-planned : goal.returns-clause-planned
returns-clause-planned c = λ plans planned.
    planned_left c.args.groups.items c.disband-seats.result.0.items c.disband-seats.result.1.items _ c.disband-seats.ensures plans
    c.finish_alone.new.hands.items planned c.finish_alone.ensures.plans

pub returns-clause-refused : goal.returns-clause-refused
returns-clause-refused c = λ patience waited.
    subst (λ n. (n ≡ patience) ⊎ (n ≡ 2 ^ 64 - 1)) (sym (c.finish_alone.ensures.refused ∙ c.close_with-state.ensures.closed.refused))
    (waited_left c.args.groups.items c.disband-seats.result.0.items c.disband-seats.result.1.items _ c.disband-seats.ensures patience waited)

pub returns-clause-journal : goal.returns-clause-journal
returns-clause-journal c =
    let seats = c.disband-seats.result.0.items in
    let hands = c.disband-seats.result.1.items in
    let alone = c.finish_alone.ensures in
    record {
      seats = seats;
      hands = hands;
      closed = c.close_with-state.result;
      from = c.disband-seats.ensures;
      all_seats = (c.disbanded_groups_agree.ensures.seats c.args.board c.args.groups.items seats hands c.requires.groups c.disband-seats.ensures).0;
      is_closed = c.close_with-state.ensures.closed;
      goes_on = alone.goes_on;
      legal = alone.legal;
      setup = alone.setup;
      refused = alone.refused;
    }
