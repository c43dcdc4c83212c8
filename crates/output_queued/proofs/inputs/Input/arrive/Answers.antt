use Rattle.std.proofs.Common.{rules, ◌≡◌, ◌∙◌, ◌+◌, ◌<◌, List, map, length, Some, None, slice_get, ap, sym, subst, arith, if◌then◌else◌}
use Rattle.std.specs.Option.{option_map}
use Rattle.std.proofs.lemmas.Option.{slice_get_within}
use Rattle.card_core.specs.StateSteps.{next_in}
use Rattle.output_queued.specs.declared.coming.Coming.{Coming}
use Rattle.output_queued.specs.Switches.{planned_of, card_for}
use Rattle.output_queued.specs.NotingSteps.{Source, IsBefore}
use Rattle.output_queued.specs.Steps.{IsPart, HasEntered}
use Rattle.output_queued.specs.contracts.inputs.Input.{the_view}
use Rattle.output_queued.proofs.Sources.{none_at, one_at, may_at}
use Rattle.output_queued.proofs.inputs.Input.arrive.Goals as goal
use Rattle.output_queued.proofs.inputs.Input.arrive.Goals.{then-admitted, else-admitted}

pub returns-in_err-packet-clause-entered : goal.returns-in_err-packet-clause-entered
returns-in_err-packet-clause-entered c n depth served part long is =
    let none : c.arriving.result ≡ None = c.in_err-packet.was in
    let out : c.from_residual.result ≡ None = search rules in
    let s0 = the_view c.self.inside in
    let e : option_map planned_of None ≡ next_in (map planned_of s0.coming) s0.next c.args.slot =
    ap (option_map planned_of) (sym none) ∙ c.arriving.ensures.next
    ∙ ap (λ (cs : List Coming). next_in (map planned_of cs) c.self.inside.next c.args.slot) c.deref.ensures.value in
    subst (λ (s : Source). HasEntered n depth c.args.slot served s s c.from_residual.result) c.self.view_is
    (subst (HasEntered n depth c.args.slot served s0 s0) (sym out)
    (none_at n depth s0 served (subst (λ (s : Source). IsPart n depth s.coming) (sym c.self.view_is) part)
    (subst (λ (s : Source). IsBefore (card_for n depth s.coming) s served) (sym c.self.view_is) is) c.args.slot long e))

pub enter-admitted-requires : goal.enter-admitted-requires
enter-admitted-requires c =
    let (n, depth, served, part, long, is) = c.requires in
    let s0 = the_view c.self.inside in
    let there : slice_get s0.coming s0.next ≡ Some c.in_ok-packet.packet =
    ap (λ (cs : List Coming). slice_get cs c.self.inside.next) (sym c.deref.ensures.value) ∙ c.in_ok-packet.ensures.there.0 in
    let e : option_map planned_of (Some c.in_ok-packet.packet) ≡ next_in (map planned_of s0.coming) s0.next c.args.slot =
    c.in_ok-packet.ensures.next ∙ ap (λ (cs : List Coming). next_in (map planned_of cs) c.self.inside.next c.args.slot) c.deref.ensures.value in
    may_at n depth s0 served (subst (λ (s : Source). IsPart n depth s.coming) (sym c.self.view_is) part)
    (subst (λ (s : Source). IsBefore (card_for n depth s.coming) s served) (sym c.self.view_is) is) c.args.slot long c.in_ok-packet.packet there e

pub overflow_add-self : goal.overflow_add-self
overflow_add-self c =
    let (n, depth, served, part, long, is) = c.requires in
    let s0 = the_view c.self.inside in
    let there : slice_get s0.coming s0.next ≡ Some c.in_ok-packet.packet =
    ap (λ (cs : List Coming). slice_get cs c.self.inside.next) (sym c.deref.ensures.value) ∙ c.in_ok-packet.ensures.there.0 in
    let inside : s0.next < length s0.coming = slice_get_within s0.coming s0.next c.in_ok-packet.packet there in
    let few = (subst (λ (s : Source). IsPart n depth s.coming) (sym c.self.view_is) part).input.few in
    omega arith

pub returns-clause-entered : goal.returns-clause-entered
returns-clause-entered c n depth served part long is =
    let packet = c.in_ok-packet.packet in
    let s0 = the_view c.self.inside in
    let there : slice_get s0.coming s0.next ≡ Some c.in_ok-packet.packet =
    ap (λ (cs : List Coming). slice_get cs c.self.inside.next) (sym c.deref.ensures.value) ∙ c.in_ok-packet.ensures.there.0 in
    let out : c.if-admitted.result ≡ (if c.enter-admitted.result then Some packet else None) =
    elim c.if-admitted.branch [
      | then-admitted w ↦ w.result-is ∙ sym (ap (λ b. if b then Some packet else None) w.if-admitted.true)
      | else-admitted w ↦ w.result-is ∙ sym (ap (λ b. if b then Some packet else None) w.if-admitted.false)
    ] in
    let new = the_view (record {
      coming = c.self.inside.coming;
      next = c.self.inside.next + 1;
      queues = c.enter-admitted.new.self;
    }) in
    subst (λ (s : Source). HasEntered n depth c.args.slot served s new c.if-admitted.result) c.self.view_is
    (subst (HasEntered n depth c.args.slot served s0 new) (sym out)
    (one_at n depth s0 served (subst (λ (s : Source). IsPart n depth s.coming) (sym c.self.view_is) part)
    (subst (λ (s : Source). IsBefore (card_for n depth s.coming) s served) (sym c.self.view_is) is) c.args.slot long packet there
    c.in_ok-packet.ensures.there.1 c.enter-admitted.result c.enter-admitted.new.self.unicast c.enter-admitted.new.self.multicast c.enter-admitted.ensures))
