use Rattle.std.proofs.Common.{◌≡◌, ◌∙◌, ℕ, true, false, ap, sym, subst}
use Rattle.slot_match.specs.Matches.{IsMatch}
use Rattle.slot_match.specs.Rows.{AreWithin}
use Rattle.simulated_slots.specs.ArbiterSteps.{ArbiterValue}
use Rattle.simulated_slots.proofs.arbiter.Arbiter.decide.Goals as goal

differ : true ≡ false → ⊥
differ h = cc

-- of random picks
pub invariant_of-self : goal.invariant_of-self
invariant_of-self c =
    let was = c.self.invariant in
    record {
      named = was.named;
      some_rounds = was.some_rounds;
      rounds = was.rounds;
      at_ports = was.at_ports;
      matched = subst (λ (n : ℕ). IsMatch n c.decide-used.new.out) c.ports-n.ensures.value c.decide-used.ensures.whole;
      meter = c.note.ensures.ports ∙ was.meter;
      ideal = λ is. absurd (differ (sym is ∙ (sym c.is_ideal.ensures ∙ c.if-is_ideal.false)));
    }

-- of a scheduler
pub invariant_of-self-2 : goal.invariant_of-self-2
invariant_of-self-2 c =
    let was = c.self.invariant in
    let rows = subst (λ (a : ArbiterValue). AreWithin a.places.ports c.args.rows.now) (sym c.self.view_is) c.requires.rows in
    let slot = c.each_is_a_scheduler.ensures c.self.inside.scheduler c.ports-n.result c.rounds-rounds.result c.args.slot c.args.rows.now c.self.inside.pointers
    (subst (λ n. AreWithin n c.args.rows.now) (sym c.ports-n.ensures.value) rows) was.at_ports (sym c.ports-n.ensures.value) in
    let ports = ap (λ d. d.places.ports) c.decide-used-2.ensures.decided.decision ∙ slot.moved.1 in
    record {
      named = c.decide-used-2.ensures.name ∙ was.named;
      some_rounds = was.some_rounds;
      rounds = was.rounds;
      at_ports = c.decide-used-2.ensures.decided.at_ports;
      matched = rw (ports, ← c.ports-n.ensures.value) c.decide-used-2.ensures.decided.whole;
      meter = c.note-2.ensures.ports ∙ was.meter ∙ sym ports;
      ideal = λ is. absurd (differ (sym is ∙ (sym c.is_ideal.ensures ∙ c.if-is_ideal.false)));
    }

pub returns-clause-kept : goal.returns-clause-kept
returns-clause-kept c =
    let was = c.self.invariant in
    let rows = subst (λ (a : ArbiterValue). AreWithin a.places.ports c.args.rows.now) (sym c.self.view_is) c.requires.rows in
    let slot = c.each_is_a_scheduler.ensures c.self.inside.scheduler c.ports-n.result c.rounds-rounds.result c.args.slot c.args.rows.now c.self.inside.pointers
    (subst (λ n. AreWithin n c.args.rows.now) (sym c.ports-n.ensures.value) rows) was.at_ports (sym c.ports-n.ensures.value) in
    let ports = ap (λ d. d.places.ports) c.decide-used-2.ensures.decided.decision ∙ slot.moved.1 in
    (ap (λ a. a.discipline) c.self.view_is, ap (λ a. a.rounds) c.self.view_is, ports ∙ ap (λ a. a.places.ports) c.self.view_is)
