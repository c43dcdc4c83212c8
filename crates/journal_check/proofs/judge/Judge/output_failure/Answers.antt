use Rattle.std.proofs.Common.{◌≡◌, ◌∙◌, length}
use Rattle.journal_check.proofs.SlotFails.{decided_ports}
use Rattle.journal_check.proofs.judge.Judge.output_failure.Goals as goal

pub returns-in_err-output-clause-ready : goal.returns-in_err-output-clause-ready
returns-in_err-output-clause-ready c =
    let ready = c.requires.ready in
    let judge = c.args.self.now in
    let rows = c.args.rows.now in
    let ports : c.ports-ports.result ≡ length rows = c.ports-ports.ensures.value ∙ ready.pointers in
    record {
      ports_some = ready.ports_some;
      ports_few = ready.ports_few;
      rounds_some = ready.rounds_some;
      rounds_few = ready.rounds_few;
      rounds_are = ready.rounds_are;
      rows = ready.rows;
      matched = c.decide-numbers.ensures.decided.whole.count ∙ ports;
      pointers = decided_ports judge (length rows) c.args.t rows _ c.requires.within c.ports-ports.ensures.at_ports ready.pointers
          (rw ports at c.decide-numbers.ensures.decided.decision);
      meter = ready.meter;
      count = ready.count;
    }

pub returns-clause-ready : goal.returns-clause-ready
returns-clause-ready c =
    let ready = c.requires.ready in
    let judge = c.args.self.now in
    let rows = c.args.rows.now in
    let ports : c.ports-ports.result ≡ length rows = c.ports-ports.ensures.value ∙ ready.pointers in
    record {
      ports_some = ready.ports_some;
      ports_few = ready.ports_few;
      rounds_some = ready.rounds_some;
      rounds_few = ready.rounds_few;
      rounds_are = ready.rounds_are;
      rows = ready.rows;
      matched = c.decide-numbers.ensures.decided.whole.count ∙ ports;
      pointers = decided_ports judge (length rows) c.args.t rows _ c.requires.within c.ports-ports.ensures.at_ports ready.pointers
          (rw ports at c.decide-numbers.ensures.decided.decision);
      meter = ready.meter;
      count = ready.count;
    }
