use Rattle.std.proofs.Common.{◌<◌, slice_index_or, subst, arith}
use Rattle.rotating_pick.specs.PortSets.{Has}
use Rattle.rotating_pick.specs.declared.kinds.Kind.{Kind}
use Rattle.slot_match.specs.Matches.{unmatched}
use Rattle.eslip_rounds.specs.Slots.{IsSlot}
use Rattle.eslip_rounds.specs.Steps.{IsNamed, AreToldOf, AreMade}
use Rattle.eslip_rounds.proofs.Decided.{IsSlot-from, enough_rounds, nothing_added}
use Rattle.eslip_rounds.proofs.Offering.{AreNamed-asks}
use Rattle.eslip_rounds.proofs.Refusing.{AreRefused-told, first_round}
use Rattle.eslip_rounds.proofs.Settling.{decision_of-only}
use Rattle.eslip_rounds.proofs.slot.decide_asked.Goals as goal
use Rattle.eslip_rounds.proofs.slot.decide_asked.Goals.{then-turn, else-turn}

pub make_rounds-made-requires-clause-asked : goal.make_rounds-made-requires-clause-asked
make_rounds-made-requires-clause-asked c = AreNamed-asks c.args.n c.args.rows.now c.args.asks.now c.requires.asks

pub move_pointers-requires-clause-first_outputs : goal.move_pointers-requires-clause-first_outputs
move_pointers-requires-clause-first_outputs c j has =
    (((c.make_rounds-made.ensures.made c.args.turn.slot c.args.rows.now c.preferred_kind-first_kind.ensures c.requires.asks).firsts j).0 has).0

pub returns-clause-decided : goal.returns-clause-decided
returns-clause-decided c =
    let n = c.args.n in
    let rounds = c.args.turn.rounds in
    let t = c.args.turn.slot in
    let rows = c.args.rows.now in
    let places = c.args.p.now in
    let can = c.requires.can in
    let now = c.make_rounds-made.new.out in
    let made = c.make_rounds-made.result in
    let whole = c.make_rounds-made.ensures.whole in
    let are : AreMade n rounds t rows places now made = c.make_rounds-made.ensures.made t rows c.preferred_kind-first_kind.ensures c.requires.asks in
    let slot : IsSlot n rounds t rows places (record { matched = now; numbers = made.numbers; places = c.move_pointers.new.p }) =
    IsSlot-from n rounds t rows places now made can.rounds_some are whole c.move_pointers.new.p (c.move_pointers.ensures.moved t) in
    record {
      slot = slot;
      decision = decision_of-only n t rows places can.within c.ports.ensures.at_ports can.pointers rounds
          (record { matched = now; numbers = made.numbers; places = c.move_pointers.new.p }) c.move_pointers.ensures.at_ports slot;
      whole = whole;
      at_ports = c.move_pointers.ensures.at_ports;
      unused = nothing_added n rounds t rows places now made can.rounds_some are c.ports.ensures.at_ports can.pointers can.within;
      enough = enough_rounds n rounds t rows places now made can.rounds_some are c.ports.ensures.at_ports can.pointers can.within;
    }

pub returns-clause-refused : goal.returns-clause-refused
returns-clause-refused c tells =
    elim c.if-turn.branch [
      | then-turn w ↦
          let n = c.args.n in
          let t = c.args.turn.slot in
          let rows = c.args.rows.now in
          let places = c.args.p.now in
          let asks = c.args.asks.now in
          let refused = w.refused_grants.new.refused in
          let first_is = c.preferred_kind-first_kind.ensures in
          let are = c.make_rounds-made.ensures.made t rows first_is c.requires.asks in
          let count = are.count in
          let some = c.requires.can.rounds_some in
          let P : Kind → Type 0 = λ k. AreToldOf n k asks places
          (λ j. ((j < n) × (Has c.make_rounds-made.result.first_outputs j → ⊥)) × IsNamed asks j) refused in
          rw w.refused-is (AreRefused-told n t rows places asks refused c.ports.ensures.at_ports c.requires.can.pointers (record {
            asked = c.requires.asks;
            first_match = slice_index_or are.steps 0 (unmatched n);
            round = first_round n t rows places are.steps (omega arith) are.chain;
            first_outputs = c.make_rounds-made.result.first_outputs;
            firsts = are.firsts;
            are_told = subst P first_is w.refused_grants.ensures;
          }))
      | else-turn w ↦ absurd (cc)
    ]
