use Rattle.std.proofs.Common.{◌+◌, refl, sym, subst}
use Rattle.slot_match.specs.Rows.{AreWithin}
use Rattle.service_bound.specs.MeterSteps.{Meter, HasNoted, HasParts}
use Rattle.service_bound.proofs.Noting.{AreBegun-noted}
use Rattle.service_bound.proofs.News.{IsKept, HasNoted-news, some-noted}
use Rattle.service_bound.proofs.meter.WaitMeter.note_news.Goals as goal

pub note_inputs-requires-clause-begun : goal.note_inputs-requires-clause-begun
note_inputs-requires-clause-begun c =
    let s = c.self.inside in
    AreBegun-noted (record { ports = s.ports; count = s.count; queues = s.queues.items }) c.self.invariant.0 c.self.invariant.1

pub invariant_of-self : goal.invariant_of-self
invariant_of-self c =
    let s = c.self.inside in
    let old : Meter = record { ports = s.ports; count = s.count; queues = s.queues.items } in
    let new : Meter = record { ports = s.ports; count = s.count + 1; queues = c.note_inputs.new.queues.items } in
    some-noted old new c.args.rows.now c.args.parts.now c.args.news c.all.result c.intersection-inputs.result refl refl c.note_inputs.ensures.long
    (subst (λ (m : Meter). AreWithin m.ports c.args.rows.now) (sym c.self.view_is) c.requires.rows)
    c.all.ensures.members c.intersection-inputs.ensures c.note_inputs.ensures.noted c.note_inputs.ensures.others
    (subst (IsKept c.args.rows.now c.args.parts.now c.args.news) (sym c.self.view_is) c.requires.kept)

pub returns-clause-noted : goal.returns-clause-noted
returns-clause-noted c = λ slots matched noted has.
    let s = c.self.inside in
    let old : Meter = record { ports = s.ports; count = s.count; queues = s.queues.items } in
    let new : Meter = record { ports = s.ports; count = s.count + 1; queues = c.note_inputs.new.queues.items } in
    HasNoted-news old new c.args.rows.now c.args.parts.now c.args.news c.all.result c.intersection-inputs.result refl refl c.note_inputs.ensures.long
    (subst (λ (m : Meter). AreWithin m.ports c.args.rows.now) (sym c.self.view_is) c.requires.rows)
    c.all.ensures.members c.intersection-inputs.ensures c.note_inputs.ensures.noted c.note_inputs.ensures.others
    (subst (IsKept c.args.rows.now c.args.parts.now c.args.news) (sym c.self.view_is) c.requires.kept) slots matched
    (subst (λ (m : Meter). HasNoted m slots) (sym c.self.view_is) noted)
    (subst (λ (m : Meter). HasParts m.ports matched c.args.parts.now) (sym c.self.view_is) has)
