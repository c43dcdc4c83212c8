use Rattle.std.proofs.Common.{◌≡◌, ◌∙◌, ap, subst, sym}
use Rattle.run_laws.proofs.Arrivals.{arrivals_first}
use Rattle.run_journals.specs.RunFiles.{journal_text_under}
use Rattle.run_notes.specs.NotingSteps.{HasNoted, Notes, StopsTold}
use Rattle.run_notes.specs.Told.{told_under}
use Rattle.run_notes.specs.declared.wanted.Wanted.{Wanted}
use Rattle.run_notes.proofs.Telling.{fits_where_wanted, journal_stops, packets_stop, passed_on, told_same}
use Rattle.run_notes.proofs.notes.RunNotes.texts.Goals as goal

pub returns-in_err-journal-clause-stops : goal.returns-in_err-journal-clause-stops
returns-in_err-journal-clause-stops c = λ scheduler plan slots ends noted.
    let old = subst (λ (n : Notes). HasNoted scheduler plan n slots) (sym c.self.view_is) noted in
    let wanted : c.self.inside.wanted ≡ c.args.self.wanted = ap (λ (n : Notes). n.wanted) c.self.view_is in
    let stops = c.in_err-journal.ensures.stops scheduler plan c.self.inside.wanted.journal slots old.journal in
    passed_on c.from_residual.result c.in_err-journal.field-0.0 (StopsTold scheduler c.args.self.wanted c.args.long plan slots) c.from_residual.ensures.1
    (subst (λ (w : Wanted). StopsTold scheduler w c.args.long plan slots c.in_err-journal.field-0.0) wanted
    (journal_stops scheduler c.self.inside.wanted c.args.long plan slots c.in_err-journal.field-0.0 stops))

pub returns-in_err-packets-clause-stops : goal.returns-in_err-packets-clause-stops
returns-in_err-packets-clause-stops c = λ scheduler plan slots ends noted.
    let old = subst (λ (n : Notes). HasNoted scheduler plan n slots) (sym c.self.view_is) noted in
    let wanted : c.self.inside.wanted ≡ c.args.self.wanted = ap (λ (n : Notes). n.wanted) c.self.view_is in
    let stops = c.in_err-packets.ensures.stops scheduler plan c.self.inside.wanted.packets slots old.packets (arrivals_first scheduler plan slots ends) in
    let bytes = c.in_ok-journal.ensures.bytes scheduler plan c.self.inside.wanted.journal slots old.journal in
    let fits = fits_where_wanted c.self.inside.wanted.journal _ (journal_text_under scheduler plan slots) bytes c.in_ok-journal.ensures.small in
    passed_on c.from_residual-in_err-packets.result c.in_err-packets.field-0.0 (StopsTold scheduler c.args.self.wanted c.args.long plan slots)
    c.from_residual-in_err-packets.ensures.1
    (subst (λ (w : Wanted). StopsTold scheduler w c.args.long plan slots c.in_err-packets.field-0.0) wanted
    (packets_stop scheduler c.self.inside.wanted c.args.long plan slots c.in_err-packets.field-0.0 fits stops))

pub returns-clause-made : goal.returns-clause-made
returns-clause-made c = λ scheduler plan slots ends noted.
    let old = subst (λ (n : Notes). HasNoted scheduler plan n slots) (sym c.self.view_is) noted in
    let come = arrivals_first scheduler plan slots ends in
    told_same _ (told_under scheduler c.self.inside.wanted plan slots)
    (c.lines_or_empty-slots.ensures scheduler plan c.self.inside.wanted.slots slots old.slots)
    (c.in_ok-journal.ensures.bytes scheduler plan c.self.inside.wanted.journal slots old.journal)
    (c.in_ok-reference.ensures scheduler plan c.self.inside.wanted.reference slots noted.good old.reference)
    (c.in_ok-queues.ensures scheduler plan c.self.inside.wanted.queues slots old.queues come)
    (c.in_ok-packets.ensures.bytes scheduler plan c.self.inside.wanted.packets slots old.packets come).is
    ∙ ap (λ (n : Notes). told_under scheduler n.wanted plan slots) c.self.view_is

pub returns-clause-small_packets : goal.returns-clause-small_packets
returns-clause-small_packets c short =
    let (scheduler, plan, slots, ends, noted) = c.requires in
    let old = subst (λ (n : Notes). HasNoted scheduler plan n slots) (sym c.self.view_is) noted in
    (c.in_ok-packets.ensures.bytes scheduler plan c.self.inside.wanted.packets slots old.packets (arrivals_first scheduler plan slots ends)).small short
