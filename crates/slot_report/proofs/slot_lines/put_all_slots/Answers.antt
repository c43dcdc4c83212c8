use Rattle.std.proofs.Common.{◌∙◌, ◌++◌, ap, arith, slice_index_or, string_bytes}
use Rattle.board_state.specs.Boards.{no_slot}
use Rattle.slot_report.specs.Lines.{line_text}
use Rattle.slot_report.specs.Texts.{journal_line, slot_line}
use Rattle.slot_report.proofs.Appending.{place_more, places_all}
use Rattle.slot_report.proofs.slot_lines.put_all_slots.Goals as goal

pub loop-slot-preserved : goal.loop-slot-preserved
loop-slot-preserved c =
    let t = c.loop-slot.slot in
    c.in_ok-put_slot_line.ensures
    ∙ ap (λ numbers. string_bytes c.loop-slot.text ++ line_text (slot_line t numbers c.decided.result.now)) c.used.ensures
    ∙ ap (λ matched. string_bytes c.loop-slot.text ++ line_text (slot_line t (slice_index_or c.args.journal.now.slots t no_slot).numbers matched))
    c.decided.ensures.matched
    ∙ place_more line_text journal_line c.args.journal.now.slots t no_slot (string_bytes c.args.text.now) (string_bytes c.loop-slot.text)
    (omega (arith, c.slots-slot-end.ensures)) c.loop-slot.invariant

pub returns : goal.returns
returns c =
    places_all line_text journal_line c.args.journal.now.slots c.loop-slot.slot (string_bytes c.args.text.now) (string_bytes c.loop-slot.text)
    (omega (arith, c.slots-slot-end.ensures)) c.loop-slot.invariant
