use Rattle.std.proofs.Common.{◌∙◌, ◌++◌, ap, length, drop}
use Rattle.std.proofs.lemmas.List.{take_at}
use Rattle.journal_check.specs.Texts.{header_text}
use Rattle.journal_check.specs.WritingSteps.{WriterValue}
use Rattle.journal_check.proofs.SlotsAdded.{slots_set}
use Rattle.journal_check.proofs.writer.JournalWriter.finish.Goals as goal

pub returns : goal.returns
returns c = λ file is few.
    let text = c.set_slots.new.text in
    let bytes = c.self.inside.bytes in
    take_at text (drop (length text) bytes.items) bytes.len (c.set_slots.auto.text ∙ c.deref_mut.ensures.len)
    ∙ slots_set file c.args.self text is few (λ ports rounds before rest same.
    c.set_slots.ensures ports rounds before rest (c.deref_mut.ensures.value ∙ ap (λ (w : WriterValue). w.bytes) c.self.view_is ∙ same)
    ∙ ap (λ (w : WriterValue). header_text ports rounds w.slots ++ rest) c.self.view_is)
