use Rattle.std.proofs.Common.{◌∙◌, ◌++◌, ap, List, ℕ}
use Rattle.journal_check.specs.Texts.{header_text}
use Rattle.journal_check.proofs.SlotsAdded.{at_header}
use Rattle.journal_check.proofs.writer.JournalWriter.make.Goals as goal

pub returns : goal.returns
returns c = at_header c.args.ports c.args.rounds c.put_header.new.text.items
    (c.in_ok-put_header.ensures ∙ ap (λ (t : List ℕ). t ++ header_text c.args.ports c.args.rounds 0) c.new-bytes.ensures.items)
