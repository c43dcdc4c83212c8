use Rattle.output_queued.proofs.reference.Reference.note.Goals as goal

pub note_match-requires : goal.note_match-requires
note_match-requires c = (c.args.rows.now, c.requires)
