use Rattle.job_files.proofs.output_files.put_file.Goals as goal

pub returns-clause-seen : goal.returns-clause-seen
returns-clause-seen g c d = rw (c.as_str.ensures.value, c.as_slice.ensures.value) at (c.put_whole.ensures.seen d)
