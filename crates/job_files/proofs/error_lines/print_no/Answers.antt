use Rattle.job_files.proofs.error_lines.print_no.Goals as goal

pub returns-in-More : goal.returns-in-More
returns-in-More g c = rw c.in-More.is (rw (c.from.ensures, c.from-in-More.ensures) at c.give_parts-in-More.ensures)

pub returns-in-Keeps : goal.returns-in-Keeps
returns-in-Keeps g c = rw c.in-Keeps.is (rw (c.from.ensures, c.from-in-Keeps.ensures) at c.give_parts-in-Keeps.ensures)

pub returns-in-NoEnd : goal.returns-in-NoEnd
returns-in-NoEnd g c = rw c.in-NoEnd.is (rw c.from.ensures at c.give_parts-in-NoEnd.ensures)
