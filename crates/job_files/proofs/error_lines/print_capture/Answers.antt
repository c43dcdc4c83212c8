use Rattle.job_files.proofs.error_lines.print_capture.Goals as goal

pub returns-in-ShortHeader : goal.returns-in-ShortHeader
returns-in-ShortHeader g c = rw c.in-ShortHeader.is (rw (c.from.ensures, c.from-in-ShortHeader.ensures) at c.give_parts.ensures)

pub returns-in-BadMagic : goal.returns-in-BadMagic
returns-in-BadMagic g c = rw c.in-BadMagic.is (rw c.from.ensures at c.give_parts-in-BadMagic.ensures)

pub returns-in-BadVersion : goal.returns-in-BadVersion
returns-in-BadVersion g c =
    rw c.in-BadVersion.is (rw (c.from.ensures, c.from-in-BadVersion.ensures, c.from-in-BadVersion-2.ensures) at c.give_parts-in-BadVersion.ensures)

pub returns-in-BadLink : goal.returns-in-BadLink
returns-in-BadLink g c = rw c.in-BadLink.is (rw (c.from.ensures, c.from-in-BadLink.ensures) at c.give_parts-in-BadLink.ensures)

pub returns-in-CutRecord : goal.returns-in-CutRecord
returns-in-CutRecord g c = rw c.in-CutRecord.is (rw (c.from.ensures, c.from-in-CutRecord.ensures) at c.give_parts-in-CutRecord.ensures)

pub returns-in-LongRecord : goal.returns-in-LongRecord
returns-in-LongRecord g c =
    rw c.in-LongRecord.is (rw (c.from.ensures, c.from-in-LongRecord.ensures, c.from-in-LongRecord-2.ensures) at c.give_parts-in-LongRecord.ensures)

pub returns-in-OutOfMemory : goal.returns-in-OutOfMemory
returns-in-OutOfMemory g c = rw c.in-OutOfMemory.is (rw c.from.ensures at c.give_parts-in-OutOfMemory.ensures)
