use Rattle.job_files.proofs.error_lines.print_table.Goals as goal

pub returns-in-BadLine : goal.returns-in-BadLine
returns-in-BadLine g c = rw c.in-BadLine.is (rw c.from.ensures at c.give_parts.ensures)

pub returns-in-HostBits : goal.returns-in-HostBits
returns-in-HostBits g c = rw c.in-HostBits.is (rw c.from-in-HostBits.ensures at c.give_parts-in-HostBits.ensures)

pub returns-in-BadPort : goal.returns-in-BadPort
returns-in-BadPort g c = rw c.in-BadPort.is (rw (c.from-in-BadPort.ensures, c.from-in-BadPort-2.ensures) at c.give_parts-in-BadPort.ensures)

pub returns-in-BadLevel : goal.returns-in-BadLevel
returns-in-BadLevel g c = rw c.in-BadLevel.is (rw c.from-in-BadLevel.ensures at c.give_parts-in-BadLevel.ensures)

pub returns-in-Repeated : goal.returns-in-Repeated
returns-in-Repeated g c =
    rw c.in-Repeated.is (rw (c.from-in-Repeated.ensures, c.from-in-Repeated-2.ensures) at c.give_parts-in-Repeated.ensures)

pub returns-in-TooManyLines : goal.returns-in-TooManyLines
returns-in-TooManyLines g c = rw c.in-TooManyLines.is (rw c.from-in-TooManyLines.ensures at c.give_parts-in-TooManyLines.ensures)

pub returns-in-OutOfMemory : goal.returns-in-OutOfMemory
returns-in-OutOfMemory g c = rw c.in-OutOfMemory.is c.print_memory.ensures
