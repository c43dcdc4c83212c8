use Rattle.std.proofs.Common.{List, ℕ, ◌++◌, append_assoc, subst, sym}
use Rattle.std.specs.Prelude.{codes, decimal}
use Rattle.job_files.specs.LineParts.{PrintsLine}
use Rattle.job_files.proofs.Printing.{output_line}
use Rattle.job_files.proofs.error_lines.print_write_fault.Goals as goal

pub returns-in-Run-Output : goal.returns-in-Run-Output
returns-in-Run-Output g c =
    let line = rw (c.from.ensures, c.as_str.ensures.value) at c.give_parts.ensures in
    rw (c.in-Run-Output.is-0, c.in-Run-Output.is-1)
    (subst (λ (text : List ℕ). PrintsLine text g.F.Files.seen g.F.Files.faults c.args.files.now c.give_parts.new.files)
    (output_line (codes "write fault: ") _ (decimal c.in-Run-Output.port) (codes "\n")) line)

pub returns-in-Run-Packets : goal.returns-in-Run-Packets
returns-in-Run-Packets g c =
    let line = rw c.as_str-in-Run-Packets.ensures.value at c.give_parts-in-Run-Packets.ensures in
    let old = c.args.files.now in
    let new = c.give_parts-in-Run-Packets.new.files in
    rw (c.in-Run-Packets.is-0, c.in-Run-Packets.is-1)
    (subst (λ (text : List ℕ). PrintsLine (codes "write fault: " ++ text) g.F.Files.seen g.F.Files.faults old new)
    (sym (append_assoc _ (codes ".packets.csv") (codes "\n"))) line)
