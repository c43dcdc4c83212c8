use Rattle.std.proofs.Common.{Option, ap, map, string_bytes, subst, sym, ◌∙◌}
use Rattle.std.specs.Prelude.{Err, is_some}
use Rattle.outside.specs.Contents.{held}
use Rattle.switch_words.specs.Options.{command_in}
use Rattle.switch_words.specs.Reading.{JobWords, reading_of}
use Rattle.job_files.specs.ErrorLines.{usage_line}
use Rattle.job_files.specs.RefusalLines.{memory_line}
use Rattle.switch_run.specs.Endings.{Means, is_own}
use Rattle.switch_run.proofs.Held.{held_line}
use Rattle.switch_run.proofs.command.end_of.Goals as goal

pub returns-in-Ok-clause-meaning : goal.returns-in-Ok-clause-meaning
returns-in-Ok-clause-meaning g c d =
    let counts = g.F.Files.faults in
    let see = g.F.Files.seen d in
    let named = is_some (command_in (map string_bytes c.args.words.now)) in
    subst (λ (job : Option JobWords). Means (record {
      named = named;
      job = job;
      old = held (see c.args.files.now) (see c.run.new.files);
      new = see c.run.new.files;
      was = counts c.args.files.now;
      now = counts c.run.new.files;
    }) c.run.result) (sym c.in-Ok.ensures.job) (c.run.ensures.meaning d named)

pub returns-in-Ok-clause-own : goal.returns-in-Ok-clause-own
returns-in-Ok-clause-own g c d e = rw (sym c.in-Ok.ensures.job) at (c.run.ensures.own d e)

pub returns-in-Err-Usage-clause-meaning : goal.returns-in-Err-Usage-clause-meaning
returns-in-Err-Usage-clause-meaning g c d =
    let see = g.F.Files.seen d in
    let none = c.read_words.ensures.usage (c.in-Err-Usage.is ∙ ap Err c.in-Err-Usage.field-0-is) in
    (none, held_line usage_line (see c.args.files.now) (see c.print_usage.new.files) _ _ (c.print_usage.ensures.line d))

pub returns-in-Err-Usage-clause-own : goal.returns-in-Err-Usage-clause-own
returns-in-Err-Usage-clause-own g c d e alike =
    c.print_usage.ensures.own (is_own (reading_of (map string_bytes c.args.words.now))) d e alike

pub returns-in-Err-OutOfMemory-clause-meaning : goal.returns-in-Err-OutOfMemory-clause-meaning
returns-in-Err-OutOfMemory-clause-meaning g c d =
    let see = g.F.Files.seen d in
    held_line memory_line (see c.args.files.now) (see c.print_memory.new.files) _ _ (c.print_memory.ensures.line d)

pub returns-in-Err-OutOfMemory-clause-own : goal.returns-in-Err-OutOfMemory-clause-own
returns-in-Err-OutOfMemory-clause-own g c d e alike =
    c.print_memory.ensures.own (is_own (reading_of (map string_bytes c.args.words.now))) d e alike
