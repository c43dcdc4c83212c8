use Rattle.std.proofs.Common.{map, string_bytes}
use Rattle.std.specs.Prelude.{codes, decimal}
use Rattle.std.proofs.lemmas.Result.{on_ok_weaker}
use Rattle.std_lemmas.proofs.Appending.{appended}
use Rattle.slot_report.proofs.Appending.{whole_line}
use Rattle.job_files.proofs.yes_lines.put_line.Goals as goal

pub returns : goal.returns
returns c =
    on_ok_weaker c.push_str-2.result
    (λ end. whole_line (string_bytes c.args.text.now) (string_bytes c.push_str.new.self) (string_bytes c.put_numbers.new.text)
    (string_bytes c.push_str-2.new.self) c.args.name.now (map decimal c.args.numbers.now)
    c.in_ok-push_str.ensures.bytes c.in_ok-put_numbers.ensures end)
    (appended c.push_str-2.result (string_bytes c.put_numbers.new.text) (codes "\n") (string_bytes c.push_str-2.new.self) c.push_str-2.ensures.bytes)
