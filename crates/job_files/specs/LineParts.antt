-- The parts of a line on standard error, and what giving a line leaves.
use Rattle.std.specs.Prelude.{◌≡◌, ◌⊎◌, ℕ, List, ◌++◌, Option, Result, Ok, Err, option_map, decimal}
use Rattle.outside.specs.Contents.{Contents, NoneRead, append_err}
use Rattle.outside.specs.Faults.{Place, ToErr, NeverFall, OnlyRose, Rose, of_err}
use Rattle.pcap_records.specs.Texts.{hex_text}
use Rattle.job_files.specs.declared.error_lines.Part.{Part}
use Rattle.job_files.specs.declared.error_lines.Part.TheVariants.{Text, Number, Magic}

-- the bytes of a part of a line
abbrev pub part_text : Part → List ℕ
part_text (Text text) = text.now
part_text (Number n) = decimal n
part_text (Magic n) = hex_text n

-- calls gave standard error all of the text; or one of them failed, and a first part of it was given
abbrev pub Gives : {T E : Type 0} → Result T E → List ℕ → Option Contents → Option Contents → Type 0
Gives (Ok done) text old new = new ≡ option_map (append_err text) old
Gives (Err failure) text old new = (part : List ℕ) × (rest : List ℕ) × (text ≡ part ++ rest) × (new ≡ option_map (append_err part) old)

-- Standard error was given a first part of the text, and all else is as before. It was given all of it, or the count of failed calls of `err` rose.
pub record GivesLine (text : List ℕ) (old new : Option Contents) (was now : ℕ) : Type 0 where
  pub part : List ℕ
  pub rest : List ℕ
  pub splits : text ≡ part ++ rest
  pub given : new ≡ option_map (append_err part) old
  pub whole : (part ≡ text) ⊎ Rose was now

-- Standard error was given the line, or a first part of it, and all else is as before. No file was read, no count fell, and none rose but that of `err`.
pub record PrintsLine {S : Type 0} (text : List ℕ) (seen : Contents → S → Option Contents) (faults : S → Place → ℕ) (old new : S) : Type 0 where
  pub line : (c : Contents) → GivesLine text (seen c old) (seen c new) (faults old ToErr) (faults new ToErr)
  pub own : NoneRead seen old new
  pub no_others : OnlyRose of_err (faults old) (faults new)
  pub never_fall : NeverFall (faults old) (faults new)
