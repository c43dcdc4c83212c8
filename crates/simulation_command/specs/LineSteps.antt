-- What the calls that give a line to standard error leave.
use Rattle.std.specs.Prelude.{◌≡◌, ℕ, List, ◌++◌, Option, Result, Ok, Err, option_map}
use Rattle.outside.specs.Contents.{Contents, append_err}

-- calls gave standard error all of the text; or one of them failed, and a first part of it was given
abbrev pub Gives : {T E : Type 0} → Result T E → List ℕ → Option Contents → Option Contents → Type 0
Gives (Ok done) text old new = new ≡ option_map (append_err text) old
Gives (Err failure) text old new = (part : List ℕ) × (rest : List ℕ) × (text ≡ part ++ rest) × (new ≡ option_map (append_err part) old)
