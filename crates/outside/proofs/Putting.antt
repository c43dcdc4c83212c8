-- A file that is begun and written in as many calls as it takes.
use Rattle.std.proofs.Common.{ℕ, take, Option, ◌∙◌}
use Rattle.std.specs.Prelude.{Result, Ok, Err, option_map}
use Rattle.outside.specs.Contents.{Contents, append_file, begin_file}
use Rattle.outside.specs.Faults.{Place, BeginOf, WriteOf, NeverFall}
use Rattle.outside.specs.WholeFiles.{Appends, AtBegin, AtWrite, NamedBytes, Puts, StopsAt}
use Rattle.outside.proofs.Counting.{CallsAmong, NeverFall-Rose, Rose-wider}
use Rattle.outside.proofs.Effects.{option_map-option_map}

-- a file that was begun, and to which all or a first part of its bytes was appended
pub begun_put : {T E : Type 0} (r : Result T E) (f : NamedBytes) (a b d : Place → ℕ) (o new : Option Contents) → NeverFall a b
    → Appends r f b d (option_map (begin_file f.name) o) new → Puts r f a d o new
begun_put (Ok x) f a b d o new kept appends = appends ∙ option_map-option_map (begin_file f.name) (append_file f.name f.bytes) o
begun_put (Err e) f a b d o new kept appends =
    AtWrite appends.1.0 (NeverFall-Rose a b d (WriteOf f.name) kept appends.0)
    (appends.1.1 ∙ option_map-option_map (begin_file f.name) (append_file f.name (take appends.1.0 f.bytes)) o)

-- a call that failed among more calls
pub StopsAt-wider : (f : NamedBytes) (was now : Place → ℕ) (some : CallsAmong was now) (before after : Option Contents)
    → StopsAt f some.from some.to before after → StopsAt f was now before after
StopsAt-wider f was now some before after (AtBegin rose same) = AtBegin (Rose-wider was now some (BeginOf f.name) rose) same
StopsAt-wider f was now some before after (AtWrite n rose part) = AtWrite n (Rose-wider was now some (WriteOf f.name) rose) part
