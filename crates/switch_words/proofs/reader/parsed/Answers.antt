use Rattle.std.proofs.Common.{◌≡◌, map, string_bytes}
use Rattle.clap.specs.Simple.{app_of}
use Rattle.switch_words.specs.declared.fault.WordsFault.TheVariants.{OutOfMemory, Usage}
use Rattle.switch_words.proofs.Parses.{are_texts, parse_err, parse_ok}
use Rattle.switch_words.proofs.reader.parsed.Goals as goal

differ : Usage ≡ OutOfMemory → ⊥
differ h = cc

pub returns-in_err-try_get_matches_from-clause-usage : goal.returns-in_err-try_get_matches_from-clause-usage
returns-in_err-try_get_matches_from-clause-usage c = λ is.
    let gives = rw is at c.from_residual-in_err-try_get_matches_from.ensures.1 in
    parse_err c.args.command (map string_bytes c.args.words.now) (app_of c.in_ok-line.line) c.in_err-try_get_matches_from.field-0.0 c.in_ok-line.ensures
    (are_texts c.args.words.now) c.in_err-try_get_matches_from.ensures.kinds (λ memory. differ (gives.0 memory))

pub returns-clause-parts : goal.returns-clause-parts
returns-clause-parts c =
    parse_ok c.args.command (map string_bytes c.args.words.now) (app_of c.in_ok-line.line) c.in_ok-try_get_matches_from.field-0 c.in_ok-line.ensures
    (are_texts c.args.words.now) c.in_ok-try_get_matches_from.ensures.kinds c.in_ok-try_get_matches_from.ensures.matches
