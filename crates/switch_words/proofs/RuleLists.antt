-- A line to which arguments are added one after the other.
use Rattle.std.proofs.Common.{◌≡◌, ◌∙◌, ◌+◌, ◌<◌, ◌++◌, ℕ, List, [], ◌∷◌, Bor, ap, sym, map, take, length, get_or, add-one, append_assoc}
use Rattle.std.proofs.Math.Seq.{take-suc}
use Rattle.std.proofs.lemmas.List.{map-append}
use Rattle.clap.specs.Walk.{Rule, Text}
use Rattle.clap.specs.Simple.{App, with_rule}
use Rattle.switch_words.specs.declared.options.Command.{Command}
use Rattle.switch_words.specs.LineSteps.{bare_line, flag_arg, flags_for, line_for, names_arg, option_arg, options_for, with_rules}

with_rules-append : (line : App) (first more : List Rule) → with_rules (with_rules line first) more ≡ with_rules line (first ++ more)
with_rules-append line first more = λ i. record line { top = record line.top { rules = append_assoc line.top.rules first more i } }

-- the arguments of the first ids, and one more
one_more : (arg : Text → Rule) (ids : List (Bor Text)) (i : ℕ) (d : Bor Text) → i < length ids
    → map arg (map (λ id. id.now) (take (i + 1) ids)) ≡ map arg (map (λ id. id.now) (take i ids)) ++ arg (get_or ids i d).now ∷ []
one_more arg ids i d within =
    rw (add-one, take-suc ids i d within) (ap (map arg) (map-append (λ (id : Bor Text). id.now) (take i ids) (get_or ids i d ∷ []))
    ∙ map-append arg (map (λ (id : Bor Text). id.now) (take i ids)) ((get_or ids i d).now ∷ []))

-- a line with the arguments of the first ids, to which that of the next id is added
pub with_rules-more : (arg : Text → Rule) (line : App) (ids : List (Bor Text)) (i : ℕ) (d : Bor Text) → i < length ids
    → with_rule (with_rules line (map arg (map (λ id. id.now) (take i ids)))) (arg (get_or ids i d).now)
    ≡ with_rules line (map arg (map (λ id. id.now) (take (i + 1) ids)))
with_rules-more arg line ids i d within =
    with_rules-append line (map arg (map (λ (id : Bor Text). id.now) (take i ids))) (arg (get_or ids i d).now ∷ [])
    ∙ ap (with_rules line) (sym (one_more arg ids i d within))

-- the bare line with a command's options, its flags and its names
pub line_is : (command : Command)
    → with_rule (with_rules (with_rules bare_line (map option_arg (options_for command))) (map flag_arg (flags_for command))) names_arg ≡ line_for command
line_is command =
    with_rules-append (with_rules bare_line (map option_arg (options_for command))) (map flag_arg (flags_for command)) (names_arg ∷ [])
    ∙ with_rules-append bare_line (map option_arg (options_for command)) (map flag_arg (flags_for command) ++ names_arg ∷ [])
