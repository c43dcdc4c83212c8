-- What a whole parse by clap gives.
use Rattle.std.proofs.Common.{◌≡◌, ◌⊎◌, ◌∙◌, ap, ap₂, subst, sym, true, false, List, [], ◌∷◌, Option, None, Some, refl, inl, inr, drop, codes, map}
use Rattle.std.proofs.Common.{string_bytes, String}
use Rattle.std.specs.Prelude.{◌++◌, fold, unwrap_or}
use Rattle.std.proofs.lemmas.Str.{IsUtf8-string_bytes}
use Rattle.std.proofs.lemmas.Bool.{cases_Bool}
use Rattle.std.proofs.option.Match.{None-if_not_some}
use Rattle.clap.specs.Walk.{Held, Row, Rule, Text, finished, has_row, nothing_held, rows_after, rows_of, settled, walk, walk_from, with_default}
use Rattle.clap.specs.Simple.{App, HasMatchesOf, built, matches_of}
use Rattle.clap.specs.Kinds.{HasKind, IsAmong, Kinds, or_else}
use Rattle.clap.specs.Values.{kind_of}
use Rattle.clap.specs.Matches.{found_of}
use Rattle.clap.specs.declared.parser.matches.ArgMatches.{ArgMatches}
use Rattle.clap.proofs.WalkLemmas.{both}
use Rattle.clap.specs.declared.error.Error.{Error}
use Rattle.clap.specs.declared.error.kind.ErrorKind.{ErrorKind}
use Rattle.clap.specs.declared.error.kind.ErrorKind.TheVariants.{OutOfMemory}
use Rattle.clap.specs.Faults.{check_fault, defaults_fault, fault_of, is_simple_and_free, level_fault, settle_fault, walk_fault}
use Rattle.clap.specs.declared.builder.value_parser.Reading.TheVariants.{AsWritten}
use Rattle.clap.specs.declared.parser.matches.ValueSource.TheVariants.{DefaultValue}
use Rattle.clap.proofs.FaultLemmas.{leaf_fault}
use Rattle.clap.proofs.OnLiterals.{clap_on_literals}
use Rattle.switch_words.specs.declared.options.Command.{Command}
use Rattle.switch_words.specs.declared.options.Command.TheVariants.{Run, Gen, Check, Firm}
use Rattle.switch_words.specs.Options.{Flag, slots, journal, reference, queues, packets, alone, long}
use Rattle.switch_words.specs.LineSteps.{flags_for, line_for, lookup_in, parts_in, parts_of}
use Rattle.switch_words.specs.Parts.{no_parts, parts_from}
use Rattle.switch_words.proofs.Rows.{has_row-lookup, lookup-with, put}
use Rattle.switch_words.proofs.Rules.{HasRules, flag_id, flag_rule, has_rules, names_rule, rules_for, shape_of}
use Rattle.switch_words.proofs.Sound.{IsSound, parts_in-put_default}
use Rattle.switch_words.proofs.Unless.{unless, unless-or_else}
use Rattle.switch_words.proofs.Turns.{idle_at, idle_open, or_once}
use Rattle.switch_words.proofs.Readings.{AreTexts, reads}

-- an argument has no default, or is a flag
abbrev pub IsUsual : Rule → Type 0
IsUsual a = (a.defaults ≡ []) ⊎ ((f : Flag) × (a ≡ flag_rule (flag_id f)))

abbrev pub AreUsual : List Rule → Type 0
AreUsual [] = Unit {0}
AreUsual (a ∷ rest) = IsUsual a × AreUsual rest

no_default_fault : (rows : List Row) (a : Rule) (rest : List Rule) → IsUsual a → defaults_fault (with_default rows a) rest ≡ []
    → defaults_fault rows (a ∷ rest) ≡ []
unfolding defaults_fault
no_default_fault rows a rest (inl none) h = elim (cases_Bool (has_row a.id rows)) [
  | inl there ↦ rw there (rw there at h)
  | inr there ↦ rw (there, none) (rw (there, none) at h)
]
no_default_fault rows a rest (inr (f, is)) h = elim (cases_Bool (has_row (flag_id f) rows)) [
  | inl there ↦ rw (is, there) (rw (is, there) at h)
  | inr there ↦ rw (is, there) (rw (is, there) at h)
]

no_faults : (c : List Rule) → AreUsual c → (rows : List Row) → defaults_fault rows c ≡ []
unfolding defaults_fault
no_faults [] usual rows = refl
no_faults (a ∷ rest) usual rows = no_default_fault rows a rest usual.0 (no_faults rest usual.1 (with_default rows a))

-- a default says nothing
same_default : (rows : List Row) (a : Rule) → IsUsual a → parts_in (lookup_in (with_default rows a)) ≡ parts_in (lookup_in rows)
same_default rows a (inl none) = elim (cases_Bool (has_row a.id rows)) [
  | inl there ↦ rw there refl
  | inr there ↦ rw (there, none) refl
]
same_default rows a (inr (f, is)) = elim (cases_Bool (has_row (flag_id f) rows)) [
  | inl there ↦ rw (is, there) refl
  | inr there ↦
      let none : lookup_in rows (flag_id f) ≡ None = None-if_not_some _ (sym (has_row-lookup (flag_id f) rows) ∙ there) in
      rw (is, there) (ap parts_in (λ i other. lookup-with (flag_id f) AsWritten DefaultValue (codes "false" ∷ []) rows other i)
      ∙ (ap (λ (o : Option (List Text)). parts_in (put (flag_id f) (unwrap_or o [] ++ codes "false" ∷ []) (lookup_in rows))) none
      ∙ parts_in-put_default f (lookup_in rows) none))
]

same_defaults : (c : List Rule) → AreUsual c → (rows : List Row) → parts_in (lookup_in (fold with_default rows c)) ≡ parts_in (lookup_in rows)
same_defaults [] usual rows = refl
same_defaults (a ∷ rest) usual rows = same_defaults rest usual.1 (with_default rows a) ∙ same_default rows a usual.0

nothing_sound : IsSound (lookup_in [])
nothing_sound = record { texts = λ id. refl; flag = λ f. refl }

no_more : {A : Type 0} (a b d e : Kinds) (o : Option A) → d ≡ [] → e ≡ [] → unless (or_else a (or_else [] (or_else b (or_else d e)))) o ≡ unless a (unless b o)
no_more a b d e o no_d no_e = rw (no_d, no_e) (unless-or_else a (or_else b []) o ∙ ap (unless a) (or_once b o))

level : (command : Command) (c : List Rule) (words : List Text) → HasRules command c → AreUsual c → AreTexts words
    → ((rows : List Row) → check_fault (shape_of c) rows false ≡ [])
    → unless (level_fault (shape_of c) [] nothing_held words false [])
    (Some (parts_in (lookup_in (rows_after c [] words)))) ≡ parts_from command None no_parts words
level command c words has usual texts optional =
    let end : Held = (walk c [] nothing_held words).held in
    no_more (walk_fault (shape_of c) [] (walk_from nothing_held) words) (settle_fault c false end) (defaults_fault (settled c end).rows c)
    (check_fault (shape_of c) (finished c end) false) _
    (no_faults c usual (settled c end).rows) (optional (finished c end))
    ∙ (ap (λ p. unless (walk_fault (shape_of c) [] (walk_from nothing_held) words) (unless (settle_fault c false end) (Some p)))
    (same_defaults c usual (settled c end).rows)
    ∙ (reads command c has words texts).anywhere (idle_at []) idle_open (λ none. nothing_sound))

-- ---- the command line of a command

pub simple_and_free : (command : Command) → is_simple_and_free (line_for command) ≡ true
unfolding clap_on_literals
simple_and_free Run = refl
simple_and_free Gen = refl
simple_and_free Check = refl
simple_and_free Firm = refl

-- the flags and the names of a run, and the arguments of each command
usual_flags : AreUsual (map flag_rule (flags_for Run) ++ names_rule ∷ [])
usual_flags = (
  inr (slots, refl),
  (
    inr (journal, refl),
    (
      inr (reference, refl),
      (
        inr (queues, refl),
        (
          inr (packets, refl),
          (
            inr (alone, refl),
            (inr (long, refl), (inl refl, tt)),
          ),
        ),
      ),
    ),
  ),
)

usual : (command : Command) → AreUsual (rules_for command)
usual Run = (inl refl, (inl refl, (inl refl, (inl refl, (inl refl, (inl refl, usual_flags))))))
usual Gen = (inl refl, (inl refl, (inl refl, (inl refl, (inl refl, tt)))))
usual Check = (inl refl, (inl refl, tt))
usual Firm = (inl refl, (inl refl, (inl refl, (inl refl, (inr (long, refl), (inl refl, tt))))))

-- a command has no subcommand: one level is all
one_level : (command : Command) (words : List Text)
    → fault_of (line_for command) words ≡ level_fault (shape_of (rules_for command)) [] nothing_held (drop 1 words) false []
one_level Run words = leaf_fault (built (line_for Run)) nothing_held (drop 1 words) refl
one_level Gen words = leaf_fault (built (line_for Gen)) nothing_held (drop 1 words) refl
one_level Check words = leaf_fault (built (line_for Check)) nothing_held (drop 1 words) refl
one_level Firm words = leaf_fault (built (line_for Firm)) nothing_held (drop 1 words) refl

pub parse_reads : (command : Command) (words : List Text) → AreTexts (drop 1 words)
    → unless (fault_of (line_for command) words) (Some (parts_in (lookup_in (matches_of (line_for command) words)))) ≡ parts_from command None no_parts
    (drop 1 words)
parse_reads Run words texts =
    ap (λ (k : Kinds). unless k (Some (parts_in (lookup_in (matches_of (line_for Run) words))))) (one_level Run words)
    ∙ level Run (rules_for Run) (drop 1 words) (has_rules Run) (usual Run) texts (λ rows. refl)
parse_reads Gen words texts =
    ap (λ (k : Kinds). unless k (Some (parts_in (lookup_in (matches_of (line_for Gen) words))))) (one_level Gen words)
    ∙ level Gen (rules_for Gen) (drop 1 words) (has_rules Gen) (usual Gen) texts (λ rows. refl)
parse_reads Check words texts =
    ap (λ (k : Kinds). unless k (Some (parts_in (lookup_in (matches_of (line_for Check) words))))) (one_level Check words)
    ∙ level Check (rules_for Check) (drop 1 words) (has_rules Check) (usual Check) texts (λ rows. refl)
parse_reads Firm words texts =
    ap (λ (k : Kinds). unless k (Some (parts_in (lookup_in (matches_of (line_for Firm) words))))) (one_level Firm words)
    ∙ level Firm (rules_for Firm) (drop 1 words) (has_rules Firm) (usual Firm) texts (λ rows. refl)

-- where no kind of error comes, the matches say the parts
pub parse_ok : (command : Command) (words : List Text) (line : App) (m : ArgMatches) → line ≡ line_for command → AreTexts (drop 1 words)
    → (is_simple_and_free line ≡ true → fault_of line words ≡ []) → HasMatchesOf line words m
    → parts_from command None no_parts (drop 1 words) ≡ Some (parts_of m)
parse_ok command words line m is texts none matches =
    let free : is_simple_and_free line ≡ true = ap is_simple_and_free is ∙ simple_and_free command in
    let kinds : fault_of (line_for command) words ≡ [] = ap (λ (a : App). fault_of a words) (sym is) ∙ none free in
    let rows : matches_of (line_for command) words ≡ rows_of (found_of m) = ap (λ (a : App). matches_of a words) (sym is) ∙ sym (matches (both _ _ free).0).0 in
    sym (parse_reads command words texts) ∙ ap₂ (λ (k : Kinds) (r : List Row). unless k (Some (parts_in (lookup_in r)))) kinds rows

some_kind : {A : Type 0} (kind : ErrorKind) (kinds : Kinds) (o : Option A) → IsAmong kind kinds → unless kinds o ≡ None
some_kind kind [] o among = absurd among
some_kind kind (k ∷ ks) o among = refl

-- where one does, there are none
pub parse_err : (command : Command) (words : List Text) (line : App) (error : Error) → line ≡ line_for command → AreTexts (drop 1 words)
    → (is_simple_and_free line ≡ true → HasKind (fault_of line words) error)
    → (kind_of error ≡ OutOfMemory → ⊥) → parts_from command None no_parts (drop 1 words) ≡ None
parse_err command words line error is texts has memory =
    let kinds : HasKind (fault_of (line_for command) words) error =
    subst (λ (a : App). HasKind (fault_of a words) error) is (has (ap is_simple_and_free is ∙ simple_and_free command)) in
    sym (parse_reads command words texts) ∙ elim kinds [
      | inl out ↦ absurd (memory out)
      | inr among ↦ some_kind (kind_of error) (fault_of (line_for command) words) _ among
    ]

-- the words of the caller are text
pub are_texts : {Z : Type 0} (words : List (String Z)) → AreTexts (drop 1 (map string_bytes words))
are_texts [] = tt
are_texts (word ∷ rest) = each rest
  where
    each : {Z : Type 0} (rest : List (String Z)) → AreTexts (map string_bytes rest)
    each [] = tt
    each (word ∷ rest) = (IsUtf8-string_bytes word, each rest)
