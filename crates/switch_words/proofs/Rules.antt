-- The rules that clap has for the options and the names of a command.
use Rattle.std.proofs.Common.{◌≡◌, ◌++◌, subst, true, false, List, [], ◌∷◌, Option, None, Some, refl, inl, inr, ℕ, codes}
use Rattle.std.specs.Prelude.{map}
use Rattle.std.proofs.lemmas.Slice.Eq.{bytes_eq-Decides}
use Rattle.std.specs.Str.{bytes_eq}
use Rattle.std.proofs.lemmas.Bool.{cases_Bool}
use Rattle.clap.specs.Walk.{Rule, Text, arg_by_id, arg_by_index, arg_by_long, arg_by_short}
use Rattle.clap.specs.Simple.{Shape, filled, new_shape, with_index}
use Rattle.switch_words.specs.declared.options.Command.{Command}
use Rattle.switch_words.specs.declared.options.Command.TheVariants.{Run, Gen, Check, Firm}
use Rattle.switch_words.specs.Options.{Setting, rounds, depth, workers, pace_us, line_rate, scheduler, Switch, value, flag, option_of}
use Rattle.switch_words.specs.Options.{Flag, slots, journal, reference, queues, packets, alone, long}
use Rattle.switch_words.specs.LineSteps.{flag_arg, flags_for, names_arg, option_arg, options_for}

-- ---- the rules, as they are written and as they are built

abbrev pub id_of : Setting → Text
id_of rounds = codes "rounds"
id_of depth = codes "depth"
id_of workers = codes "workers"
id_of pace_us = codes "pace-us"
id_of line_rate = codes "line-rate"
id_of scheduler = codes "scheduler"

abbrev pub flag_id : Flag → Text
flag_id slots = codes "slots"
flag_id journal = codes "journal"
flag_id reference = codes "reference"
flag_id queues = codes "queues"
flag_id packets = codes "packets"
flag_id alone = codes "alone"
flag_id long = codes "long"

abbrev pub option_rule : Text → Rule
option_rule id = filled (option_arg id)

abbrev pub flag_rule : Text → Rule
flag_rule id = filled (flag_arg id)

abbrev pub names_rule : Rule
names_rule = with_index 1 (filled names_arg)

abbrev pub rules_for : Command → List Rule
rules_for command = map option_rule (options_for command) ++ (map flag_rule (flags_for command) ++ names_rule ∷ [])

-- the command of these rules, once it is built
abbrev pub shape_of : List Rule → Shape
shape_of rules = record (new_shape (codes "tiny_tera")) {
  rules = rules;
  disable_help_flag = true;
  disable_help_subcommand = true;
  is_built = true;
}

-- the rule that an option's name finds
abbrev pub IsMet : List Rule → Text → Option Switch → Type 0
IsMet c name None = arg_by_long c name ≡ None
IsMet c name (Some (value s)) = (arg_by_long c name ≡ Some (option_rule (id_of s))) × (arg_by_id c (id_of s) ≡ Some (option_rule (id_of s)))
IsMet c name (Some (flag f)) = arg_by_long c name ≡ Some (flag_rule (flag_id f))

pub record HasRules (command : Command) (c : List Rule) : Type 0 where
  pub short : (x : ℕ) → arg_by_short c x ≡ None
  pub place : arg_by_index c 1 ≡ Some names_rule
  pub by_id : arg_by_id c (codes "names") ≡ Some names_rule
  pub long : (name : Text) → IsMet c name (option_of command name)

-- the rule of each option, at each command
met_value : (command : Command) (s : Setting) → IsMet (rules_for command) (id_of s) (option_of command (id_of s))
met_value Run rounds = (refl, refl)
met_value Run depth = (refl, refl)
met_value Run workers = (refl, refl)
met_value Run pace_us = (refl, refl)
met_value Run line_rate = (refl, refl)
met_value Run scheduler = (refl, refl)
met_value Gen rounds = (refl, refl)
met_value Gen depth = (refl, refl)
met_value Gen workers = (refl, refl)
met_value Gen pace_us = refl
met_value Gen line_rate = refl
met_value Gen scheduler = (refl, refl)
met_value Check rounds = refl
met_value Check depth = refl
met_value Check workers = refl
met_value Check pace_us = refl
met_value Check line_rate = refl
met_value Check scheduler = (refl, refl)
met_value Firm rounds = (refl, refl)
met_value Firm depth = (refl, refl)
met_value Firm workers = refl
met_value Firm pace_us = (refl, refl)
met_value Firm line_rate = (refl, refl)
met_value Firm scheduler = refl

met_flag : (command : Command) (f : Flag) → IsMet (rules_for command) (flag_id f) (option_of command (flag_id f))
met_flag Run slots = refl
met_flag Run journal = refl
met_flag Run reference = refl
met_flag Run queues = refl
met_flag Run packets = refl
met_flag Run alone = refl
met_flag Run long = refl
met_flag Gen slots = refl
met_flag Gen journal = refl
met_flag Gen reference = refl
met_flag Gen queues = refl
met_flag Gen packets = refl
met_flag Gen alone = refl
met_flag Gen long = refl
met_flag Check slots = refl
met_flag Check journal = refl
met_flag Check reference = refl
met_flag Check queues = refl
met_flag Check packets = refl
met_flag Check alone = refl
met_flag Check long = refl
met_flag Firm slots = refl
met_flag Firm journal = refl
met_flag Firm reference = refl
met_flag Firm queues = refl
met_flag Firm packets = refl
met_flag Firm alone = refl
met_flag Firm long = refl

-- a name is that of an option, or of none
data Named (name : Text) : Type 0 where
  setting : (s : Setting) → id_of s ≡ name → Named name
  switch : (f : Flag) → flag_id f ≡ name → Named name
  unknown : bytes_eq (codes "rounds") name ≡ false → bytes_eq (codes "depth") name ≡ false → bytes_eq (codes "workers") name ≡ false
      → bytes_eq (codes "pace-us") name ≡ false → bytes_eq (codes "line-rate") name ≡ false → bytes_eq (codes "scheduler") name ≡ false
      → bytes_eq (codes "slots") name ≡ false
      → bytes_eq (codes "journal") name ≡ false → bytes_eq (codes "reference") name ≡ false → bytes_eq (codes "queues") name ≡ false
      → bytes_eq (codes "packets") name ≡ false → bytes_eq (codes "alone") name ≡ false → bytes_eq (codes "long") name ≡ false → Named name

is_text : (a b : Text) → bytes_eq a b ≡ true → a ≡ b
is_text a b h = (bytes_eq-Decides a b).0 h

named : (name : Text) → Named name
named name = elim (cases_Bool (bytes_eq (codes "rounds") name)) [
  | inl h ↦ setting rounds (is_text _ _ h)
  | inr a ↦ elim (cases_Bool (bytes_eq (codes "depth") name)) [
    | inl h ↦ setting depth (is_text _ _ h)
    | inr b ↦ elim (cases_Bool (bytes_eq (codes "workers") name)) [
      | inl h ↦ setting workers (is_text _ _ h)
      | inr d ↦ elim (cases_Bool (bytes_eq (codes "pace-us") name)) [
        | inl h ↦ setting pace_us (is_text _ _ h)
        | inr e ↦ elim (cases_Bool (bytes_eq (codes "line-rate") name)) [
          | inl h ↦ setting line_rate (is_text _ _ h)
          | inr r ↦ elim (cases_Bool (bytes_eq (codes "scheduler") name)) [
            | inl h ↦ setting scheduler (is_text _ _ h)
            | inr s ↦ elim (cases_Bool (bytes_eq (codes "slots") name)) [
              | inl h ↦ switch slots (is_text _ _ h)
              | inr f ↦ elim (cases_Bool (bytes_eq (codes "journal") name)) [
                | inl h ↦ switch journal (is_text _ _ h)
                | inr g ↦ elim (cases_Bool (bytes_eq (codes "reference") name)) [
                  | inl h ↦ switch reference (is_text _ _ h)
                  | inr k ↦ elim (cases_Bool (bytes_eq (codes "queues") name)) [
                    | inl h ↦ switch queues (is_text _ _ h)
                    | inr m ↦ elim (cases_Bool (bytes_eq (codes "packets") name)) [
                      | inl h ↦ switch packets (is_text _ _ h)
                      | inr n ↦ elim (cases_Bool (bytes_eq (codes "alone") name)) [
                        | inl h ↦ switch alone (is_text _ _ h)
                        | inr o ↦ elim (cases_Bool (bytes_eq (codes "long") name)) [
                          | inl h ↦ switch long (is_text _ _ h)
                          | inr l ↦ unknown a b d e r s f g k m n o l
                        ]
                      ]
                    ]
                  ]
                ]
              ]
            ]
          ]
        ]
      ]
    ]
  ]
]

-- no command has an option of another name
long_met : (command : Command) (name : Text) → Named name → IsMet (rules_for command) name (option_of command name)
long_met command name (setting s is) = subst (λ (n : Text). IsMet (rules_for command) n (option_of command n)) is (met_value command s)
long_met command name (switch f is) = subst (λ (n : Text). IsMet (rules_for command) n (option_of command n)) is (met_flag command f)
long_met Run name (unknown a b d e r s f g k m n o l) = rw (a, b, d, e, r, s, f, g, k, m, n, o, l) (rw (a, b, d, e, r, s, f, g, k, m, n, o, l) refl)
long_met Gen name (unknown a b d e r s f g k m n o l) = rw (a, b, d, e, r, s, f, g, k, m, n, o, l) (rw (a, b, d, s) refl)
long_met Check name (unknown a b d e r s f g k m n o l) = rw (a, b, d, e, r, s, f, g, k, m, n, o, l) (rw s refl)
long_met Firm name (unknown a b d e r s f g k m n o l) = rw (a, b, d, e, r, s, f, g, k, m, n, o, l) (rw (a, b, e, r, l) refl)

pub has_rules : (command : Command) → HasRules command (rules_for command)
has_rules Run = record { short = λ x. refl; place = refl; by_id = refl; long = λ name. long_met Run name (named name) }
has_rules Gen = record { short = λ x. refl; place = refl; by_id = refl; long = λ name. long_met Gen name (named name) }
has_rules Check = record { short = λ x. refl; place = refl; by_id = refl; long = λ name. long_met Check name (named name) }
has_rules Firm = record { short = λ x. refl; place = refl; by_id = refl; long = λ name. long_met Firm name (named name) }
