-- What clap knows of a command line, and what its matches say of the words. Only contracts inside the crate speak of it.
use Rattle.std.specs.Prelude.{Bool, true, false, List, [], ◌∷◌, ◌++◌, map, Option, None, Some, unwrap_or, codes}
use Rattle.std.specs.Str.{bytes_eq}
use Rattle.clap.specs.Walk.{Row, Rule, Text, all_of, rows_of}
use Rattle.clap.specs.Matches.{found_of}
use Rattle.clap.specs.Simple.{App, new_rule, new_shape}
use Rattle.clap.specs.declared.builder.action.ArgAction.TheVariants.{Set, Append, SetTrue}
use Rattle.clap.specs.declared.parser.matches.ArgMatches.{ArgMatches}
use Rattle.switch_words.specs.declared.options.Command.{Command}
use Rattle.switch_words.specs.declared.options.Command.TheVariants.{Run, Gen, Check, Firm}
use Rattle.switch_words.specs.Parts.{Parts}

-- an option with a value, a flag, and the names
abbrev pub option_arg : Text → Rule
option_arg id = record (new_rule id) { long = Some id; action = Some Set }

abbrev pub flag_arg : Text → Rule
flag_arg id = record (new_rule id) { long = Some id; action = Some SetTrue }

abbrev pub names_arg : Rule
names_arg = record (new_rule (codes "names")) { action = Some Append }

-- the names of a command's options with a value, and of its flags
abbrev pub options_for : Command → List Text
options_for Run = codes "rounds" ∷ codes "depth" ∷ codes "workers" ∷ codes "pace-us" ∷ codes "line-rate" ∷ codes "scheduler" ∷ []
options_for Gen = codes "rounds" ∷ codes "depth" ∷ codes "workers" ∷ codes "scheduler" ∷ []
options_for Check = codes "scheduler" ∷ []
options_for Firm = codes "rounds" ∷ codes "depth" ∷ codes "pace-us" ∷ codes "line-rate" ∷ []

abbrev pub flags_for : Command → List Text
flags_for Run = codes "slots" ∷ codes "journal" ∷ codes "reference" ∷ codes "queues" ∷ codes "packets" ∷ codes "alone" ∷ codes "long" ∷ []
flags_for Gen = []
flags_for Check = []
flags_for Firm = codes "long" ∷ []

abbrev pub args_for : Command → List Rule
args_for command = map option_arg (options_for command) ++ (map flag_arg (flags_for command) ++ names_arg ∷ [])

-- a line that takes no word, without help; a line with further arguments; and the line of a command
abbrev pub bare_line : App
bare_line = record { top = record (new_shape (codes "tiny_tera")) { disable_help_flag = true }; subs = [] }

abbrev pub with_rules : App → List Rule → App
with_rules line rules = record line { top = record line.top { rules = line.top.rules ++ rules } }

abbrev pub line_for : Command → App
line_for command = with_rules bare_line (args_for command)

-- the texts that matches have for an id
abbrev pub Lookup : Type 0
Lookup = Text → Option (List Text)

abbrev pub lookup_in : List Row → Lookup
lookup_in rows id = all_of id rows

abbrev pub first_text : Option (List Text) → Option Text
first_text None = None
first_text (Some []) = None
first_text (Some (text ∷ rest)) = Some text

-- a flag that is given has the text `true`
abbrev pub is_true_text : Option Text → Bool
is_true_text None = false
is_true_text (Some text) = bytes_eq text (codes "true")

abbrev pub parts_in : Lookup → Parts
parts_in lookup = record {
  rounds = first_text (lookup (codes "rounds"));
  depth = first_text (lookup (codes "depth"));
  workers = first_text (lookup (codes "workers"));
  pace_us = first_text (lookup (codes "pace-us"));
  line_rate = first_text (lookup (codes "line-rate"));
  scheduler = first_text (lookup (codes "scheduler"));
  flags = record {
    slots = is_true_text (first_text (lookup (codes "slots")));
    journal = is_true_text (first_text (lookup (codes "journal")));
    reference = is_true_text (first_text (lookup (codes "reference")));
    queues = is_true_text (first_text (lookup (codes "queues")));
    packets = is_true_text (first_text (lookup (codes "packets")));
    alone = is_true_text (first_text (lookup (codes "alone")));
    long = is_true_text (first_text (lookup (codes "long")));
  };
  names = unwrap_or (lookup (codes "names")) [];
}

abbrev pub lookup_of : ArgMatches → Lookup
lookup_of matches = lookup_in (rows_of (found_of matches))

abbrev pub parts_of : ArgMatches → Parts
parts_of matches = parts_in (lookup_of matches)
