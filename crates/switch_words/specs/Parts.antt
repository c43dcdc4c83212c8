-- What the words behind the command are: options with the texts of their values, and names.
use Rattle.std.specs.Prelude.{ℕ, Bool, true, false, is_some, ◌==◌, ◌++◌, if◌then◌else◌, List, [], ◌∷◌, Option, None, Some, option_and_then}
use Rattle.std.specs.List.{list_any, before_first, after_first}
use Rattle.switch_words.specs.declared.options.Command.{Command}
use Rattle.switch_words.specs.declared.options.Flags.{Flags}
use Rattle.switch_words.specs.Options.{Setting, rounds, depth, workers, pace_us, line_rate, scheduler, Switch, value, flag, option_of}
use Rattle.switch_words.specs.Options.{Flag, slots, journal, reference, queues, packets, alone, long}

-- the texts that the options have, which flags were given, and the names
pub record Parts : Type 0 where
  pub rounds : Option (List ℕ)
  pub depth : Option (List ℕ)
  pub workers : Option (List ℕ)
  pub pace_us : Option (List ℕ)
  pub line_rate : Option (List ℕ)
  pub scheduler : Option (List ℕ)
  pub flags : Flags
  pub names : List (List ℕ)

-- before the first word
abbrev pub no_parts : Parts
no_parts = record {
  rounds = None;
  depth = None;
  workers = None;
  pace_us = None;
  line_rate = None;
  scheduler = None;
  flags = record { slots = false; journal = false; reference = false; queues = false; packets = false; alone = false; long = false };
  names = [];
}

-- the text of an option, where it was given
abbrev pub text_in : Parts → Setting → Option (List ℕ)
text_in parts rounds = parts.rounds
text_in parts depth = parts.depth
text_in parts workers = parts.workers
text_in parts pace_us = parts.pace_us
text_in parts line_rate = parts.line_rate
text_in parts scheduler = parts.scheduler

-- with this text of an option
abbrev pub set_text : Parts → Setting → List ℕ → Parts
set_text parts rounds text = record parts { rounds = Some text }
set_text parts depth text = record parts { depth = Some text }
set_text parts workers text = record parts { workers = Some text }
set_text parts pace_us text = record parts { pace_us = Some text }
set_text parts line_rate text = record parts { line_rate = Some text }
set_text parts scheduler text = record parts { scheduler = Some text }

-- with the text of an option that was not given before
abbrev pub with_text : Parts → Setting → List ℕ → Option Parts
with_text parts setting text = if is_some (text_in parts setting) then None else Some (set_text parts setting text)

-- whether a flag was given
abbrev pub is_given : Flags → Flag → Bool
is_given flags slots = flags.slots
is_given flags journal = flags.journal
is_given flags reference = flags.reference
is_given flags queues = flags.queues
is_given flags packets = flags.packets
is_given flags alone = flags.alone
is_given flags long = flags.long

-- with this flag
abbrev pub set_flag : Flags → Flag → Flags
set_flag flags slots = record flags { slots = true }
set_flag flags journal = record flags { journal = true }
set_flag flags reference = record flags { reference = true }
set_flag flags queues = record flags { queues = true }
set_flag flags packets = record flags { packets = true }
set_flag flags alone = record flags { alone = true }
set_flag flags long = record flags { long = true }

-- with a flag that was not given before
abbrev pub with_flag : Parts → Flag → Option Parts
with_flag parts f = if is_given parts.flags f then None else Some (record parts { flags = set_flag parts.flags f })

-- with more names
abbrev pub with_names : List (List ℕ) → Parts → Parts
with_names names parts = record parts { names = parts.names ++ names }

-- the bytes of `-` and `=`
abbrev pub dash : ℕ
dash = 45

abbrev pub equals_sign : ℕ
equals_sign = 61

-- what a word is where options may stand: `--`; an option, with its name and the value behind its first `=`; a name;
-- or what is refused
pub data Word : Type 0 where
  closing : Word
  option : List ℕ → Option (List ℕ) → Word
  name : Word
  refused : Word

-- what stands behind the first `=`, if there is one
abbrev pub value_in : List ℕ → Option (List ℕ)
value_in text =
    if list_any (λ byte. byte == equals_sign) text then Some (after_first (λ byte. byte == equals_sign) text) else None

-- a word, by what follows its `--`
abbrev pub behind_dashes : List ℕ → Word
behind_dashes [] = closing
behind_dashes (byte ∷ rest) = option (before_first (λ b. b == equals_sign) (byte ∷ rest)) (value_in (byte ∷ rest))

-- `-` alone is a name, and so is what does not begin with `-`
abbrev pub word_of : List ℕ → Word
word_of [] = name
word_of (first ∷ []) = name
word_of (first ∷ second ∷ rest) =
    if first == dash then (if second == dash then behind_dashes rest else refused) else name

-- After an option, with the value behind its `=` if there is one. `read_on` reads the words behind it, of which the
-- first is the value of an option if one is awaited.
abbrev pub after_option : Parts → Option (List ℕ) → Switch → (Option Setting → Parts → Option Parts) → Option Parts
after_option parts (Some text) (value setting) read_on = option_and_then (read_on None) (with_text parts setting text)
after_option parts None (value setting) read_on = read_on (Some setting) parts
after_option parts (Some text) (flag f) read_on = None
after_option parts None (flag f) read_on = option_and_then (read_on None) (with_flag parts f)

-- After a word where options may stand. Behind `--` each word is a name.
abbrev pub after_word : Command → Parts → List ℕ → List (List ℕ) → Word → (Option Setting → Parts → Option Parts) → Option Parts
after_word command parts word rest closing read_on = Some (with_names rest parts)
after_word command parts word rest (option text behind) read_on =
    option_and_then (λ switch. after_option parts behind switch read_on) (option_of command text)
after_word command parts word rest name read_on = read_on None (with_names (word ∷ []) parts)
after_word command parts word rest refused read_on = None

-- After the word that has to be the value of an option: one that could be a name.
abbrev pub after_value : Parts → Setting → List ℕ → Word → (Option Setting → Parts → Option Parts) → Option Parts
after_value parts setting word name read_on = option_and_then (read_on None) (with_text parts setting word)
after_value parts setting word _ read_on = None

-- The parts of the words, with those of the words before them. The first word is the value of the option that is
-- awaited, if one is. None where a word is refused or an option has no value.
unfoldable pub parts_from : Command → Option Setting → Parts → List (List ℕ) → Option Parts
parts_from command None parts [] = Some parts
parts_from command (Some setting) parts [] = None
parts_from command None parts (word ∷ rest) =
    after_word command parts word rest (word_of word) (λ awaited more. parts_from command awaited more rest)
parts_from command (Some setting) parts (word ∷ rest) =
    after_value parts setting word (word_of word) (λ awaited more. parts_from command awaited more rest)
