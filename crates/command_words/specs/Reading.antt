-- The reading of words, from left to right.
use Rattle.std.specs.Prelude.{ℕ, Bool, true, false, if◌then◌else◌, List, [], ◌∷◌, Option, None, Some, option_and_then, option_map}
use Rattle.command_words.specs.Parts.{PartsValue, is_among, no_parts, with_flag, with_name, with_text}
use Rattle.command_words.specs.Words.{Word, closing, dashed, plain, refused, word_of}

-- the names of the options of a command: of those with a value, and of flags, which have none
pub record NamesOfOptions : Type 0 where
  pub values : List (List ℕ)
  pub flags : List (List ℕ)

-- the parts of the words so far, the option whose value the next word has to be, and whether `--` has come
pub record Reading : Type 0 where
  pub parts : PartsValue
  pub awaited : Option (List ℕ)
  pub is_closed : Bool

-- where any word may come next
abbrev pub open_with : PartsValue → Reading
open_with parts = record { parts = parts; awaited = None; is_closed = false }

-- after the name of an option or a flag, with the value behind its `=` if there is one
abbrev pub after_name : NamesOfOptions → PartsValue → List ℕ → Option (List ℕ) → Option Reading
after_name names parts word None =
    if is_among names.values word then Some (record (open_with parts) { awaited = Some word })
    else (if is_among names.flags word then option_map open_with (with_flag parts word) else None)
after_name names parts word (Some text) =
    if is_among names.values word then option_map open_with (with_text parts word text) else None

-- after a word where options may stand
abbrev pub after_word : NamesOfOptions → PartsValue → List ℕ → Word → Option Reading
after_word names parts text closing = Some (record (open_with parts) { is_closed = true })
after_word names parts text (dashed word value) = after_name names parts word value
after_word names parts text plain = Some (open_with (with_name parts text))
after_word names parts text refused = None

-- after the word that has to be the value of an option
abbrev pub after_value : PartsValue → List ℕ → List ℕ → Word → Option Reading
after_value parts option text plain = option_map open_with (with_text parts option text)
after_value parts option text _ = None

-- before `--`, by the option that awaits its value
abbrev pub read_open : NamesOfOptions → PartsValue → Option (List ℕ) → List ℕ → Option Reading
read_open names parts None text = after_word names parts text (word_of text)
read_open names parts (Some option) text = after_value parts option text (word_of text)

-- one word more; None where it is refused. Behind `--` each word is a name.
abbrev pub read_word : NamesOfOptions → Reading → List ℕ → Option Reading
read_word names reading text =
    if reading.is_closed then Some (record reading { parts = with_name reading.parts text })
    else read_open names reading.parts reading.awaited text

-- the parts where the words end; None where an option awaits its value
abbrev pub ended : Reading → Option PartsValue
ended reading = if_none reading.awaited
  where
    if_none : Option (List ℕ) → Option PartsValue
    if_none None = Some reading.parts
    if_none (Some option) = None

-- the parts of words, after those that are read
unfoldable pub parts_after : NamesOfOptions → Reading → List (List ℕ) → Option PartsValue
parts_after names reading [] = ended reading
parts_after names reading (text ∷ rest) = option_and_then (λ next. parts_after names next rest) (read_word names reading text)

-- The parts of the words of a command with these options. None where a word is refused, an option or a flag is not the
-- command's or is repeated, a flag has a value, or an option has none.
abbrev pub parts_of : NamesOfOptions → List (List ℕ) → Option PartsValue
parts_of names words = parts_after names (open_with no_parts) words
