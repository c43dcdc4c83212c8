-- What the code knows of a word.
use Rattle.std.specs.Prelude.{option_map}
use Rattle.command_words.specs.Words.{Word, closing, dashed, plain, refused}
use Rattle.command_words.specs.declared.words.Word as code
use Rattle.command_words.specs.declared.words.Word.TheVariants.{Closing, Dashed, Plain, Refused}

abbrev pub word_value : code.Word → Word
word_value Closing = closing
word_value (Dashed name value) = dashed name.now (option_map (λ text. text.now) value)
word_value Plain = plain
word_value Refused = refused
