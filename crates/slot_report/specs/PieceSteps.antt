-- What the steps that build a text append to it.
use Rattle.std.specs.Prelude.{ℕ, List, [], ◌∷◌, decimal}
use Rattle.std.specs.Borrow.{Bor}
use Rattle.slot_report.specs.declared.lines.Word.{Word}
use Rattle.slot_report.specs.declared.lines.Word.TheVariants.{Name, Number, Pair}
use Rattle.slot_report.specs.Lines.{space}
use Rattle.slot_report.specs.Texts.{pair_text}

-- the bytes of a word
abbrev pub word_text : Word → List ℕ
word_text (Name name) = name.now
word_text (Number n) = decimal n
word_text (Pair j fed) = pair_text j fed

-- a word after a space
abbrev pub after_space : List ℕ → List ℕ
after_space word = space ∷ word

-- the line of a name and a number
abbrev pub count_line : Bor (List ℕ) × ℕ → List (List ℕ)
count_line p = p.0.now ∷ decimal p.1 ∷ []
