-- The lines that compare a run with the ideal switch, as words.
use Rattle.std.specs.Prelude.{ℕ, List, [], ◌∷◌, codes, decimal}
use Rattle.slot_report.specs.Texts.{map_with_place}
use Rattle.output_queued.specs.declared.line.RefLine.{RefLine}

-- the line of output j
unfoldable pub reference_line : ℕ → RefLine → List (List ℕ)
reference_line j line =
    codes "reference" ∷ decimal j ∷ codes "ends" ∷ decimal line.ends ∷ codes "runs" ∷ decimal line.runs ∷ codes "lead" ∷ decimal line.lead ∷ codes "extra"
    ∷ decimal line.extra ∷ []

-- the lines of these outputs, from output 0 on
abbrev pub reference_lines : List RefLine → List (List (List ℕ))
reference_lines lines = map_with_place reference_line lines
