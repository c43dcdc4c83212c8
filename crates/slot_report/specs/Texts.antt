-- The summary and the report, line by line: each line is the list of its words.
use Rattle.std.specs.Prelude.{ℕ, List, [], ◌∷◌, ◌++◌, Option, None, Some, map, option_map, codes, decimal}
use Rattle.std.specs.List.{filter_map, enumerate_from}
use Rattle.rotating_pick.specs.declared.kinds.Kind.{Kind}
use Rattle.rotating_pick.specs.declared.kinds.Kind.TheVariants.{Uni, Multi}
use Rattle.islip_rounds.specs.declared.numbers.RoundsUsed.{RoundsUsed}
use Rattle.slot_match.specs.declared.matching.Fed.{Fed}
use Rattle.slot_histories.specs.Answers.{JournalSlot}
use Rattle.board_state.specs.Boards.{JournalValue}
use Rattle.slot_report.specs.Lines.{lines_text}
use Rattle.slot_report.specs.declared.summary.OutLine.{OutLine}
use Rattle.slot_report.specs.declared.summary.Summary.{Summary}

-- the twelve lines of the summary
unfoldable pub summary_lines : Summary → List (List (List ℕ))
summary_lines s =
    (codes "ports" ∷ decimal s.ports ∷ [])
    ∷ (codes "rounds" ∷ decimal s.rounds ∷ [])
    ∷ (codes "depth" ∷ decimal s.depth ∷ [])
    ∷ (codes "slots" ∷ decimal s.slots ∷ [])
    ∷ (codes "packets" ∷ decimal s.packets ∷ [])
    ∷ (codes "oversize" ∷ decimal s.oversize ∷ [])
    ∷ (codes "unrouted" ∷ decimal s.unrouted ∷ [])
    ∷ (codes "dropped" ∷ decimal s.dropped ∷ [])
    ∷ (codes "forwarded" ∷ decimal s.forwarded ∷ [])
    ∷ (codes "copies" ∷ decimal s.copies ∷ [])
    ∷ (codes "cells" ∷ decimal s.cells ∷ [])
    ∷ (codes "longest" ∷ map decimal s.longest)
    ∷ []

-- f of each place, from 0 on, and of what stands there
abbrev pub map_with_place : {X Y : Type 0} → (ℕ → X → Y) → List X → List Y
map_with_place f xs = map (λ p. f p.0 p.1) (enumerate_from 0 xs)

-- the line of output j
unfoldable pub output_line : ℕ → OutLine → List (List ℕ)
output_line j output = codes "output" ∷ decimal j ∷ codes "packets" ∷ decimal output.packets ∷ codes "cells" ∷ decimal output.cells ∷ []

-- the letter of a kind
abbrev pub letter_of : Kind → List ℕ
letter_of Uni = codes "u"
letter_of Multi = codes "m"

-- a matched output j: input, output, level and kind, as `0>2:1u`
abbrev pub pair_text : ℕ → Fed → List ℕ
pair_text j fed = decimal fed.input ++ codes ">" ++ decimal j ++ codes ":" ++ decimal fed.level ++ letter_of fed.kind

-- output j, if it is matched
abbrev pub pair_at : ℕ → Option Fed → Option (List ℕ)
pair_at j fed = option_map (pair_text j) fed

-- the matched outputs, in rising order
abbrev pub pairs_of : List (Option Fed) → List (List ℕ)
pairs_of matched = filter_map (λ pair. pair) (map_with_place pair_at matched)

-- the line of slot t, of which these are the numbers and the match
unfoldable pub slot_line : ℕ → RoundsUsed → List (Option Fed) → List (List ℕ)
slot_line t numbers matched = codes "slot" ∷ decimal t ∷ codes "used" ∷ decimal numbers.used ∷ codes "first" ∷ decimal numbers.first ∷ pairs_of matched

-- the line of slot t of a journal
abbrev pub journal_line : ℕ → JournalSlot → List (List ℕ)
journal_line t slot = slot_line t slot.numbers slot.matched

-- the slots of a journal, if there is one
abbrev pub slots_of : Option JournalValue → List JournalSlot
slots_of None = []
slots_of (Some journal) = journal.slots

-- the report: the summary, a line for each output, these further lines, and a line for each of these slots
unfoldable pub report_bytes : Summary → List OutLine → List ℕ → List JournalSlot → List ℕ
report_bytes s outputs more slots = lines_text (summary_lines s ++ map_with_place output_line outputs) ++ more ++ lines_text (map_with_place journal_line slots)
