-- The numbers that compare an output of a run with the same output of the ideal switch.
use Rattle.std.specs.Prelude.{ℕ, zero, suc, ◌-◌, max, nat_lt, if◌then◌else◌, List, map, length, filter}
use Rattle.std.specs.List.{range_with_len}
use Rattle.card_core.specs.Plans.{Plan}
use Rattle.output_queued.specs.declared.line.RefLine.{RefLine}
use Rattle.output_queued.specs.Ideal.{total, given}
use Rattle.output_queued.specs.Switches.{Matched, comes, feeds}

-- how many cells of output j the ideal switch has given out in the first t slots
abbrev pub ideal : List Plan → List Matched → ℕ → ℕ → ℕ
ideal cards matches j t = given (comes cards matches j) t

-- in how many of the first t slots the run fed output j
abbrev pub ran : List Matched → ℕ → ℕ → ℕ
ran matches j t = total (feeds matches j) t

-- one more than the last of the first t slots in which f rose, 0 where it never rose
abbrev pub end_of : (ℕ → ℕ) → ℕ → ℕ
end_of f zero = 0
end_of f (suc t) = if nat_lt (f t) (f (suc t)) then suc t else end_of f t

-- the greatest of f over the first t slots, 0 of none
abbrev pub greatest_of : (ℕ → ℕ) → ℕ → ℕ
greatest_of f zero = 0
greatest_of f (suc t) = max (greatest_of f t) (f t)

-- the slots among the first t in which f rose
abbrev pub rises : (ℕ → ℕ) → ℕ → List ℕ
rises f t = filter (λ u. nat_lt (f u) (f (suc u))) (range_with_len 0 t)

-- how many cells the first has served more than the second by the end of slot t
abbrev pub ahead : (ℕ → ℕ) → (ℕ → ℕ) → ℕ → ℕ
ahead first second t = first (suc t) - second (suc t)

-- the numbers of two counts over the first t slots: where each ends, and by how much the first leads, at most and in all
abbrev pub line_by : (ℕ → ℕ) → (ℕ → ℕ) → ℕ → RefLine
line_by first second t = record {
  ends = end_of first t;
  runs = end_of second t;
  lead = greatest_of (ahead first second) t;
  extra = total (ahead first second) t;
}

-- the numbers of output j: the ideal switch against the run
unfoldable pub line_of : List Plan → List Matched → ℕ → RefLine
line_of cards matches j = line_by (ideal cards matches j) (ran matches j) (length matches)

-- the lines of all outputs, in their order
abbrev pub lines_of : List Plan → List Matched → List RefLine
lines_of cards matches = map (line_of cards matches) (range_with_len 0 (length cards))
