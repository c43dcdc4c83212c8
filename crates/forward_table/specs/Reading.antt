-- What a table's text means: its route lines, or its first fault.
use Rattle.std.specs.Prelude.{◌≡◌, ℕ, Bool, true, false, ◌+◌, ◌<◌, ◌≤◌, length, take, slice_index_or, nat_le, nat_lt, if◌then◌else◌, List, [], ◌∷◌}
use Rattle.std.specs.Prelude.{◌++◌, Option, None, Some, Result, Ok, Err, option_map, find, count_by}
use Rattle.std.specs.Option.{option_or}
use Rattle.rotating_pick.specs.declared.limits.TheConstants.{LEVELS}
use Rattle.forward_table.specs.declared.limits.TheConstants.{MAX_LINES}
use Rattle.forward_table.specs.declared.faults.TableFault.{TableFault}
use Rattle.forward_table.specs.declared.faults.TableFault.TheVariants.{BadLine, HostBits, BadPort, BadLevel, Repeated, TooManyLines}
use Rattle.forward_table.specs.declared.route_lines.Target.{Target}
use Rattle.forward_table.specs.declared.route_lines.RouteLine.{RouteLine}
use Rattle.forward_table.specs.declared.forms.Form.{Form}
use Rattle.forward_table.specs.Text.{lines, content}
use Rattle.forward_table.specs.Targets.{has_host_bits, is_same_target}
use Rattle.forward_table.specs.Forms.{form_of}

-- the route line of this number, or what is wrong in it: first its host bits, then a port, then its level
unfoldable pub checked : ℕ → Form → Result (Option RouteLine) TableFault
checked number form = if has_host_bits form.target then Err (HostBits number) else with_fan form.fan
  where
    with_fan : Result ℕ ℕ → Result (Option RouteLine) TableFault
    with_fan (Err port) = Err (BadPort number port)
    with_fan (Ok fan) = if nat_le LEVELS form.level then Err (BadLevel number) else Ok (Some (record {
      number = number;
      target = form.target;
      route = record { fan = fan; level = form.level };
    }))

-- what the words of a line mean: nothing, a route line, or a fault
abbrev pub meaning_of : ℕ → ℕ → List (List ℕ) → Result (Option RouteLine) TableFault
meaning_of n number [] = Ok None
meaning_of n number (word ∷ more) = of_form (form_of n (word ∷ more))
  where
    of_form : Option Form → Result (Option RouteLine) TableFault
    of_form None = Err (BadLine number)
    of_form (Some form) = checked number form

-- what the line of this number means
unfoldable pub line_of : ℕ → ℕ → List ℕ → Result (Option RouteLine) TableFault
line_of n number line = meaning_of n number (content line)

-- whether there is a word
abbrev pub is_route_words : List (List ℕ) → Bool
is_route_words [] = false
is_route_words (word ∷ more) = true

-- whether a line is a route line, be it of the form or not
unfoldable pub is_route_line : List ℕ → Bool
is_route_line line = is_route_words (content line)

-- how many route lines a text has
abbrev pub route_line_count : List ℕ → ℕ
route_line_count text = count_by is_route_line (lines text)

-- the first of the lines with this target
abbrev pub line_with : Target → List RouteLine → Option RouteLine
line_with target earlier = find (λ line. is_same_target line.target target) earlier

-- the fault of the line of this number, where it has one; `earlier` are the route lines before it
abbrev pub fault_of : ℕ → List RouteLine → ℕ → List ℕ → Option TableFault
fault_of n earlier number line = of_meaning (line_of n number line)
  where
    of_meaning : Result (Option RouteLine) TableFault → Option TableFault
    of_meaning (Err fault) = Some fault
    of_meaning (Ok None) = None
    of_meaning (Ok (Some found)) = option_map (λ first. Repeated found.number first.number) (line_with found.target earlier)

-- the route line that a line of this number is, if it is one without a fault
abbrev pub route_line_of : ℕ → ℕ → List ℕ → List RouteLine
route_line_of n number line = of_meaning (line_of n number line)
  where
    of_meaning : Result (Option RouteLine) TableFault → List RouteLine
    of_meaning (Ok (Some found)) = found ∷ []
    of_meaning _ = []

-- the route lines among these lines, of which the first has this number
abbrev pub route_lines_of : ℕ → ℕ → List (List ℕ) → List RouteLine
route_lines_of n number [] = []
route_lines_of n number (line ∷ more) = route_line_of n number line ++ route_lines_of n (number + 1) more

-- the first fault of these lines, of which the first has this number; `earlier` are the route lines before them
abbrev pub first_fault : ℕ → List RouteLine → ℕ → List (List ℕ) → Option TableFault
first_fault n earlier number [] = None
first_fault n earlier number (line ∷ more) =
    option_or (fault_of n earlier number line) (first_fault n (earlier ++ route_line_of n number line) (number + 1) more)

-- the table, unless there is a fault
abbrev pub unless_fault : Option TableFault → List RouteLine → Result (List RouteLine) TableFault
unless_fault (Some fault) table = Err fault
unless_fault None table = Ok table

-- What a text means for a switch of n ports: its route lines in order, or its first fault. Too many
-- route lines come before all others.
unfoldable pub reading_of : ℕ → List ℕ → Result (List RouteLine) TableFault
reading_of n text =
    if nat_lt MAX_LINES (route_line_count text) then Err (TooManyLines (route_line_count text)) else unless_fault (first_fault n [] 1 (lines text))
    (route_lines_of n 1 (lines text))

-- the fault of line k of these lines, counted from 0, where it has one: the lines before it are the first k
abbrev pub fault_at : ℕ → List (List ℕ) → ℕ → Option TableFault
fault_at n lines k = fault_of n (route_lines_of n 1 (take k lines)) (1 + k) (slice_index_or lines k [])

-- a text has more route lines than a table may have
pub record HasTooManyLines (text : List ℕ) (fault : TableFault) : Type 0 where
  pub many : MAX_LINES < route_line_count text
  pub fault_is : fault ≡ TooManyLines (route_line_count text)

-- it has not too many, and this is the fault of its first line that has one
pub record IsFirstFault (n : ℕ) (text : List ℕ) (fault : TableFault) : Type 0 where
  pub few : route_line_count text ≤ MAX_LINES
  pub line : ℕ
  pub there : line < length (lines text)
  pub fault_is : fault_at n (lines text) line ≡ Some fault
  pub before : (k : ℕ) → k < line → fault_at n (lines text) k ≡ None

-- it has not too many, none of its lines has a fault, and these are its route lines
pub record IsTable (n : ℕ) (text : List ℕ) (table : List RouteLine) : Type 0 where
  pub few : route_line_count text ≤ MAX_LINES
  pub faultless : (k : ℕ) → k < length (lines text) → fault_at n (lines text) k ≡ None
  pub lines_are : table ≡ route_lines_of n 1 (lines text)
