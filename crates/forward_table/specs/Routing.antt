-- The route of an address: longest prefix match as a filter of a table's lines.
use Rattle.std.specs.Prelude.{ℕ, nat_lt, if◌then◌else◌, List, [], ◌∷◌, Option, None, Some, option_map, filter}
use Rattle.std.specs.Option.{option_or}
use Rattle.forward_table.specs.declared.route_lines.Target.TheVariants.{Fallback}
use Rattle.forward_table.specs.declared.route_lines.RouteLine.{RouteLine}
use Rattle.forward_table.specs.declared.route_lines.Route.{Route}
use Rattle.forward_table.specs.Targets.{covers, length_of}
use Rattle.forward_table.specs.Reading.{line_with}

-- the line, or the other where that one is longer
abbrev pub longer : RouteLine → Option RouteLine → RouteLine
longer line None = line
longer line (Some other) = if nat_lt (length_of line.target) (length_of other.target) then other else line

-- of some lines the one of greatest length
abbrev pub longest : List RouteLine → Option RouteLine
longest [] = None
longest (line ∷ more) = Some (longer line (longest more))

-- the lines that cover an address
abbrev pub covering : List RouteLine → ℕ → List RouteLine
covering table address = filter (λ line. covers address line.target) table

-- the line that serves an address, or a packet without one: of the lines that cover it the one of
-- greatest length, else the `*` line
abbrev pub serving_line : List RouteLine → Option ℕ → Option RouteLine
serving_line table None = line_with Fallback table
serving_line table (Some address) = option_or (longest (covering table address)) (line_with Fallback table)

-- the route of an address, or of a packet without one
abbrev pub route_of : List RouteLine → Option ℕ → Option Route
route_of table address = option_map (λ line. line.route) (serving_line table address)
