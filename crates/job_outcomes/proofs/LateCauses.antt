-- Out of memory is no cause for which what was read is refused.
use Rattle.std.proofs.Common.{◌≢◌, ℕ, ◌+◌, Bool, true, false, List, [], ◌∷◌, length, Option, None, Some}
use Rattle.std.specs.Prelude.{if◌then◌else◌, map, nat_lt, option_map, sum_by}
use Rattle.std.specs.Option.{option_or}
use Rattle.forward_table.specs.declared.route_lines.RouteLine.{RouteLine}
use Rattle.switch_plan.specs.declared.fault.PlanFault.{PlanFault}
use Rattle.switch_plan.specs.declared.fault.PlanFault.TheVariants.{MixedLink, TooManySlots, TooManyPackets, TooManyCells, OutOfMemory}
use Rattle.switch_plan.specs.declared.limits.Limits.{Limits}
use Rattle.switch_plan.specs.Traffic.{CaptureFile, traffic_of}
use Rattle.switch_plan.specs.Totals.{slots_of, total_work}
use Rattle.switch_plan.specs.Refusals.{Terms, first_link, first_over, limits_for, mixed_links, over_cells, over_limits, over_packets, over_traffic, refusal_of}

-- it is not this cause, if there is one
abbrev NotMemory : Option PlanFault → Type 0
NotMemory cause = cause ≢ Some OutOfMemory

either : (a b : Option PlanFault) → NotMemory a → NotMemory b → NotMemory (option_or a b)
either None b first second = second
either (Some fault) b first second = first

told_if : (test : Bool) (fault : PlanFault) (rest : Option PlanFault) → fault ≢ OutOfMemory → NotMemory rest → NotMemory (if test then Some fault else rest)
told_if true fault rest other more is = other (cc)
told_if false fault rest other more is = more is

mixed : (first : ℕ) (other : Option ℕ) → NotMemory (option_map (MixedLink first) other)
mixed first None is = absurd (cc)
mixed first (Some other) is = absurd (cc)

links : (captures : List CaptureFile) → NotMemory (mixed_links captures)
links captures = mixed _ _

over : (most port : ℕ) (ports : List ℕ) → NotMemory (first_over most port ports)
over most port [] = λ is. absurd (cc)
over most port (slots ∷ ports) =
    told_if (nat_lt most slots) (TooManySlots port slots) (first_over most (port + 1) ports) (λ is. absurd (cc)) (over most (port + 1) ports)

packets_over : (most : Option ℕ) (packets : ℕ) → NotMemory (over_packets most packets)
packets_over None packets = λ is. absurd (cc)
packets_over (Some most) packets = told_if (nat_lt most packets) (TooManyPackets packets) None (λ is. absurd (cc)) (λ is. absurd (cc))

cells_over : (most cells : ℕ) → NotMemory (over_cells most cells)
cells_over most cells = told_if (nat_lt most cells) (TooManyCells cells) None (λ is. absurd (cc)) (λ is. absurd (cc))

limits_over : (limits : Limits) (slots : List ℕ) (packets cells : ℕ) → NotMemory (over_limits limits slots packets cells)
limits_over limits slots packets cells =
    either (first_over limits.slots 0 slots) (option_or (over_packets limits.packets packets) (over_cells limits.cells cells)) (over limits.slots 0 slots)
    (either (over_packets limits.packets packets) (over_cells limits.cells cells) (packets_over limits.packets packets) (cells_over limits.cells cells))

pub no_memory : (terms : Terms) (table : List RouteLine) (captures : List CaptureFile) → refusal_of terms table captures ≢ Some OutOfMemory
no_memory terms table captures =
    let traffic = traffic_of table (first_link captures) terms.speed captures in
    let limits = limits_for terms.long (length captures) in
    either (mixed_links captures) (over_traffic limits traffic) (links captures)
    (limits_over limits (map slots_of traffic) (sum_by length traffic) (total_work traffic))
