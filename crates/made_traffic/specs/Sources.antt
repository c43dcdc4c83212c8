-- Sources: what comes to the inputs of a switch, slot by slot. No scheduler is named here.
use Rattle.std.specs.Prelude.{ℕ, zero, suc, ◌+◌, ◌-◌, ◌*◌, ◌<◌, ◌≤◌, ◌&&◌, Bool, nat_lt, nat_le, is_some, if◌then◌else◌, Option, None, Some, IfSome}
use Rattle.rand_xoshiro.specs.SplitMix64.{mix_u64}
use Rattle.rotating_pick.specs.declared.limits.TheConstants.{MAX_PORTS}
use Rattle.made_traffic.specs.declared.limits.TheConstants.{MAX_BURST, MILLION}
use Rattle.made_traffic.specs.declared.pattern.Pattern.{Pattern}
use Rattle.made_traffic.specs.Streams.{half, high_half, low_half, stream_at_first}
use Rattle.made_traffic.specs.Patterns.{output_by, weight_of}

-- the traffic of a switch: its ports, where cells go, the cells of an input in a million slots, and the mean length of
-- a burst in cells
pub record TrafficValue : Type 0 where
  pub ports : ℕ
  pub pattern : Pattern
  pub load : ℕ
  pub burst : ℕ

-- the traffic of these numbers
abbrev pub traffic_of : ℕ → Pattern → ℕ → ℕ → TrafficValue
traffic_of ports pattern load burst = record { ports = ports; pattern = pattern; load = load; burst = burst }

-- the traffic that can be made: each number is in its range
pub record IsTraffic (traffic : TrafficValue) : Type 0 where
  pub some : 0 < traffic.ports
  pub ports : traffic.ports ≤ MAX_PORTS
  pub weight : weight_of traffic.pattern ≤ MILLION
  pub load : traffic.load ≤ MILLION
  pub burst_some : 0 < traffic.burst
  pub burst : traffic.burst ≤ MAX_BURST

-- whether a burst that is under way goes on, by a word: it ends with the chance 1 / burst
abbrev pub goes_on : TrafficValue → ℕ → Bool
goes_on traffic word = nat_le half (high_half word * traffic.burst)

-- Whether a burst begins where none goes on, by a word: with the chance load / (load + burst * (1000000 - load)). So a
-- pause has burst * (1000000 - load) / load slots on average, and an input gets its load, whatever the burst.
abbrev pub begins : TrafficValue → ℕ → Bool
begins traffic word = nat_lt (low_half word * (traffic.load + traffic.burst * (1000000 - traffic.load))) (traffic.load * half)

-- what changes of a source from slot to slot: where its random numbers are, and the output of the cell that came last,
-- None where none came in the last slot
pub record SourceState : Type 0 where
  pub stream : ℕ
  pub output : Option ℕ

-- where no burst goes on, one begins, to an output that a second word draws, or none
abbrev pub begun : TrafficValue → ℕ → ℕ → ℕ → SourceState
begun traffic input word stream =
    if begins traffic word then
    record { stream = (mix_u64 stream).1; output = Some (output_by traffic.pattern traffic.ports input (mix_u64 stream).0) }
    else record { stream = stream; output = None }

-- one slot more: a burst that is under way goes on, or else one begins or none, by the first word that is drawn
abbrev pub next_state : TrafficValue → ℕ → SourceState → SourceState
next_state traffic input s =
    if is_some s.output && goes_on traffic (mix_u64 s.stream).0 then record { stream = (mix_u64 s.stream).1; output = s.output }
    else begun traffic input (mix_u64 s.stream).0 (mix_u64 s.stream).1

-- the state of an input's source before slot t; before slot 0 no burst is under way
unfoldable pub state_before : TrafficValue → ℕ → ℕ → ℕ → SourceState
state_before traffic seed input zero = record { stream = stream_at_first seed input; output = None }
state_before traffic seed input (suc t) = next_state traffic input (state_before traffic seed input t)

-- the output of the cell that comes to the input in slot t, None where none comes
abbrev pub comes : TrafficValue → ℕ → ℕ → ℕ → Option ℕ
comes traffic seed input t = (state_before traffic seed input (suc t)).output

-- the source of an input
pub record SourceValue : Type 0 where
  pub traffic : TrafficValue
  pub input : ℕ
  pub state : SourceState

-- a source of a switch: its input and its output are ports
pub record IsSource (source : SourceValue) : Type 0 where
  pub input : source.input < source.traffic.ports
  pub output : IfSome source.state.output (λ j. j < source.traffic.ports)

-- the source of an input before slot t
abbrev pub source_before : TrafficValue → ℕ → ℕ → ℕ → SourceValue
source_before traffic seed input t = record { traffic = traffic; input = input; state = state_before traffic seed input t }

-- the source after one slot more
abbrev pub next_source : SourceValue → SourceValue
next_source source = record source { state = next_state source.traffic source.input source.state }
