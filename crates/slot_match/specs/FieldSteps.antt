-- How a match is kept: by output, with the sets of the inputs and outputs that are free.
use Rattle.std.specs.Prelude.{◌≡◌, ℕ, ◌+◌, ◌*◌, ◌<◌, ◌≤◌, ◌==◌, ◌↔◌, if◌then◌else◌, nat_lt}
use Rattle.std.specs.Prelude.{List, Option, None, Some, length, map, count_by, is_some, slice_index, take}
use Rattle.std.specs.List.{range_with_len}
use Rattle.std.specs.Int.{bit_at}
use Rattle.rotating_pick.specs.PortSets.{Has}
use Rattle.rotating_pick.specs.declared.kinds.Kind.{Kind}
use Rattle.rotating_pick.specs.declared.kinds.Kind.TheVariants.{Uni, Multi}
use Rattle.rotating_pick.specs.declared.limits.TheConstants.{MAX_PORTS}
use Rattle.slot_match.specs.declared.marks.Marks.{Marks}
use Rattle.slot_match.specs.declared.matching.Fed.{Fed}
use Rattle.slot_match.specs.Matches.{fed_of, IsFreeInput, IsFreeOutput, IsMatch}

-- the level of output j, by its two bits
unfoldable pub level_at : Marks → ℕ → ℕ
level_at marks j = bit_at marks.low j + 2 * bit_at marks.high j

-- the kind of output j
unfoldable pub kind_at : Marks → ℕ → Kind
kind_at marks j = if bit_at marks.multi j == 1 then Multi else Uni

-- what feeds an output, if its byte names a port
unfoldable pub fed_as : ℕ → ℕ → Kind → Option Fed
fed_as input level kind = if nat_lt input MAX_PORTS then Some (record { input = input; level = level; kind = kind }) else None

-- what the table of inputs and the marks say of output j
abbrev pub fed_at : List ℕ → Marks → ℕ → Option Fed
fed_at inputs marks j = fed_as (slice_index inputs j) (level_at marks j) (kind_at marks j)

-- what feeds each of 64 outputs
unfoldable pub feeds_of : List ℕ → Marks → List (Option Fed)
feeds_of inputs marks = map (fed_at inputs marks) (range_with_len 0 MAX_PORTS)

-- an output that is marked as multicast is fed
abbrev pub AreMarked : List ℕ → Marks → Type 0
AreMarked inputs marks = (j : ℕ) → kind_at marks j ≡ Multi → slice_index inputs j < MAX_PORTS

-- what is kept beside a match of n ports: how many outputs are matched, and the free inputs and outputs
pub record AreSets (n : ℕ) (matched : List (Option Fed)) (count : ℕ) (free_inputs free_outputs : ℕ) : Type 0 where
  pub some : 0 < n
  pub size : n ≤ MAX_PORTS
  pub whole : IsMatch n matched
  pub counts : count ≡ count_by is_some matched
  pub inputs_left : (i : ℕ) → Has free_inputs i ↔ ((i < n) × IsFreeInput matched i)
  pub outputs_left : (j : ℕ) → Has free_outputs j ↔ ((j < n) × IsFreeOutput matched j)

-- the fields of a match: a table of what feeds each of 64 outputs, of which the first n are the match,
-- and the sets
pub record AreKept (n : ℕ) (fed : List (Option Fed)) (count : ℕ) (free_inputs free_outputs : ℕ) : Type 0 where
  pub long : length fed ≡ MAX_PORTS
  pub beyond : (j : ℕ) → n ≤ j → fed_of fed j ≡ None
  pub sets : AreSets n (take n fed) count free_inputs free_outputs
