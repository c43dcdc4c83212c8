-- How many bytes the packets file has at most, by the outputs of its packets.
use Rattle.std.specs.Prelude.{◌≡◌, ℕ, ◌^◌, ◌<◌, max, List, All, sum_by, count_ones}
use Rattle.card_core.specs.declared.plan.Planned.{Planned}
use Rattle.packet_times.specs.NotingSteps.{Input}

-- the numbers of a packet are of 32 bits, its level of 8
pub record IsNarrow (packet : Planned) : Type 0 where
  pub len : packet.len < 2 ^ 32
  pub arrival : packet.arrival < 2 ^ 32
  pub level : packet.level < 2 ^ 8

-- how many rows a packet has at most: one for each output, and one where it goes nowhere
abbrev pub most_rows : Planned → ℕ
most_rows packet = max 1 (count_ones packet.fan)

-- so many rows have the packets of an input at most
pub record AreCounted (packets : List Planned) (most : ℕ) : Type 0 where
  pub narrow : All IsNarrow packets
  pub rows : most ≡ sum_by most_rows packets

-- how many rows the packets of an input have at most
abbrev pub most_of_input : Input → ℕ
most_of_input input = sum_by most_rows input.counters.packets

-- so many rows have those of all inputs at most
pub record AreAllCounted (inputs : List Input) (most : ℕ) : Type 0 where
  pub narrow : All (λ input. All IsNarrow input.counters.packets) inputs
  pub rows : most ≡ sum_by most_of_input inputs
