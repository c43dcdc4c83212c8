-- How delays are counted: a place for each number as which a delay is counted, by rising number.
use Rattle.std.specs.Prelude.{◌≡◌, ℕ, ◌+◌, ◌-◌, ◌*◌, ◌/◌, ◌%◌, ◌^◌, ◌<◌, ◌≤◌, ◌==◌, nat_lt, if◌then◌else◌}
use Rattle.std.specs.Prelude.{List, length, count_by, sum, slice_index, All, Option, None, Some}
use Rattle.delay_counts.specs.declared.counts.DelayCount.{DelayCount}
use Rattle.delay_counts.specs.declared.limits.TheConstants.{MAX_DELAYS}
use Rattle.delay_counts.specs.Delays.{bits_left_out, greatest}

-- how many places there are
unfoldable pub place_count : ℕ
place_count = 45056

-- the place of the number as which a delay is counted
abbrev pub place_of : ℕ → ℕ
place_of delay = 2048 * bits_left_out delay + delay / 2 ^ bits_left_out delay

-- the number of a place
abbrev pub delay_at : ℕ → ℕ
delay_at place = if nat_lt place 4096 then place else (place % 2048 + 2048) * 2 ^ (place / 2048 - 1)

-- counts of delays: how many are counted at each place, how many there are, their sum, and the longest
pub record Counts : Type 0 where
  pub numbers : List ℕ
  pub total : ℕ
  pub slots : ℕ
  pub longest : ℕ

-- the counts are those of these delays, in the order in which they were noted
pub record HasCounted (counts : Counts) (delays : List ℕ) : Type 0 where
  pub short : All (λ delay. delay < 2 ^ 32) delays
  pub places : length counts.numbers ≡ place_count
  pub numbers : (place : ℕ) → place < place_count → slice_index counts.numbers place ≡ count_by (λ delay. place_of delay == place) delays
  pub total : counts.total ≡ length delays
  pub few : counts.total ≤ MAX_DELAYS
  pub slots : counts.slots ≡ sum delays
  pub longest : counts.longest ≡ greatest delays

-- the number of a place with how many delays are counted there, if some are
abbrev pub count_at : Counts → ℕ → Option DelayCount
count_at counts place =
    if slice_index counts.numbers place == 0 then None
    else Some (record { delay = delay_at place; number = slice_index counts.numbers place })
