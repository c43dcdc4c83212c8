-- Delays: what is told of many, in slots. Delays below 4,096 are counted each, longer ones by their 12 leading bits.
use Rattle.std.specs.Prelude.{ℕ, ◌+◌, ◌*◌, ◌/◌, ◌^◌, ◌==◌, nat_lt, nat_le, if◌then◌else◌, max}
use Rattle.std.specs.Prelude.{List, [], ◌∷◌, length, count_by, find, filter_map, Option, None, Some, unwrap_or}
use Rattle.std.specs.List.{range_with_len}
use Rattle.delay_counts.specs.declared.counts.DelayCount.{DelayCount}

-- how many low bits of a delay are left out where it is counted: the fewest that leave a number below 4,096
unfoldable pub bits_left_out : ℕ → ℕ
bits_left_out delay = unwrap_or (find (λ bits. nat_lt (delay / 2 ^ bits) 4096) (range_with_len 0 delay)) 0

-- the number as which a delay is counted: itself below 4,096, and else with 0 for each bit that is left out
abbrev pub counted_as : ℕ → ℕ
counted_as delay = delay / 2 ^ bits_left_out delay * 2 ^ bits_left_out delay

-- how many of some delays are counted as this number
abbrev pub number_at : List ℕ → ℕ → ℕ
number_at delays number = count_by (λ delay. counted_as delay == number) delays

-- how many of some delays are counted as this number or a lesser one
abbrev pub number_up_to : List ℕ → ℕ → ℕ
number_up_to delays number = count_by (λ delay. nat_le (counted_as delay) number) delays

-- the greatest of some delays, 0 of none
abbrev pub greatest : List ℕ → ℕ
greatest [] = 0
greatest (delay ∷ delays) = max delay (greatest delays)

-- The least number up to which `share` of 10,000 of the delays are counted; 0 where there are none. So a percentile is
-- exact below 4,096, and else low by less than one part in 2,048.
unfoldable pub percentile : ℕ → List ℕ → ℕ
percentile share delays =
    unwrap_or (find (λ number. nat_le (share * length delays) (10000 * number_up_to delays number)) (range_with_len 0 (greatest delays + 1))) 0

-- a number with how many delays are counted as it, if some are
abbrev pub count_of : List ℕ → ℕ → Option DelayCount
count_of delays number =
    if number_at delays number == 0 then None else Some (record { delay = number; number = number_at delays number })

-- the numbers as which some of the delays are counted, with how many are, by rising number
unfoldable pub counts_of : List ℕ → List DelayCount
counts_of delays = filter_map (count_of delays) (range_with_len 0 (greatest delays + 1))
