-- Patterns: where the cells of an input go, and the names for that on the command line.
use Rattle.std.specs.Prelude.{ℕ, ◌+◌, ◌*◌, ◌/◌, ◌%◌, nat_lt, if◌then◌else◌, List, Option, None, Some, bytes_eq, codes}
use Rattle.std.specs.Int.Count.{count_leading_zeros}
use Rattle.made_traffic.specs.declared.pattern.Pattern.{Pattern}
use Rattle.made_traffic.specs.declared.pattern.Pattern.TheVariants.{Uniform, Diagonal, LogDiagonal, HotSpot, Unbalanced}
use Rattle.made_traffic.specs.Streams.{half, high_half, low_half}

-- the name of a pattern
abbrev pub pattern_word : Pattern → List ℕ
pattern_word Uniform = codes "uniform"
pattern_word Diagonal = codes "diagonal"
pattern_word LogDiagonal = codes "log-diagonal"
pattern_word (HotSpot weight) = codes "hot-spot"
pattern_word (Unbalanced weight) = codes "unbalanced"

-- the weight of a pattern, in millionths; 0 of one that has none
abbrev pub weight_of : Pattern → ℕ
weight_of Uniform = 0
weight_of Diagonal = 0
weight_of LogDiagonal = 0
weight_of (HotSpot weight) = weight
weight_of (Unbalanced weight) = weight

-- the pattern of a name: with a weight where it has one, and without where it has none
abbrev pub pattern_named : List ℕ → Option ℕ → Option Pattern
pattern_named word None =
    if bytes_eq word (codes "uniform") then Some Uniform
    else (if bytes_eq word (codes "diagonal") then Some Diagonal
    else (if bytes_eq word (codes "log-diagonal") then Some LogDiagonal
    else None))
pattern_named word (Some weight) =
    if bytes_eq word (codes "hot-spot") then Some (HotSpot weight)
    else (if bytes_eq word (codes "unbalanced") then Some (Unbalanced weight)
    else None)

-- one of n outputs by a word, each with the same chance
abbrev pub any_output : ℕ → ℕ → ℕ
any_output n word = low_half word * n / half

-- the chosen output of n with a share of `weight` millionths, and else any, by a word
abbrev pub weighed_output : ℕ → ℕ → ℕ → ℕ → ℕ
weighed_output n weight chosen word = if nat_lt (high_half word * 1000000) (weight * half) then chosen else any_output n word

-- The output, by a word, of a burst that begins at input i of n. Diagonal has output i with the chance 2/3. Of
-- log-diagonal: a word has d leading zeros with half the chance of d - 1.
abbrev pub output_by : Pattern → ℕ → ℕ → ℕ → ℕ
output_by Uniform n i word = any_output n word
output_by Diagonal n i word = if nat_lt (high_half word * 3) (2 * half) then i else (i + 1) % n
output_by LogDiagonal n i word = (i + count_leading_zeros 64 word % n) % n
output_by (HotSpot weight) n i word = weighed_output n weight 0 word
output_by (Unbalanced weight) n i word = weighed_output n weight i word
