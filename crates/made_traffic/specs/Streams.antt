-- Streams of random numbers: words of SplitMix64, and the halves of a word by which chances are tested.
use Rattle.std.specs.Prelude.{ℕ, ◌+◌, ◌*◌, ◌/◌, ◌%◌}
use Rattle.rand_xoshiro.specs.SplitMix64.{mix_u64}

-- half a word has 32 bits: this is 2^32
abbrev pub half : ℕ
half = 4294967296

-- the high half of a word
abbrev pub high_half : ℕ → ℕ
high_half word = word / half

-- the low half of a word
abbrev pub low_half : ℕ → ℕ
low_half word = word % half

-- where stream `number` of a seed begins: at the first word of the generator that begins at 256 * seed + number
abbrev pub stream_at_first : ℕ → ℕ → ℕ
stream_at_first seed number = (mix_u64 (256 * seed + number)).0
