-- Random picks: a word of a stream draws one of some ports, each with the same chance.
use Rattle.std.specs.Prelude.{ℕ, zero, suc, ◌*◌, ◌/◌, ◌==◌, Bool, List, [], ◌∷◌, Option, None, filter, length, slice_get}
use Rattle.std.specs.Int.{bit_at}
use Rattle.std.specs.List.{range_with_len}
use Rattle.rand_xoshiro.specs.SplitMix64.{mix_u64}
use Rattle.rotating_pick.specs.declared.limits.TheConstants.{MAX_PORTS}
use Rattle.made_traffic.specs.Streams.{half, high_half}

-- whether port x is a member of the set
abbrev pub has : ℕ → ℕ → Bool
has ports x = bit_at ports x == 1

-- the members of a set, by rising number
unfoldable pub members : ℕ → List ℕ
members ports = filter (has ports) (range_with_len 0 MAX_PORTS)

-- the one of these ports that a word draws: each with the same chance, to within 2^-32
abbrev pub drawn : ℕ → List ℕ → Option ℕ
drawn word ports = slice_get ports (high_half word * length ports / half)

-- what is picked, and where the stream is after it
pub record Pick : Type 0 where
  pub port : Option ℕ
  pub stream : ℕ

-- what is picked of these ports, by the next word of the stream; where there are none, none is picked and no word is drawn
abbrev pub pick_of : List ℕ → ℕ → Pick
pick_of [] stream = record { port = None; stream = stream }
pick_of (port ∷ ports) stream = record { port = drawn (mix_u64 stream).0 (port ∷ ports); stream = (mix_u64 stream).1 }

-- Ports pick one after the other, by rising number, port k of the ports `choices k`: where the stream is before port k picks,
-- and what it picks.
unfoldable pub stream_before : (ℕ → List ℕ) → ℕ → ℕ → ℕ
stream_before choices stream zero = stream
stream_before choices stream (suc k) = (pick_of (choices k) (stream_before choices stream k)).stream

abbrev pub picked : (ℕ → List ℕ) → ℕ → ℕ → Option ℕ
picked choices stream k = (pick_of (choices k) (stream_before choices stream k)).port
