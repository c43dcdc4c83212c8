-- Tables of one value.
use Rattle.std.proofs.Common.{◌∙◌, ℕ, replicate, slice_index, sym, ap}
use Rattle.std.specs.Int.{bit_at}
use Rattle.std_lemmas.proofs.Lists.{get_or-same}
use Rattle.rotating_pick.specs.PortSets.{Has}
use Rattle.rotating_pick.proofs.Bits.{no_member-zero}

-- a table of empty sets has no member at any place
pub no_members : (m k x : ℕ) → Has (slice_index (replicate m 0) k) x → ⊥
no_members m k x has = no_member-zero x (ap (λ set. bit_at set x) (sym (get_or-same 0 m k)) ∙ has)
