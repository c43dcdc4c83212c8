-- Bytes that stand for a kind, and for a yes or a no.
use Rattle.std.specs.Prelude.{ℕ, Bool, true, false}
use Rattle.rotating_pick.specs.declared.kinds.Kind.{Kind}
use Rattle.rotating_pick.specs.declared.kinds.Kind.TheVariants.{Uni, Multi}

-- the byte that stands for a kind
abbrev pub kind_byte : Kind → ℕ
kind_byte Uni = 0
kind_byte Multi = 1

-- the byte that stands for a yes or a no
abbrev pub flag_byte : Bool → ℕ
flag_byte false = 0
flag_byte true = 1
