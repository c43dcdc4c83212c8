-- Counts that never fall, and one that rose: what calls one after another say together.
use Rattle.std.proofs.Common.{◌≤◌, ℕ, inl, inr, arith, refl}
use Rattle.outside.specs.Faults.{Place, NeverFall, NoneRose, Rose}

pub NeverFall-refl : (counts : Place → ℕ) → NeverFall counts counts
NeverFall-refl counts p = omega arith

pub NeverFall-trans : (a b c : Place → ℕ) → NeverFall a b → NeverFall b c → NeverFall a c
NeverFall-trans a b c first then p = omega (arith, first p, then p)

pub NoneRose-refl : (counts : Place → ℕ) → NoneRose counts counts
NoneRose-refl counts p = refl

-- what rose, and did not fall afterwards, rose
pub Rose-le : (a b c : ℕ) → Rose a b → b ≤ c → Rose a c
Rose-le a b c rose kept = elim rose [ inl more ↦ inl (omega arith) | inr last ↦ inr (omega arith) ]

-- what did not fall, and then rose, rose
pub le-Rose : (a b c : ℕ) → a ≤ b → Rose b c → Rose a c
le-Rose a b c kept rose = elim rose [ inl more ↦ inl (omega arith) | inr last ↦ inr (omega arith) ]

pub Rose-NeverFall : (a b c : Place → ℕ) (p : Place) → Rose (a p) (b p) → NeverFall b c → Rose (a p) (c p)
Rose-NeverFall a b c p rose kept = Rose-le (a p) (b p) (c p) rose (kept p)

pub NeverFall-Rose : (a b c : Place → ℕ) (p : Place) → NeverFall a b → Rose (b p) (c p) → Rose (a p) (c p)
NeverFall-Rose a b c p kept rose = le-Rose (a p) (b p) (c p) (kept p) rose

-- Some of the calls by which the counts came from these to those: the counts before and after them.
pub record CallsAmong (was now : Place → ℕ) : Type 0 where
  pub from : Place → ℕ
  pub to : Place → ℕ
  pub before : NeverFall was from
  pub after : NeverFall to now

-- the first of them
abbrev pub first_calls : (was mid now : Place → ℕ) → NeverFall mid now → CallsAmong was now
first_calls was mid now kept = record { from = was; to = mid; before = NeverFall-refl was; after = kept }

-- the last of them
abbrev pub last_calls : (was mid now : Place → ℕ) → NeverFall was mid → CallsAmong was now
last_calls was mid now kept = record { from = mid; to = now; before = kept; after = NeverFall-refl now }

-- a count that rose in some of the calls rose
pub Rose-wider : (was now : Place → ℕ) (some : CallsAmong was now) (p : Place) → Rose (some.from p) (some.to p) → Rose (was p) (now p)
Rose-wider was now some p rose = NeverFall-Rose was some.from now p some.before (Rose-NeverFall some.from some.to now p rose some.after)
