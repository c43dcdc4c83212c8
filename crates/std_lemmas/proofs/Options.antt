-- What there is, or is not.
use Rattle.std.proofs.Common.{◌≡◌, None, Option, Some, refl, sym}

-- what is there is one thing
pub some_same : {X : Type 0} (x y : X) (o : Option X) → o ≡ Some x → o ≡ Some y → x ≡ y
some_same x y o is too = cc

-- what stays where it is there, and does not come where it is not, is the same
pub kept_or_new : {X : Type 0} (o p : Option X) → ((f : X) → o ≡ Some f → p ≡ Some f) → ((f : X) → o ≡ None → p ≡ Some f → ⊥) → o ≡ p
kept_or_new (Some x) p keep none = sym (keep x refl)
kept_or_new None None keep none = refl
kept_or_new None (Some y) keep none = absurd (none y refl refl)
