-- What goes on where no kind of error comes.
use Rattle.std.proofs.Common.{◌≡◌, [], ◌∷◌, Option, None, refl}
use Rattle.std.specs.Prelude.{option_and_then}
use Rattle.clap.specs.Kinds.{Kinds, or_else}

abbrev pub unless : {A : Type 0} → Kinds → Option A → Option A
unless [] o = o
unless (kind ∷ kinds) o = None

pub unless-or_else : {A : Type 0} (a b : Kinds) (o : Option A) → unless (or_else a b) o ≡ unless a (unless b o)
unless-or_else [] b o = refl
unless-or_else (kind ∷ kinds) b o = refl

pub unless-then : {A B : Type 0} (a : Kinds) (k : A → Option B) (o : Option A) → option_and_then k (unless a o) ≡ unless a (option_and_then k o)
unless-then [] k o = refl
unless-then (kind ∷ kinds) k o = refl

pub under : {A : Type 0} (a : Kinds) (x y : Option A) → (a ≡ [] → x ≡ y) → unless a x ≡ unless a y
under [] x y h = h refl
under (kind ∷ kinds) x y h = refl
