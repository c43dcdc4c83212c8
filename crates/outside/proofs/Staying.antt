-- What is seen stays from call to call, or is seen no more.
use Rattle.std.proofs.Common.{◌≡◌, Option, Some, None, refl}
use Rattle.std.specs.Prelude.{IfSome}
use Rattle.outside.specs.Contents.{Contents, Stays, held}

pub Stays-refl : (o : Option Contents) → Stays o o
Stays-refl None = tt
Stays-refl (Some c) = refl

pub Stays-trans : (a b d : Option Contents) → Stays a b → Stays b d → Stays a d
Stays-trans a b None first then = tt
Stays-trans a b (Some c) first then = rw then at first

-- what holds of what is seen holds for as long as that stays
pub IfSome-Stays : (o n : Option Contents) (P : Contents → Type 0) → Stays o n → IfSome o P → IfSome n P
IfSome-Stays o None P stays holds = tt
IfSome-Stays o (Some c) P stays holds = rw stays at holds

-- what was seen before and is seen still is what is seen
pub held-Stays : (o n : Option Contents) → Stays o n → held o n ≡ n
held-Stays o None stays = refl
held-Stays o (Some c) stays = stays
