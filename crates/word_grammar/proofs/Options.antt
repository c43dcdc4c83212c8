-- Options of values, and what they come from.
use Rattle.std.proofs.Common.{◌≡◌, Option, None, Some, option_and_then, option_map, refl}

pub some_is : {A : Type 0} {x y : A} → Some x ≡ Some y → x ≡ y
some_is h = cc

pub none_is_some : {A : Type 0} {x : A} → None ≡ Some x → ⊥
none_is_some h = cc

-- where a chain gives something
pub then_some : {A B : Type 0} (f : A → Option B) (o : Option A) (b : B) → option_and_then f o ≡ Some b → (a : A) × (o ≡ Some a) × (f a ≡ Some b)
then_some f None b h = absurd (none_is_some h)
then_some f (Some a) b h = (a, refl, h)

pub map_some : {A B : Type 0} (f : A → B) (o : Option A) (b : B) → option_map f o ≡ Some b → (a : A) × (o ≡ Some a) × (f a ≡ b)
map_some f None b h = absurd (none_is_some h)
map_some f (Some a) b h = (a, refl, some_is h)

-- chains one after the other
pub then_then : {A B C : Type 0} (f : A → Option B) (g : B → Option C) (o : Option A)
    → option_and_then g (option_and_then f o) ≡ option_and_then (λ a. option_and_then g (f a)) o
then_then f g None = refl
then_then f g (Some a) = refl

pub then_as : {A B : Type 0} (f g : A → Option B) (o : Option A) → ((a : A) → f a ≡ g a) → option_and_then f o ≡ option_and_then g o
then_as f g None same = refl
then_as f g (Some a) same = same a
