-- The first port from a pointer on is the lowest port of the set turned by the pointer.
use Rattle.std.proofs.Common.{◌≡◌, ℕ, ◌+◌, ◌%◌, ◌^◌, ◌<◌, ◌≤◌, ◌∙◌, ◌↔◌, Option, None, Some, IsNone, IfSome, refl, sym, ap, arith}
use Rattle.std.specs.Int.{bit_at}
use Rattle.std.proofs.lemmas.Nat.{mod_below}
use Rattle.std.proofs.lemmas.Nat.Bits.{bit_at-zero}
use Rattle.rotating_pick.specs.PortSets.{Has}
use Rattle.rotating_pick.specs.Rotation.{distance, IsFirstFrom}
use Rattle.rotating_pick.proofs.Bits.{Has-lt, no_member-zero, zero-no_members}
use Rattle.rotating_pick.proofs.Circle.{distance-lt, place_at_distance, distance_of_place}

-- `turned` is the set `ports` as seen from port `from` on
pub record IsTurned (n from ports turned : ℕ) : Type 0 where
  pub among : turned < 2 ^ n
  pub members : (x : ℕ) → x < n → Has turned x ↔ Has ports ((x + from) % n)

-- the first port of a set is the lowest of the turned one
pub first_from : (n from ports turned d : ℕ) → from < n → IsTurned n from ports turned → Has turned d → ((y : ℕ) → Has turned y → d ≤ y)
    → IsFirstFrom n from (Has ports) ((d + from) % n)
first_from n from ports turned d f t has least =
    let lt : d < n = Has-lt n turned d t.among has in
    record {
      below = mod_below (d + from) n (omega arith);
      member = (t.members d lt).0 has;
      least = λ y within there.
          let steps = distance n from y in
          let turned_there : Has turned steps =
          (t.members steps (distance-lt n from y f)).1 (ap (bit_at ports) (place_at_distance n from y f within) ∙ there) in
          rw (distance_of_place n from d f lt) (least steps turned_there);
    }

-- a set with no member when turned has none
pub zero_from_turned : (n from ports turned : ℕ) → from < n → ports < 2 ^ n → IsTurned n from ports turned → turned ≡ 0 → ports ≡ 0
zero_from_turned n from ports turned f among t e =
    zero-no_members ports
    (λ x has.
    let steps = distance n from x in
    let turned_there : Has turned steps =
    (t.members steps (distance-lt n from x f)).1 (ap (bit_at ports) (place_at_distance n from x f (Has-lt n ports x among has)) ∙ has) in
    no_member-zero steps (ap (λ m. bit_at m steps) (sym e) ∙ turned_there))

-- and the other way round
pub turned_from_zero : (n from ports turned : ℕ) → IsTurned n from ports turned → ports ≡ 0 → turned ≡ 0
turned_from_zero n from ports turned t e =
    zero-no_members turned
    (λ x has. let there : Has ports ((x + from) % n) = (t.members x (Has-lt n turned x t.among has)).0 has in
    no_member-zero ((x + from) % n) (ap (λ m. bit_at m ((x + from) % n)) (sym e) ∙ there))

-- the first port from a pointer on depends on nothing but which ports there are
pub IsFirstFrom-along : (n from : ℕ) (P Q : ℕ → Type 0) (x : ℕ) → ((y : ℕ) → y < n → P y ↔ Q y) → IsFirstFrom n from P x → IsFirstFrom n from Q x
IsFirstFrom-along n from P Q x same f =
    record { below = f.below; member = (same x f.below).0 f.member; least = λ y lt has. f.least y lt ((same y lt).1 has) }

-- there is one first port
pub IsFirstFrom-only : (n from : ℕ) (P : ℕ → Type 0) (x y : ℕ) → from < n → IsFirstFrom n from P x → IsFirstFrom n from P y → x ≡ y
IsFirstFrom-only n from P x y h f g =
    let e : distance n from x ≡ distance n from y = omega (arith, f.least y g.below g.member, g.least x f.below f.member) in
    sym (place_at_distance n from x h f.below) ∙ (ap (λ d. (d + from) % n) e ∙ place_at_distance n from y h g.below)

-- what `pick` answers is x exactly where x is first
pub Some-iff_first : (n from ports : ℕ) (result : Option ℕ) → from < n → (IsNone result ↔ (ports ≡ 0)) → IfSome result (IsFirstFrom n from (Has ports))
    → (x : ℕ) → (result ≡ Some x) ↔ IsFirstFrom n from (Has ports) x
Some-iff_first n from ports None h none first x = (λ e. absurd (cc), λ f. absurd (omega (arith, ap (λ m. bit_at m x) (none.0 refl), f.member, bit_at-zero x)))
Some-iff_first n from ports (Some y) h none first x =
    (λ e. let same : y ≡ x = cc in rw (← same) first, λ f. ap Some (IsFirstFrom-only n from (Has ports) y x h first f))
