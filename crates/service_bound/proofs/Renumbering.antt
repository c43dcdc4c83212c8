-- Renumbering: the ports of a switch counted from another port on, round the circle.
use Rattle.std.proofs.Common.{◌≡◌, ℕ, ◌+◌, ◌%◌, ◌<◌, ◌∙◌, ap, sym, add_assoc, arith}
use Rattle.std.proofs.Math.Nat.{mod-add-mod, add-mod-mod}
use Rattle.std.proofs.lemmas.Nat.{mod_below}
use Rattle.rotating_pick.specs.Rotation.{distance, IsFirstFrom}
use Rattle.rotating_pick.proofs.Circle.{distance-lt, place_at_distance, distance_of_place}

-- `to` counts the n ports from another port on, and `back` counts them as before
pub record Renumbers (n : ℕ) (to back : ℕ → ℕ) : Type 0 where
  pub to_in : (x : ℕ) → x < n → to x < n
  pub back_in : (x : ℕ) → x < n → back x < n
  pub to_back : (x : ℕ) → x < n → to (back x) ≡ x
  pub back_to : (x : ℕ) → x < n → back (to x) ≡ x
  pub steps : (from x : ℕ) → from < n → x < n → distance n (to from) (to x) ≡ distance n from x
  pub beyond : (x : ℕ) → x < n → to ((x + 1) % n) ≡ (to x + 1) % n

-- from port a on
unfoldable pub counted_from : ℕ → ℕ → ℕ → ℕ
counted_from n a x = (x + a) % n

unfoldable pub counted_back : ℕ → ℕ → ℕ → ℕ
counted_back n a x = distance n a x

steps_from : (n a from x : ℕ) → a < n → from < n → x < n → distance n ((from + a) % n) ((x + a) % n) ≡ distance n from x
steps_from n a from x a_in from_in x_in =
    let d = distance n from x in
    let d_in = distance-lt n from x from_in in
    let next_in = mod_below (from + a) n (omega arith) in
    let at : x ≡ (d + from) % n = sym (place_at_distance n from x from_in x_in) in
    let there : (x + a) % n ≡ (d + (from + a) % n) % n =
    ap (λ v. (v + a) % n) at ∙ mod-add-mod (d + from) n a ∙ ap (λ v. v % n) (add_assoc d from a) ∙ sym (add-mod-mod d (from + a) n) in
    ap (distance n ((from + a) % n)) there ∙ distance_of_place n ((from + a) % n) d next_in d_in

beyond_from : (n a x : ℕ) → ((x + 1) % n + a) % n ≡ ((x + a) % n + 1) % n
beyond_from n a x = mod-add-mod (x + 1) n a ∙ ap (λ v. v % n) order ∙ sym (mod-add-mod (x + a) n 1) where
  order : x + 1 + a ≡ x + a + 1
  order = omega arith

pub Renumbers-from : (n a : ℕ) → a < n → Renumbers n (counted_from n a) (counted_back n a)
unfolding counted_from counted_back
Renumbers-from n a a_in = record {
  to_in = λ x x_in. mod_below (x + a) n (omega arith);
  back_in = λ x x_in. distance-lt n a x a_in;
  to_back = λ x x_in. place_at_distance n a x a_in x_in;
  back_to = λ x x_in. distance_of_place n a x a_in x_in;
  steps = λ from x from_in x_in. steps_from n a from x a_in from_in x_in;
  beyond = λ x x_in. beyond_from n a x;
}

-- counted back
pub Renumbers-back : (n : ℕ) (to back : ℕ → ℕ) → Renumbers n to back → Renumbers n back to
Renumbers-back n to back by = record {
  to_in = by.back_in;
  back_in = by.to_in;
  to_back = by.back_to;
  back_to = by.to_back;
  steps = λ from x from_in x_in.
      sym (by.steps (back from) (back x) (by.back_in from from_in) (by.back_in x x_in)) ∙ ap (λ f. distance n f (to (back x))) (by.to_back from from_in)
      ∙ ap (distance n from) (by.to_back x x_in);
  beyond = λ x x_in.
      let y_in = by.back_in x x_in in
      let next_in = mod_below (back x + 1) n (omega arith) in
      ap (λ v. back ((v + 1) % n)) (sym (by.to_back x x_in)) ∙ ap back (sym (by.beyond (back x) y_in)) ∙ by.back_to ((back x + 1) % n) next_in;
}

-- the first of some ports is the first of them renumbered
pub IsFirstFrom-renumbered : (n : ℕ) (to back : ℕ → ℕ) → Renumbers n to back → (from : ℕ) (P Q : ℕ → Type 0) (x : ℕ) → from < n → (P x → Q (to x))
    → ((y : ℕ) → y < n → Q y → P (back y)) → IsFirstFrom n from P x → IsFirstFrom n (to from) Q (to x)
IsFirstFrom-renumbered n to back by from P Q x from_in there others first = record {
  below = by.to_in x first.below;
  member = there first.member;
  least = λ y y_in also.
      let known = first.least (back y) (by.back_in y y_in) (others y y_in also) in
      let here = by.steps from x from_in first.below in
      let far = by.steps from (back y) from_in (by.back_in y y_in) in
      let same : distance n (to from) (to (back y)) ≡ distance n (to from) y = ap (distance n (to from)) (by.to_back y y_in) in
      omega arith;
}
