-- The members of a set, by rising number.
use Rattle.std.proofs.Common.{◌≡◌, ◌≢◌, ◌∙◌, ◌<◌, ◌≤◌, ◌^◌, ◌==◌, ◌↔◌, ℕ, Bool, true, false, cond, if◌then◌else◌, List, [], ◌∷◌, Option, None, Some}
use Rattle.std.proofs.Common.{filter, length, map, slice_get, count_ones, IsNone, IfSome, refl, sym, ap, subst, arith, inl, inr}
use Rattle.std.specs.Int.{bit_at}
use Rattle.std.specs.List.{range_with_len}
use Rattle.std.proofs.lemmas.Bool.{cases_eq, cases_lt, eq-eqb, eqb-true, ne_eqb}
use Rattle.std.proofs.lemmas.List.{get_or_past}
use Rattle.std.proofs.lemmas.List.FromFn.{get_or-map-range_with_len, length-map-range_with_len}
use Rattle.std.proofs.lemmas.List.Sums.{length-filter}
use Rattle.std.proofs.lemmas.Nat.{zero_from_ones}
use Rattle.std.proofs.lemmas.Nat.Bits.{bit_at-lt, bit_at_above, same_from_bits}
use Rattle.std.proofs.lemmas.Simd.{bit_mask_l, ones-mask_l}
use lib.Lanes.{mask_l}
use Rattle.rotating_pick.specs.declared.limits.TheConstants.{MAX_PORTS}
use Rattle.rotating_pick.specs.PortSets.{Has}
use Rattle.rotating_pick.proofs.Bits.{Has-lt, no_member-zero}
use Rattle.slot_match.proofs.Sets.{Has-bit}
use Rattle.random_picks.specs.Picks.{has, members}
use Rattle.random_picks.proofs.Filters.{filter-agree, filter-first, filter-none, filter-past, filtered-passes}

pub has-true : (ports x : ℕ) → Has ports x → has ports x ≡ true
has-true ports x member = eq-eqb (bit_at ports x) 1 member

pub has-false : (ports x : ℕ) → (Has ports x → ⊥) → has ports x ≡ false
has-false ports x none = ne_eqb (bit_at ports x) 1 none

pub has-member : (ports x : ℕ) → has ports x ≡ true → Has ports x
has-member ports x is = eqb-true (bit_at ports x) 1 is

differ : true ≡ false → ⊥
differ h = cc

-- the members of a set that a test has
pub members-are : (ports n : ℕ) (p : ℕ → Bool) → n ≤ MAX_PORTS → ((x : ℕ) → Has ports x ↔ ((x < n) × (p x ≡ true)))
    → members ports ≡ filter p (range_with_len 0 n)
unfolding members
members-are ports n p size same =
    filter-past (has ports) 0 n MAX_PORTS size (λ x past. has-false ports x (λ h. let below = ((same x).0 h).0 in omega (arith, below, past)))
    ∙ filter-agree (has ports) p 0 n (λ x least most. one x (omega (arith, most)) (p x) refl)
  where
    one : (x : ℕ) → x < n → (b : Bool) → p x ≡ b → has ports x ≡ p x
    one x below true is = has-true ports x ((same x).1 (below, is)) ∙ sym is
    one x below false is = has-false ports x (λ h. differ (sym ((same x).0 h).1 ∙ is)) ∙ sym is

pub members-none : (ports : ℕ) → ((x : ℕ) → Has ports x → ⊥) → members ports ≡ []
unfolding members
members-none ports none = filter-none (has ports) 0 MAX_PORTS (λ x least most. has-false ports x (none x))

pub members-zero : (ports : ℕ) → ports ≡ 0 → members ports ≡ []
members-zero ports is = members-none ports (λ x h. no_member-zero x (subst (λ set. Has set x) is h))

-- the first member, and the set without it
pub members-first : (ports rest x : ℕ) → x < MAX_PORTS → Has ports x → ((y : ℕ) → Has ports y → x ≤ y) → ((y : ℕ) → Has rest y ↔ ((y ≢ x) × Has ports y))
    → members ports ≡ x ∷ members rest
unfolding members
members-first ports rest x inside member least others =
    filter-first (has ports) (has rest) x (has-true ports x member) (has-false rest x (λ h. ((others x).0 h).0 refl))
    (λ y other. ap (λ (bit : ℕ). bit == 1) (Has-bit rest ports y (λ h. ((others y).0 h).1, λ h. (others y).1 (other, h))))
    (λ y below. has-false ports y (λ h. let from = least y h in omega (arith, below, from))) 0 MAX_PORTS (omega arith) (omega (arith, inside))

-- the first member alone
abbrev others_of : ℕ → ℕ → ℕ → Bool
others_of ports x y = if y == x then false else has ports y

head-is : (ports x : ℕ) → x < MAX_PORTS → Has ports x → ((y : ℕ) → Has ports y → x ≤ y) → slice_get (members ports) 0 ≡ Some x
unfolding members
head-is ports x inside member least =
    ap (λ (xs : List ℕ). slice_get xs 0)
    (filter-first (has ports) (others_of ports x) x (has-true ports x member) (rw (eq-eqb x x refl) refl)
    (λ y other. rw (ne_eqb y x other) refl)
    (λ y below. has-false ports y (λ h. let from = least y h in omega (arith, below, from))) 0 MAX_PORTS (omega arith) (omega (arith, inside)))

pub first-is : (ports : ℕ) (o : Option ℕ) → ports < 2 ^ 64 → IsNone o ↔ (ports ≡ 0) → IfSome o (Has ports) → IfSome o (λ x. (y : ℕ) → Has ports y → x ≤ y)
    → o ≡ slice_get (members ports) 0
first-is ports None fits none member least = sym (ap (λ (xs : List ℕ). slice_get xs 0) (members-zero ports (none.0 refl)))
first-is ports (Some x) fits none member least = sym (head-is ports x (Has-lt 64 ports x fits member) member least)

-- ---- how many there are
bit-is : (ports x : ℕ) → cond (has ports x) 1 0 ≡ bit_at ports x
bit-is ports x = elim (cases_eq (bit_at ports x) 1) [
  | inl one ↦ rw (has-true ports x one) (sym one)
  | inr other ↦ rw (has-false ports x other) (omega (arith, other, bit_at-lt ports x))
]

length-filtered : (n ports : ℕ) → ports < 2 ^ n → length (filter (has ports) (range_with_len 0 n)) ≡ count_ones ports
length-filtered n ports fits =
    length-filter (has ports) (range_with_len 0 n) ∙ (sym (ones-mask_l (has ports) (range_with_len 0 n))
    ∙ ap count_ones (same_from_bits (mask_l (map (has ports) (range_with_len 0 n))) ports bits))
  where
    bits : (i : ℕ) → bit_at (mask_l (map (has ports) (range_with_len 0 n))) i ≡ bit_at ports i
    bits i = bit_mask_l (map (has ports) (range_with_len 0 n)) i ∙ elim (cases_lt i n) [
      | inl below ↦ ap (λ (b : Bool). cond b 1 0) (get_or-map-range_with_len (has ports) 0 n i i false below (omega arith)) ∙ bit-is ports i
      | inr above ↦
          let long = length-map-range_with_len (has ports) 0 n in
          ap (λ (b : Bool). cond b 1 0) (get_or_past (map (has ports) (range_with_len 0 n)) i false (omega (arith, long, above)))
          ∙ sym (bit_at_above ports n i fits above)
    ]

pub length-members : (ports : ℕ) → ports < 2 ^ 64 → length (members ports) ≡ count_ones ports
unfolding members
length-members ports fits = length-filtered 64 ports fits

pub members-some : (ports : ℕ) → ports < 2 ^ 64 → ports ≢ 0 → members ports ≢ []
members-some ports fits some none = some (zero_from_ones ports (sym (length-members ports fits) ∙ ap length none))

pub member-has : (ports k x : ℕ) → slice_get (members ports) k ≡ Some x → Has ports x
unfolding members
member-has ports k x is = has-member ports x (filtered-passes (has ports) (range_with_len 0 MAX_PORTS) k x is)

pub member-if : (ports k : ℕ) (o : Option ℕ) → o ≡ slice_get (members ports) k → IfSome o (Has ports)
member-if ports k None is = tt
member-if ports k (Some x) is = member-has ports k x (sym is)
