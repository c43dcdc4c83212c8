-- Addresses that differ in bits that are host bits to every line have the same route.
use Rattle.std.proofs.Common.{◌≡◌, ◌∙◌, ℕ, ◌+◌, ◌-◌, ◌*◌, ◌/◌, ◌%◌, ◌^◌, ◌<◌, ◌≤◌, ◌==◌, false, List, [], ◌∷◌, None, Some}
use Rattle.std.proofs.Common.{refl, sym, ap, inl, inr, arith, eq-eqb}
use Rattle.std.specs.Prelude.{Option, IsNone, IfSome, option_map, unwrap_or}
use Rattle.std.specs.Option.{option_or}
use Rattle.std.proofs.lemmas.Bool.{cases_lt, and_from}
use Rattle.std.proofs.lemmas.Nat.{pow-add}
use Rattle.std.proofs.lemmas.List.Elements.{All-head, All-tail}
use Rattle.std.proofs.Math.Nat.{div-div-eq-div-mul}
use Rattle.rotating_pick.specs.PortSets.{Has}
use Rattle.forward_table.specs.declared.route_lines.Target.{Target}
use Rattle.forward_table.specs.declared.route_lines.Target.TheVariants.{Prefix, Fallback}
use Rattle.forward_table.specs.declared.route_lines.RouteLine.{RouteLine}
use Rattle.forward_table.specs.Targets.{IsPrefix, is_same_target, covers}
use Rattle.forward_table.specs.Reading.{line_with}
use Rattle.forward_table.specs.Routing.{covering, longest, route_of}
use Rattle.forward_table.specs.IndexSteps.{AreLengths}
use Rattle.forward_table.proofs.Covering.{ArePrefixes, prefix_has, skipped}
use Rattle.forward_table.proofs.Searching.{none_left}

-- no line has a prefix with fewer than k host bits
abbrev NoneWithFewer : ℕ → List RouteLine → Type 0
NoneWithFewer k table = (j prefix : ℕ) → j ≤ 32 → j < k → line_with (Prefix (32 - j) prefix) table ≡ None

-- a number without its last k bits is the same without its last j, where j is no less than k
open_bits : (a k j : ℕ) → k ≤ j → (a - a % 2 ^ k) / 2 ^ j ≡ a / 2 ^ j
open_bits a k j few =
    let more : j ≡ k + (j - k) = omega arith in
    let power : 2 ^ j ≡ 2 ^ k * 2 ^ (j - k) = ap (λ (n : ℕ). 2 ^ n) more ∙ pow-add 2 k (j - k) in
    ap (λ (d : ℕ). (a - a % 2 ^ k) / d) power ∙ sym (div-div-eq-div-mul (a - a % 2 ^ k) (2 ^ k) (2 ^ (j - k)))
    ∙ ap (λ (q : ℕ). q / 2 ^ (j - k)) (prefix_has a k) ∙ div-div-eq-div-mul a (2 ^ k) (2 ^ (j - k)) ∙ ap (λ (d : ℕ). a / d) (sym power)

-- a target that is no prefix with fewer host bits covers both addresses or none
covers_both : (a k : ℕ) (target : Target) → IsPrefix target
    → ((j prefix : ℕ) → j ≤ 32 → j < k → is_same_target target (Prefix (32 - j) prefix) ≡ false) → covers (a - a % 2 ^ k) target ≡ covers a target
covers_both a k Fallback is none = refl
covers_both a k (Prefix length prefix) is none =
    elim (cases_lt (32 - length) k) [
      | inl below ↦
          let within : length ≤ 32 = is.length in
          let lengths : length ≡ 32 - (32 - length) = omega arith in
          let same = and_from _ _ (eq-eqb length (32 - (32 - length)) lengths) (eq-eqb prefix prefix refl) in
          let other = none (32 - length) prefix (omega arith) below in
          absurd cc
      | inr above ↦ ap (λ (q : ℕ). q == prefix / 2 ^ (32 - length)) (open_bits a k (32 - length) above)
    ]

covering_both : (a k : ℕ) (table : List RouteLine) → ArePrefixes table → NoneWithFewer k table → covering table (a - a % 2 ^ k) ≡ covering table a
covering_both a k [] are none = refl
covering_both a k (line ∷ more) are none =
    let first = covers_both a k line.target (All-head (λ l. IsPrefix l.target) line more are)
    (λ j prefix few below. (skipped (Prefix (32 - j) prefix) line more (none j prefix few below)).0) in
    let rest = covering_both a k more (All-tail (λ l. IsPrefix l.target) line more are)
    (λ j prefix few below. (skipped (Prefix (32 - j) prefix) line more (none j prefix few below)).1) in
    rw (first, rest) refl

-- none of the lengths that occur has fewer host bits than k
none_with_fewer : (table : List RouteLine) (lengths k : ℕ) → AreLengths table lengths → ((j : ℕ) → Has lengths j → k ≤ j) → NoneWithFewer k table
none_with_fewer table lengths k are least j prefix few below = are.absent j prefix few (λ has. let more = least j has in omega arith)

-- the least length that occurs, or 32 where none occurs
pub least_open : (least : Option ℕ) (lengths : ℕ) → (IsNone least → lengths ≡ 0) → IfSome least (λ k. (j : ℕ) → Has lengths j → k ≤ j) → (j : ℕ)
    → Has lengths j → unwrap_or least 32 ≤ j
least_open None lengths none first j has = none_left lengths 32 (none refl) j has
least_open (Some k) lengths none first j has = first j has

-- so an address without its last k bits has the same route
pub block_route : (table : List RouteLine) (lengths a k : ℕ) → ArePrefixes table → AreLengths table lengths → ((j : ℕ) → Has lengths j → k ≤ j)
    → route_of table (Some (a - a % 2 ^ k)) ≡ route_of table (Some a)
block_route table lengths a k prefixes are least =
    ap (λ lines. option_map (λ (line : RouteLine). line.route) (option_or (longest lines) (line_with Fallback table)))
    (covering_both a k table prefixes (none_with_fewer table lengths k are least))
