-- The line of greatest length is the one that the search finds, from the longest prefix on.
use Rattle.std.proofs.Common.{◌≡◌, ℕ, ◌-◌, ◌*◌, ◌/◌, ◌%◌, ◌^◌, ◌<◌, ◌≤◌, ◌==◌, true, false, List, [], ◌∷◌, Option, None, Some, refl, sym, ap, subst}
use Rattle.std.proofs.Common.{◌∙◌, inl, inr, arith, eq-eqb, nat_lt, ◌≢◌}
use Rattle.std.specs.Prelude.{All}
use Rattle.std.proofs.lemmas.Bool.{cases_Bool, cases_lt, and_parts, and_from, eqb-true, not-false, cond_both, le-ltb, lt-ltb}
use Rattle.std.proofs.lemmas.List.Elements.{All-head, All-tail}
use Rattle.std.proofs.lemmas.Nat.{pow_pos}
use Rattle.std.proofs.Math.Nat.{mul-div_cancel_left}
use Rattle.forward_table.specs.declared.route_lines.Target.{Target}
use Rattle.forward_table.specs.declared.route_lines.Target.TheVariants.{Prefix, Fallback}
use Rattle.forward_table.specs.declared.route_lines.RouteLine.{RouteLine}
use Rattle.forward_table.specs.Targets.{IsPrefix, is_same_target, covers, length_of}
use Rattle.forward_table.specs.Reading.{line_with}
use Rattle.forward_table.specs.Routing.{covering, longest, longer}

-- the prefix of an address that leaves `open_bits` bits open
abbrev pub prefix_at : ℕ → ℕ → Target
prefix_at address open_bits = Prefix (32 - open_bits) (address - address % 2 ^ open_bits)

-- the prefix that a number without its last bits has in common with an address
prefix_is : (a b j : ℕ) → b % 2 ^ j ≡ 0 → a / 2 ^ j ≡ b / 2 ^ j → b ≡ a - a % 2 ^ j
prefix_is a b j clear same =
    let some : 0 < 2 ^ j = pow_pos j in
    let product : 2 ^ j * (a / 2 ^ j) ≡ 2 ^ j * (b / 2 ^ j) = ap (λ (q : ℕ). 2 ^ j * q) same in
    omega arith

pub prefix_has : (a j : ℕ) → (a - a % 2 ^ j) / 2 ^ j ≡ a / 2 ^ j
prefix_has a j =
    let some : 0 < 2 ^ j = pow_pos j in
    let whole : a - a % 2 ^ j ≡ 2 ^ j * (a / 2 ^ j) = omega arith in
    rw whole (mul-div_cancel_left (a / 2 ^ j) some)

-- a prefix that covers an address is the address's own of that length
own_prefix : (address : ℕ) (target : Target) → IsPrefix target → covers address target ≡ true
    → is_same_target target (prefix_at address (32 - length_of target)) ≡ true
own_prefix address Fallback is covers_it = absurd cc
own_prefix address (Prefix length prefix) is covers_it =
    let within : length ≤ 32 = is.length in
    let clear : prefix % 2 ^ (32 - length) ≡ 0 = eqb-true _ _ (not-false _ is.no_host_bits) in
    let same : address / 2 ^ (32 - length) ≡ prefix / 2 ^ (32 - length) = eqb-true _ _ covers_it in
    let lengths : length ≡ 32 - (32 - length) = omega arith in
    and_from _ _ (eq-eqb length (32 - (32 - length)) lengths)
    (eq-eqb prefix (address - address % 2 ^ (32 - length)) (prefix_is address prefix (32 - length) clear same))

-- and the address's own prefixes cover it
own_covers : (address k : ℕ) (target : Target) → k ≤ 32 → is_same_target target (prefix_at address k) ≡ true → (covers address target ≡ true)
    × (length_of target ≡ 32 - k)
own_covers address k Fallback within same = absurd cc
own_covers address k (Prefix length prefix) within same =
    let both = and_parts (length == 32 - k) (prefix == address - address % 2 ^ k) same in
    let lengths : length ≡ 32 - k = eqb-true length (32 - k) both.0 in
    let prefixes : prefix ≡ address - address % 2 ^ k = eqb-true prefix (address - address % 2 ^ k) both.1 in
    let open_bits : 32 - length ≡ k = omega arith in
    (rw (open_bits, prefixes) (eq-eqb (address / 2 ^ k) ((address - address % 2 ^ k) / 2 ^ k) (sym (prefix_has address k))), lengths)

-- no line of the table has one of the address's prefixes with fewer open bits than k
abbrev pub NoneBefore : ℕ → ℕ → List RouteLine → Type 0
NoneBefore address k table = (j : ℕ) → j < k → line_with (prefix_at address j) table ≡ None

abbrev pub ArePrefixes : List RouteLine → Type 0
ArePrefixes table = All (λ line. IsPrefix line.target) table

-- a line without the prefix can be left out
pub skipped : (target : Target) (line : RouteLine) (more : List RouteLine) → line_with target (line ∷ more) ≡ None → (is_same_target line.target target ≡ false)
    × (line_with target more ≡ None)
skipped target line more e =
    elim (cases_Bool (is_same_target line.target target)) [
      | inl same ↦ let found = rw same at e in absurd cc
      | inr other ↦ (other, rw other at e)
    ]

NoneBefore-more : (address k : ℕ) (line : RouteLine) (more : List RouteLine) → NoneBefore address k (line ∷ more) → NoneBefore address k more
NoneBefore-more address k line more none j below = (skipped (prefix_at address j) line more (none j below)).1

-- a line that covers the address has at least k open bits
covers_from : (address k : ℕ) (line : RouteLine) (more : List RouteLine) → k ≤ 33 → IsPrefix line.target → NoneBefore address k (line ∷ more)
    → covers address line.target ≡ true → k ≤ 32 - length_of line.target
covers_from address k line more within is none covers_it =
    elim (cases_lt (32 - length_of line.target) k) [
      | inl below ↦
          let same = own_prefix address line.target is covers_it in
          let other = (skipped (prefix_at address (32 - length_of line.target)) line more (none (32 - length_of line.target) below)).0 in
          absurd cc
      | inr above ↦ above
    ]

longer-le : (line : RouteLine) (other : Option RouteLine) (most : ℕ) → length_of line.target ≤ most
    → ((o : RouteLine) → other ≡ Some o → length_of o.target ≤ most) → length_of (longer line other).target ≤ most
longer-le line None most first rest = first
longer-le line (Some other) most first rest =
    cond_both (nat_lt (length_of line.target) (length_of other.target)) other line (λ l. length_of l.target ≤ most) (λ _. rest other refl) (λ _. first)

longer_first : (line : RouteLine) (other : Option RouteLine) → ((o : RouteLine) → other ≡ Some o → length_of o.target ≤ length_of line.target)
    → longer line other ≡ line
longer_first line None rest = refl
longer_first line (Some other) rest = rw (le-ltb (length_of line.target) (length_of other.target) (rest other refl)) refl

-- so none of those that cover it is longer
longest_length : (address k : ℕ) (table : List RouteLine) → k ≤ 32 → ArePrefixes table → NoneBefore address k table → (line : RouteLine)
    → longest (covering table address) ≡ Some line → length_of line.target ≤ 32 - k
longest_length address k [] within are none line e = absurd cc
longest_length address k (first ∷ more) within are none line e =
    let is : IsPrefix first.target = All-head (λ l. IsPrefix l.target) first more are in
    let rest = longest_length address k more within (All-tail (λ l. IsPrefix l.target) first more are) (NoneBefore-more address k first more none) in
    elim (cases_Bool (covers address first.target)) [
      | inl covers_it ↦
          let chosen = rw covers_it at e in
          let same : longer first (longest (covering more address)) ≡ line = cc in
          let far = covers_from address k first more (omega arith) is none covers_it in
          let short : length_of first.target ≤ 32 - k = omega (arith, far, is.length) in
          subst (λ (l : RouteLine). length_of l.target ≤ 32 - k) same (longer-le first (longest (covering more address)) (32 - k) short rest)
      | inr open_to ↦ rest line (rw open_to at e)
    ]

-- no line covers an address with none of whose prefixes a line is
pub longest_none : (address : ℕ) (table : List RouteLine) → ArePrefixes table → NoneBefore address 33 table → longest (covering table address) ≡ None
longest_none address [] are none = refl
longest_none address (line ∷ more) are none =
    let rest : longest (covering more address) ≡ None =
    longest_none address more (All-tail (λ l. IsPrefix l.target) line more are) (NoneBefore-more address 33 line more none) in
    elim (cases_Bool (covers address line.target)) [
      | inl covers_it ↦ absurd (omega (arith, covers_from address 33 line more (omega arith) (All-head (λ l. IsPrefix l.target) line more are) none covers_it))
      | inr open_to ↦ rw open_to rest
    ]

-- the line with the first of the address's prefixes is the longest
pub longest_at : (address k : ℕ) (table : List RouteLine) → k ≤ 32 → ArePrefixes table → NoneBefore address k table → (line : RouteLine)
    → line_with (prefix_at address k) table ≡ Some line → (longest (covering table address) ≡ Some line) × (length_of line.target ≡ 32 - k)
longest_at address k [] within are none line e = absurd cc
longest_at address k (first ∷ more) within are none line e =
    let is : IsPrefix first.target = All-head (λ l. IsPrefix l.target) first more are in
    let are_more : ArePrefixes more = All-tail (λ l. IsPrefix l.target) first more are in
    let none_more = NoneBefore-more address k first more none in
    elim (cases_Bool (is_same_target first.target (prefix_at address k))) [
      | inl same ↦
          let found = rw same at e in
          let is_first : first ≡ line = cc in
          let own = own_covers address k first.target within same in
          let rest = longest_length address k more within are_more none_more in
          let chosen : longer first (longest (covering more address)) ≡ first =
          longer_first first (longest (covering more address)) (λ other e'. omega (arith, rest other e', own.1)) in
          (rw own.0 (ap (λ (l : RouteLine). Some l) (chosen ∙ is_first)), subst (λ (l : RouteLine). length_of l.target ≡ 32 - k) is_first own.1)
      | inr other ↦
          let rest = longest_at address k more within are_more none_more line (rw other at e) in
          elim (cases_Bool (covers address first.target)) [
            | inl covers_it ↦
                let far = covers_from address k first more (omega arith) is none covers_it in
                let apart : k ≢ 32 - length_of first.target = λ at. let same =
                subst (λ (j : ℕ). is_same_target first.target (prefix_at address j) ≡ true) (sym at) (own_prefix address first.target is covers_it) in
                absurd cc in
                let shorter : length_of first.target < length_of line.target = omega (arith, far, is.length, rest.1) in
                (rw (covers_it, rest.0, lt-ltb (length_of first.target) (length_of line.target) shorter) refl, rest.1)
            | inr open_to ↦ (rw open_to rest.0, rest.1)
          ]
    ]
