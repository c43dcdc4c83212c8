-- The line of greatest length, by a search for each prefix length that occurs.
use Rattle.std.proofs.Common.{◌≡◌, ◌∙◌, ℕ, ◌-◌, ◌^◌, ◌%◌, ◌≤◌, true, List, Option, None, Some, sym, ap, subst, inl, inr, arith}
use Rattle.std.specs.Option.{is_some}
use Rattle.std.specs.Int.{bit_at}
use Rattle.std.proofs.lemmas.Bool.{cases_eq}
use Rattle.std.proofs.lemmas.Nat.Bits.{bit_at-zero}
use Rattle.rotating_pick.specs.PortSets.{Has}
use Rattle.forward_table.specs.declared.route_lines.RouteLine.{RouteLine}
use Rattle.forward_table.specs.Reading.{line_with}
use Rattle.forward_table.specs.Routing.{covering, longest}
use Rattle.forward_table.specs.IndexSteps.{IsIndexed, AreLengths}
use Rattle.forward_table.proofs.Covering.{prefix_at, NoneBefore, ArePrefixes, longest_at}

-- no line has one of the address's prefixes of a length that occurs and is not left
abbrev pub AreSearched : List RouteLine → ℕ → ℕ → ℕ → Type 0
AreSearched lines lengths rest address = (j : ℕ) → Has lengths j → (Has rest j → ⊥) → line_with (prefix_at address j) lines ≡ None

-- the same of the table whose lines were searched
pub searched_in : (table ordered : List RouteLine) (lengths rest address : ℕ) → IsIndexed table ordered → AreSearched ordered lengths rest address
    → AreSearched table lengths rest address
searched_in table ordered lengths rest address indexed searched j has gone = sym (indexed.found (prefix_at address j)) ∙ searched j has gone

-- where no length before k is left, none has such a line
pub none_before : (table : List RouteLine) (lengths rest address k : ℕ) → AreLengths table lengths → AreSearched table lengths rest address
    → ((j : ℕ) → Has rest j → k ≤ j) → k ≤ 33 → NoneBefore address k table
none_before table lengths rest address k are searched least few j below = elim (cases_eq (bit_at lengths j) 1) [
  | inl has ↦ searched j has (λ left. let more = least j left in omega arith)
  | inr lacks ↦ are.absent j (address - address % 2 ^ j) (omega arith) lacks
]

-- the line with the first of the address's prefixes is the longest that covers it
pub found_longest : (table : List RouteLine) (address k : ℕ) (line : Option RouteLine) → k ≤ 32 → ArePrefixes table → NoneBefore address k table
    → is_some line ≡ true → line ≡ line_with (prefix_at address k) table → line ≡ longest (covering table address)
found_longest table address k None few are none some is = absurd cc
found_longest table address k (Some line) few are none some is = sym (longest_at address k table few are none line (sym is)).0

-- nothing is left
pub none_left : (rest k : ℕ) → rest ≡ 0 → (j : ℕ) → Has rest j → k ≤ j
none_left rest k is j has = absurd (let set = subst (λ bits. bit_at bits j ≡ 1) is has in let clear = bit_at-zero j in omega arith)

-- nothing but the number itself, and what is left, was to be searched for
pub searched_more : (ordered : List RouteLine) (lengths rest left address k : ℕ) → AreSearched ordered lengths rest address
    → line_with (prefix_at address k) ordered ≡ None → ((j : ℕ) → (j ≡ k → ⊥) → Has rest j → Has left j) → AreSearched ordered lengths left address
searched_more ordered lengths rest left address k searched here stays j has gone = elim (cases_eq j k) [
  | inl same ↦ ap (λ i. line_with (prefix_at address i) ordered) same ∙ here
  | inr other ↦ searched j has (λ in_rest. gone (stays j other in_rest))
]
