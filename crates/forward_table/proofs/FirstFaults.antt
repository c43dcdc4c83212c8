-- The fault that is told of a text is that of its first line with one.
use Rattle.std.proofs.Common.{◌≡◌, ℕ, zero, suc, ◌+◌, ◌<◌, ◌≤◌, ◌↔◌, ◌⊎◌, List, [], ◌∷◌, ◌++◌, length, take, Bool, true, false, cond, Option, None}
use Rattle.std.proofs.Common.{Some, Result, Ok, Err, slice_index_or, refl, sym, ap, ◌∙◌, inl, inr, append_assoc, arith}
use Rattle.std.specs.Prelude.{nat_lt}
use Rattle.std.specs.Option.{option_or}
use Rattle.std.proofs.lemmas.Bool.{cases_lt, ltb-true, ltb-false, lt-ltb, le-ltb}
use Rattle.std.proofs.lemmas.List.{append-nil}
use Rattle.forward_table.specs.declared.limits.TheConstants.{MAX_LINES}
use Rattle.forward_table.specs.declared.faults.TableFault.{TableFault}
use Rattle.forward_table.specs.declared.faults.TableFault.TheVariants.{TooManyLines}
use Rattle.forward_table.specs.declared.route_lines.RouteLine.{RouteLine}
use Rattle.forward_table.specs.Text.{lines}
use Rattle.forward_table.specs.Reading.{route_line_count, fault_of, route_line_of, route_lines_of, first_fault, unless_fault, reading_of, fault_at}
use Rattle.forward_table.specs.Reading.{HasTooManyLines, IsFirstFault, IsTable}

-- the fault of line k of lines that come after others, of which the first has this number
abbrev later_fault : ℕ → List RouteLine → ℕ → List (List ℕ) → ℕ → Option TableFault
later_fault n earlier number ls k = fault_of n (earlier ++ route_lines_of n number (take k ls)) (number + k) (slice_index_or ls k [])

first_line : (n : ℕ) (earlier : List RouteLine) (number : ℕ) (l : List ℕ) (ls : List (List ℕ))
    → later_fault n earlier number (l ∷ ls) 0 ≡ fault_of n earlier number l
first_line n earlier number l ls =
    let here : number + 0 ≡ number = omega arith in
    λ j. fault_of n (append-nil earlier j) (here j) l

next_line : (n : ℕ) (earlier : List RouteLine) (number : ℕ) (l : List ℕ) (ls : List (List ℕ)) (k : ℕ)
    → later_fault n earlier number (l ∷ ls) (suc k) ≡ later_fault n (earlier ++ route_line_of n number l) (number + 1) ls k
next_line n earlier number l ls k =
    let there : number + suc k ≡ (number + 1) + k = omega arith in
    let front : earlier ++ (route_line_of n number l ++ route_lines_of n (number + 1) (take k ls)) ≡ (earlier ++ route_line_of n number l)
    ++ route_lines_of n (number + 1) (take k ls) =
    sym (append_assoc earlier (route_line_of n number l) (route_lines_of n (number + 1) (take k ls))) in
    λ j. fault_of n (front j) (there j) (slice_index_or ls k [])

-- the first line with a fault
record IsFirst (n : ℕ) (earlier : List RouteLine) (number : ℕ) (ls : List (List ℕ)) (fault : TableFault) : Type 0 where
  pub line : ℕ
  pub there : line < length ls
  pub fault_is : later_fault n earlier number ls line ≡ Some fault
  pub before : (k : ℕ) → k < line → later_fault n earlier number ls k ≡ None

first_more : (n : ℕ) (earlier : List RouteLine) (number : ℕ) (l : List ℕ) (ls : List (List ℕ)) (fault : TableFault) → fault_of n earlier number l ≡ None
    → IsFirst n (earlier ++ route_line_of n number l) (number + 1) ls fault → IsFirst n earlier number (l ∷ ls) fault
first_more n earlier number l ls fault none r = record {
  line = suc r.line;
  there = omega (arith, r.there);
  fault_is = next_line n earlier number l ls r.line ∙ r.fault_is;
  before = before_it;
}
  where
    before_it : (k : ℕ) → k < suc r.line → later_fault n earlier number (l ∷ ls) k ≡ None
    before_it zero below = first_line n earlier number l ls ∙ none
    before_it (suc k) below = next_line n earlier number l ls k ∙ r.before k (omega arith)

first_here : (n : ℕ) (earlier : List RouteLine) (number : ℕ) (l : List ℕ) (ls : List (List ℕ)) (fault : TableFault) → fault_of n earlier number l ≡ Some fault
    → IsFirst n earlier number (l ∷ ls) fault
first_here n earlier number l ls fault is = record {
  line = 0;
  there = omega arith;
  fault_is = first_line n earlier number l ls ∙ is;
  before = λ k below. absurd (omega arith);
}

-- a fault and none
some_none : (o : Option TableFault) (fault : TableFault) → o ≡ Some fault → o ≡ None → ⊥
some_none o fault is isnt = absurd (cc)

-- a fault or none
cases_option : (o : Option TableFault) → (o ≡ None) ⊎ ((fault : TableFault) × (o ≡ Some fault))
cases_option None = inl refl
cases_option (Some fault) = inr (fault, refl)

-- a fault is that of a line, or else the first of those after it
found : (n : ℕ) (earlier : List RouteLine) (number : ℕ) (ls : List (List ℕ)) (fault : TableFault) → first_fault n earlier number ls ≡ Some fault
    → IsFirst n earlier number ls fault
found n earlier number [] fault e = absurd (cc)
found n earlier number (l ∷ ls) fault e =
    let later = earlier ++ route_line_of n number l in
    let told : Option TableFault → Option TableFault = λ o. option_or o (first_fault n later (number + 1) ls) in
    elim (cases_option (fault_of n earlier number l)) [
      | inl none ↦ first_more n earlier number l ls fault none (found n later (number + 1) ls fault (ap told (sym none) ∙ e))
      | inr some ↦ first_here n earlier number l ls fault (some.1 ∙ (ap told (sym some.1) ∙ e))
    ]

-- no line has a fault
none : (n : ℕ) (earlier : List RouteLine) (number : ℕ) (ls : List (List ℕ)) → first_fault n earlier number ls ≡ None → (k : ℕ) → k < length ls
    → later_fault n earlier number ls k ≡ None
none n earlier number [] e k below = let not : ⊥ = omega arith in absurd not
none n earlier number (l ∷ ls) e k below =
    let later = earlier ++ route_line_of n number l in
    let told : Option TableFault → Option TableFault = λ o. option_or o (first_fault n later (number + 1) ls) in
    elim (cases_option (fault_of n earlier number l)) [
      | inr some ↦ absurd (some_none (Some some.0) some.0 refl (ap told (sym some.1) ∙ e))
      | inl nothing ↦ none_later k below nothing (none n later (number + 1) ls (ap told (sym nothing) ∙ e))
    ]
  where
    none_later : (k : ℕ) → k < length (l ∷ ls) → fault_of n earlier number l ≡ None
        → ((j : ℕ) → j < length ls → later_fault n (earlier ++ route_line_of n number l) (number + 1) ls j ≡ None)
        → later_fault n earlier number (l ∷ ls) k ≡ None
    none_later zero below nothing rest = first_line n earlier number l ls ∙ nothing
    none_later (suc k) below nothing rest = next_line n earlier number l ls k ∙ rest k (omega arith)

-- ---- what is told of a text

one_fault : (o : Option TableFault) (fault other : TableFault) → o ≡ Some fault → o ≡ Some other → fault ≡ other
one_fault o fault other is too = cc

-- two first lines with a fault are one
same_first : (n : ℕ) (ls : List (List ℕ)) (fault other : TableFault) → IsFirst n [] 1 ls fault → IsFirst n [] 1 ls other → fault ≡ other
same_first n ls fault other a b =
    elim (cases_lt a.line b.line) [
      | inl lt ↦ absurd (some_none (later_fault n [] 1 ls a.line) fault a.fault_is (b.before a.line lt))
      | inr ge ↦ elim (cases_lt b.line a.line) [
        | inl lt ↦ absurd (some_none (later_fault n [] 1 ls b.line) other b.fault_is (a.before b.line lt))
        | inr le ↦
            let same : a.line ≡ b.line = omega arith in
            one_fault (later_fault n [] 1 ls b.line) fault other (ap (later_fault n [] 1 ls) (sym same) ∙ a.fault_is) b.fault_is
      ]
    ]

-- what a text means, by whether it has too many lines and by its first fault
abbrev told : ℕ → List ℕ → Bool → Option TableFault → Result (List RouteLine) TableFault
told n text many o = cond many (Err (TooManyLines (route_line_count text))) (unless_fault o (route_lines_of n 1 (lines text)))

reading_is : (n : ℕ) (text : List ℕ) → reading_of n text ≡ told n text (nat_lt MAX_LINES (route_line_count text)) (first_fault n [] 1 (lines text))
unfolding reading_of
reading_is n text = refl

module _ (n : ℕ) (text : List ℕ) where
  too_many : MAX_LINES < route_line_count text → reading_of n text ≡ Err (TooManyLines (route_line_count text))
  too_many many = reading_is n text ∙ ap (λ b. told n text b (first_fault n [] 1 (lines text))) (lt-ltb MAX_LINES (route_line_count text) many)

  few_lines : route_line_count text ≤ MAX_LINES → reading_of n text ≡ unless_fault (first_fault n [] 1 (lines text)) (route_lines_of n 1 (lines text))
  few_lines few = reading_is n text ∙ ap (λ b. told n text b (first_fault n [] 1 (lines text))) (le-ltb MAX_LINES (route_line_count text) few)

  fault_from : (fault : TableFault) (many : Bool) → nat_lt MAX_LINES (route_line_count text) ≡ many → (o : Option TableFault)
      → first_fault n [] 1 (lines text) ≡ o
      → told n text many o ≡ Err fault → HasTooManyLines text fault ⊎ IsFirstFault n text fault
  fault_from fault true many o at e = inl (record { many = ltb-true MAX_LINES (route_line_count text) many; fault_is = cc })
  fault_from fault false few None at e = absurd (cc)
  fault_from fault false few (Some f) at e =
      let is : f ≡ fault = cc in
      let r = found n [] 1 (lines text) fault (at ∙ ap Some is) in
      inr (record { few = ltb-false MAX_LINES (route_line_count text) few; line = r.line; there = r.there; fault_is = r.fault_is; before = r.before })

  told_first : (fault : TableFault) → IsFirstFault n text fault → (o : Option TableFault) → first_fault n [] 1 (lines text) ≡ o → o ≡ Some fault
  told_first fault h None at = absurd (some_none (fault_at n (lines text) h.line) fault h.fault_is (none n [] 1 (lines text) at h.line h.there))
  told_first fault h (Some f) at =
      ap Some (same_first n (lines text) f fault (found n [] 1 (lines text) f at)
      (record { line = h.line; there = h.there; fault_is = h.fault_is; before = h.before }))

  pub fault_is_told : (fault : TableFault) → (reading_of n text ≡ Err fault) ↔ (HasTooManyLines text fault ⊎ IsFirstFault n text fault)
  fault_is_told fault = (
    λ e. fault_from fault (nat_lt MAX_LINES (route_line_count text)) refl (first_fault n [] 1 (lines text)) refl (sym (reading_is n text) ∙ e),
    λ h. elim h [
      | inl many ↦ too_many many.many ∙ ap Err (sym many.fault_is)
      | inr first ↦ few_lines first.few
          ∙ ap (λ o. unless_fault o (route_lines_of n 1 (lines text))) (told_first fault first (first_fault n [] 1 (lines text)) refl)
    ],
  )

  table_from : (table : List RouteLine) (many : Bool) → nat_lt MAX_LINES (route_line_count text) ≡ many → (o : Option TableFault)
      → first_fault n [] 1 (lines text) ≡ o
      → told n text many o ≡ Ok table → IsTable n text table
  table_from table true many o at e = absurd (cc)
  table_from table false few (Some f) at e = absurd (cc)
  table_from table false few None at e =
      record { few = ltb-false MAX_LINES (route_line_count text) few; faultless = none n [] 1 (lines text) at; lines_are = cc }

  told_none : (table : List RouteLine) → IsTable n text table → (o : Option TableFault) → first_fault n [] 1 (lines text) ≡ o → o ≡ None
  told_none table h None at = refl
  told_none table h (Some f) at =
      let r = found n [] 1 (lines text) f at in
      absurd (some_none (fault_at n (lines text) r.line) f r.fault_is (h.faultless r.line r.there))

  pub table_is_told : (table : List RouteLine) → (reading_of n text ≡ Ok table) ↔ IsTable n text table
  table_is_told table = (
    λ e. table_from table (nat_lt MAX_LINES (route_line_count text)) refl (first_fault n [] 1 (lines text)) refl (sym (reading_is n text) ∙ e),
    λ h.
        few_lines h.few ∙ ap (λ o. unless_fault o (route_lines_of n 1 (lines text))) (told_none table h (first_fault n [] 1 (lines text)) refl)
        ∙ ap Ok (sym h.lines_are),
  )
