-- The order of targets, and the lines of a table in that order, with one line more.
use Rattle.std.proofs.Common.{◌≡◌, ◌∙◌, ℕ, zero, suc, ◌+◌, ◌-◌, ◌<◌, ◌≤◌, true, false, cond, length, subst, slice_index_or, List, [], ◌∷◌, ◌++◌, Option}
use Rattle.std.proofs.Common.{None, Some, refl, sym, ap, inl, inr, arith, ◌==◌, ◌&&◌}
use Rattle.std.specs.List.{insert}
use Rattle.std.specs.Option.{option_or}
use Rattle.std.specs.Ordering.{is_eq, is_lt, ordering_reverse, nat_cmp, then_cmp, on}
use Rattle.std.specs.declared.cmp.Ordering.TheVariants.{Less, Equal, Greater}
use Rattle.std.specs.Cmp.{IsTotalOrder, nat_cmp_total}
use Rattle.std.proofs.lemmas.Cmp.{on_total, then_total, tied_itself}
use Rattle.std.proofs.lemmas.Bool.{cases_Bool, cases_lt, cases_eq, and_parts, eqb-true}
use Rattle.std.proofs.lemmas.Bool.Decides.{nat_tests}
use Rattle.std.proofs.lemmas.List.Edits.{length-insert, get_or-insert_below, get_or-insert_at, get_or-insert_above}
use Rattle.std.proofs.lemmas.List.Elements.{All-push}
use Rattle.std.proofs.lemmas.List.Folds.{find-append}
use Rattle.rotating_pick.specs.PortSets.{Has}
use Rattle.forward_table.specs.declared.route_lines.Target.{Target}
use Rattle.forward_table.specs.declared.route_lines.Target.TheVariants.{Prefix, Fallback}
use Rattle.forward_table.specs.declared.route_lines.RouteLine.{RouteLine}
use Rattle.forward_table.specs.Targets.{HasLength, IsPrefix, is_same_target}
use Rattle.forward_table.specs.Reading.{line_with}
use Rattle.forward_table.specs.IndexSteps.{target_order, target_at, no_line, IsInOrder, IsPlaceOf, IsGapFor, IsIndexed, IsWithLength, AreLengths}

-- ---- the order of targets
-- pairs of numbers, the first before the second, are in a total order
pairs_total : IsTotalOrder (then_cmp (on (λ (p : ℕ × ℕ). p.0) nat_cmp) (on (λ (p : ℕ × ℕ). p.1) nat_cmp))
pairs_total = then_total (on_total (λ (p : ℕ × ℕ). p.0) nat_cmp_total) (on_total (λ (p : ℕ × ℕ). p.1) nat_cmp_total)

-- two targets exchanged compare the other way round
target_antisymm : (a b : Target) → target_order a b ≡ ordering_reverse (target_order b a)
target_antisymm Fallback Fallback = refl
target_antisymm Fallback (Prefix length address) = refl
target_antisymm (Prefix length address) Fallback = refl
target_antisymm (Prefix length address) (Prefix length' address') = pairs_total.antisymm (length, address) (length', address')

-- what is lesser than a lesser one is lesser
target_trans : (a b c : Target) → target_order a b ≡ Less → target_order b c ≡ Less → target_order a c ≡ Less
target_trans Fallback Fallback c e f = absurd cc
target_trans Fallback (Prefix length address) Fallback e f = absurd cc
target_trans Fallback (Prefix length address) (Prefix length' address') e f = refl
target_trans (Prefix length address) Fallback c e f = absurd cc
target_trans (Prefix length address) (Prefix length' address') Fallback e f = absurd cc
target_trans (Prefix length address) (Prefix length' address') (Prefix length'' address'') e f =
    pairs_total.trans (length, address) (length', address') (length'', address'') e f

-- targets that tie compare alike
target_congr : (a b c : Target) → target_order a b ≡ Equal → target_order a c ≡ target_order b c
target_congr Fallback Fallback c e = refl
target_congr Fallback (Prefix length address) c e = absurd cc
target_congr (Prefix length address) Fallback c e = absurd cc
target_congr (Prefix length address) (Prefix length' address') Fallback e = refl
target_congr (Prefix length address) (Prefix length' address') (Prefix length'' address'') e =
    pairs_total.congr (length, address) (length', address') (length'', address'') e

-- targets are in a total order
pub target_total : IsTotalOrder target_order
target_total = record { antisymm = target_antisymm; trans = target_trans; congr = target_congr }

-- prefixes tie where lengths and addresses are the same
tied-prefix : (length address length' address' : ℕ)
    → is_eq (target_order (Prefix length address) (Prefix length' address')) ≡ ((length == length') && (address == address'))
tied-prefix length address length' address' = grind (arith, nat_tests)

-- which ties a target with itself alone
tied : (a b : Target) → is_eq (target_order a b) ≡ is_same_target a b
tied Fallback Fallback = refl
tied Fallback (Prefix length address) = refl
tied (Prefix length address) Fallback = refl
tied (Prefix length address) (Prefix length' address') = tied-prefix length address length' address'

-- and what is the same is equal
same_targets : (a b : Target) → is_same_target a b ≡ true → a ≡ b
same_targets Fallback Fallback e = refl
same_targets Fallback (Prefix length address) e = absurd cc
same_targets (Prefix length address) Fallback e = absurd cc
same_targets (Prefix length address) (Prefix length' address') e =
    let both = and_parts (length == length') (address == address') e in
    let lengths : length ≡ length' = eqb-true length length' both.0 in
    let addresses : address ≡ address' = eqb-true address address' both.1 in
    ap (λ (x : ℕ). Prefix x address) lengths ∙ ap (Prefix length') addresses

-- targets that tie are equal
pub tied_targets : (a b : Target) → target_order a b ≡ Equal → a ≡ b
tied_targets a b e = same_targets a b (sym (tied a b) ∙ ap is_eq e)

-- and the other way round
same_as : (a b : Target) → a ≡ b → is_same_target a b ≡ true
same_as a b e = ap (is_same_target a) (sym e) ∙ sym (tied a a) ∙ ap is_eq (tied_itself target_total a)

-- the other of two is lesser where one is greater
pub swapped : (a b : Target) → target_order a b ≡ Greater → target_order b a ≡ Less
swapped a b e = target_antisymm b a ∙ ap ordering_reverse e

-- and not lesser where one is lesser
pub not_less : (a b : Target) → target_order a b ≡ Less → is_lt (target_order b a) ≡ false
not_less a b e = ap is_lt (target_antisymm b a ∙ ap ordering_reverse e)

-- a lesser target is another one
apart_less : (a b : Target) → target_order a b ≡ Less → is_same_target a b ≡ false
apart_less a b e = sym (tied a b) ∙ ap is_eq e

-- and so is a greater one
apart_greater : (a b : Target) → target_order b a ≡ Less → is_same_target a b ≡ false
apart_greater a b e = sym (tied a b) ∙ ap is_eq (target_antisymm a b ∙ ap ordering_reverse e)

-- ---- a line among lines in order
-- no line is found where none has the target
line_absent : (l : List RouteLine) (t : Target) → ((j : ℕ) → j < length l → is_same_target (target_at l j) t ≡ false) → line_with t l ≡ None
line_absent [] t none = refl
line_absent (x ∷ l) t none =
    let first : is_same_target x.target t ≡ false = none 0 (omega arith) in
    rw first (line_absent l t (λ j lt. none (suc j) (omega arith)))

-- the first that has it is found
line_present : (l : List RouteLine) (t : Target) (i : ℕ) → i < length l → is_same_target (target_at l i) t ≡ true
    → ((j : ℕ) → j < i → is_same_target (target_at l j) t ≡ false) → line_with t l ≡ Some (slice_index_or l i no_line)
line_present [] t i inside same before = absurd (omega arith)
line_present (x ∷ l) t zero inside same before = rw same refl
line_present (x ∷ l) t (suc i) inside same before =
    let first : is_same_target x.target t ≡ false = before 0 (omega arith) in
    rw first (line_present l t i (omega arith) same (λ j lt. before (suc j) (omega arith)))

-- the line at its place is the one with the target
pub line_at : (l : List RouteLine) (t : Target) (i : ℕ) → IsInOrder l → IsPlaceOf l t i → line_with t l ≡ Some (slice_index_or l i no_line)
line_at l t i sorted place =
    line_present l t i place.in_range (same_as (target_at l i) t place.has_target)
    (λ j lt. apart_less (target_at l j) t (subst (λ x. target_order (target_at l j) x ≡ Less) place.has_target (sorted j i lt place.in_range)))

-- no line has a target that has a gap
pub line_in_gap : (l : List RouteLine) (t : Target) (i : ℕ) → IsGapFor l t i → line_with t l ≡ None
line_in_gap l t i gap = line_absent l t (λ j lt. elim (cases_lt j i) [
  | inl below ↦ apart_less (target_at l j) t (gap.lesser_before j below)
  | inr above ↦ apart_greater (target_at l j) t (gap.greater_after j above lt)
])

-- ---- a line more
-- a line more is found for its own target alone
line_insert : (l : List RouteLine) (line : RouteLine) (i : ℕ) (q : Target) → ((j : ℕ) → j < i → is_same_target (target_at l j) line.target ≡ false)
    → line_with q (insert l i line) ≡ cond (is_same_target line.target q) (Some line) (line_with q l)
line_insert l line zero q before = refl
line_insert [] line (suc i) q before = refl
line_insert (x ∷ l) line (suc i) q before =
    let rest = line_insert l line i q (λ j lt. before (suc j) (omega arith)) in
    let other : is_same_target x.target line.target ≡ false = before 0 (omega arith) in
    elim (cases_Bool (is_same_target x.target q)) [
      | inl first ↦ elim (cases_Bool (is_same_target line.target q)) [
        | inl same ↦
            let both = same_as x.target line.target (same_targets x.target q first ∙ sym (same_targets line.target q same)) in
            absurd (let no = sym both ∙ other in cc)
        | inr apart ↦ rw (first, apart) refl
      ]
      | inr not_first ↦ rw not_first rest
    ]

-- and keeps the order in the gap for its target
in_order-insert : (l : List RouteLine) (line : RouteLine) (at : ℕ) → IsGapFor l line.target at → IsInOrder l → IsInOrder (insert l at line)
in_order-insert l line at gap sorted i j lt in_range =
    let new = insert l at line in
    let within : at ≤ length l = gap.in_range in
    let length_new = length-insert l at line gap.in_range in
    let below : (k : ℕ) → k < at → target_at new k ≡ target_at l k =
    λ k less. ap (λ (x : RouteLine). x.target) (get_or-insert_below l at line no_line k less gap.in_range) in
    let here : (k : ℕ) → k ≡ at → target_at new k ≡ line.target = λ k same. ap (target_at new) same
    ∙ ap (λ (x : RouteLine). x.target) (get_or-insert_at l at line no_line gap.in_range) in
    let above : (k : ℕ) → at < k → target_at new k ≡ target_at l (k - 1) =
    λ k more. subst (λ q. target_at new q ≡ target_at l (k - 1)) {x = k - 1 + 1} (omega arith)
    (ap (λ (x : RouteLine). x.target) (get_or-insert_above l at line no_line (k - 1) (omega arith) gap.in_range)) in
    let both : (a b : Target) → target_at new i ≡ a → target_at new j ≡ b → target_order a b ≡ Less
    → target_order (target_at new i) (target_at new j) ≡ Less = λ a b e f less. ap (λ x. target_order x (target_at new j)) e ∙ ap (target_order a) f
    ∙ less in
    elim (cases_lt j at) [
      | inl j_below ↦ both (target_at l i) (target_at l j) (below i (omega arith)) (below j j_below) (sorted i j lt (omega arith))
      | inr j_from ↦ elim (cases_eq j at) [
        | inl j_here ↦ both (target_at l i) line.target (below i (omega arith)) (here j j_here) (gap.lesser_before i (omega arith))
        | inr j_other ↦
            let j_above : at < j = omega arith in
            elim (cases_lt i at) [
              | inl i_below ↦ both (target_at l i) (target_at l (j - 1)) (below i i_below) (above j j_above) (sorted i (j - 1) (omega arith) (omega arith))
              | inr i_from ↦ elim (cases_eq i at) [
                | inl i_here ↦ both line.target (target_at l (j - 1)) (here i i_here) (above j j_above) (gap.greater_after (j - 1) (omega arith) (omega arith))
                | inr i_other ↦ both (target_at l (i - 1)) (target_at l (j - 1)) (above i (omega arith)) (above j j_above)
                    (sorted (i - 1) (j - 1) (omega arith) (omega arith))
              ]
            ]
      ]
    ]

-- none in place of none
option_or-None : (o : Option RouteLine) → option_or o None ≡ o
option_or-None None = refl
option_or-None (Some line) = refl

-- the table with a line whose target has a gap
pub IsIndexed-push : (table ordered : List RouteLine) (line : RouteLine) (at : ℕ) → IsIndexed table ordered → IsPrefix line.target
    → IsGapFor ordered line.target at → IsIndexed (table ++ line ∷ []) (insert ordered at line)
IsIndexed-push table ordered line at was prefix gap = record {
  prefixes = All-push (λ l. IsPrefix l.target) table line was.prefixes prefix;
  in_order = in_order-insert ordered line at gap was.in_order;
  found = λ q.
      let added : line_with q (table ++ line ∷ []) ≡ option_or (line_with q table) (line_with q (line ∷ [])) =
      find-append (λ l. is_same_target l.target q) table (line ∷ []) in
      let made = line_insert ordered line at q (λ j lt. apart_less (target_at ordered j) line.target (gap.lesser_before j lt)) in
      elim (cases_Bool (is_same_target line.target q)) [
        | inl same ↦
            let before : line_with q table ≡ None = ap (λ t. line_with t table) (sym (same_targets line.target q same)) ∙ sym (was.found line.target)
            ∙ line_in_gap ordered line.target at gap in
            made ∙ (rw same (rw (added, before, same) refl))
        | inr other ↦ made ∙ (rw other (rw (added, other, option_or-None) (was.found q)))
      ];
}

-- ---- the prefix lengths that occur

-- a line more, whose length is noted
pub AreLengths-push : (table : List RouteLine) (old new : ℕ) (line : RouteLine) → AreLengths table old → IsPrefix line.target
    → IsWithLength line.target old new → AreLengths (table ++ line ∷ []) new
AreLengths-push table old new line was prefix = go line.target refl where
  pushed : (k address : ℕ) → line_with (Prefix (32 - k) address) table ≡ None → is_same_target line.target (Prefix (32 - k) address) ≡ false
      → line_with (Prefix (32 - k) address) (table ++ line ∷ []) ≡ None
  pushed k address before other =
      find-append (λ l. is_same_target l.target (Prefix (32 - k) address)) table (line ∷ []) ∙ rw (before, other) refl

  unlike : (a b c d : ℕ) → (a ≡ c → ⊥) → is_same_target (Prefix a b) (Prefix c d) ≡ false
  unlike a b c d apart = elim (cases_Bool (is_same_target (Prefix a b) (Prefix c d))) [
    | inl same ↦ absurd (apart (eqb-true a c (and_parts (a == c) (b == d) same).0))
    | inr other ↦ other
  ]

  go : (target : Target) → line.target ≡ target → IsWithLength target old new → AreLengths (table ++ line ∷ []) new
  go Fallback e same = record {
    within = λ k has. was.within k (subst (λ bits. Has bits k) same has);
    absent = λ k address few lacks. pushed k address (was.absent k address few (λ has. lacks (subst (λ bits. Has bits k) (sym same) has)))
        (ap (λ t. is_same_target t (Prefix (32 - k) address)) e);
  }
  go (Prefix len at) e more = record {
    within = λ k has. elim ((more k).0 has) [
      | inl here ↦ omega arith
      | inr before ↦ was.within k before
    ];
    absent = λ k address few lacks.
        let fits : len ≤ 32 = subst HasLength e prefix.length in
        let apart : len ≡ 32 - k → ⊥ = λ same. lacks ((more k).1 (inl (omega arith))) in
        pushed k address (was.absent k address few (λ has. lacks ((more k).1 (inr has))))
        (ap (λ t. is_same_target t (Prefix (32 - k) address)) e ∙ unlike len at (32 - k) address apart);
  }
