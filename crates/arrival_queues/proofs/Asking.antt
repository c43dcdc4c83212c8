-- The rows of the inputs: what is the first of a queue asks.
use Rattle.std.proofs.Common.{◌≡◌, ◌≢◌, ◌∙◌, ℕ, zero, suc, ◌<◌, ◌==◌, ◌&&◌, ◌↔◌, ◌⊎◌, Bool, true, false, List, [], Some, None, length, map, replicate}
use Rattle.std.proofs.Common.{slice_get, slice_index_or, slice_set, refl, sym, ap, subst, inl, inr, arith}
use Rattle.std.specs.List.{range_with_len}
use Rattle.std.proofs.lemmas.Bool.{cases_eq, eq-eqb, eqb-true, ne_eqb}
use Rattle.std.proofs.lemmas.List.{get_or-replicate, get_or-set_same, get_or-set_other, length-replicate, length-set, same_lists}
use Rattle.std.proofs.lemmas.List.FromFn.{get_or-map-range_with_len, length-map-range_with_len}
use Rattle.std_lemmas.proofs.Lists.{get_or-same}
use Rattle.std_lemmas.proofs.Ranges.{map_range-same}
use Rattle.rotating_pick.specs.PortSets.{Has}
use Rattle.rotating_pick.specs.declared.kinds.Kind.{Kind}
use Rattle.rotating_pick.specs.declared.kinds.Kind.TheVariants.{Uni, Multi}
use Rattle.rotating_pick.proofs.Bits.{no_member-zero, zero-no_members}
use Rattle.rotating_pick.proofs.Tables.{no_members}
use Rattle.slot_match.specs.declared.rows.Row.{Row}
use Rattle.slot_match.specs.Rows.{AreWithin, Names, empty_row, no_row, row_of}
use Rattle.slot_match.specs.Parts.{set_of}
use Rattle.slot_match.proofs.Sets.{Has-same, Has-set_of}
use Rattle.arrival_queues.specs.declared.cell.ArrivedCell.{ArrivedCell}
use Rattle.arrival_queues.specs.declared.queueing.Queueing.{Queueing}
use Rattle.arrival_queues.specs.Queues.{Queues, queue_count, queue_for, queues_where, empty_queues, head_of, is_between, is_asked, row_asking, rows_of}
use Rattle.unicast_slots.specs.RowSteps.{rows_asking}
use Rattle.arrival_queues.proofs.Changes.{at_same, at_other}

-- ---- rows by what their inputs ask
abbrev pub rows_by : ℕ → (ℕ → ℕ → Bool) → List Row
rows_by n asks = map (λ i. row_asking (set_of n (asks i))) (range_with_len 0 n)

module _ (n : ℕ) where
  row-at : (asks : ℕ → ℕ → Bool) (i : ℕ) (d : Row) → i < n → slice_index_or (rows_by n asks) i d ≡ row_asking (set_of n (asks i))
  row-at asks i d below = get_or-map-range_with_len (λ k. row_asking (set_of n (asks k))) 0 n i i d below (omega arith)

  set_of-same : (f g : ℕ → Bool) → ((j : ℕ) → j < n → f j ≡ g j) → set_of n f ≡ set_of n g
  set_of-same f g same = Has-same (set_of n f) (set_of n g) (λ j. (
    λ has. let p = (Has-set_of n f j).0 has in (Has-set_of n g j).1 (p.0, sym (same j p.0) ∙ p.1),
    λ has. let p = (Has-set_of n g j).0 has in (Has-set_of n f j).1 (p.0, same j p.0 ∙ p.1),
  ))

  rows_by-same : (f g : ℕ → ℕ → Bool) → ((i j : ℕ) → i < n → j < n → f i j ≡ g i j) → rows_by n f ≡ rows_by n g
  rows_by-same f g same = map_range-same _ _ 0 n (λ i below. let i_in : i < n = omega arith in ap row_asking (set_of-same (f i) (g i) (λ j. same i j i_in)))

  -- one input asks for other outputs
  row_set : (f : ℕ → ℕ → Bool) (i outputs : ℕ) → i < n → rows_asking (rows_by n f) i outputs ≡ slice_set (rows_by n f) i (row_asking outputs)
  row_set f i outputs i_in =
      ap (λ (row : Row). slice_set (rows_by n f) i (record row { uni = slice_set row.uni 0 outputs })) (row-at f i no_row i_in)

  rows_by-set : (f g : ℕ → ℕ → Bool) (i outputs : ℕ) → i < n → ((a b : ℕ) → a < n → b < n → a ≢ i → f a b ≡ g a b)
      → ((j : ℕ) → Has outputs j ↔ ((j < n) × (g i j ≡ true))) → rows_asking (rows_by n f) i outputs ≡ rows_by n g
  rows_by-set f g i outputs i_in others here =
      let long : length (slice_set (rows_by n f) i (row_asking outputs)) ≡ n = length-set (rows_by n f) i (row_asking outputs)
      ∙ length-map-range_with_len (λ k. row_asking (set_of n (f k))) 0 n in
      let one : outputs ≡ set_of n (g i) = Has-same outputs (set_of n (g i)) (λ j. (
        λ has. (Has-set_of n (g i) j).1 ((here j).0 has),
        λ has. (here j).1 ((Has-set_of n (g i) j).0 has),
      )) in
      row_set f i outputs i_in
      ∙ same_lists (slice_set (rows_by n f) i (row_asking outputs)) (rows_by n g)
      (long ∙ sym (length-map-range_with_len (λ k. row_asking (set_of n (g k))) 0 n))
      (λ k d inside.
      let k_in : k < n = omega (arith, long, inside) in
      elim (cases_eq k i) [
        | inl same ↦
            ap (λ p. slice_index_or (slice_set (rows_by n f) i (row_asking outputs)) p d) same
            ∙ get_or-set_same (rows_by n f) i (row_asking outputs) d
            (omega (arith, length-map-range_with_len (λ k. row_asking (set_of n (f k))) 0 n, i_in))
            ∙ ap row_asking one ∙ ap (λ p. row_asking (set_of n (g p))) (sym same) ∙ sym (row-at g k d k_in)
        | inr other ↦
            get_or-set_other (rows_by n f) i k (row_asking outputs) d other
            ∙ row-at f k d k_in ∙ ap row_asking (set_of-same (f k) (g k) (λ j j_in. others k j k_in j_in other)) ∙ sym (row-at g k d k_in)
      ])

-- ---- which pair of ports a cell is between
both_true : (a b : Bool) → (a && b) ≡ true → (a ≡ true) × (b ≡ true)
both_true true true is = (refl, refl)
both_true true false is = absurd cc
both_true false b is = absurd cc

between-is : (i j : ℕ) (cell : ArrivedCell) → is_between i j (Some cell) ≡ true → (cell.input ≡ i) × (cell.output ≡ j)
between-is i j cell is =
    let p = both_true (cell.input == i) (cell.output == j) is in
    (eqb-true cell.input i p.0, eqb-true cell.output j p.1)

between-own : (cell : ArrivedCell) (j : ℕ) → j ≡ cell.output → is_between cell.input j (Some cell) ≡ true
between-own cell j is = rw (is, eq-eqb cell.input cell.input refl, eq-eqb cell.output cell.output refl) refl

between-other : (i j : ℕ) (cell : ArrivedCell) → i ≢ cell.input → is_between i j (Some cell) ≡ false
between-other i j cell other = rw (ne_eqb cell.input i (λ e. other (sym e))) refl

-- ---- one queue has other cells
module _ (queues : Queues) (q : ℕ) (cells : List ArrivedCell) where
  abbrev pub changed : Queues
  changed = queues_where queues q cells

  asked-there : (i j : ℕ) → queue_for queues i j ≢ q → is_asked queues i j ≡ is_asked changed i j
  asked-there i j other = ap (λ xs. is_between i j (slice_get xs 0)) (sym (at_other queues q cells (queue_for queues i j) other))

  asked-before : (i j : ℕ) → queue_for queues i j ≡ q → is_asked queues i j ≡ is_between i j (head_of queues q)
  asked-before i j same = ap (λ p. is_between i j (head_of queues p)) same

  asked-after : (i j : ℕ) → q < length queues.cells → queue_for queues i j ≡ q → is_asked changed i j ≡ is_between i j (slice_get cells 0)
  asked-after i j inside same = ap (λ p. is_between i j (head_of changed p)) same ∙ ap (λ xs. is_between i j (slice_get xs 0)) (at_same queues q cells inside)

  -- the first cell stays
  pub rows-stay : q < length queues.cells → slice_get cells 0 ≡ head_of queues q → rows_of queues ≡ rows_of changed
  unfolding rows_of
  rows-stay inside stays = rows_by-same queues.ports (is_asked queues) (is_asked changed) (λ i j _ _. elim (cases_eq (queue_for queues i j) q) [
    | inl same ↦ asked-before i j same ∙ ap (is_between i j) (sym stays) ∙ sym (asked-after i j inside same)
    | inr other ↦ asked-there i j other
  ])

  -- what the row of an input names
  named : (i j : ℕ) → i < queues.ports → Names (row_of (rows_of queues) i) 0 Uni j ↔ ((j < queues.ports) × (is_asked queues i j ≡ true))
  unfolding rows_of
  named i j i_in = rw (row-at queues.ports (is_asked queues) i no_row i_in) (Has-set_of queues.ports (is_asked queues i) j)

  -- a cell is the first, where none was
  pub rows-more : (head : ArrivedCell) (outputs : ℕ) → q < length queues.cells → head_of queues q ≡ None → slice_get cells 0 ≡ Some head
      → head.input < queues.ports → head.output < queues.ports → queue_for queues head.input head.output ≡ q
      → ((j : ℕ) → Has outputs j ↔ ((j ≡ head.output) ⊎ Names (row_of (rows_of queues) head.input) 0 Uni j))
      → rows_asking (rows_of queues) head.input outputs ≡ rows_of changed
  unfolding rows_of
  rows-more head outputs inside none first i_in j_in place are =
      let i = head.input in
      let before : (a b : ℕ) → queue_for queues a b ≡ q → is_asked queues a b ≡ false = λ a b same. asked-before a b same ∙ ap (is_between a b) none in
      let after : (a b : ℕ) → queue_for queues a b ≡ q → is_asked changed a b ≡ is_between a b (Some head) =
      λ a b same. asked-after a b inside same ∙ ap (is_between a b) first in
      rows_by-set queues.ports (is_asked queues) (is_asked changed) i outputs i_in
      (λ a b _ _ differ. elim (cases_eq (queue_for queues a b) q) [
        | inl same ↦ before a b same ∙ sym (after a b same ∙ between-other a b head differ)
        | inr other ↦ asked-there a b other
      ])
      (λ j. (
        λ has. elim ((are j).0 has) [
          | inl is ↦ (subst (λ b. b < queues.ports) (sym is) j_in, after i j (ap (queue_for queues i) is ∙ place) ∙ between-own head j is)
          | inr was ↦
              let p = (named i j i_in).0 was in (
                p.0,
                elim (cases_eq (queue_for queues i j) q) [
                  | inl same ↦ absurd (let no = before i j same in let yes = p.1 in cc)
                  | inr other ↦ sym (asked-there i j other) ∙ p.1
                ],
              )
        ],
        λ p. elim (cases_eq (queue_for queues i j) q) [
          | inl same ↦ (are j).1 (inl (sym (between-is i j head (sym (after i j same) ∙ p.1)).1))
          | inr other ↦ (are j).1 (inr ((named i j i_in).1 (p.0, asked-there i j other ∙ p.1)))
        ],
      ))

  -- no cell is the first, where one was
  pub rows-less : (head : ArrivedCell) (outputs : ℕ) → q < length queues.cells → head_of queues q ≡ Some head → slice_get cells 0 ≡ None
      → head.input < queues.ports → queue_for queues head.input head.output ≡ q
      → ((j : ℕ) → Has outputs j ↔ ((j ≢ head.output) × Names (row_of (rows_of queues) head.input) 0 Uni j))
      → rows_asking (rows_of queues) head.input outputs ≡ rows_of changed
  unfolding rows_of
  rows-less head outputs inside first none i_in place are =
      let i = head.input in
      let before : (a b : ℕ) → queue_for queues a b ≡ q → is_asked queues a b ≡ is_between a b (Some head) =
      λ a b same. asked-before a b same ∙ ap (is_between a b) first in
      let after : (a b : ℕ) → queue_for queues a b ≡ q → is_asked changed a b ≡ false =
      λ a b same. asked-after a b inside same ∙ ap (is_between a b) none in
      rows_by-set queues.ports (is_asked queues) (is_asked changed) i outputs i_in
      (λ a b _ _ differ. elim (cases_eq (queue_for queues a b) q) [
        | inl same ↦ before a b same ∙ between-other a b head differ ∙ sym (after a b same)
        | inr other ↦ asked-there a b other
      ])
      (λ j. (
        λ has.
            let was = (are j).0 has in
            let p = (named i j i_in).0 was.1 in (
              p.0,
              elim (cases_eq (queue_for queues i j) q) [
                | inl same ↦ absurd (was.0 (sym (between-is i j head (sym (before i j same) ∙ p.1)).1))
                | inr other ↦ sym (asked-there i j other) ∙ p.1
              ],
            ),
        λ p. elim (cases_eq (queue_for queues i j) q) [
          | inl same ↦ absurd (let no = after i j same in let yes = p.1 in cc)
          | inr other ↦ (are j).1 (λ is. other (ap (queue_for queues i) is ∙ place), (named i j i_in).1 (p.0, asked-there i j other ∙ p.1))
        ],
      ))

-- ---- before a cell came
no_set : (n : ℕ) (asks : ℕ → Bool) → ((j : ℕ) → asks j ≡ false) → set_of n asks ≡ 0
no_set n asks none = zero-no_members (set_of n asks) (λ j has. let yes = ((Has-set_of n asks j).0 has).1 in let no = none j in absurd cc)

pub rows-empty : (queueing : Queueing) (ports depth : ℕ) → replicate ports empty_row ≡ rows_of (empty_queues queueing ports depth)
unfolding rows_of
rows-empty queueing ports depth =
    let empty = empty_queues queueing ports depth in
    same_lists (replicate ports empty_row) (rows_by ports (is_asked empty))
    (length-replicate ports empty_row ∙ sym (length-map-range_with_len (λ k. row_asking (set_of ports (is_asked empty k))) 0 ports))
    (λ k d inside.
    let k_in : k < ports = omega (arith, length-replicate ports empty_row, inside) in
    get_or-replicate ports k empty_row d k_in
    ∙ ap row_asking (sym (no_set ports (is_asked empty k)
    (λ j. ap (λ xs. is_between k j (slice_get xs 0)) (get_or-same {X = List ArrivedCell} [] (queue_count queueing ports) (queue_for empty k j)))))
    ∙ sym (row-at ports (is_asked empty) k d k_in))

-- ---- the rows name none but the ports
named_in : (outputs level j : ℕ) (kind : Kind) → Names (row_asking outputs) level kind j → (level ≡ 0) × Has outputs j
named_in outputs zero j Uni names = (refl, names)
named_in outputs (suc zero) j Uni names = absurd (no_member-zero j names)
named_in outputs (suc (suc zero)) j Uni names = absurd (no_member-zero j names)
named_in outputs (suc (suc (suc zero))) j Uni names = absurd (no_member-zero j names)
named_in outputs (suc (suc (suc (suc level)))) j Uni names = absurd (no_member-zero j names)
named_in outputs level j Multi names = absurd (no_members 4 level j names)

pub rows-within : (queues : Queues) → AreWithin queues.ports (rows_of queues)
unfolding rows_of
rows-within queues =
    let n = queues.ports in
    let asks = is_asked queues in record {
      count = length-map-range_with_len (λ k. row_asking (set_of n (asks k))) 0 n;
      ports = λ i i_in level j kind names.
          let here = named_in (set_of n (asks i)) level j kind (rw (row-at n asks i no_row i_in) at names) in
          ((Has-set_of n (asks i) j).0 here.1).0;
      levels = λ i i_in level j kind names.
          let here = named_in (set_of n (asks i)) level j kind (rw (row-at n asks i no_row i_in) at names) in
          omega (arith, here.0);
    }
