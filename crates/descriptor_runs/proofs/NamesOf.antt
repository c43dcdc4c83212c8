-- The names of the cells that inputs are granted.
use Rattle.std.proofs.Common.{◌≡◌, ◌∙◌, ℕ, ◌<◌, ◌==◌, ◌↔◌, ◌⊎◌, if◌then◌else◌, List, length, set, Option, None, Some, replicate, refl, sym, ap, arith, inl, inr}
use Rattle.std.proofs.Common.{slice_index_or, get_or-set_same, get_or-set_other}
use Rattle.std.specs.Int.{bit_at}
use Rattle.std.proofs.lemmas.Bool.{cases_eq, eq-eqb, ne_eqb}
use Rattle.std.proofs.lemmas.List.{length-set, get_or-replicate}
use Rattle.std.proofs.lemmas.List.FromFn.{fill_by_all, get_or-map-range_with_len, length-map-range_with_len}
use Rattle.rotating_pick.specs.PortSets.{Has}
use Rattle.rotating_pick.specs.declared.limits.TheConstants.{MAX_PORTS}
use Rattle.rotating_pick.proofs.Bits.{no_member-zero}
use Rattle.slot_match.proofs.Sets.{Has-bit}
use Rattle.cell_cutter.specs.declared.cell.CellName.{CellName}
use Rattle.descriptor_runs.specs.PortSteps.{no_name, names_of}

-- the name at a place
abbrev name-at : ℕ → List CellName → ℕ → Option CellName
name-at granted names i = if bit_at granted i == 1 then Some (slice_index_or names i no_name) else None

at-place : (granted : ℕ) (names : List CellName) (i : ℕ) → i < MAX_PORTS → slice_index_or (names_of granted names) i None ≡ name-at granted names i
at-place granted names i inside = get_or-map-range_with_len (name-at granted names) 0 MAX_PORTS i i None inside (omega arith)

member : (granted : ℕ) (names : List CellName) (i : ℕ) → Has granted i → name-at granted names i ≡ Some (slice_index_or names i no_name)
member granted names i has = ap (λ b. if b then Some (slice_index_or names i no_name) else None) (eq-eqb (bit_at granted i) 1 has)

no-member : (granted : ℕ) (names : List CellName) (i : ℕ) → (Has granted i → ⊥) → name-at granted names i ≡ None
no-member granted names i lacks = ap (λ b. if b then Some (slice_index_or names i no_name) else None) (ne_eqb (bit_at granted i) 1 lacks)

-- what is read of an input that is granted a cell, and of another
pub granted-name : (granted : ℕ) (names : List CellName) (i : ℕ) → i < MAX_PORTS → Has granted i
    → slice_index_or (names_of granted names) i None ≡ Some (slice_index_or names i no_name)
granted-name granted names i inside has = at-place granted names i inside ∙ member granted names i has

pub no-granted : (granted : ℕ) (names : List CellName) (i : ℕ) → i < MAX_PORTS → (Has granted i → ⊥)
    → slice_index_or (names_of granted names) i None ≡ None
no-granted granted names i inside lacks = at-place granted names i inside ∙ no-member granted names i lacks

-- where one more is granted a cell
pub names-put : (granted after : ℕ) (names : List CellName) (input : ℕ) (name : CellName) → length names ≡ MAX_PORTS → input < MAX_PORTS
    → ((y : ℕ) → Has after y ↔ ((y ≡ input) ⊎ Has granted y)) → names_of after (set names input name) ≡ set (names_of granted names) input (Some name)
names-put granted after names input name long inside more =
    let old = names_of granted names in
    let count : length old ≡ MAX_PORTS = length-map-range_with_len (name-at granted names) 0 MAX_PORTS in
    sym (fill_by_all (name-at after (set names input name)) (set old input (Some name)) MAX_PORTS None (length-set old input (Some name) ∙ count)
    (λ k below. elim (cases_eq k input) [
      | inl same ↦
          rw same (get_or-set_same old input (Some name) None (omega arith)
          ∙ (ap (λ n. Some n) (sym (get_or-set_same names input name no_name (omega arith)))
          ∙ sym (member after (set names input name) input ((more input).1 (inl refl)))))
      | inr apart ↦
          let bits : bit_at after k ≡ bit_at granted k =
          Has-bit after granted k (λ has. elim ((more k).0 has) [ inl same ↦ absurd (apart same) | inr was ↦ was ], λ has. (more k).1 (inr has)) in
          get_or-set_other old input k (Some name) None apart
          ∙ (at-place granted names k below
          ∙ (ap (λ b. if b == 1 then Some (slice_index_or names k no_name) else None) (sym bits)
          ∙ ap (λ n. if bit_at after k == 1 then Some n else None) (sym (get_or-set_other names input k name no_name apart))))
    ]))

-- and where none is
pub names-none : (names : List CellName) → names_of 0 names ≡ replicate MAX_PORTS None
names-none names =
    sym (fill_by_all (name-at 0 names) (replicate MAX_PORTS None) MAX_PORTS None refl
    (λ k below. get_or-replicate MAX_PORTS k None None below ∙ sym (no-member 0 names k (no_member-zero k))))
