-- Columns that are kept: what they say of the rows, and a change of one set of a row.
use Rattle.std.proofs.Common.{◌≡◌, ◌≢◌, ℕ, ◌<◌, ◌≤◌, ◌↔◌, ◌⊎◌, ◌∙◌, List, [], length, slice_index, slice_index_or, slice_set, take, replicate, refl}
use Rattle.std.proofs.Common.{sym, ap, subst, inl, inr, arith, get_or-set_same, get_or-set_other}
use Rattle.std.proofs.lemmas.Bool.{cases_eq, cases_lt}
use Rattle.std.proofs.lemmas.List.{get_or-take, length-take, get_or_past, get_or-replicate, length-replicate}
use Rattle.std_lemmas.proofs.Lists.{get_or-same}
use Rattle.rotating_pick.specs.declared.kinds.Kind.{Kind}
use Rattle.rotating_pick.specs.PortSets.{Has}
use Rattle.rotating_pick.specs.declared.kinds.Kind.TheVariants.{Uni, Multi}
use Rattle.rotating_pick.specs.declared.limits.TheConstants.{LEVELS, MAX_PORTS}
use Rattle.rotating_pick.proofs.Picking.{least}
use Rattle.slot_match.specs.declared.rows.Row.{Row}
use Rattle.slot_match.specs.Rows.{Names, sets_of, empty_row, no_row, row_of, AreWithin}
use Rattle.slot_match.proofs.Sets.{zero-has, Has-or}
use Rattle.rotating_pick.proofs.Bits.{zero-no_members}
use Rattle.rotating_pick.proofs.Tables.{no_members}
use Rattle.eslip_rounds.specs.declared.asks.Asks.{Asks}
use Rattle.eslip_rounds.specs.declared.ranks.TheConstants.{SETS}
use Rattle.eslip_rounds.specs.RankSteps.{level_at, kind_at}
use Rattle.eslip_rounds.specs.Steps.{AreAsks}
use Rattle.eslip_rounds.specs.ColumnSteps.{with_set, IsKeptSet, AreKept}

-- of the first n rows
pub row_of-take : (n : ℕ) (rows : List Row) (i : ℕ) → i < n → row_of (take n rows) i ≡ row_of rows i
row_of-take n rows i i_in = get_or-take n rows i no_row i_in

module _ (n : ℕ) (rows : List Row) (asks : Asks) (kept : AreKept n rows asks) (within : AreWithin n (take n rows)) where
  -- an input in a column names its output
  named_in : (set i j : ℕ) → set < SETS → j < MAX_PORTS → Has (slice_index (slice_index_or asks.columns set []) j) i
      ↔ ((i < n) × Names (row_of (take n rows) i) (level_at set) (kind_at Uni set) j)
  named_in set i j set_in j_in =
      let e = (kept.each set set_in).columns i j j_in in
      let P : Row → Type 0 = λ row. Names row (level_at set) (kind_at Uni set) j in (
        λ has. let p = e.0 has in (p.0, subst P (sym (row_of-take n rows i p.0)) p.1),
        λ p. e.1 (p.0, subst P (row_of-take n rows i p.0) p.1),
      )

  -- an output whose column is not empty is one of the switch's
  output_in : (set j : ℕ) → set < SETS → j < MAX_PORTS → slice_index (slice_index_or asks.columns set []) j ≢ 0 → j < n
  output_in set j set_in j_in some =
      let column = slice_index (slice_index_or asks.columns set []) j in
      elim (least (Has column) (Has-or column) n) [
        | inl found ↦ let p = (named_in set found.0 j set_in j_in).0 found.2 in within.ports found.0 p.0 (level_at set) j (kind_at Uni set) p.1
        | inr none ↦ absurd (some (zero-no_members column (λ i has. none i ((named_in set i j set_in j_in).0 has).0 has)))
      ]

  in_table : (set j : ℕ) → set < SETS → slice_index (slice_index_or asks.columns set []) j ≢ 0 → j < MAX_PORTS
  in_table set j set_in some =
      let long = (kept.each set set_in).long in
      elim (cases_lt j MAX_PORTS) [
        | inl below ↦ below
        | inr above ↦ absurd (some (get_or_past (slice_index_or asks.columns set []) j 0 (omega arith)))
      ]

  pub AreAsks-kept : AreAsks n (take n rows) asks
  AreAsks-kept =
      record {
        columns = λ set i j set_in used j_in. named_in set i j set_in (let few = kept.size in omega arith);
        outputs = λ set i j set_in i_in named.
            let j_in : j < n = within.ports i i_in (level_at set) j (kind_at Uni set) named in
            ((kept.each set set_in).outputs j).1 (λ none. zero-has _ i none ((named_in set i j set_in (let few = kept.size in omega arith)).1 (i_in, named)));
        outputs_in = λ set j set_in has. let some = ((kept.each set set_in).outputs j).0 has in output_in set j set_in (in_table set j set_in some) some;
      }

-- a set without columns, of rows that name nothing
pub IsKeptSet-first : (n : ℕ) (rows : List Row) (set : ℕ) (table : List ℕ) (named : ℕ) → length table ≡ MAX_PORTS
    → ((j : ℕ) → slice_index table j ≡ 0) → named ≡ 0 → ((i j : ℕ) → i < n → Names (row_of rows i) (level_at set) (kind_at Uni set) j → ⊥)
    → IsKeptSet n rows set table named
IsKeptSet-first n rows set table named long zeros none nobody =
    record {
      long = long;
      columns = λ i j j_in. (λ has. absurd (zero-has _ i (zeros j) has), λ p. absurd (nobody i j p.0 p.1));
      outputs = λ j. (λ has. absurd (zero-has named j none has), λ some. absurd (some (zeros j)));
    }

-- what the rows name where the row of one input is another one
pub Names-set : (rows : List Row) (input : ℕ) (row : Row) → input < length rows → (i j level : ℕ) (kind : Kind)
    → Names (row_of (slice_set rows input row) i) level kind j ↔ (((i ≡ input) × Names row level kind j) ⊎ ((i ≢ input) × Names (row_of rows i) level kind j))
Names-set rows input row inside i j level kind =
    let P : Row → Type 0 = λ r. Names r level kind j in
    elim (cases_eq i input) [
      | inl same ↦
          let here : row_of (slice_set rows input row) i ≡ row = ap (row_of (slice_set rows input row)) same
          ∙ get_or-set_same rows input row no_row inside in
          (λ has. inl (same, subst P here has), λ s. elim s [ inl mine ↦ subst P (sym here) mine.1 | inr other ↦ absurd (other.0 same) ])
      | inr apart ↦
          let there : row_of (slice_set rows input row) i ≡ row_of rows i = get_or-set_other rows input i row no_row apart in
          (λ has. inr (apart, subst P there has), λ s. elim s [ inl mine ↦ absurd (apart mine.0) | inr other ↦ subst P (sym there) other.1 ])
    ]

-- the columns of one set are kept for other rows that name the same there
pub IsKeptSet-along : (n : ℕ) (rows others : List Row) (set : ℕ) (table : List ℕ) (named : ℕ)
    → ((i j : ℕ) → Names (row_of others i) (level_at set) (kind_at Uni set) j ↔ Names (row_of rows i) (level_at set) (kind_at Uni set) j)
    → IsKeptSet n rows set table named → IsKeptSet n others set table named
IsKeptSet-along n rows others set table named same kept =
    record {
      long = kept.long;
      columns = λ i j j_in.
          let k = kept.columns i j j_in in
          (λ has. let p = k.0 has in (p.0, (same i j).1 p.1), λ p. k.1 (p.0, (same i j).0 p.1));
      outputs = kept.outputs;
    }

-- a row with one set replaced names in all other sets what it named
pub with_set-others : (row : Row) (level : ℕ) (kind : Kind) (outputs l : ℕ) (k : Kind) → (l ≡ level → k ≡ kind → ⊥)
    → slice_index (sets_of (with_set row level kind outputs) k) l ≡ slice_index (sets_of row k) l
with_set-others row level Uni outputs l Uni apart = get_or-set_other row.uni level l outputs 0 (λ same. apart same refl)
with_set-others row level Uni outputs l Multi apart = refl
with_set-others row level Multi outputs l Uni apart = refl
with_set-others row level Multi outputs l Multi apart = get_or-set_other row.multi level l outputs 0 (λ same. apart same refl)

-- as many rows are seen as the switch has ports
pub length-seen : (n : ℕ) (rows : List Row) → n ≤ MAX_PORTS → length rows ≡ MAX_PORTS → length (take n rows) ≡ n
length-seen n rows size long = omega (arith, length-take n rows)

-- no output is named by an empty row
nothing_named : (set j : ℕ) → Names empty_row (level_at set) (kind_at Uni set) j → ⊥
nothing_named set j = of_kind (kind_at Uni set) where
  of_kind : (kind : Kind) → Names empty_row (level_at set) kind j → ⊥
  of_kind Uni has = no_members LEVELS (level_at set) j has
  of_kind Multi has = no_members LEVELS (level_at set) j has

-- the tables of rows that name nothing
pub AreKept-first : (n : ℕ) (rows : List Row) (asks : Asks) → 0 < n → n ≤ MAX_PORTS → rows ≡ replicate MAX_PORTS empty_row
    → asks.columns ≡ replicate SETS (replicate MAX_PORTS 0) → asks.outputs ≡ replicate SETS 0 → AreKept n rows asks
AreKept-first n rows asks some size empty columns outputs =
    record {
      some = some;
      size = size;
      long = ap length empty ∙ length-replicate MAX_PORTS empty_row;
      sets = ap length columns ∙ length-replicate SETS (replicate {A = ℕ} MAX_PORTS 0);
      words = ap length outputs ∙ length-replicate {A = ℕ} SETS 0;
      each = λ set set_in.
          let table : slice_index_or asks.columns set [] ≡ replicate MAX_PORTS 0 = ap (λ c. slice_index_or c set []) columns
          ∙ get_or-replicate SETS set (replicate {A = ℕ} MAX_PORTS 0) [] set_in in
          IsKeptSet-first n rows set (slice_index_or asks.columns set []) (slice_index asks.outputs set)
          (ap length table ∙ length-replicate {A = ℕ} MAX_PORTS 0)
          (λ j. ap (λ c. slice_index c j) table ∙ get_or-same 0 MAX_PORTS j)
          (ap (λ o. slice_index o set) outputs ∙ get_or-same 0 SETS set)
          (λ i j i_in named.
          let row_is : row_of rows i ≡ empty_row = ap (λ r. row_of r i) empty ∙ get_or-replicate MAX_PORTS i empty_row no_row (omega arith) in
          let P : Row → Type 0 = λ row. Names row (level_at set) (kind_at Uni set) j in
          nothing_named set j (subst P row_is named));
    }
