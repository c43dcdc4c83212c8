-- The columns of the rows, filled set after set.
use Rattle.std.proofs.Common.{◌≡◌, ◌≢◌, ℕ, ◌+◌, ◌<◌, ◌↔◌, ◌∙◌, List, [], length, slice_index, slice_set, sym, ap, subst, inl, inr, arith, length-set}
use Rattle.std.proofs.Common.{get_or-set_same, get_or-set_other}
use Rattle.std.proofs.lemmas.Bool.{cases_eq}
use Rattle.rotating_pick.specs.PortSets.{Has}
use Rattle.rotating_pick.specs.declared.kinds.Kind.{Kind}
use Rattle.rotating_pick.specs.declared.kinds.Kind.TheVariants.{Uni}
use Rattle.slot_match.specs.declared.rows.Row.{Row}
use Rattle.slot_match.specs.Rows.{Names, row_of}
use Rattle.eslip_rounds.specs.declared.ranks.TheConstants.{SETS}
use Rattle.eslip_rounds.specs.RankSteps.{level_at, kind_at}
use Rattle.eslip_rounds.specs.Steps.{column_of}

-- of the first k sets the columns of those that are used are right
pub record AreFilled (n k : ℕ) (rows : List Row) (outputs : List ℕ) (columns : List (List ℕ)) : Type 0 where
  pub long : length columns ≡ SETS
  pub done : (s i j : ℕ) → s < k → slice_index outputs s ≢ 0 → j < n → Has (column_of columns s j) i
      ↔ ((i < n) × Names (row_of rows i) (level_at s) (kind_at Uni s) j)

pub AreFilled-first : (n : ℕ) (rows : List Row) (outputs : List ℕ) (columns : List (List ℕ)) → length columns ≡ SETS → AreFilled n 0 rows outputs columns
AreFilled-first n rows outputs columns long = record { long = long; done = λ s i j below. absurd (omega arith) }

-- what a row names in a set, by its level and kind
pub Names-at : (row : Row) (set level j : ℕ) (kind : Kind) → level ≡ level_at set → kind ≡ kind_at Uni set
    → Names row level kind j ↔ Names row (level_at set) (kind_at Uni set) j
Names-at row set level j kind level_is kind_is =
    let P : ℕ → Type 0 = λ l. Names row l kind j in
    let Q : Kind → Type 0 = λ q. Names row (level_at set) q j in
    (λ h. subst Q kind_is (subst P level_is h), λ h. subst P (sym level_is) (subst Q (sym kind_is) h))

module _ (n k : ℕ) (rows : List Row) (outputs : List ℕ) (columns : List (List ℕ)) (known : AreFilled n k rows outputs columns) where
  pub AreFilled-put : (level : ℕ) (kind : Kind) (cells : List ℕ) → level ≡ level_at k → kind ≡ kind_at Uni k → k < SETS
      → ((i j : ℕ) → j < n → Has (slice_index cells j) i ↔ ((i < n) × Names (row_of rows i) level kind j))
      → AreFilled n (k + 1) rows outputs (slice_set columns k cells)
  AreFilled-put level kind cells level_is kind_is k_in right =
      let inside : k < length columns = let long = known.long in omega arith in
      record {
        long = length-set columns k cells ∙ known.long;
        done = λ s i j below used j_in. elim (cases_eq s k) [
          | inl here ↦
              let same : column_of (slice_set columns k cells) k j ≡ slice_index cells j = ap (λ row. slice_index row j)
              (get_or-set_same columns k cells [] inside) in
              let e = Names-at (row_of rows i) k level j kind level_is kind_is in
              let P : ℕ → Type 0 = λ x. Has (column_of (slice_set columns k cells) x j) i ↔ ((i < n) × Names (row_of rows i) (level_at x) (kind_at Uni x) j) in
              subst P (sym here) (
                λ has. let p = (right i j j_in).0 (subst (λ set. Has set i) same has) in (p.0, e.0 p.1),
                λ p. subst (λ set. Has set i) (sym same) ((right i j j_in).1 (p.0, e.1 p.1)),
              )
          | inr apart ↦
              let d = known.done s i j (omega arith) used j_in in
              let kept : column_of (slice_set columns k cells) s j ≡ column_of columns s j = ap (λ row. slice_index row j)
              (get_or-set_other columns k s cells [] apart) in
              (λ has. d.0 (subst (λ set. Has set i) kept has), λ p. subst (λ set. Has set i) (sym kept) (d.1 p))
        ];
      }

  -- where no row names an output in the set
  pub AreFilled-skip : slice_index outputs k ≡ 0 → AreFilled n (k + 1) rows outputs columns
  AreFilled-skip none =
      record {
        long = known.long;
        done = λ s i j below used j_in. elim (cases_eq s k) [
          | inl here ↦ let P : ℕ → Type 0 = λ x. slice_index outputs x ≡ 0 in absurd (used (subst P (sym here) none))
          | inr apart ↦ known.done s i j (omega arith) used j_in
        ];
      }
