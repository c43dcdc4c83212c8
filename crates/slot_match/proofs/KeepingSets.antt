-- Keeping by the sets of a level.
use Rattle.std.proofs.Common.{◌≡◌, ℕ, ◌^◌, ◌<◌, ◌≤◌, ◌↔◌, true, eqb, length, slice_index, sym, subst, inl, inr, arith}
use Rattle.std.proofs.lemmas.Bool.{cases_lt, eqb-true, eq-eqb}
use Rattle.std.proofs.lemmas.List.{get_or_past}
use Rattle.rotating_pick.specs.PortSets.{Has}
use Rattle.rotating_pick.specs.declared.kinds.Kind.{Kind}
use Rattle.rotating_pick.specs.declared.kinds.Kind.TheVariants.{Uni, Multi}
use Rattle.rotating_pick.specs.declared.limits.TheConstants.{LEVELS}
use Rattle.slot_match.specs.declared.rows.Row.{Row}
use Rattle.slot_match.specs.Rows.{Names}
use Rattle.slot_match.specs.Keeping.{KeepsLevel, KeepsRest}
use Rattle.slot_match.proofs.Sets.{zero-has, Has-same, Has-some}

module _ (Given : ℕ → ℕ → Kind → Type 0) (old new : Row) (level uni rest : ℕ) (fits : rest < 2 ^ 64)
    (unis : (j : ℕ) → Has uni j ↔ (Names old level Uni j × (Given j level Uni → ⊥)))
    (rests : (j : ℕ) → Has rest j ↔ (Names old level Multi j × (Given j level Multi → ⊥))) where
  pub KeepsLevel-from : ((j : ℕ) → Has uni j → Names new level Uni j) → (((j : ℕ) → Has rest j → ⊥) → ⊥) → (eqb (slice_index new.multi level) rest ≡ true)
      ↔ KeepsLevel Given old new level
  KeepsLevel-from within some = (
    λ same.
        let e : slice_index new.multi level ≡ rest = eqb-true (slice_index new.multi level) rest same in record {
          uni = λ j named not_given. within j ((unis j).1 (named, not_given));
          multi = λ j named not_given y. (λ has. (rests y).0 (subst (λ set. Has set y) e has), λ p. subst (λ set. Has set y) (sym e) ((rests y).1 p));
        },
    λ keeps.
        let there = Has-some rest fits some in
        let p = (rests there.0).0 there.1 in
        eq-eqb (slice_index new.multi level) rest
        (Has-same (slice_index new.multi level) rest
        (λ y. let rule = keeps.multi there.0 p.0 p.1 y in (λ has. (rests y).1 (rule.0 has), λ has. rule.1 ((rests y).0 has)))),
  )

-- a row names no output past its levels
pub no_level : (row : Row) (level j : ℕ) (kind : Kind) → length row.uni ≡ LEVELS → length row.multi ≡ LEVELS → LEVELS ≤ level → Names row level kind j → ⊥
no_level row level j Uni unis multis above has = zero-has (slice_index row.uni level) j (get_or_past row.uni level 0 (omega arith)) has
no_level row level j Multi unis multis above has = zero-has (slice_index row.multi level) j (get_or_past row.multi level 0 (omega arith)) has

-- keeping at each level is keeping
pub KeepsRest-from : (Given : ℕ → ℕ → Kind → Type 0) (old new : Row) → length old.uni ≡ LEVELS → length old.multi ≡ LEVELS
    → ((level : ℕ) → level < LEVELS → KeepsLevel Given old new level) → KeepsRest Given old new
KeepsRest-from Given old new unis multis each =
    record {
      uni = λ level j named not_given. elim
          (cases_lt level LEVELS) [
            | inl below ↦ (each level below).uni j named not_given
            | inr above ↦ absurd
                (no_level old level j Uni unis multis above named)
          ];
      multi = λ level j named not_given. elim
          (cases_lt level LEVELS) [
            | inl below ↦ (each level below).multi j named not_given
            | inr above ↦ absurd
                (no_level old level j Multi unis multis above named)
          ];
    }

pub KeepsLevel-at : (Given : ℕ → ℕ → Kind → Type 0) (old new : Row) (level : ℕ) → KeepsRest Given old new → KeepsLevel Given old new level
KeepsLevel-at Given old new level keeps = record { uni = keeps.uni level; multi = keeps.multi level }
