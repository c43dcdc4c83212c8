-- A row that has sets for four levels names no output at another.
use Rattle.std.proofs.Common.{◌≡◌, length, subst, inl, inr, arith}
use Rattle.std.proofs.lemmas.Bool.{cases_lt}
use Rattle.std.proofs.lemmas.List.{get_or_past}
use Rattle.rotating_pick.specs.PortSets.{Has}
use Rattle.rotating_pick.proofs.Bits.{no_member-zero}
use Rattle.rotating_pick.specs.declared.kinds.Kind.TheVariants.{Uni, Multi}
use Rattle.rotating_pick.specs.declared.limits.TheConstants.{LEVELS}
use Rattle.slot_match.specs.declared.rows.Row.{Row}
use Rattle.slot_match.specs.Rows.{IsOfLevels}

pub IsOfLevels-sized : (row : Row) → length row.uni ≡ LEVELS → length row.multi ≡ LEVELS → IsOfLevels row
IsOfLevels-sized row uni multi level j Uni names =
    elim (cases_lt level LEVELS) [
      | inl below ↦ below
      | inr above ↦ absurd (no_member-zero j (subst (λ set. Has set j) (get_or_past row.uni level 0 (omega arith)) names))
    ]
IsOfLevels-sized row uni multi level j Multi names =
    elim (cases_lt level LEVELS) [
      | inl below ↦ below
      | inr above ↦ absurd (no_member-zero j (subst (λ set. Has set j) (get_or_past row.multi level 0 (omega arith)) names))
    ]
