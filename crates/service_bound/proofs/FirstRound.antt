-- The first round of a slot whose rows name nothing at a better level: who asks, who is granted, who accepts.
use Rattle.std.proofs.Common.{◌≡◌, ℕ, ◌<◌, ◌≤◌, ◌↔◌, List, inl, inr}
use Rattle.std.proofs.lemmas.Bool.{cases_lt}
use Rattle.rotating_pick.specs.Rotation.{IsFirstFrom}
use Rattle.rotating_pick.specs.declared.kinds.Kind.{Kind}
use Rattle.rotating_pick.specs.declared.limits.TheConstants.{LEVELS}
use Rattle.rotating_pick.proofs.First.{IsFirstFrom-along}
use Rattle.slot_match.specs.declared.rows.Row.{Row}
use Rattle.slot_match.specs.Rows.{Names, row_of}
use Rattle.slot_match.specs.Matches.{unmatched}
use Rattle.slot_match.proofs.Kept.{fed_of-unmatched, nobody_at_first}
use Rattle.pointer_state.specs.Places.{Places}
use Rattle.eslip_rounds.specs.Rounds.{Asks, preferred, from_of, Requests, IsBest, Grants}
use Rattle.service_bound.specs.Windows.{IsClean}

-- the kind comes first in the slot: where some row names an output with the preferred kind at the level, it is that kind
pub record IsFirstKind (n t : ℕ) (rows : List Row) (level : ℕ) (kind : Kind) : Type 0 where
  pub preferred_first : (i j : ℕ) → i < n → Names (row_of rows i) level (preferred t) j → kind ≡ preferred t

-- all inputs are free, so what is asked is asked by the rows
pub asks_at_first : (n : ℕ) (rows : List Row) (i j level : ℕ) (kind : Kind) → Requests rows (unmatched n) i j level kind → Asks (row_of rows i) j level kind
asks_at_first n rows i j level kind r =
    elim r [ inl free ↦ free.1 | inr on ↦ let some = on.going_on.some in absurd (nobody_at_first n i some.0 level _ some.1) ]

module _ (n t : ℕ) (rows : List Row) (places : Places) (level : ℕ) (level_in : level < LEVELS) (clean : IsClean n level rows) where
  -- what is named at the level is asked
  asked : (i j : ℕ) (kind : Kind) → i < n → Names (row_of rows i) level kind j → Requests rows (unmatched n) i j level kind
  asked i j kind i_in named =
      inl (nobody_at_first n i, record { level_in = level_in; named = named; best = λ better other less there. clean i better j other i_in less there })

  -- and nothing is asked at a better one
  not_better : (i j other : ℕ) (kind : Kind) → i < n → Requests rows (unmatched n) i j other kind → level ≤ other
  not_better i j other kind i_in r =
      elim (cases_lt other level) [ inl better ↦ absurd (clean i other j kind i_in better (asks_at_first n rows i j other kind r).named) | inr worse ↦ worse ]

  named_iff_asked : (kind : Kind) (j i : ℕ) → i < n → Names (row_of rows i) level kind j ↔ Requests rows (unmatched n) i j level kind
  named_iff_asked kind j i i_in = (λ named. asked i j kind i_in named, λ r. (asks_at_first n rows i j level kind r).named)

  module _ (kind : Kind) (first_kind : IsFirstKind n t rows level kind) where
    -- an output grants the first input from its pointer on that names it
    pub grants_first : (i j : ℕ) → j < n → IsFirstFrom n (from_of places j level kind) (λ x. Names (row_of rows x) level kind j) i
        → Grants n t rows places (unmatched n) i j level kind
    grants_first i j j_in first =
        record {
          output_in = j_in;
          output_free = fed_of-unmatched n j;
          best = record {
            there = (i, first.below, asked i j kind first.below first.member);
            least = λ other also some. not_better some.0 j other also some.1 some.2;
            preferred_first = λ some. first_kind.preferred_first some.0 j some.1 (asks_at_first n rows some.0 j level (preferred t) some.2).named;
          };
          first = IsFirstFrom-along n (from_of places j level kind) (λ x. Names (row_of rows x) level kind j)
              (λ x. Requests rows (unmatched n) x j level kind) i (named_iff_asked kind j) first;
        }

    -- and no other
    pub first_granted : (i j : ℕ) → Grants n t rows places (unmatched n) i j level kind
        → IsFirstFrom n (from_of places j level kind) (λ x. Names (row_of rows x) level kind j) i
    first_granted i j granted =
        IsFirstFrom-along n (from_of places j level kind) (λ x. Requests rows (unmatched n) x j level kind) (λ x. Names (row_of rows x) level kind j) i
        (λ x x_in. ((named_iff_asked kind j x x_in).1, (named_iff_asked kind j x x_in).0)) granted.first

    -- an input that is granted at the level accepts there
    pub accepts_there : (i j : ℕ) → Grants n t rows places (unmatched n) i j level kind
        → IsBest t (λ m k. (y : ℕ) × Grants n t rows places (unmatched n) i y m k) level kind
    accepts_there i j granted =
        record {
          there = (j, granted);
          least = λ other also some. let first = some.1.first in not_better i some.0 other also first.below first.member;
          preferred_first = λ some. let first = some.1.first in
              first_kind.preferred_first i some.0 first.below (asks_at_first n rows i some.0 level (preferred t) first.member).named;
        }
