-- Without multicast at the level: an input that is granted is served by its first grant, and an output whose grant is refused serves nobody.
use Rattle.std.proofs.Common.{◌≡◌, ℕ, zero, suc, ◌<◌, ◌≤◌, ◌↔◌, List, Option, refl, subst, inl, inr, arith}
use Rattle.std.proofs.lemmas.Bool.{cases_lt}
use Rattle.rotating_pick.specs.Rotation.{distance, IsFirstFrom}
use Rattle.rotating_pick.specs.declared.kinds.Kind.{Kind}
use Rattle.rotating_pick.specs.declared.kinds.Kind.TheVariants.{Uni, Multi}
use Rattle.rotating_pick.specs.declared.limits.TheConstants.{LEVELS}
use Rattle.rotating_pick.proofs.Circle.{distance-lt}
use Rattle.rotating_pick.proofs.First.{IsFirstFrom-only, IsFirstFrom-along}
use Rattle.slot_match.specs.declared.rows.Row.{Row}
use Rattle.slot_match.specs.declared.matching.Fed.{Fed}
use Rattle.slot_match.specs.Rows.{Names, row_of}
use Rattle.slot_match.specs.Matches.{unmatched, Serves}
use Rattle.slot_match.proofs.Kept.{fed_of-unmatched, nobody_at_first}
use Rattle.slot_match.proofs.Pairs.{Serves-decides}
use Rattle.pointer_state.specs.Places.{Places, ArePointing, grant_of, accept_of}
use Rattle.eslip_rounds.specs.Rounds.{preferred, Requests, IsBest, Grants, IsRound}
use Rattle.eslip_rounds.proofs.Deciding.{some_below}
use Rattle.service_bound.specs.Windows.{IsClean, IsWithoutMulticast, NamesBetter, IsQuietFor}
use Rattle.service_bound.proofs.FirstRound.{IsFirstKind, asks_at_first}

-- where some port has P, it is not so that none is first
some_first : (n from : ℕ) (P : ℕ → Type 0) → ((y : ℕ) → IsFirstFrom n from P y → ⊥) → (most y : ℕ) → y < n → P y → distance n from y < most → ⊥
some_first n from P none zero y y_in has near = omega arith
some_first n from P none (suc most) y y_in has near =
    none y (record {
      below = y_in;
      member = has;
      least = λ z z_in also. elim (cases_lt (distance n from z) (distance n from y)) [
        | inl nearer ↦ absurd (some_first n from P none most z z_in also (omega arith))
        | inr far ↦ far
      ];
    })

-- a row that names nothing better than unicast of the level
only_unicast : (row : Row) (level y : ℕ) (kind : Kind) → (NamesBetter row level y → ⊥) → Names row level kind y → Uni ≡ kind
only_unicast row level y Uni none named = refl
only_unicast row level y Multi none named = absurd (none (record { at = level; kind = Multi; better = inr (refl, refl); named = named }))

-- The first round of a slot in which output j is asked as unicast of the level alone.
module _ (n t level : ℕ) (rows : List Row) (first : List (Option Fed)) (places : Places) (level_in : level < LEVELS)
    (opening : IsRound n t rows places (unmatched n) first) (pointing : ArePointing n level places) (j : ℕ) (j_in : j < n)
    (quiet : IsQuietFor n level j rows) where
  -- what is asked so is granted or accepted before all else
  no_better : (x y at : ℕ) (kind : Kind) → (NamesBetter (row_of rows x) level y → ⊥) → Requests rows (unmatched n) x y at kind → level ≤ at
  no_better x y at kind none r =
      elim (cases_lt at level) [
        | inl less ↦ absurd (none (record { at = at; kind = kind; better = inl less; named = (asks_at_first n rows x y at kind r).named }))
        | inr worse ↦ worse
      ]

  named_iff_asked : (x : ℕ) → x < n → Names (row_of rows x) level Uni j ↔ Requests rows (unmatched n) x j level Uni
  named_iff_asked x x_in = (
    λ named. inl (
      nobody_at_first n x,
      record {
        level_in = level_in;
        named = named;
        best = λ better other less there. quiet.output x x_in (record { at = better; kind = other; better = inl less; named = there });
      },
    ),
    λ r. (asks_at_first n rows x j level Uni r).named,
  )

  -- the output grants the first input from its pointer on that names it
  pub quiet_grants : (h : ℕ) → IsFirstFrom n (grant_of places j level) (λ x. Names (row_of rows x) level Uni j) h
      → Grants n t rows places (unmatched n) h j level Uni
  quiet_grants h nearest =
      record {
        output_in = j_in;
        output_free = fed_of-unmatched n j;
        best = record {
          there = (h, nearest.below, (named_iff_asked h nearest.below).0 nearest.member);
          least = λ other also some. no_better some.0 j other also (quiet.output some.0 some.1) some.2;
          preferred_first = λ some. only_unicast (row_of rows some.0) level j (preferred t) (quiet.output some.0 some.1)
              (asks_at_first n rows some.0 j level (preferred t) some.2).named;
        };
        first = IsFirstFrom-along n (grant_of places j level) (λ x. Names (row_of rows x) level Uni j)
            (λ x. Requests rows (unmatched n) x j level Uni) h named_iff_asked nearest;
      }

  -- and no other
  quiet_granted : (h : ℕ) → Grants n t rows places (unmatched n) h j level Uni
      → IsFirstFrom n (grant_of places j level) (λ x. Names (row_of rows x) level Uni j) h
  quiet_granted h granted =
      IsFirstFrom-along n (grant_of places j level) (λ x. Requests rows (unmatched n) x j level Uni) (λ x. Names (row_of rows x) level Uni j) h
      (λ x x_in. ((named_iff_asked x x_in).1, (named_iff_asked x x_in).0)) granted.first

  -- an input that it grants is served by the first output from its pointer on that grants it
  pub quiet_served : (h : ℕ) → h < n → Grants n t rows places (unmatched n) h j level Uni → (y : ℕ)
      × IsFirstFrom n (accept_of places h level) (λ k. Grants n t rows places (unmatched n) h k level Uni) y × Serves first h y level Uni
  quiet_served h h_in granted =
      let named : Names (row_of rows h) level Uni j = (quiet_granted h granted).member in
      let none : (y : ℕ) → NamesBetter (row_of rows h) level y → ⊥ = λ y. quiet.inputs h y h_in named in
      let best : IsBest t (λ m k. (y : ℕ) × Grants n t rows places (unmatched n) h y m k) level Uni = record {
        there = (j, granted);
        least = λ other also some. no_better h some.0 other also (none some.0) some.1.first.member;
        preferred_first = λ some. only_unicast (row_of rows h) level some.0 (preferred t) (none some.0)
            (asks_at_first n rows h some.0 level (preferred t) some.1.first.member).named;
      } in
      elim (some_below (λ y. Serves first h y level Uni) (λ y. Serves-decides first h y level Uni) n) [
        | inl found ↦ elim ((opening.pairs h found.0 level Uni).0 found.2) [
          | inl old ↦ absurd (nobody_at_first n h found.0 level Uni old)
          | inr accepted ↦ (found.0, accepted.taken, found.2)
        ]
        | inr nobody ↦ absurd (some_first n (accept_of places h level) (λ k. Grants n t rows places (unmatched n) h k level Uni)
            (λ y nearest. nobody (y, nearest.below, (opening.pairs h y level Uni).1 (inr (record { best = best; taken = nearest })))) n j j_in granted
            (distance-lt n (accept_of places h level) j (pointing.accept h h_in)))
      ]

  -- where its grant is refused, it serves nobody as unicast of the level
  pub quiet_refused : (h y : ℕ) → h < n → Grants n t rows places (unmatched n) h j level Uni
      → IsFirstFrom n (accept_of places h level) (λ k. Grants n t rows places (unmatched n) h k level Uni) y → (y ≡ j → ⊥) → (x : ℕ)
      → Serves first x j level Uni → ⊥
  quiet_refused h y h_in granted nearest other x served =
      elim ((opening.pairs x j level Uni).0 served) [
        | inl old ↦ nobody_at_first n x j level Uni old
        | inr accepted ↦
            let same : x ≡ h = IsFirstFrom-only n (grant_of places j level) (λ z. Names (row_of rows z) level Uni j) x h (pointing.grant j j_in)
            (quiet_granted x accepted.taken.member) (quiet_granted h granted) in
            let P : ℕ → Type 0 = λ z. IsFirstFrom n (accept_of places z level) (λ k. Grants n t rows places (unmatched n) z k level Uni) j in
            other (IsFirstFrom-only n (accept_of places h level) (λ k. Grants n t rows places (unmatched n) h k level Uni) y j
            (pointing.accept h h_in) nearest (subst P same accepted.taken))
      ]

-- where nothing is named at a better level, and nothing as multicast of the level, each output is asked so
pub IsQuietFor-clean : (n level j : ℕ) (rows : List Row) → IsClean n level rows → IsWithoutMulticast n level rows → IsQuietFor n level j rows
IsQuietFor-clean n level j rows clean alone =
    let none : (i y : ℕ) → i < n → NamesBetter (row_of rows i) level y → ⊥ = λ i y i_in names. elim names.better [
      | inl less ↦ clean i names.at y names.kind i_in less names.named
      | inr multi ↦ alone i y i_in (subst (λ kind. Names (row_of rows i) level kind y) multi.1
          (subst (λ at. Names (row_of rows i) at names.kind y) multi.0 names.named))
    ] in
    record { output = λ i. none i j; inputs = λ i y i_in named. none i y i_in }

module _ (n t level : ℕ) (rows : List Row) (first : List (Option Fed)) (places : Places) (level_in : level < LEVELS)
    (opening : IsRound n t rows places (unmatched n) first) (pointing : ArePointing n level places) (clean : IsClean n level rows)
    (alone : IsWithoutMulticast n level rows) where
  -- what is named at the level is unicast
  pub kind_alone : (kind : Kind) (i j : ℕ) → i < n → Names (row_of rows i) level kind j → Uni ≡ kind
  kind_alone Uni i j i_in named = refl
  kind_alone Multi i j i_in named = absurd (alone i j i_in named)

  -- unicast comes first in every slot
  pub kind_is_first : IsFirstKind n t rows level Uni
  kind_is_first = record { preferred_first = kind_alone (preferred t) }

  -- an input that is granted is served by the first output from its pointer on that grants it
  pub served_by_first : (h j : ℕ) → h < n → Grants n t rows places (unmatched n) h j level Uni → (y : ℕ)
      × IsFirstFrom n (accept_of places h level) (λ k. Grants n t rows places (unmatched n) h k level Uni) y × Serves first h y level Uni
  served_by_first h j h_in granted =
      quiet_served n t level rows first places level_in opening pointing j granted.output_in (IsQuietFor-clean n level j rows clean alone) h h_in granted

  -- an output whose grant is refused serves nobody as unicast of the level
  pub refused : (h j y : ℕ) → Grants n t rows places (unmatched n) h j level Uni
      → IsFirstFrom n (accept_of places h level) (λ k. Grants n t rows places (unmatched n) h k level Uni) y → (y ≡ j → ⊥) → (x : ℕ)
      → Serves first x j level Uni → ⊥
  refused h j y granted =
      quiet_refused n t level rows first places level_in opening pointing j granted.output_in (IsQuietFor-clean n level j rows clean alone) h y
      granted.first.below granted
