-- Over a window at line rate, for three ports or more and any number of rounds: a request is served one slot sooner than in general.
use Rattle.std.proofs.Common.{◌≡◌, ℕ, ◌+◌, ◌-◌, ◌*◌, ◌<◌, ◌≤◌, ◌⊎◌, min, List, length, map, All, Any, ap, inl, inr, arith}
use Rattle.std.proofs.lemmas.Bool.{cases_lt}
use Rattle.rotating_pick.specs.Rotation.{distance}
use Rattle.rotating_pick.specs.declared.kinds.Kind.TheVariants.{Uni}
use Rattle.rotating_pick.proofs.Circle.{distance-lt}
use Rattle.rotating_pick.proofs.Picking.{distance-injective}
use Rattle.slot_match.specs.declared.rows.Row.{Row}
use Rattle.slot_match.specs.Rows.{Names, row_of}
use Rattle.slot_match.specs.Matches.{Serves}
use Rattle.pointer_state.specs.Places.{Places, ArePointing, grant_of, accept_of}
use Rattle.eslip_rounds.specs.Slots.{AreMoved}
use Rattle.eslip_rounds.specs.Schedules.{DecidedSlot}
use Rattle.service_bound.specs.Windows.{IsWithoutMulticast, InFirst, AreAtLineRate, IsWindow}
use Rattle.service_bound.specs.Waits.{noted_of, longest_wait, longest_service}
use Rattle.service_bound.proofs.Fresh.{fresh_for, fresh_of, fresh_of-most}
use Rattle.service_bound.proofs.LaterRounds.{first_of, BeginsWith-slot}
use Rattle.service_bound.proofs.InWindows.{AreMoved-keep, turn_of}
use Rattle.service_bound.proofs.Rank.{twice_longest, twice_rank-short, twice_rank-bound}
use Rattle.service_bound.proofs.RankFalls.{distances_of, twice_rank_of, falls, twice_rank_of-bound}
use Rattle.service_bound.proofs.LineRateClasses.{IsLower, other_asks}
use Rattle.service_bound.proofs.RankAtLineRate.{falls_lower}
use Rattle.service_bound.proofs.OneRoundServedAtLineRate.{ones_of}
use Rattle.service_bound.proofs.AllBelow.{longest_wait-below}
use Rattle.service_bound.proofs.Granting.{IsQuietFor-clean}
use Rattle.service_bound.proofs.Falling.{IsBound, bound_by, line_rate_rows, line_rate_in}

-- Where these rows are posted: the input asks, and so does one by which the rank, or in rows of either class the rank
-- less 1, is below `most`.
record AsksByLower (n level i j : ℕ) (places : Places) (most : ℕ) (rows : List Row) : Type 0 where
  named : Names (row_of rows i) level Uni j
  input : ℕ
  input_in : input < n
  asks : Names (row_of rows input) level Uni j
  below : (twice_rank_of n level places i j input < 2 * most) ⊎ ((twice_rank_of n level places i j input < 2 * most + 2) × IsLower n level i j places rows)

-- at first
begins_lower : (n level i j : ℕ) (places : Places) (rows : List Row) → 2 < n → ArePointing n level places → i < n → j < n → Names (row_of rows i) level Uni j
    → AsksByLower n level i j places (longest_service n - 1) rows
begins_lower n level i j places rows more pointing i_in j_in named =
    let from_in = pointing.grant j j_in in
    let far_in = distance-lt n (grant_of places j level) i from_in in
    let most = fresh_of-most n level places i j pointing j_in in
    let one : n * min (n - 1) 1 ≡ n * 1 = ap (λ v. n * v) (omega arith) in
    let few : fresh_of n level places i j ≤ n = omega (arith, most, one) in
    let short : (g : ℕ) → distance n (grant_of places j level) g ≤ distance n (grant_of places j level) i → (distance n (grant_of places j level) g + 1 < n)
    ⊎ (fresh_of n level places i j < n) → twice_rank_of n level places i j g + 4 ≤ twice_longest n
    = λ g within less. twice_rank-short n (distances_of n level places i j g) more far_in within few less in
    let own : (distance n (grant_of places j level) i + 1 < n) ⊎ (fresh_of n level places i j < n) → AsksByLower n level i j places (longest_service n - 1) rows
    = λ less. let lower = short i (omega arith) less in
    record { named = named; input = i; input_in = i_in; asks = named; below = inl (omega (arith, lower)) } in
    elim (cases_lt (distance n (grant_of places j level) i + 1) n) [
      | inl nearer ↦ own (inl nearer)
      | inr farthest ↦
          let far : distance n (grant_of places j level) i + 1 ≡ n = omega (arith, farthest, far_in) in
          elim (other_asks n level rows j i i) [
            | inl found ↦
                let place_in = distance-lt n (grant_of places j level) found.0 from_in in
                let differ : distance n (grant_of places j level) found.0 ≡ distance n (grant_of places j level) i
                → ⊥ = λ e. found.2.0 (distance-injective n (grant_of places j level) found.0 i from_in found.1 i_in e) in
                let lower = short found.0 (omega (arith, far, place_in)) (inl (omega (arith, far, place_in, differ))) in
                record { named = named; input = found.0; input_in = found.1; asks = found.3; below = inl (omega (arith, lower)) }
            | inr only ↦ elim (cases_lt (fresh_of n level places i j) n) [
              | inl fewer ↦ own (inr fewer)
              | inr all ↦
                  let turns : (x : ℕ) → x < n → distance n (accept_of places x level) j < n =
                  λ x x_in. distance-lt n (accept_of places x level) j (pointing.accept x x_in) in
                  let fresh : (x : ℕ) → x < n → distance n (accept_of places x level) j + 1 ≡ n = λ x x_in.
                  let some = ones_of (fresh_for n level places i j) n x x_in (λ y y_in. let turns_in = turns y y_in in omega (arith, turns_in)) in
                  let turns_in = turns x x_in in
                  omega (arith, some, turns_in, all) in
                  let bound = twice_rank_of-bound n level places i j pointing i_in j_in in
                  record {
                    named = named;
                    input = i;
                    input_in = i_in;
                    asks = named;
                    below = inr (
                      omega (arith, bound),
                      inl (record {
                        base = record { far = far; fresh = λ x x_in other. fresh x x_in };
                        only = λ x x_in asks. elim (only x x_in asks) [ inl same ↦ same | inr same ↦ same ];
                        passed = inl (fresh i i_in);
                      }),
                    );
                  }
            ]
          ]
    ]

-- in either class the rank is not 0
lower-more : (n level : ℕ) (places : Places) (rows : List Row) (i j g : ℕ) → 2 < n → IsLower n level i j places rows → 4 ≤ twice_rank_of n level places i j g
lower-more n level places rows i j g more lower = elim lower [
  | inl now ↦ let far = now.base.far in omega (arith, far, more)
  | inr late ↦ let far = late.1.base.far in omega (arith, far, more)
]

-- the bound is of two slots or more
longest-two : (n : ℕ) → 2 < n → 2 ≤ longest_service n
longest-two n more =
    let bound = twice_rank-bound n (record { far = 2; near = 0; turns = 0; fresh = 0 }) (omega arith) (omega arith) (omega arith) in
    omega (arith, bound)

-- a slot of a window that leaves the request makes the rank lower
lower_bound : (n rounds level i j : ℕ) → 2 < n → 0 < rounds → i < n
    → IsBound (line_rate_rows n level) AreMoved n rounds level i j (longest_service n - 1)
lower_bound n rounds level i j more rounds_some i_in =
    bound_by (line_rate_rows n level) AreMoved n rounds level i j (longest_service n - 1) (record {
      AsksWithin = AsksByLower n level i j;
      keep = AreMoved-keep n level;
      positive = let two = longest-two n more in omega (arith, two);
      begins = λ t places slot now held named.
          begins_lower n level i j places slot.rows more now.pointing i_in (now.within.ports i i_in level j Uni named) named;
      some = λ places most rows pointing within asks. elim asks.below [
        | inl below ↦ omega (arith, below)
        | inr lower ↦ let rank = lower-more n level places rows i j asks.input more lower.1 in let below = lower.0 in omega (arith, rank, below)
      ];
      falls = λ t places slot most now held left asks later gains on.
          let here = on i i_in asks.named left in
          elim asks.below [
            | inl below ↦
                let turn = turn_of n rounds t level places slot rounds_some (now.within.levels i i_in level j Uni asks.named) now in
                let by = falls n level turn i j asks.input (record {
                  input = i_in;
                  output = now.within.ports i i_in level j Uni asks.named;
                  other = asks.input_in;
                  quiet = IsQuietFor-clean n level j slot.rows held.0 held.1;
                  named = asks.named;
                  asks = asks.asks;
                  left = left;
                }) in
                let less = by.1.lower in
                record {
                  named = here;
                  input = by.0;
                  input_in = by.1.input_in;
                  asks = on by.0 by.1.input_in by.1.asks by.1.left;
                  below = inl (omega (arith, less, below));
                }
            | inr lower ↦
                let within = lower.0 in
                let by = falls_lower n t level slot.rows (first_of n now.decided.steps) slot.decision.matched places slot.decision.places (record {
                  level_in = now.within.levels i i_in level j Uni asks.named;
                  begins = BeginsWith-slot n t slot.rows places AreMoved rounds slot.decision rounds_some now.decided;
                  moved = now.decided.moved;
                  pointing = now.pointing;
                  clean = held.0;
                  alone = held.1;
                  more = more;
                }) later i j asks.input (record {
                  input_in = i_in;
                  output_in = now.within.ports i i_in level j Uni asks.named;
                  other_in = asks.input_in;
                  named = asks.named;
                  asks = asks.asks;
                  left = left;
                  on = on;
                  gains = gains;
                }) lower.1 in
                record {
                  named = here;
                  input = by.input;
                  input_in = by.input_in;
                  asks = by.asks;
                  below = elim by.lower [
                    | inl two ↦ inl (omega (arith, two, within))
                    | inr again ↦ let one = again.0 in inr (omega (arith, one, within), again.1)
                  ];
                }
          ];
    })

-- one slot less is enough
pub served_at_line_rate : (n rounds t level i j : ℕ) (places : Places) (slots : List DecidedSlot) → 2 < n → 0 < rounds → i < n
    → IsWindow n rounds t level places slots → All (λ slot. IsWithoutMulticast n level slot.rows) slots → AreAtLineRate n level slots
    → InFirst (λ rows. Names (row_of rows i) level Uni j) slots
    → longest_service n ≤ length slots + 1 → Any (λ slot. Serves slot.decision.matched i j level Uni) slots
served_at_line_rate n rounds t level i j places slots more some i_in window alone gains named long =
    (lower_bound n rounds level i j more some i_in).served t places slots
    (line_rate_in AreMoved n rounds t level places slots (record { window = window; alone = alone }) gains) named (omega (arith, long))

-- and no queue waits for as many
pub longest_wait-at_line_rate : (n rounds t level : ℕ) (places : Places) (slots : List DecidedSlot) → 2 < n → 0 < rounds
    → IsWindow n rounds t level places slots → All (λ slot. IsWithoutMulticast n level slot.rows) slots → AreAtLineRate n level slots
    → longest_wait n level (map noted_of slots) + 1 < longest_service n
longest_wait-at_line_rate n rounds t level places slots more some window alone gains =
    let two = longest-two n more in
    let so = line_rate_in AreMoved n rounds t level places slots (record { window = window; alone = alone }) gains in
    let below = longest_wait-below n level (longest_service n - 1) (map noted_of slots) (omega (arith, two))
    (λ i j i_in j_in. (lower_bound n rounds level i j more some i_in).waits t places slots so) in
    omega (arith, below)
