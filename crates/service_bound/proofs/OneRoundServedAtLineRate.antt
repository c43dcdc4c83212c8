-- Over a window of one round at line rate, for three ports or more: a request is served one slot sooner than in general.
use Rattle.std.proofs.Common.{◌≡◌, ℕ, ◌+◌, ◌-◌, ◌*◌, ◌<◌, ◌≤◌, ◌⊎◌, min, List, map, ap, inl, inr, arith}
use Rattle.std.proofs.lemmas.Bool.{cases_eq}
use Rattle.rotating_pick.specs.Rotation.{distance}
use Rattle.rotating_pick.specs.declared.kinds.Kind.TheVariants.{Uni}
use Rattle.rotating_pick.proofs.Circle.{distance-lt}
use Rattle.slot_match.specs.declared.rows.Row.{Row}
use Rattle.slot_match.specs.Rows.{Names, row_of}
use Rattle.pointer_state.specs.Places.{Places, grant_of, accept_of}
use Rattle.eslip_rounds.specs.Decisions.{is_named}
use Rattle.eslip_rounds.specs.Slots.{AreMoved}
use Rattle.eslip_rounds.specs.Schedules.{DecidedSlot}
use Rattle.eslip_rounds.proofs.Testing.{Decides-named}
use Rattle.service_bound.specs.Windows.{AreAtLineRate}
use Rattle.service_bound.specs.Waits.{noted_of, longest_wait, longest_service_in_one_round}
use Rattle.service_bound.proofs.Sums.{sum_below, sum_below-less, sum_below-two, sum_below-most}
use Rattle.service_bound.proofs.Fresh.{fresh_for, fresh_of-most}
use Rattle.service_bound.proofs.InWindows.{AreMoved-keep, turn_of}
use Rattle.service_bound.proofs.OneRoundRank.{silent_at-most, silent_at-own, silent_at-after, one_rank-bound, one_rank-greatest}
use Rattle.service_bound.proofs.Granting.{IsQuietFor-clean}
use Rattle.service_bound.proofs.OneRound.{silent_for, silent_of-lt, one_distances_of, one_rank_of, IsNearest, nearest_of, IsAtPorts, OneLeft, one_falls}
use Rattle.service_bound.proofs.OneRound.{one_in_slot, one_rank_of-bound}
use Rattle.service_bound.proofs.LineRateClasses.{IsAlone, IsLower}
use Rattle.service_bound.proofs.OneRoundAtLineRate.{falls_at_line_rate}
use Rattle.service_bound.proofs.AllBelow.{longest_wait-below}
use Rattle.service_bound.proofs.Falling.{IsBound, bound_by, line_rate_rows, line_rate_in, IsUnicastWindow}

-- a sum of ones is as great as it can be only where each is 1
pub ones_of : (f : ℕ → ℕ) (m x : ℕ) → x < m → ((y : ℕ) → y < m → f y ≤ 1) → sum_below f m + 1 ≤ m + f x
ones_of f m x x_in all =
    let sums = sum_below-less f (λ y. 1) m x x_in all in
    let ones = sum_below-most (λ y. 1) m 1 (λ y y_in. omega arith) in
    omega (arith, sums, ones)

-- of two inputs that are not silent, the sum is less by two
not_silent : (f : ℕ → ℕ) (m x i : ℕ) → x < m → i < m → (x ≡ i → ⊥) → ((y : ℕ) → y < m → f y ≤ 1) → sum_below f m + 2 ≤ m + (f x + f i)
not_silent f m x i x_in i_in other all =
    let sums = sum_below-two f (λ y. 1) m x i x_in i_in other all in
    let ones = sum_below-most (λ y. 1) m 1 (λ y y_in. omega arith) in
    omega (arith, sums, ones)

-- where the rank is greatest, the rows are of class A
begins_alone : (n level : ℕ) (places : Places) (rows : List Row) (i j g : ℕ) → 2 < n → IsAtPorts n level places i j
    → (one_rank_of n level places rows i j g + 2 ≤ longest_service_in_one_round n) ⊎ IsAlone n level i j places rows
begins_alone n level places rows i j g more at =
    let far_in = distance-lt n (grant_of places j level) i (at.pointing.grant j at.output) in
    let few = fresh_of-most n level places i j at.pointing at.output in
    let one : n * min (n - 1) 1 ≡ n * 1 = ap (λ v. n * v) (omega arith) in
    elim (one_rank-greatest n (one_distances_of n level places rows i j g) more far_in (silent_of-lt n level places rows i j at.input)
    (omega (arith, few, one))) [
      | inl less ↦ inl less
      | inr greatest ↦
          let turns : (x : ℕ) → x < n → distance n (accept_of places x level) j < n =
          λ x x_in. distance-lt n (accept_of places x level) j (at.pointing.accept x x_in) in
          let fresh : (x : ℕ) → x < n → distance n (accept_of places x level) j + 1 ≡ n = λ x x_in.
          let some = ones_of (fresh_for n level places i j) n x x_in (λ y y_in. let turns_in = turns y y_in in omega (arith, turns_in)) in
          let turns_in = turns x x_in in
          let all = greatest.2 in
          omega (arith, some, turns_in, all) in
          inr (record {
            base = record { far = greatest.0; fresh = λ x x_in other. fresh x x_in };
            only = λ x x_in asks. elim (cases_eq x i) [
              | inl same ↦ same
              | inr other ↦
                  let less = not_silent (silent_for n level places rows i j) n x i x_in at.input other
                  (λ y y_in. silent_at-most (distance n (grant_of places j level) i) (distance n (grant_of places j level) y)
                  (is_named (row_of rows y) level Uni j)) in
                  let zero = silent_at-after (distance n (grant_of places j level) i) (distance n (grant_of places j level) x)
                  (is_named (row_of rows x) level Uni j) ((Decides-named (row_of rows x) level Uni j).1 asks) in
                  let own = silent_at-own (distance n (grant_of places j level) i) (is_named (row_of rows i) level Uni j) in
                  let all = greatest.1 in
                  absurd (omega (arith, less, zero, own, all))
            ];
            passed = inl (fresh i at.input);
          })
    ]

-- Where these rows are posted: the input asks, and the rank, or in rows of either class the rank less 1, is below `most`.
record AsksWithinLower (n level i j : ℕ) (places : Places) (most : ℕ) (rows : List Row) : Type 0 where
  named : Names (row_of rows i) level Uni j
  below : (g : ℕ) → IsNearest n level places rows j g → (one_rank_of n level places rows i j g < most)
      ⊎ ((one_rank_of n level places rows i j g ≤ most) × IsLower n level i j places rows)

-- in either class the rank is not 0
lower-some : (n level : ℕ) (places : Places) (rows : List Row) (i j g : ℕ) → 2 < n → IsLower n level i j places rows → 0 < one_rank_of n level places rows i j g
lower-some n level places rows i j g more lower = elim lower [
  | inl now ↦ let far = now.base.far in omega (arith, far, more)
  | inr late ↦ let far = late.1.base.far in omega (arith, far, more)
]

-- the bound is of two slots or more
longest-two : (n : ℕ) → 2 < n → 2 ≤ longest_service_in_one_round n
longest-two n more =
    let bound = one_rank-bound n (record { far = 1; silent = 0; turns = 0; fresh = 0 }) (omega arith) (omega arith) (omega arith) in
    omega (arith, bound)

-- one slot less is enough, and no wait reaches as many
pub one_bound-at_line_rate : (n level i j : ℕ) → 2 < n → i < n
    → IsBound (line_rate_rows n level) AreMoved n 1 level i j (longest_service_in_one_round n - 1)
one_bound-at_line_rate n level i j more i_in =
    bound_by (line_rate_rows n level) AreMoved n 1 level i j (longest_service_in_one_round n - 1) (record {
      AsksWithin = AsksWithinLower n level i j;
      keep = AreMoved-keep n level;
      positive = let two = longest-two n more in omega (arith, two);
      begins = λ t places slot now held named. record {
        named = named;
        below = λ g nearest.
            let at : IsAtPorts n level places i j = record {
              pointing = now.pointing;
              input = i_in;
              output = now.within.ports i i_in level j Uni named;
            } in
            let bound = one_rank_of-bound n level places slot.rows i j g at in
            elim (begins_alone n level places slot.rows i j g more at) [
              | inl less ↦ inl (omega (arith, less))
              | inr alone ↦ inr (omega (arith, bound), inl alone)
            ];
      };
      some = λ places most rows pointing within asks.
          let from_in = pointing.grant j (within.ports i i_in level j Uni asks.named) in
          let nearest = nearest_of n level places rows i j from_in i_in asks.named in
          elim (asks.below nearest.0 nearest.1) [
            | inl below ↦ omega (arith, below)
            | inr lower ↦ let rank = lower-some n level places rows i j nearest.0 more lower.1 in let within = lower.0 in omega (arith, rank, within)
          ];
      falls = λ t places slot most now held left asks later gains on.
          let j_in = now.within.ports i i_in level j Uni asks.named in
          let turn = turn_of n 1 t level places slot (omega arith) (now.within.levels i i_in level j Uni asks.named) now in
          let nearest = nearest_of n level places slot.rows i j (now.pointing.grant j j_in) i_in asks.named in
          record {
            named = on i i_in asks.named left;
            below = λ h next.
                let asked : OneLeft n level turn later i j = record {
                  one = one_in_slot n t places slot now.decided;
                  input = i_in;
                  output = j_in;
                  quiet = IsQuietFor-clean n level j slot.rows held.0 held.1;
                  named = asks.named;
                  left = left;
                  on = on;
                  now = nearest.0;
                  nearest = nearest.1;
                  next = h;
                  nearest_next = next;
                } in
                let falls = one_falls n level turn later i j asked in
                elim (asks.below nearest.0 nearest.1) [
                  | inl below ↦ inl (omega (arith, falls, below))
                  | inr lower ↦
                      let within = lower.0 in
                      elim (falls_at_line_rate n level turn later i j asked
                      (record { more = more; clean = held.0; alone = held.1; gains = gains }) lower.1) [
                        | inl two ↦ inl (omega (arith, two, within))
                        | inr again ↦ inr (omega (arith, falls, within), again.1)
                      ]
                ];
          };
    })

-- so the longest of all waits is below it in a window at line rate
pub one_longest_wait-at_line_rate : (n t level : ℕ) (places : Places) (slots : List DecidedSlot) → 2 < n → IsUnicastWindow AreMoved n 1 t level places slots
    → AreAtLineRate n level slots → longest_wait n level (map noted_of slots) + 1 < longest_service_in_one_round n
one_longest_wait-at_line_rate n t level places slots more is gains =
    let two = longest-two n more in
    let below = longest_wait-below n level (longest_service_in_one_round n - 1) (map noted_of slots) (omega (arith, two))
    (λ i j i_in j_in. (one_bound-at_line_rate n level i j more i_in).waits t places slots (line_rate_in AreMoved n 1 t level places slots is gains)) in
    omega (arith, below)
