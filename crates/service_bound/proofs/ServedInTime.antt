-- Over slots in which an output is asked as unicast of the level alone the rank of a request falls until it is served.
use Rattle.std.proofs.Common.{ℕ, ◌*◌, ◌<◌, List, arith}
use Rattle.rotating_pick.specs.declared.kinds.Kind.TheVariants.{Uni}
use Rattle.slot_match.specs.declared.rows.Row.{Row}
use Rattle.slot_match.specs.Rows.{Names, row_of}
use Rattle.pointer_state.specs.Places.{Places}
use Rattle.eslip_rounds.specs.Slots.{AreMoved}
use Rattle.service_bound.specs.Waits.{longest_service}
use Rattle.service_bound.proofs.Rank.{twice_longest-some}
use Rattle.service_bound.proofs.InWindows.{AreMoved-keep, turn_of}
use Rattle.service_bound.proofs.RankFalls.{twice_rank_of, falls, twice_rank_of-bound}
use Rattle.service_bound.proofs.Falling.{IsBound, bound_by, quiet_rows}

-- Where these rows are posted: the input asks, and so does one by which the rank is below `most`.
record AsksBy (n level i j : ℕ) (places : Places) (most : ℕ) (rows : List Row) : Type 0 where
  named : Names (row_of rows i) level Uni j
  input : ℕ
  input_in : input < n
  asks : Names (row_of rows input) level Uni j
  below : twice_rank_of n level places i j input < 2 * most

-- the longest service is slots enough for a request, and no wait reaches it
pub longest_service-bound : (n rounds level i j : ℕ) → 0 < rounds → i < n
    → IsBound (quiet_rows n level j) AreMoved n rounds level i j (longest_service n)
longest_service-bound n rounds level i j rounds_some i_in =
    bound_by (quiet_rows n level j) AreMoved n rounds level i j (longest_service n) (record {
      AsksWithin = AsksBy n level i j;
      keep = AreMoved-keep n level;
      positive = let least = twice_longest-some n (omega arith) in omega (arith, least);
      begins = λ t places slot now quiet named.
          let bound = twice_rank_of-bound n level places i j now.pointing i_in (now.within.ports i i_in level j Uni named) in
          record { named = named; input = i; input_in = i_in; asks = named; below = omega (arith, bound) };
      some = λ places most rows pointing within asks. let below = asks.below in omega (arith, below);
      falls = λ t places slot most now quiet left asks later follow on.
          let turn = turn_of n rounds t level places slot rounds_some (now.within.levels i i_in level j Uni asks.named) now in
          let by = falls n level turn i j asks.input (record {
            input = i_in;
            output = now.within.ports i i_in level j Uni asks.named;
            other = asks.input_in;
            quiet = quiet;
            named = asks.named;
            asks = asks.asks;
            left = left;
          }) in
          let lower = by.1.lower in
          let below = asks.below in
          record {
            named = on i i_in asks.named left;
            input = by.0;
            input_in = by.1.input_in;
            asks = on by.0 by.1.input_in by.1.asks by.1.left;
            below = omega (arith, lower, below);
          };
    })
