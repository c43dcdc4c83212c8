-- Over a window of one round and without multicast the rank of a request falls until it is served, and no wait reaches the bound.
use Rattle.std.proofs.Common.{ℕ, ◌<◌, List, map, arith}
use Rattle.rotating_pick.specs.declared.kinds.Kind.TheVariants.{Uni}
use Rattle.slot_match.specs.declared.rows.Row.{Row}
use Rattle.slot_match.specs.Rows.{Names, row_of}
use Rattle.pointer_state.specs.Places.{Places}
use Rattle.eslip_rounds.specs.Slots.{AreMoved}
use Rattle.eslip_rounds.specs.Schedules.{DecidedSlot}
use Rattle.service_bound.specs.Waits.{noted_of, longest_wait, longest_service_in_one_round}
use Rattle.service_bound.proofs.InWindows.{AreMoved-keep, turn_of}
use Rattle.service_bound.proofs.OneRoundRank.{longest_in_one-some}
use Rattle.service_bound.proofs.OneRound.{IsAtPorts, one_rank_of, IsNearest, nearest_of, one_falls, one_in_slot, one_rank_of-bound}
use Rattle.service_bound.proofs.AllBelow.{longest_wait-below}
use Rattle.service_bound.proofs.Falling.{IsBound, bound_by, quiet_rows, IsUnicastWindow, quiet_in}

-- Where these rows are posted: the input asks, and the rank is below `most`.
record AsksWithin (n level i j : ℕ) (places : Places) (most : ℕ) (rows : List Row) : Type 0 where
  named : Names (row_of rows i) level Uni j
  below : (g : ℕ) → IsNearest n level places rows j g → one_rank_of n level places rows i j g < most

-- the longest service in one round is slots enough for a request, and no wait reaches it
pub one_bound : (n level i j : ℕ) → i < n → IsBound (quiet_rows n level j) AreMoved n 1 level i j (longest_service_in_one_round n)
one_bound n level i j i_in =
    bound_by (quiet_rows n level j) AreMoved n 1 level i j (longest_service_in_one_round n) (record {
      AsksWithin = AsksWithin n level i j;
      keep = AreMoved-keep n level;
      positive = longest_in_one-some n (omega arith);
      begins = λ t places slot now quiet named. record {
        named = named;
        below = λ g nearest.
            let at : IsAtPorts n level places i j = record { pointing = now.pointing; input = i_in; output = now.within.ports i i_in level j Uni named } in
            let bound = one_rank_of-bound n level places slot.rows i j g at in
            omega (arith, bound);
      };
      some = λ places most rows pointing within asks.
          let from_in = pointing.grant j (within.ports i i_in level j Uni asks.named) in
          let nearest = nearest_of n level places rows i j from_in i_in asks.named in
          let below = asks.below nearest.0 nearest.1 in
          omega (arith, below);
      falls = λ t places slot most now quiet left asks later follow on.
          let j_in = now.within.ports i i_in level j Uni asks.named in
          let turn = turn_of n 1 t level places slot (omega arith) (now.within.levels i i_in level j Uni asks.named) now in
          let nearest = nearest_of n level places slot.rows i j (now.pointing.grant j j_in) i_in asks.named in
          let below = asks.below nearest.0 nearest.1 in
          record {
            named = on i i_in asks.named left;
            below = λ h next.
                let falls = one_falls n level turn later i j (record {
                  one = one_in_slot n t places slot now.decided;
                  input = i_in;
                  output = j_in;
                  quiet = quiet;
                  named = asks.named;
                  left = left;
                  on = on;
                  now = nearest.0;
                  nearest = nearest.1;
                  next = h;
                  nearest_next = next;
                }) in
                omega (arith, falls, below);
          };
    })

-- so the longest of all waits is below it in a window without multicast
pub one_longest_wait-bound : (n t level : ℕ) (places : Places) (slots : List DecidedSlot) → 0 < n → IsUnicastWindow AreMoved n 1 t level places slots
    → longest_wait n level (map noted_of slots) < longest_service_in_one_round n
one_longest_wait-bound n t level places slots ports is =
    longest_wait-below n level (longest_service_in_one_round n) (map noted_of slots) (longest_in_one-some n ports)
    (λ i j i_in j_in. (one_bound n level i j i_in).waits t places slots (quiet_in AreMoved n 1 t level places slots is j))
