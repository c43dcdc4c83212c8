use Rattle.std.proofs.Common.{◌≡◌, ℕ, ◌<◌, ◌≤◌, length}
use Rattle.islip_rounds.specs.Numbers.{matched_count}
use Rattle.islip_rounds.specs.Rounds.{Feeds, IsRound}
use Rattle.islip_rounds.proofs.Running.{IsRun}
use Rattle.islip_rounds.proofs.slot.islip_slot.Given as goal

abbrev pub invariant-loop-done : goal.invariant-loop-done
invariant-loop-done l = record {
  run : IsRun l.n l.asks l.p (record { done = l.done; first = l.first; fed = l.fed; numbers = l.numbers });
  counted : l.matched ≡ matched_count l.fed;
  settled : l.added ≡ 0 → IsRound l.n l.asks l.p l.fed l.fed;
  many : 0 < l.added → l.done ≤ l.matched;
  each_adds : 0 < l.added → l.numbers.used ≡ l.done;
  last : 0 < l.added → l.numbers.last_added ≡ l.added;
  within : (i j : ℕ) → Feeds l.fed i j → (i < l.n) × (j < l.n);
  once : (i j k : ℕ) → Feeds l.fed i j → Feeds l.fed i k → j ≡ k;
  long : length l.fed ≡ 64;
  used : l.numbers.used ≤ l.done;
}
