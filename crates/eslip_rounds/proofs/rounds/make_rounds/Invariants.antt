use Rattle.std.proofs.Common.{◌≡◌, ℕ, ◌≤◌, List}
use Rattle.slot_match.specs.declared.rows.Row.{Row}
use Rattle.slot_match.specs.Matches.{IsMatch}
use Rattle.islip_rounds.specs.Numbers.{matched_count}
use Rattle.eslip_rounds.specs.Rounds.{preferred, IsRound}
use Rattle.eslip_rounds.specs.Steps.{AreAsks}
use Rattle.eslip_rounds.proofs.Running.{IsDecided}
use Rattle.eslip_rounds.proofs.rounds.make_rounds.Given as goal

abbrev pub invariant-loop-done : goal.invariant-loop-done
invariant-loop-done l = record {
  whole : IsMatch l.n l.out;
  counted : l.matched ≡ matched_count l.out;
  used : l.numbers.used ≤ l.done;
  decided : (t : ℕ) (rows : List Row) → l.first_kind ≡ preferred t → AreAsks l.n rows l.asks
      → IsDecided l.n t rows l.p (record { done = l.done; now = l.out; numbers = l.numbers; met = l.first_outputs })
      × (l.added ≡ 0 → IsRound l.n t rows l.p l.out l.out);
}
