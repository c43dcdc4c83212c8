use Rattle.std.proofs.Common.{◌≡◌, ℕ, ◌<◌, ◌↔◌, length, slice_index}
use Rattle.rotating_pick.specs.PortSets.{Has}
use Rattle.islip_rounds.proofs.rounds.requests.Given as goal

abbrev pub invariant-loop-j : goal.invariant-loop-j
invariant-loop-j l = record {
  long : length l.asked ≡ 64;
  members : (j : ℕ) → j < l.j → (x : ℕ) → Has (slice_index l.asked j) x ↔ (Has (slice_index l.columns j) x × Has l.free x);
}
