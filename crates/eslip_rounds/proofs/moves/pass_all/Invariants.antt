use Rattle.std.proofs.Common.{◌≡◌, ℕ, ◌<◌, ◌≤◌}
use Rattle.pointer_state.specs.Places.{AreAtPorts, grant_of, accept_of, shared_of}
use Rattle.eslip_rounds.specs.Steps.{IsPassed}
use Rattle.eslip_rounds.proofs.moves.pass_all.Given as goal

abbrev pub invariant-loop-level : goal.invariant-loop-level
invariant-loop-level l = record {
  passed : (m : ℕ) → m < l.level → IsPassed l.n l.rows l.matched l.fn.p l.p m;
  later : (m : ℕ) → l.level ≤ m → shared_of l.p m ≡ shared_of l.fn.p m;
  ports : l.p.ports ≡ l.fn.p.ports;
  grants : (j m : ℕ) → grant_of l.p j m ≡ grant_of l.fn.p j m;
  accepts : (i m : ℕ) → accept_of l.p i m ≡ accept_of l.fn.p i m;
  at_ports : AreAtPorts l.p;
}
