use Rattle.std.proofs.Common.{◌≡◌, drop}
use Rattle.random_picks.specs.Picks.{members}
use Rattle.random_picks.proofs.members.member.Given as goal

abbrev pub invariant-loop : goal.invariant-loop
invariant-loop l = members l.rest ≡ drop l.counter (members l.ports)
