use Rattle.std.proofs.Common.{◌≡◌, ℕ, ◌<◌, ◌↔◌, true}
use Rattle.rotating_pick.specs.PortSets.{Has}
use Rattle.slot_match.specs.Matches.{fed_of}
use Rattle.slot_match.specs.Parts.{is_from}
use Rattle.slot_match.proofs.matching.Match.fed_by.Given as goal

abbrev pub invariant-loop-output : goal.invariant-loop-output
invariant-loop-output l = (j : ℕ) → Has l.outputs j ↔ ((j < l.output) × (is_from l.input (fed_of l.self-inside.fed j) ≡ true))
