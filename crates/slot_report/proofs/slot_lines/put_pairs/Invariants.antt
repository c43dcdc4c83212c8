use Rattle.std.proofs.Common.{◌≡◌, ◌++◌, take, string_bytes}
use Rattle.std.specs.Prelude.{option_to_list}
use Rattle.std.specs.List.{flat_map}
use Rattle.slot_report.specs.PieceSteps.{after_space}
use Rattle.slot_report.specs.Texts.{map_with_place, pair_at}
use Rattle.slot_report.proofs.slot_lines.put_pairs.Given as goal

abbrev pub invariant-loop-output : goal.invariant-loop-output
invariant-loop-output l = string_bytes l.text ≡ string_bytes l.fn.text
    ++ flat_map (λ pair. flat_map after_space (option_to_list pair)) (take l.output (map_with_place pair_at l.matched))
