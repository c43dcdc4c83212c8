use Rattle.std.proofs.Common.{◌∙◌, ◌++◌, ap, arith, string_bytes}
use Rattle.std.specs.Prelude.{option_to_list, None}
use Rattle.std.specs.List.{flat_map}
use Rattle.slot_report.specs.PieceSteps.{after_space}
use Rattle.slot_report.specs.Texts.{map_with_place, pair_at}
use Rattle.slot_report.proofs.Appending.{pairs_joined, place_more, places_all}
use Rattle.slot_report.proofs.slot_lines.put_pairs.Goals as goal

pub loop-output-preserved : goal.loop-output-preserved
loop-output-preserved c =
    c.in_ok-put_fed.ensures
    ∙ ap (λ fed. string_bytes c.loop-output.text ++ flat_map after_space (option_to_list (pair_at c.loop-output.output fed))) c.fed.ensures.value
    ∙ place_more (λ pair. flat_map after_space (option_to_list pair)) pair_at c.args.matched.now c.loop-output.output None (string_bytes c.args.text.now)
    (string_bytes c.loop-output.text) (omega (arith, c.ports-output-end.ensures.value)) c.loop-output.invariant

pub returns : goal.returns
returns c =
    places_all (λ pair. flat_map after_space (option_to_list pair)) pair_at c.args.matched.now c.loop-output.output (string_bytes c.args.text.now)
    (string_bytes c.loop-output.text) (omega (arith, c.ports-output-end.ensures.value)) c.loop-output.invariant
    ∙ ap (λ s. string_bytes c.args.text.now ++ s) (pairs_joined (map_with_place pair_at c.args.matched.now))
