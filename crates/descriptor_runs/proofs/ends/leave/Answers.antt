use Rattle.std.proofs.Common.{◌∙◌, ◌++◌, ℕ, List, Option, Vec, Global, ap, arith}
use Rattle.std.specs.List.{filter_map}
use Rattle.std.specs.Option.{option_map, option_to_list}
use Rattle.std.proofs.lemmas.Grind.{common_steps}
use Rattle.descriptor_runs.specs.OutputSteps.{OutputValue}
use Rattle.descriptor_runs.proofs.Keeping.{one_more}
use Rattle.descriptor_runs.proofs.ends.leave.Goals as goal

pub loop-output-preserved : goal.loop-output-preserved
loop-output-preserved c = record {
  rest = grind (arith, common_steps);
  left = grind (arith, common_steps);
  captures = c.put_kept.ensures.items
      ∙ ap (λ (texts : List (List ℕ)). texts ++ option_to_list (option_map (λ (text : Vec ℕ Global). text.items) c.into_parts-text.result.0))
      c.loop-output.invariant.captures
      ∙ ap (λ (text : Option (List ℕ)). filter_map (λ (output : OutputValue). output.text) c.loop-output.yielded ++ option_to_list text)
      c.into_parts-text.ensures.0
      ∙ one_more c.loop-output.yielded c.in-Some.output;
  lines = grind (arith, common_steps);
  fewer = grind (arith, common_steps);
  captures_room = grind (arith, common_steps);
  lines_room = grind (arith, common_steps);
}
