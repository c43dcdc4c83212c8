use Rattle.std.proofs.Common.{ap, rules}
use Rattle.std.specs.Prelude.{option_map}
use Rattle.forward_table.specs.Text.{comma, parts}
use Rattle.forward_table.specs.Forms.{numbers_of}
use Rattle.forward_table.proofs.Fans.{fan_of-folded}
use Rattle.forward_table.proofs.forms.ports_of.Goals as goal

pub loop-rest-init : goal.loop-rest-init
loop-rest-init c = record {
  fan = ap (λ f. option_map f (numbers_of (parts comma c.args.list.now))) (fan_of-folded c.args.n);
  among = search rules;
  some = search rules;
}
