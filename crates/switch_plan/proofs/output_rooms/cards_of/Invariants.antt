use Rattle.std.proofs.Common.{◌≡◌, ◌++◌, ℕ, Some, length}
use Rattle.std.specs.Prelude.{slice_get}
use Rattle.std.specs.Vec.Iter.{into_iter_items, into_iter_len}
use Rattle.card_core.specs.declared.plan.CardPlan.{CardPlan}
use Rattle.switch_plan.specs.declared.port_plans.PortPlan.{PortPlan}
use Rattle.switch_plan.specs.JobSteps.{IsCardOfPort}
use Rattle.switch_plan.proofs.output_rooms.cards_of.Given as goal

abbrev pub invariant-loop-port : goal.invariant-loop-port
invariant-loop-port l = record {
  rest : l.yielded ++ into_iter_items l.port-iterator ≡ into_iter_items l.initial.port-iterator;
  left : into_iter_len l.port-iterator ≡ length (into_iter_items l.port-iterator);
  made : length l.cards.items ≡ length l.yielded;
  cards : (k : ℕ) (port : PortPlan) (card : CardPlan) → slice_get l.yielded k ≡ Some port → slice_get l.cards.items k ≡ Some card
      → IsCardOfPort l.fn.ports.items l.depth k port card;
}
