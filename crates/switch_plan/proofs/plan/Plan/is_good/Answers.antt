use Rattle.switch_plan.proofs.Checked.{IsChecked, good_from, burst_from, good_to}
use Rattle.switch_plan.proofs.plan.Plan.is_good.Goals as goal

pub returns-then-has_sizes : goal.returns-then-has_sizes
returns-then-has_sizes c =
    let sizes = c.has_sizes.ensures.0 c.if-has_sizes.true in (
      λ yes_.
          let cards = c.has_cards.ensures.0 yes_ in
          let checked : IsChecked c.args.self.now = record { size = sizes.0; rounds = sizes.1; workers = sizes.2; own = cards.0; rest = cards.1 } in
          (good_from c.args.self.now checked, burst_from c.args.self.now checked),
      λ both.
          let checked = good_to c.args.self.now both.0 both.1 in
          c.has_cards.ensures.1 (checked.own, checked.rest),
    )

pub returns-else-has_sizes : goal.returns-else-has_sizes
returns-else-has_sizes c = (
  λ no_. absurd (cc),
  λ both.
      let checked = good_to c.args.self.now both.0 both.1 in
      let yes_ = c.has_sizes.ensures.1 (checked.size, checked.rounds, checked.workers) in
      let no_ = c.if-has_sizes.false in
      absurd (cc),
)
