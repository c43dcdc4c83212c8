-- In the slot that ends a run no packet is to arrive any more.
use Rattle.std.proofs.Common.{◌≡◌, ◌∙◌, ℕ, not, nat_lt, Bool, true, false, slice_index_or, sym, arith, inl, inr}
use Rattle.std.specs.List.{list_any}
use Rattle.std.proofs.lemmas.Bool.{cases_lt, lt-ltb, or_parts}
use Rattle.std.proofs.lemmas.List.Folds.{list_any_at}
use Rattle.eslip_rounds.specs.Schedulers.{Scheduler}
use Rattle.slot_histories.specs.Tests.{is_empty}
use Rattle.card_core.specs.declared.plan.Planned.{Planned}
use Rattle.card_core.specs.Posts.{row_at}
use Rattle.switch_plan.specs.GoodPlans.{SwitchPlan}
use Rattle.run_laws.specs.Runs.{card_at, parts_under}
use Rattle.run_laws.specs.Ends.{IsLengthUnder}
use Rattle.run_laws.specs.Promises.{ArrivalsComeFirst}
use Rattle.run_laws.proofs.Emptied.{last_more}

pub arrivals_first : (scheduler : Scheduler) (plan : SwitchPlan) (slots : ℕ) → IsLengthUnder scheduler plan slots → ArrivalsComeFirst plan slots
arrivals_first scheduler plan slots ends i inside k d short =
    let t = ends.last in
    let packets = (card_at plan i).packets in
    let later : Planned → Bool = λ packet. nat_lt t packet.arrival in
    let row = row_at (card_at plan i) (parts_under scheduler plan i t) t in
    let none : list_any later packets ≡ false = (or_parts (list_any later packets) (not (is_empty row)) (last_more scheduler plan i t inside ends.done)).0 in
    let arrival = (slice_index_or packets k d).arrival in
    let count = ends.count in
    elim (cases_lt t arrival) [
      | inl after ↦
          let some : list_any later packets ≡ true = list_any_at later packets k d short (lt-ltb t arrival after) in
          let both : true ≡ false = sym some ∙ none in
          absurd (cc)
      | inr before ↦ omega arith
    ]
