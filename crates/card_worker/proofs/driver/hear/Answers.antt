use Rattle.std.proofs.Common.{◌≡◌, ◌∙◌, ◌<◌, length, get_or, subst, sym, ap, arith, inl, inr}
use Rattle.std.proofs.lemmas.Bool.{cases_eq}
use Rattle.std.proofs.lemmas.Option.{slice_get_within, get_or_from_slice_get}
use Rattle.slot_board.specs.Calls.{IsSeat}
use Rattle.card_worker.specs.declared.hands.Member.{Member}
use Rattle.card_worker.proofs.driver.hear.Goals as goal

pub loop-member-preserved : goal.loop-member-preserved
loop-member-preserved c = λ j m below at.
    elim (cases_eq j c.loop-member.member-index) [
      | inl same ↦
          let is : c.member-item.result ≡ m = c.member-item.is ∙ ap (λ k. get_or c.args.members.now k c.member-item.result) (sym same)
          ∙ get_or_from_slice_get c.args.members.now j m c.member-item.result at in
          subst (λ (x : Member). IsSeat x.seat) is c.legal.ensures
      | inr other ↦ c.loop-member.invariant j m (omega arith) at
    ]

pub returns : goal.returns
returns c = λ j m at. let within : j < length c.args.members.now = slice_get_within c.args.members.now j m at in c.loop-member.invariant j m (omega arith) at
