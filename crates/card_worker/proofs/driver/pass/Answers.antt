use Rattle.std.proofs.Common.{◌≡◌, ◌∙◌, ◌+◌, ◌<◌, length, ap, arith, subst, sym}
use Rattle.std.proofs.lemmas.List.{length-set}
use Rattle.std.proofs.lemmas.Option.{slice_get-get_or}
use Rattle.card_worker.specs.TryingSteps.{one_if}
use Rattle.card_worker.specs.DrivingSteps.{AfterTurns}
use Rattle.card_worker.proofs.Passes.{AfterTurns-none, AfterTurns-more}
use Rattle.card_worker.proofs.driver.pass.Goals.{then-take_turn, else-take_turn}
use Rattle.card_worker.proofs.driver.pass.Goals as goal

pub loop-place-init : goal.loop-place-init
loop-place-init g c = record {
  turns = AfterTurns-none c.args.board.now c.args.patience c.args.members.now c.args.refused.now c.requires.sound;
  wide = c.told-refused;
  few = omega arith;
}

pub take_turn-requires : goal.take_turn-requires
take_turn-requires g c =
    let at = c.loop-place in
    let count = at.invariant.turns.count in
    let test = c.loop-place-test.true in
    let inside : at.place < length at.members = omega arith in
    record { sound = at.invariant.turns.sound at.place _ (slice_get-get_or at.members at.place c.index-members-place.result inside) }

pub loop-place-preserved : goal.loop-place-preserved
loop-place-preserved g c =
    let at = c.loop-place in
    let count = at.invariant.turns.count in
    let test = c.loop-place-test.true in
    let few = c.requires.few in
    let long = at.invariant.wide in
    let inside : at.place < length at.members = omega arith in
    let wide : at.place < length at.refused = omega arith in
    let acts : c.if-take_turn.acts ≡ at.acts + one_if c.take_turn.result = elim c.if-take_turn.branch [
      | then-take_turn w ↦ w.acts-is ∙ ap (λ b. at.acts + one_if b) (sym w.if-take_turn.true)
      | else-take_turn w ↦ w.acts-is ∙ (let none = ap one_if w.if-take_turn.false in omega arith)
    ] in
    record {
      turns = subst (AfterTurns c.args.board.now c.args.patience _ _ _ _ (at.place + 1)) (sym acts)
          (AfterTurns-more c.args.board.now c.args.patience c.args.members.now c.args.refused.now at.members at.refused at.place at.acts at.invariant.turns
          c.index-members-place.result c.take_turn.new.member c.take_turn.new.refused c.take_turn.result inside wide c.take_turn.ensures);
      wide = length-set at.refused at.place c.take_turn.new.refused ∙ long;
      few = let few = at.invariant.few in elim c.if-take_turn.branch [
        | then-take_turn w ↦ let is = w.acts-is in omega arith
        | else-take_turn w ↦ let is = w.acts-is in omega arith
      ];
    }

pub returns : goal.returns
returns g c =
    let at = c.loop-place in
    let count = at.invariant.turns.count in
    let test = c.loop-place-test.false in
    let end : at.place ≡ length c.args.members.now = omega arith in
    subst (λ k. AfterTurns c.args.board.now c.args.patience c.args.members.now c.args.refused.now at.members at.refused k at.acts) end at.invariant.turns
