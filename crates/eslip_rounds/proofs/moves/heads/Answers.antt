use Rattle.std.proofs.Common.{◌≡◌, ℕ, ◌↔◌, sym, arith, slice_index}
use Rattle.rotating_pick.specs.declared.kinds.Kind.TheVariants.{Uni, Multi}
use Rattle.slot_match.specs.Rows.{Names, row_of}
use Rattle.slot_match.proofs.Sets.{zero-has}
use Rattle.eslip_rounds.specs.RankSteps.{level_at, kind_at}
use Rattle.eslip_rounds.specs.Steps.{IsUsed}
use Rattle.eslip_rounds.proofs.Filling.{Names-at}
use Rattle.eslip_rounds.proofs.RankLemmas.{kind_at-odd}
use Rattle.eslip_rounds.proofs.moves.heads.Goals as goal

pub returns : goal.returns
returns c i =
    let rows = c.args.rows.now in
    let asks = c.args.asks.now in
    let are = c.requires.asks in
    let set = c.set_of_heads-set.result in
    let set_is = c.set_of_heads-set.ensures.value in
    let set_in = c.set_of_heads-set.ensures.set_in in
    let level_is : c.args.level ≡ level_at set = omega arith in
    let kind_is : Multi ≡ kind_at Uni set = sym (kind_at-odd Uni set (omega arith)) in
    let named : (j : ℕ) → Names (row_of rows i) c.args.level Multi j ↔ Names (row_of rows i) (level_at set) (kind_at Uni set) j =
    λ j. Names-at (row_of rows i) set c.args.level j Multi level_is kind_is in
    let all = c.joined.ensures i in (
      λ has.
          let p = all.0 has in
          let used : IsUsed asks set = λ none. zero-has (slice_index asks.outputs set) p.0 none p.1 in
          let q = (are.columns set i p.0 set_in used (are.outputs_in set p.0 set_in p.1)).0 p.2 in
          (q.0, (p.0, (named p.0).1 q.1)),
      λ p.
          let j = p.1.0 in
          let there = (named j).0 p.1.1 in
          let output = are.outputs set i j set_in p.0 there in
          let used : IsUsed asks set = λ none. zero-has (slice_index asks.outputs set) j none output in
          all.1 (j, output, (are.columns set i j set_in used (are.outputs_in set j set_in output)).1 (p.0, there)),
    )
