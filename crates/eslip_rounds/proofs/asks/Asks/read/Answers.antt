use Rattle.std.proofs.Common.{◌≡◌, ◌<◌, length, sym, subst, arith}
use Rattle.rotating_pick.specs.PortSets.{Has}
use Rattle.rotating_pick.specs.declared.kinds.Kind.TheVariants.{Uni}
use Rattle.slot_match.specs.Rows.{Names}
use Rattle.eslip_rounds.specs.RankSteps.{level_at, kind_at}
use Rattle.eslip_rounds.proofs.asks.Asks.read.Goals as goal

pub returns : goal.returns
returns c =
    let n = c.args.n in
    let rows = c.args.rows.now in
    let count : length rows ≡ n = c.requires.rows.count in
    let same = c.named_by_set-self.ensures in record {
      columns = c.fill.ensures;
      outputs = λ set i j set_in i_in named.
          let inside : i < length rows = omega arith in
          let joined : Names c.joined.result (level_at set) (kind_at Uni set) j = (c.joined.ensures (level_at set) j (kind_at Uni set)).1 (i, inside, named) in
          subst (λ s. Has s j) (sym (same set set_in)) joined;
      outputs_in = λ set j set_in has.
          let some = (c.joined.ensures (level_at set) j (kind_at Uni set)).0 (subst (λ s. Has s j) (same set set_in) has) in
          let i_in : some.0 < n = let below = some.1 in omega arith in
          c.requires.rows.ports some.0 i_in (level_at set) j (kind_at Uni set) some.2;
    }
