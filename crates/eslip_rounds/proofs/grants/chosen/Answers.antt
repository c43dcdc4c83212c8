use Rattle.std.proofs.Common.{◌<◌, ℕ, ◌↔◌, subst, sym, arith}
use Rattle.rotating_pick.specs.PortSets.{Has}
use Rattle.rotating_pick.specs.Rotation.{IsFirstFrom}
use Rattle.rotating_pick.proofs.Bits.{IsAmong-from_members}
use Rattle.rotating_pick.proofs.First.{IsFirstFrom-along}
use Rattle.eslip_rounds.specs.declared.grants.Choice.{Choice}
use Rattle.eslip_rounds.specs.RankSteps.{level_at, kind_at}
use Rattle.eslip_rounds.specs.Rounds.{from_of}
use Rattle.eslip_rounds.specs.Steps.{column_of, AsksAt}
use Rattle.eslip_rounds.proofs.Choosing.{Some-iff_chosen}
use Rattle.eslip_rounds.proofs.grants.chosen.Goals as goal

pub pick-requires-clause-among : goal.pick-requires-clause-among
pick-requires-clause-among c =
    let rank = c.in-Some.rank in
    let occurs = c.loop-rank.invariant.within rank c.in-Some.ensures.member in
    IsAmong-from_members c.args.n c.intersection-asking.result
    (λ x has. c.requires.ready.inputs rank x occurs ((c.intersection-asking.ensures x).0 has).1)

pub returns-in-Some-pick : goal.returns-in-Some-pick
returns-in-Some-pick c f =
    let n = c.args.n in
    let rank = c.in-Some.rank in
    let occurs = c.loop-rank.invariant.within rank c.in-Some.ensures.member in
    let rank_in = c.requires.ready.ranks rank occurs in
    let made : Choice = record { rank = rank; input = c.in-Some-pick.input } in
    let places = c.args.p.now in
    let from = from_of places c.args.j (level_at rank) (kind_at c.args.first_kind rank) in
    let from_in : from < n = let below = c.pointer_at.ensures.within in let e = c.pointer_at.ensures.value in omega arith in
    let Asks_here : ℕ → Type 0 = AsksAt c.args.first_kind c.args.asks.now c.args.ready.now c.args.j rank in
    let at : (y s : ℕ) → Type 0 = λ y s. Has (column_of c.args.asks.now.columns s c.args.j) y in
    let same = c.set_of.ensures.value in
    let asking : (y : ℕ) → Has c.intersection-asking.result y ↔ Asks_here y = λ y.
    let both = c.intersection-asking.ensures y in
    (λ has. let p = both.0 has in ((occurs, subst (at y) same p.0), p.1), λ p. both.1 (subst (at y) (sym same) p.0.1, p.1)) in
    let picked : IsFirstFrom n from Asks_here c.in-Some-pick.input = subst (λ a. IsFirstFrom n a Asks_here c.in-Some-pick.input) c.pointer_at.ensures.value
    (IsFirstFrom-along n c.pointer_at.result (Has c.intersection-asking.result) Asks_here c.in-Some-pick.input
    (λ y y_in. asking y) c.in-Some-pick.ensures.first) in
    Some-iff_chosen n c.args.first_kind c.args.asks.now c.args.ready.now places c.args.j made f from_in
    (record {
      rank_in = rank_in;
      picked = picked;
      best = λ r i lower asks. c.loop-rank.invariant.none r i (omega arith) (λ waits. let low = c.in-Some.ensures.least r waits in absurd (omega arith)) asks;
    })
