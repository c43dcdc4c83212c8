use Rattle.std.proofs.Common.{◌≡◌, ℕ, refl, sym, ap, arith}
use Rattle.std.proofs.lemmas.Option.{same_Some, none-some}
use Rattle.rotating_pick.specs.PortSets.{Has}
use Rattle.slot_match.proofs.Sets.{zero-has}
use Rattle.eslip_rounds.specs.declared.grants.Choice.{Choice}
use Rattle.eslip_rounds.specs.Steps.{IsChosen}
use Rattle.eslip_rounds.proofs.Offering.{AreOffers-along, AreOffers-more, chosen_more, chosen_same}
use Rattle.eslip_rounds.proofs.grants.offer_all.Goals as goal
use Rattle.eslip_rounds.proofs.grants.offer_all.Goals.{in-Some-chosen, in_default-chosen}

pub offer-requires-clause-input_in : goal.offer-requires-clause-input_in
offer-requires-clause-input_in c =
    let made = (c.in-Some-chosen.ensures c.in-Some-chosen.choice).0 refl in
    let below = made.picked.below in
    omega arith

pub loop-j-preserved : goal.loop-j-preserved
loop-j-preserved c =
    let free = c.args.free_outputs in
    let j = c.in-Some.j in
    let rest = c.loop-j.rest in
    let later = c.without-rest.result in
    let known = c.loop-j.invariant in
    let left = known.left j c.in-Some.ensures.member in
    let C : ℕ → ℕ → ℕ → Type 0 =
    λ i y r. IsChosen c.args.n c.args.first_kind c.args.asks.now c.args.ready.now c.args.p.now y (record { rank = r; input = i }) in
    let P : ℕ → ℕ → ℕ → Type 0 = λ i y r. (Has free y × (Has rest y → ⊥)) × C i y r in
    let Q : ℕ → ℕ → ℕ → Type 0 = λ i y r. (Has free y × (Has later y → ⊥)) × C i y r in
    record {
      left = λ y has. known.left y ((c.without-rest.ensures.members y).0 has).1;
      offered = elim c.match-chosen.branch [
        | in-Some-chosen w ↦
            let made = w.in-Some-chosen.choice in
            let chosen = w.in-Some-chosen.ensures in
            let only : (i r : ℕ) → C i j r → (i ≡ made.input) × (r ≡ made.rank) = λ i r h.
            let f : Choice = record { rank = r; input = i } in
            let same = same_Some made f ((chosen f).1 h) in
            (ap (λ (t : Choice). t.input) (sym same), ap (λ (t : Choice). t.rank) (sym same)) in
            rw w.offers-is
            (AreOffers-more P Q c.loop-j.offers w.offer.new.offers made.input j made.rank known.offered w.offer.ensures
            (chosen_more free rest later j C c.in-Some.ensures.member left c.without-rest.ensures.members made.input made.rank ((chosen made).0 refl) only))
        | in_default-chosen w ↦
            rw w.offers-is
            (AreOffers-along P Q c.loop-j.offers
            (chosen_same free rest later j C c.in-Some.ensures.member left c.without-rest.ensures.members
            (λ i r h. none-some (record { rank = r; input = i }) ((w.in_default-chosen.ensures _).1 h)))
            known.offered)
      ];
    }

pub returns : goal.returns
returns c =
    let empty = c.in_default.ensures.none.0 refl in
    AreOffers-along _ _ c.loop-j.offers (λ i j r. (λ p. (p.0.0, p.1), λ q. ((q.0, λ has. zero-has c.loop-j.rest j empty has), q.1))) c.loop-j.invariant.offered
