use Rattle.std.proofs.Common.{◌≡◌, ℕ, length, refl, sym, arith}
use Rattle.std.proofs.lemmas.Option.{same_Some, none-some}
use Rattle.rotating_pick.specs.PortSets.{Has}
use Rattle.rotating_pick.proofs.Bits.{IsAmong-from_members}
use Rattle.slot_match.proofs.Sets.{zero-has}
use Rattle.eslip_rounds.proofs.Offering.{AreOffers-along, AreOffers-more, chosen_more, chosen_same}
use Rattle.unicast_slots.specs.RoundSteps.{GrantsUnicast, offers_of}
use Rattle.unicast_slots.proofs.Granting.{GrantsUnicast-picked, Picks, Picks-chosen}
use Rattle.unicast_slots.proofs.grants.grant_all.Goals as goal
use Rattle.unicast_slots.proofs.grants.grant_all.Goals.{in-Some-pick, in_default-pick}

pub pick-requires-clause-among : goal.pick-requires-clause-among
pick-requires-clause-among c =
    IsAmong-from_members c.args.n _ (λ x has.
    let below = ((c.asking.ensures x).0 ((c.intersection-asking.ensures x).0 has).0).0 in
    omega (arith, c.requires.rows.count))

pub loop-j-preserved : goal.loop-j-preserved
loop-j-preserved c =
    let n = c.args.n in
    let free = c.intersection-rest.result in
    let j = c.in-Some.j in
    let rest = c.loop-j.rest in
    let later = c.without-rest.result in
    let known = c.loop-j.invariant in
    let left = known.left j c.in-Some.ensures.member in
    let C : ℕ → ℕ → ℕ → Type 0 = λ i y r. Picks n c.args.rows.now c.args.p.now c.free_inputs-free.result i y × (r ≡ 0) in
    let P : ℕ → ℕ → ℕ → Type 0 = λ i y r. (Has free y × (Has rest y → ⊥)) × C i y r in
    let Q : ℕ → ℕ → ℕ → Type 0 = λ i y r. (Has free y × (Has later y → ⊥)) × C i y r in
    let picks = λ (i : ℕ). Picks-chosen n c.grant.result c.intersection-asking.result c.asking.result c.free_inputs-free.result j i c.args.rows.now c.args.p.now
    c.requires.rows.count c.grant.ensures.value c.intersection-asking.ensures c.asking.ensures in
    record {
      left = λ y has. known.left y ((c.without-rest.ensures.members y).0 has).1;
      offered = elim c.match-pick.branch [
        | in-Some-pick w ↦
            let made = w.in-Some-pick.i in
            let exact = w.in-Some-pick.ensures.exact in
            let only : (i r : ℕ) → C i j r → (i ≡ made) × (r ≡ 0) = λ i r h. (sym (same_Some made i ((exact i).1 ((picks i).1 h.0))), h.1) in
            rw w.offers-is
            (AreOffers-more P Q (offers_of c.loop-j.offers) (offers_of w.offer.new.offers) made j 0 known.offered w.offer.ensures
            (chosen_more free rest later j C c.in-Some.ensures.member left c.without-rest.ensures.members made 0
            ((picks made).0 ((exact made).0 refl), refl) only))
        | in_default-pick w ↦
            rw w.offers-is
            (AreOffers-along P Q (offers_of c.loop-j.offers)
            (chosen_same free rest later j C c.in-Some.ensures.member left c.without-rest.ensures.members
            (λ i r h. none-some i ((w.in_default-pick.ensures.exact i).1 ((picks i).1 h.0))))
            known.offered)
      ];
    }

pub returns : goal.returns
returns c =
    let n = c.args.n in
    let empty = c.in_default.ensures.none.0 refl in
    let size : length c.args.rows.now ≡ n = c.requires.rows.count in
    AreOffers-along _ (λ i j rank. GrantsUnicast n c.args.rows.now c.args.p.now c.args.matched.now i j × (rank ≡ 0)) (offers_of c.loop-j.offers)
    (λ i j r.
    let same = GrantsUnicast-picked n c.free_inputs-free.result c.free_outputs.result c.asked.result c.intersection-rest.result i j c.args.rows.now c.args.p.now
    c.args.matched.now c.requires.size size c.requires.whole.count c.free_inputs-free.ensures c.free_outputs.ensures
    c.asked.ensures c.intersection-rest.ensures in (
      λ p. (same.0 (p.0.0, p.1.0), p.1.1),
      λ q. let p = same.1 q.0 in ((p.0, λ has. zero-has c.loop-j.rest j empty has), (p.1, q.1)),
    )) c.loop-j.invariant.offered
