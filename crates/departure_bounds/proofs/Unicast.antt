-- The queue of a packet that goes to one output.
use Rattle.std.proofs.Common.{◌≡◌, ◌∙◌, ℕ, ◌^◌, ◌<◌, true, sym, ap, subst, inl, inr}
use Rattle.std.proofs.lemmas.Bool.{cases_eq}
use Rattle.std.proofs.lemmas.Nat.Bits.{bit_at-pow_same, bit_at-pow_other}
use Rattle.rotating_pick.specs.PortSets.{Has, HasSeveral}
use Rattle.rotating_pick.proofs.Bits.{Has-lt}
use Rattle.card_core.specs.declared.plan.Planned.{Planned}
use Rattle.card_core.specs.Plans.{OfOutput, queue_of}
use Rattle.card_core.specs.Queues.{is_routed}
use Rattle.card_core.proofs.Arriving.{queue-unicast}
use Rattle.card_core.proofs.Posted.{one_or_several}
use Rattle.run_laws.proofs.PacketCells.{some_fan}

only : (o j : ℕ) → Has (2 ^ o) j → j ≡ o
only o j member = elim (cases_eq j o) [
  | inl same ↦ same
  | inr other ↦ let none = bit_at-pow_other o j other in absurd (cc)
]

pub unicast_queue : (p : Planned) (j : ℕ) → p.fan < 2 ^ 64 → is_routed p ≡ true → (HasSeveral p.fan → ⊥) → Has p.fan j → queue_of p ≡ OfOutput j p.level
unicast_queue p j small routed one goes = elim (one_or_several p.fan small (some_fan p routed)) [
  | inr several ↦ absurd (one several)
  | inl found ↦
      let o = found.0 in
      let inside = Has-lt 64 p.fan o small (subst (λ fan. Has fan o) (sym found.1) (bit_at-pow_same o)) in
      let same : j ≡ o = only o j (subst (λ fan. Has fan j) found.1 goes) in
      queue-unicast p o found.1 inside ∙ ap (λ k. OfOutput k p.level) (sym same)
]
