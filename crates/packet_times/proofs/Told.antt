-- What is noted of a run by whose end all packets have arrived.
use Rattle.std.proofs.Common.{◌≡◌, ◌∙◌, ℕ, ◌<◌, false, List, length, map, Option, ap, arith, inl, inr, slice_index_or}
use Rattle.std.proofs.lemmas.Bool.{cases_lt}
use Rattle.std.proofs.lemmas.List.{take_all, get_or-map}
use Rattle.std.proofs.lemmas.Option.{slice_get-get_or}
use Rattle.slot_match.specs.declared.matching.Served.{Served}
use Rattle.card_core.specs.Plans.{Plan, no_packet}
use Rattle.packet_times.specs.NotingSteps.{Input, was_admitted, IsNoted}

module _ (plan : Plan) (input : Input) (served : List (Option Served)) (is : IsNoted plan input served)
    (all : (k : ℕ) → k < length plan.packets → (slice_index_or plan.packets k no_packet).arrival < length served) where
  -- all packets have come
  pub all-come : input.counters.next ≡ length plan.packets
  all-come = elim (cases_lt input.counters.next (length plan.packets)) [
    | inl less ↦
        let there = slice_get-get_or plan.packets input.counters.next no_packet less in
        let high = is.counts.next.after input.counters.next (slice_index_or plan.packets input.counters.next no_packet) there (omega arith) in
        let low = all input.counters.next less in
        absurd (omega arith)
    | inr le ↦ omega (arith, is.counts.next.within)
  ]

  pub admitted-is : input.admitted ≡ map (was_admitted plan served) plan.packets
  admitted-is = is.admitted ∙ ap (map (was_admitted plan served)) (take_all input.counters.next plan.packets (omega (arith, all-come)))

  pub admitted-at : (k : ℕ) → k < length plan.packets
      → slice_index_or input.admitted k false ≡ was_admitted plan served (slice_index_or plan.packets k no_packet)
  admitted-at k inside = ap (λ bits. slice_index_or bits k false) admitted-is ∙ get_or-map (was_admitted plan served) plan.packets k no_packet false inside
