-- The flow of a packet, and the greatest messages of all flows.
use Rattle.std.proofs.Common.{◌≡◌, ◌≢◌, ◌∙◌, ◌⊎◌, ℕ, ◌+◌, ◌*◌, ◌^◌, ◌<◌, List, ◌++◌, length, take, drop}
use Rattle.std.proofs.Common.{slice_index_or, ap, sym, arith}
use Rattle.std.specs.Prelude.{map, flat_map}
use Rattle.std.specs.List.{range_with_len}
use Rattle.std.proofs.lemmas.List.{append_cancel_left, take-append-drop, drop_more}
use Rattle.std.proofs.lemmas.Grind.{flat_map-append}
use Rattle.rotating_pick.specs.PortSets.{HasSeveral}
use Rattle.cell_cutter.specs.Kinds.{kind_byte}
use Rattle.card_core.specs.declared.plan.Planned.{Planned}
use Rattle.card_core.specs.Plans.{kind_of}
use Rattle.card_core.proofs.Arriving.{queue-unicast, queue-multicast}
use Rattle.card_core.proofs.Sets.{several-of}
use Rattle.switch_plan.specs.Totals.{flow_of, greatest_message}

-- the flow of a packet with one output
pub flow-unicast : (p : Planned) (j : ℕ) → p.fan ≡ 2 ^ j → j < 64 → flow_of p ≡ 2 * p.level
flow-unicast p j is inside = ap (λ q. 2 * p.level + kind_byte (kind_of q)) (queue-unicast p j is inside) ∙ omega arith

-- and of one with several
pub flow-multicast : (p : Planned) → (p.fan ≡ 0) ⊎ HasSeveral p.fan → p.fan ≢ 0 → flow_of p ≡ 2 * p.level + 1
flow-multicast p none some = ap (λ q. 2 * p.level + kind_byte (kind_of q)) (queue-multicast p (several-of p.fan none some))

-- ---- the greatest messages of all flows of an input
abbrev pub greatest_of : ℕ → List Planned → List ℕ
greatest_of output packets = map (λ flow. greatest_message output flow packets) (range_with_len 0 8)

-- lists joined end to end, of which the first k were taken off: what is left begins with the next
pub joined_left : {A : Type 0} (f : A → List ℕ) (xs : List A) (k : ℕ) (d : A) (whole rest : List ℕ) → k < length xs → whole ≡ flat_map f (take k xs) ++ rest
    → whole ≡ flat_map f xs → rest ≡ f (slice_index_or xs k d) ++ flat_map f (drop (k + 1) xs)
joined_left f xs k d whole rest inside before all =
    append_cancel_left (flat_map f (take k xs)) rest (f (slice_index_or xs k d) ++ flat_map f (drop (k + 1) xs))
    (sym before ∙ all ∙ ap (flat_map f) (sym (take-append-drop k xs)) ∙ flat_map-append f (take k xs) (drop k xs)
    ∙ ap (λ left. flat_map f (take k xs) ++ flat_map f left) (drop_more xs k d inside))
