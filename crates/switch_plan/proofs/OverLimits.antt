-- The first limit that planned ports pass: that which the traffic of their captures passes, whether a port's slots fit in 32 bits or not.
use Rattle.std.proofs.Common.{◌≡◌, ◌∙◌, ℕ, suc, ◌+◌, ◌≤◌, ◌^◌, false, List, [], ◌∷◌, length, Option, None, Some}
use Rattle.std.proofs.Common.{refl, ap, sym, subst, arith}
use Rattle.std.specs.Prelude.{map, nat_lt, sum_by, slice_get, All, IfSome}
use Rattle.std.specs.Option.{option_or}
use Rattle.std.proofs.Math.ListN.{get_or-map as get_or-map_same}
use Rattle.std.proofs.lemmas.Bool.Decides.{nat_tests}
use Rattle.std.proofs.lemmas.List.{length-map}
use Rattle.std.proofs.lemmas.List.Elements.{All-nil, All-cons}
use Rattle.std.proofs.lemmas.List.Folds.{fold-map}
use Rattle.std.proofs.lemmas.List.Sums.{sum_by-cons}
use Rattle.std.proofs.lemmas.Option.{slice_get_within, get_or_from_slice_get}
use Rattle.std.proofs.lemmas.Simd.{map-map}
use Rattle.line_pace.specs.declared.pace.Pace.{Pace}
use Rattle.pcap_records.specs.declared.capture.Capture.{Capture}
use Rattle.forward_table.specs.declared.route_lines.RouteLine.{RouteLine}
use Rattle.card_core.specs.declared.plan.Planned.{Planned}
use Rattle.switch_plan.specs.declared.fault.PlanFault.{PlanFault}
use Rattle.switch_plan.specs.declared.fault.PlanFault.TheVariants.{TooManySlots, TooManyPackets, TooManyCells}
use Rattle.switch_plan.specs.declared.limits.Limits.{Limits}
use Rattle.switch_plan.specs.declared.port_plans.PortPlan.{PortPlan}
use Rattle.switch_plan.specs.Traffic.{unplaced}
use Rattle.switch_plan.specs.Totals.{slots_of, work_of, total_work}
use Rattle.switch_plan.specs.Refusals.{first_over, over_packets, over_cells, over_traffic}
use Rattle.switch_plan.specs.PortSteps.{traffic_at, ArePortPlansOf}
use Rattle.switch_plan.specs.JobSteps.{packets_of_ports, over_ports}
use Rattle.switch_plan.proofs.Alike.{none_first}
use Rattle.switch_plan.proofs.Placed.{traffic_slots_at}

-- ---- two lists
-- what is the same of each of two lists is the same of all
pub map_both : {A B C : Type 0} (f : A → C) (g : B → C) (xs : List A) (ys : List B) → length ys ≡ length xs
    → ((k : ℕ) (x : A) (y : B) → slice_get xs k ≡ Some x → slice_get ys k ≡ Some y → f x ≡ g y) → map f xs ≡ map g ys
map_both f g [] [] count same = refl
map_both f g [] (y ∷ ys) count same = absurd (omega arith)
map_both f g (x ∷ xs) [] count same = absurd (omega arith)
map_both f g (x ∷ xs) (y ∷ ys) count same =
    ap (λ z. z ∷ map f xs) (same 0 x y refl refl) ∙ ap (λ zs. g y ∷ zs) (map_both f g xs ys (omega arith) (λ k p q. same (suc k) p q))

-- a number that does not depend on the places of a port's packets, over all
sum_unplaced : (F : List Planned → ℕ) → ((packets : List Planned) → F (map unplaced packets) ≡ F packets) → (ports : List (List Planned))
    → sum_by F (map (map unplaced) ports) ≡ sum_by F ports
sum_unplaced F same [] = refl
sum_unplaced F same (packets ∷ ports) =
    sum_by-cons F (map unplaced packets) (map (map unplaced) ports)
    ∙ ap (λ first. first + sum_by F (map (map unplaced) ports)) (same packets)
    ∙ ap (λ others. F packets + others) (sum_unplaced F same ports)
    ∙ sym (sum_by-cons F packets ports)

-- ---- the slots of ports
-- the arrival slots of each port
abbrev pub slots_in : List PortPlan → List ℕ
slots_in ports = map (λ (port : PortPlan). port.slots) ports

-- what is not over a limit is within it
limit_is_kept : (most n : ℕ) → nat_lt most n ≡ false → n ≤ most
limit_is_kept most n clear = grind (arith, nat_tests)

-- where no port is over the limit, each is within it
slots_within : (most port : ℕ) (slots : List ℕ) → first_over most port slots ≡ None → All (λ n. n ≤ most) slots
slots_within most port [] none = All-nil (λ n. n ≤ most)
slots_within most port (n ∷ slots) none =
    let both = none_first (nat_lt most n) (TooManySlots port n) (first_over most (port + 1) slots) none in
    All-cons (λ m. m ≤ most) n slots (limit_is_kept most n both.0) (slots_within most (port + 1) slots both.1)

-- ---- all limits
-- of three limits of which none is passed
none_passed : (a b : Option PlanFault) → option_or a b ≡ None → (a ≡ None) × (b ≡ None)
none_passed None b none = (refl, none)
none_passed (Some fault) b none = absurd (cc)

packets_within : (most : Option ℕ) (packets : ℕ) → over_packets most packets ≡ None → IfSome most (λ n. packets ≤ n)
packets_within None packets none = tt
packets_within (Some most) packets none = limit_is_kept most packets (none_first (nat_lt most packets) (TooManyPackets packets) None none).0

cells_within : (most cells : ℕ) → over_cells most cells ≡ None → cells ≤ most
cells_within most cells none = limit_is_kept most cells (none_first (nat_lt most cells) (TooManyCells cells) None none).0

-- ports within limits
pub record AreWithin (limits : Limits) (ports : List PortPlan) : Type 0 where
  pub slots : (k : ℕ) (port : PortPlan) → slice_get ports k ≡ Some port → port.slots ≤ limits.slots
  pub packets : IfSome limits.packets (λ most. sum_by length (packets_of_ports ports) ≤ most)
  pub cells : total_work (packets_of_ports ports) ≤ limits.cells

each_within : (most : ℕ) (ports : List PortPlan) → first_over most 0 (slots_in ports) ≡ None → (k : ℕ) (port : PortPlan) → slice_get ports k ≡ Some port
    → port.slots ≤ most
each_within most ports none k port at =
    subst (λ n. n ≤ most)
    (get_or-map_same (λ (p : PortPlan). p.slots) ports k port ∙ ap (λ (p : PortPlan). p.slots) (get_or_from_slice_get ports k port port at))
    (slots_within most 0 (slots_in ports) none k port.slots
    (omega (arith, slice_get_within ports k port at, length-map ports (λ (p : PortPlan). p.slots))))

pub within_from : (limits : Limits) (ports : List PortPlan) → over_ports limits ports ≡ None → AreWithin limits ports
within_from limits ports none =
    let packets = sum_by length (packets_of_ports ports) in
    let cells = total_work (packets_of_ports ports) in
    let over_rest = option_or (over_packets limits.packets packets) (over_cells limits.cells cells) in
    let first = none_passed (first_over limits.slots 0 (slots_in ports)) over_rest none in
    let rest = none_passed (over_packets limits.packets packets) (over_cells limits.cells cells) first.1 in
    record {
      slots = each_within limits.slots ports first.0;
      packets = packets_within limits.packets packets rest.0;
      cells = cells_within limits.cells cells rest.1;
    }

module _ (table : List RouteLine) (pace : Pace) (captures : List Capture) (ports : List PortPlan) (are : ArePortPlansOf table pace captures ports) where
  -- the slots of the ports are those of their traffic
  traffic_slots : map slots_of (map (traffic_at table pace) captures) ≡ slots_in ports
  traffic_slots =
      map-map slots_of (traffic_at table pace) captures
      ∙ map_both (λ capture. slots_of (traffic_at table pace capture)) (λ (port : PortPlan). port.slots) captures ports are.count
      (λ k capture port at_capture at_port. traffic_slots_at table pace capture ∙ sym (are.each k capture port at_capture at_port).slots)

  -- where no port's slots are over 32 bits, the packets of the ports are the traffic
  pub traffic_is : ((k : ℕ) (port : PortPlan) → slice_get ports k ≡ Some port → port.slots ≤ 2 ^ 32)
      → map (traffic_at table pace) captures ≡ map (map unplaced) (packets_of_ports ports)
  traffic_is short =
      map_both (traffic_at table pace) (λ (port : PortPlan). map unplaced port.packets.items) captures ports are.count
      (λ k capture port at_capture at_port. sym ((are.each k capture port at_capture at_port).packets (short k port at_port)).packets_are)
      ∙ sym (map-map (map unplaced) (λ (port : PortPlan). port.packets.items) ports)

  -- so the first limit that the ports pass is the first that the traffic passes
  pub over_same : (limits : Limits) → limits.slots ≤ 2 ^ 32 → over_traffic limits (map (traffic_at table pace) captures) ≡ over_ports limits ports
  over_same limits short =
      let traffic = map (traffic_at table pace) captures in
      let packets = packets_of_ports ports in
      let rest = λ (them : List (List Planned)). option_or (over_packets limits.packets (sum_by length them)) (over_cells limits.cells (total_work them)) in
      ap (λ slots. option_or (first_over limits.slots 0 slots) (rest traffic)) traffic_slots
      ∙ rest_same (first_over limits.slots 0 (slots_in ports)) (rest traffic) (rest packets)
      (λ none.
      let is = traffic_is (λ k port at. let within = each_within limits.slots ports none k port at in omega arith) in
      let many : sum_by length traffic ≡ sum_by length packets = ap (sum_by length) is
      ∙ sum_unplaced length (λ ps. length-map ps unplaced) packets in
      let work : total_work traffic ≡ total_work packets = ap total_work is
      ∙ sum_unplaced (sum_by work_of) (λ ps. fold-map (λ so_far packet. so_far + work_of packet) unplaced 0 ps) packets in
      ap (λ n. option_or (over_packets limits.packets n) (over_cells limits.cells (total_work traffic))) many
      ∙ ap (λ n. option_or (over_packets limits.packets (sum_by length packets)) (over_cells limits.cells n)) work)
    where
      rest_same : (first a b : Option PlanFault) → (first ≡ None → a ≡ b) → option_or first a ≡ option_or first b
      rest_same None a b same = same refl
      rest_same (Some fault) a b same = refl
