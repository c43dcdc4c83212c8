-- The ports of all captures, and what the packets of one bring.
use Rattle.std.proofs.Common.{◌≡◌, ◌∙◌, ℕ, ◌+◌, ◌≤◌, Bool, true, false, cond, List, [], ◌∷◌, ◌++◌, length, take, slice_index_or, refl, ap, sym, subst}
use Rattle.std.proofs.Common.{arith}
use Rattle.std.specs.Prelude.{map, count_by, ◌==◌, Result, Ok, Err, IfOk, Vec}
use Rattle.std.specs.Int.{from_bool}
use Rattle.std.proofs.lemmas.List.{length-map, length-take}
use Rattle.std.proofs.lemmas.List.Sums.{sum_by_push, count_by-le-length}
use Rattle.std.proofs.lemmas.Option.{slice_get_within, get_or_from_slice_get}
use Rattle.std.proofs.Math.ListN.{get_or-map as get_or-map_same}
use Rattle.rotating_pick.specs.declared.memory.OutOfMemory.{OutOfMemory}
use Rattle.line_pace.specs.declared.pace.Pace.{Pace}
use Rattle.pcap_records.specs.declared.capture.Capture.{Capture}
use Rattle.forward_table.specs.declared.route_lines.RouteLine.{RouteLine}
use Rattle.card_core.specs.declared.plan.Planned.{Planned}
use Rattle.switch_plan.specs.declared.port_rooms.Brought.{Brought}
use Rattle.switch_plan.specs.declared.port_plans.PortPlan.{PortPlan}
use Rattle.switch_plan.specs.CountingSteps.{AreCountable}
use Rattle.switch_plan.specs.OutputSteps.{AreFew}
use Rattle.switch_plan.specs.PortSteps.{is_long, IsBroughtBy, HasRoom, IsPortPlanOf, ArePlannedAs, ArePortPlansOf}
use Rattle.switch_plan.proofs.OnePass.{room_is_few}

-- ---- all ports
abbrev pub planned_as : PortPlan → Result PortPlan OutOfMemory
planned_as port = Ok port

-- ports that were planned, each of its capture
pub all_planned : (table : List RouteLine) (pace : Pace) (captures : List Capture) (answers : List (Result PortPlan OutOfMemory)) (ports : List PortPlan)
    → ArePlannedAs table pace captures answers → map planned_as ports ≡ answers → ArePortPlansOf table pace captures ports
all_planned table pace captures answers ports planned whole = record {
  count = sym (length-map ports planned_as) ∙ ap length whole ∙ planned.count;
  each = λ k capture port at_capture at_port.
      let inside = slice_get_within captures k capture at_capture in
      let answer : slice_index_or answers k (planned_as port) ≡ planned_as port =
      ap (λ xs. slice_index_or xs k (planned_as port)) (sym whole)
      ∙ get_or-map_same planned_as ports k port
      ∙ ap planned_as (get_or_from_slice_get ports k port port at_port) in
      subst (λ x. IsPortPlanOf table pace x port) (get_or_from_slice_get captures k capture capture at_capture)
      (subst (λ a. IfOk a (IsPortPlanOf table pace (slice_index_or captures k capture))) answer (planned.each k capture (planned_as port) inside));
}

pub planned_if : {A : Type 0} (table : List RouteLine) (pace : Pace) (captures : List Capture) (answers : List (Result PortPlan OutOfMemory))
    (result : Result (Vec PortPlan A) OutOfMemory) → ArePlannedAs table pace captures answers → IfOk result (λ ports. map planned_as ports.items ≡ answers)
    → IfOk result (λ ports. ArePortPlansOf table pace captures ports.items)
planned_if table pace captures answers (Ok ports) planned made = all_planned table pace captures answers ports.items planned made
planned_if table pace captures answers (Err fault) planned made = tt

-- ---- what packets bring
pub one_most : (test : Bool) → from_bool test ≤ 1
one_most true = omega arith
one_most false = omega arith

one_is : (test : Bool) → from_bool test ≡ cond test 1 0
one_is true = refl
one_is false = refl

-- packets that are counted, with one more
pub counted_more : (counts : Planned → Bool) (packets : List Planned) (packet : Planned) (n one : ℕ) → n ≡ count_by counts packets
    → one ≡ from_bool (counts packet) → n + one ≡ count_by counts (packets ++ packet ∷ [])
counted_more counts packets packet n one so_far is =
    ap (λ m. m + one) so_far
    ∙ ap (λ m. count_by counts packets + m) (is ∙ one_is (counts packet))
    ∙ sym (sum_by_push (λ (p : Planned). cond (counts p) 1 0) packets packet)

-- some of a port's packets bring so little that one more can be added
pub has_room : (packets : List Planned) (k : ℕ) (brought : Brought) → AreCountable packets → IsBroughtBy (take k packets) brought → HasRoom brought
has_room packets k brought countable is =
    let few = countable.few in
    let light = is.light in
    let part = length-take k packets in
    record {
      rooms = λ output inside. subst AreFew (sym (is.rooms output inside)) (room_is_few output k packets countable);
      work = omega arith;
      aside = let n = count_by-le-length (λ (p : Planned). p.fan == 0) (take k packets) in omega (arith, is.aside, n);
      oversize = let n = count_by-le-length is_long (take k packets) in omega (arith, is.oversize, n);
    }
