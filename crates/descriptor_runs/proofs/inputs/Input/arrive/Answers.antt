use Rattle.std.proofs.Common.{◌≡◌, ◌≢◌, ◌∙◌, ℕ, Bool, List, Option, Some, true, false, length, slice_get, get_or, sym, subst, arith}
use Rattle.slot_match.specs.declared.matching.Served.{Served}
use Rattle.card_core.specs.declared.plan.Planned.{Planned}
use Rattle.card_core.specs.StateSteps.{MayEnter, Enters, row_of}
use Rattle.descriptor_runs.specs.InputSteps.{InputValue, HasServed, ChangesAt, next_slot, row_in}
use Rattle.descriptor_runs.specs.contracts.inputs.Input.{the_view}
use Rattle.descriptor_runs.proofs.ServedInputs.{may_come, admits, drops, passes, next_is, few_next, few_counts}
use Rattle.descriptor_runs.proofs.ChangedSets.{changed-by-entering, unchanged-by-passing}
use Rattle.descriptor_runs.proofs.inputs.Input.arrive.Goals as goal
use Rattle.descriptor_runs.proofs.inputs.Input.arrive.Goals.{then-not-is_empty+then-enter, then-not-is_empty+else-enter, else-not-is_empty}

-- what is known of the input that the code reads, and of the packet: it is the next one, and arrives now
record IsNow (input : InputValue) (served : List (Option Served)) (packet : Planned) : Type 0 where
  was : HasServed input served false
  there : slice_get input.plan.packets input.next ≡ Some packet
  now : packet.arrival ≡ length served

now_of : (input other : InputValue) → input ≡ other → (served : List (Option Served)) → HasServed other served false → (slot : ℕ) → slot ≡ length served
    → next_slot other ≡ Some slot → (packet : Planned) → packet ≡ get_or input.plan.packets input.next packet → IsNow input served packet
now_of input other same served was slot slot_is is packet read =
    let (there, now) = next_is input slot packet read (subst (λ (i : InputValue). next_slot i ≡ Some slot) (sym same) is) in
    record { was = subst (λ (i : InputValue). HasServed i served false) (sym same) was; there = there; now = now ∙ slot_is }

some_ports : (fan : ℕ) (empty : Bool) → (fan ≡ 0 → empty ≡ true) → empty ≡ false → fan ≢ 0
some_ports fan empty tells no' none = let e = tells none in absurd (cc)

pub enter-requires : goal.enter-requires
enter-requires c =
    let (served, was, slot_is, is, room) = c.requires in
    let packet = c.index-packet.result.now in
    let it = now_of (the_view c.self.inside) _ c.self.view_is served was c.args.slot slot_is is packet c.index-packet.ensures in
    let some = some_ports packet.fan c.is_empty.result c.is_empty.ensures.zero.1 c.if-not-is_empty.true in
    subst (MayEnter c.self.inside.queues.unicast c.self.inside.queues.multicast packet.fan packet.level) (sym c.cells_of-cells.ensures)
    (may_come (the_view c.self.inside) served it.was packet it.there it.now some)

pub overflow_add-self : goal.overflow_add-self
overflow_add-self c =
    let (served, was, slot_is, is, room) = c.requires in
    let it = now_of (the_view c.self.inside) _ c.self.view_is served was c.args.slot slot_is is c.index-packet.result.now c.index-packet.ensures in
    let few = few_counts (the_view c.self.inside) served false it.was in
    omega (arith, few.0, slot_is, room)

pub overflow_add-self-else-enter : goal.overflow_add-self-else-enter
overflow_add-self-else-enter c =
    let (served, was, slot_is, is, room) = c.requires in
    let it = now_of (the_view c.self.inside) _ c.self.view_is served was c.args.slot slot_is is c.index-packet.result.now c.index-packet.ensures in
    let few = few_counts (the_view c.self.inside) served false it.was in
    omega (arith, few.1, slot_is, room)

pub overflow_add-self-2 : goal.overflow_add-self-2
overflow_add-self-2 c =
    let (served, was, slot_is, is, room) = c.requires in
    let it = now_of (the_view c.self.inside) _ c.self.view_is served was c.args.slot slot_is is c.index-packet.result.now c.index-packet.ensures in
    let few = few_next (the_view c.self.inside) served false it.was in
    elim c.if-not-is_empty.branch [
      | then-not-is_empty+then-enter w ↦ rw w.self-inside-is (omega (arith, few.0, slot_is, room))
      | then-not-is_empty+else-enter w ↦ rw w.self-inside-is (omega (arith, few.0, slot_is, room))
      | else-not-is_empty w ↦ rw w.self-inside-is (omega (arith, few.0, slot_is, room))
    ]

pub returns-clause-arrived : goal.returns-clause-arrived
returns-clause-arrived c served was slot_is is =
    let packet = c.index-packet.result.now in
    let old = the_view c.self.inside in
    let it = now_of old _ c.self.view_is served was c.args.slot slot_is is packet c.index-packet.ensures in
    elim c.if-not-is_empty.branch [
      | then-not-is_empty+then-enter w ↦
          let some = some_ports packet.fan c.is_empty.result c.is_empty.ensures.zero.1 w.if-not-is_empty.true in
          rw w.self-inside-is (admits old served it.was packet it.there it.now w.enter.new.self.unicast w.enter.new.self.multicast some
          (subst (λ cells. Enters old.next packet.fan packet.level cells true old.banks old.fans w.enter.new.self.unicast w.enter.new.self.multicast)
          w.cells_of-cells.ensures w.if-enter.ensures))
      | then-not-is_empty+else-enter w ↦
          let some = some_ports packet.fan c.is_empty.result c.is_empty.ensures.zero.1 w.if-not-is_empty.true in
          rw w.self-inside-is (drops old served it.was packet it.there it.now w.enter.new.self.unicast w.enter.new.self.multicast some
          (subst (λ cells. Enters old.next packet.fan packet.level cells false old.banks old.fans w.enter.new.self.unicast w.enter.new.self.multicast)
          w.cells_of-cells.ensures w.if-enter.ensures))
      | else-not-is_empty w ↦
          rw w.self-inside-is (passes old served it.was packet it.there it.now (c.is_empty.ensures.zero.0 w.if-not-is_empty.false))
    ]

pub returns-clause-changed : goal.returns-clause-changed
returns-clause-changed c =
    let (served, was, slot_is, is, room) = c.requires in
    let packet = c.index-packet.result.now in
    let old = the_view c.self.inside in
    let it = now_of old _ c.self.view_is served was c.args.slot slot_is is packet c.index-packet.ensures in
    let may : packet.fan ≢ 0 → MayEnter old.banks old.fans packet.fan packet.level _ = may_come old served it.was packet it.there it.now in
    elim c.if-not-is_empty.branch [
      | then-not-is_empty+then-enter w ↦
          let some = some_ports packet.fan c.is_empty.result c.is_empty.ensures.zero.1 w.if-not-is_empty.true in
          let new = w.enter.new.self in
          rw w.self-inside-is (subst (λ (i : InputValue). ChangesAt (row_in i) (row_of new.unicast new.multicast) c.queue_of.result) c.self.view_is
          (changed-by-entering c.queue_of.result old.next packet.fan packet.level w.cells_of-cells.result true old.banks new.unicast old.fans new.multicast
          (may some).level_in some c.queue_of.ensures w.if-enter.ensures))
      | then-not-is_empty+else-enter w ↦
          let some = some_ports packet.fan c.is_empty.result c.is_empty.ensures.zero.1 w.if-not-is_empty.true in
          let new = w.enter.new.self in
          rw w.self-inside-is (subst (λ (i : InputValue). ChangesAt (row_in i) (row_of new.unicast new.multicast) c.queue_of.result) c.self.view_is
          (changed-by-entering c.queue_of.result old.next packet.fan packet.level w.cells_of-cells.result false old.banks new.unicast old.fans new.multicast
          (may some).level_in some c.queue_of.ensures w.if-enter.ensures))
      | else-not-is_empty w ↦
          rw w.self-inside-is (subst (λ (i : InputValue). ChangesAt (row_in i) (row_in old) c.queue_of.result) c.self.view_is
          (unchanged-by-passing c.queue_of.result packet.fan packet.level (row_in old) (c.is_empty.ensures.zero.0 w.if-not-is_empty.false) c.queue_of.ensures))
    ]
