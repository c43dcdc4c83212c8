use Rattle.std.proofs.Common.{◌≡◌, ◌∙◌, ℕ, true, List, length, map, set, get_or, Option, Some, sym, ap, subst, arith}
use Rattle.std.specs.Prelude.{slice_get}
use Rattle.std.specs.Option.{option_map}
use Rattle.std.proofs.lemmas.List.{length-set}
use Rattle.std.proofs.lemmas.Option.{slice_get-get_or, slice_get_within, same_Some}
use Rattle.std.proofs.Math.Seq.{map-set_same}
use Rattle.std_lemmas.proofs.Lists.{get-set_same, get-set_other}
use Rattle.cell_cutter.specs.declared.cell.CellName.{CellName}
use Rattle.slot_match.specs.declared.matching.Served.{Served}
use Rattle.multicast_queue.specs.FanQueues.{first_name}
use Rattle.slot_histories.specs.Parts.{IsPartOf}
use Rattle.card_core.specs.declared.plan.Planned.{Planned}
use Rattle.card_core.specs.Plans.{Plan}
use Rattle.card_core.specs.Queues.{waiting, queue_in}
use Rattle.card_core.specs.Posts.{queue_served}
use Rattle.descriptor_runs.specs.InputSteps.{InputValue, HasServed, next_slot, row_in}
use Rattle.descriptor_runs.specs.PortSteps.{IsFirst}
use Rattle.descriptor_runs.proofs.Arriving.{first-stays}
use Rattle.descriptor_runs.proofs.InputPorts.{row-there, rows-set}
use Rattle.descriptor_runs.proofs.input_ports.InputPorts.leave.Goals as goal

-- what is read at a port is the input that is there
is-found : (inputs seen : List InputValue) (port : ℕ) (found given : InputValue) → inputs ≡ seen → found ≡ get_or inputs port found
    → slice_get seen port ≡ Some given → slice_get inputs port ≡ Some found
is-found inputs seen port found given same read at =
    let there : slice_get inputs port ≡ Some given = ap (λ (i : List InputValue). slice_get i port) same ∙ at in
    slice_get-get_or inputs port found (slice_get_within inputs port given there) ∙ ap (λ (i : InputValue). Some i) (sym read)

-- it has its next packet in the slot that its plan and its number tell
next-same : (new found : InputValue) → new.plan ≡ found.plan → new.next ≡ found.next → next_slot new ≡ next_slot found
next-same new found plan next =
    ap (λ (p : Plan). option_map (λ (packet : Planned). packet.arrival) (slice_get p.packets new.next)) plan
    ∙ ap (λ n. option_map (λ (packet : Planned). packet.arrival) (slice_get found.plan.packets n)) next

module _ (inputs seen : List InputValue) (port : ℕ) (found given : InputValue) (same : inputs ≡ seen)
    (is : slice_get inputs port ≡ Some found) (at : slice_get seen port ≡ Some given) where
  found-is : found ≡ given
  found-is = same_Some found given (sym is ∙ (ap (λ (i : List InputValue). slice_get i port) same ∙ at))

  served-there : (served : List (Option Served)) → HasServed given served true → HasServed found served true
  served-there served was = subst (λ (i : InputValue). HasServed i served true) (sym found-is) was

  part-there : (part : Served) → IsPartOf (row_in given) part → IsPartOf (row_in found) part
  part-there part may = subst (λ (i : InputValue). IsPartOf (row_in i) part) (sym found-is) may

  name-there : (part : Served) (served : List (Option Served)) (name : CellName)
      → Some name ≡ first_name (waiting (queue_in found.plan (queue_served part) served (length served)))
      → Some name ≡ first_name (waiting (queue_in given.plan (queue_served part) served (length served)))
  name-there part served name first =
      first ∙ ap (λ (i : InputValue). first_name (waiting (queue_in i.plan (queue_served part) served (length served)))) found-is

-- there is one, and its number is that of a port
pub index_mut-input-requires : goal.index_mut-input-requires
index_mut-input-requires c =
    let (given, served, at, was, may) = c.requires in
    let below = slice_get_within c.args.self.now c.args.port given at in
    let same = ap length c.self.view_is in
    let long = c.self.inside.inputs.ok.0 in
    omega arith

pub leave-name-requires : goal.leave-name-requires
leave-name-requires c =
    let (given, served, at, was, may) = c.requires in
    let inputs : List InputValue = c.self.inside.inputs.items in
    let found : InputValue = c.index_mut-input.result.now in
    let is = is-found inputs c.args.self.now c.args.port found given c.self.view_is c.index_mut-input.ensures.value at in (
      served,
      served-there inputs c.args.self.now c.args.port found given c.self.view_is is at served was,
      part-there inputs c.args.self.now c.args.port found given c.self.view_is is at c.args.part may,
    )

pub follow-requires : goal.follow-requires
follow-requires c =
    let (given, served, at, was, may) = c.requires in
    let inputs : List InputValue = c.self.inside.inputs.items in
    let port = c.args.port in
    let found : InputValue = c.index_mut-input.result.now in
    let is = is-found inputs c.args.self.now port found given c.self.view_is c.index_mut-input.ensures.value at in
    let there = row-there inputs c.self.inside.requests c.self.invariant.rows_are port found (slice_get_within inputs port found is) in (
      row_in found,
      there ∙ ap (λ (input : InputValue). Some (row_in input)) (sym c.index_mut-input.ensures.value),
      c.leave-name.ensures.changed,
    )

pub invariant_of-self : goal.invariant_of-self
invariant_of-self c =
    let (given, served, at, was, may) = c.requires in
    let inputs : List InputValue = c.self.inside.inputs.items in
    let port = c.args.port in
    let found : InputValue = c.index_mut-input.result.now in
    let new : InputValue = c.leave-name.new.self in
    let kept = c.self.invariant in
    let size = kept.size in
    let long = length-set inputs port new in
    let is = is-found inputs c.args.self.now port found given c.self.view_is c.index_mut-input.ensures.value at in
    let stays : next_slot new ≡ next_slot found = next-same new found c.leave-name.ensures.plan c.leave-name.ensures.next in
    record {
      size = omega arith;
      rows_are = c.follow.ensures ∙ rows-set inputs c.self.inside.requests kept.rows_are port new;
      next = subst (λ n. IsFirst n (set inputs port new) c.self.inside.first) (sym long)
          (first-stays (length inputs) port inputs found new is stays c.self.inside.first kept.next);
    }

pub returns-clause-plans : goal.returns-clause-plans
returns-clause-plans c =
    let inputs : List InputValue = c.self.inside.inputs.items in
    let found : InputValue = c.index_mut-input.result.now in
    let new : InputValue = c.leave-name.new.self in
    map-set_same (λ (input : InputValue). input.plan) inputs c.args.port new found
    (c.leave-name.ensures.plan ∙ ap (λ (input : InputValue). input.plan) c.index_mut-input.ensures.value)
    ∙ ap (map (λ (input : InputValue). input.plan)) c.self.view_is

pub returns-clause-others : goal.returns-clause-others
returns-clause-others c = λ i apart.
    get-set_other c.self.inside.inputs.items c.args.port i c.leave-name.new.self apart ∙ ap (λ (is : List InputValue). slice_get is i) c.self.view_is

pub returns-clause-left : goal.returns-clause-left
returns-clause-left c = λ given served at was may.
    let inputs : List InputValue = c.self.inside.inputs.items in
    let port = c.args.port in
    let found : InputValue = c.index_mut-input.result.now in
    let new : InputValue = c.leave-name.new.self in
    let is = is-found inputs c.args.self.now port found given c.self.view_is c.index_mut-input.ensures.value at in (
      new,
      get-set_same inputs port new (slice_get_within inputs port found is),
      c.leave-name.ensures.left served (served-there inputs c.args.self.now port found given c.self.view_is is at served was)
          (part-there inputs c.args.self.now port found given c.self.view_is is at c.args.part may),
    )

pub returns-clause-name : goal.returns-clause-name
returns-clause-name c = λ given served at was may.
    let inputs : List InputValue = c.self.inside.inputs.items in
    let port = c.args.port in
    let found : InputValue = c.index_mut-input.result.now in
    let is = is-found inputs c.args.self.now port found given c.self.view_is c.index_mut-input.ensures.value at in
    name-there inputs c.args.self.now port found given c.self.view_is is at c.args.part served c.leave-name.result
    (c.leave-name.ensures.name served (served-there inputs c.args.self.now port found given c.self.view_is is at served was)
    (part-there inputs c.args.self.now port found given c.self.view_is is at c.args.part may))
