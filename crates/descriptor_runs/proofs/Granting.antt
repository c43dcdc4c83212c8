-- What the inputs are served in a slot, and the names of the cells that they are granted.
use Rattle.std.proofs.Common.{◌≡◌, ◌≢◌, ◌∙◌, ℕ, suc, ◌+◌, ◌<◌, true, false, List, [], ◌∷◌, ◌++◌, length, Option, None, Some, refl, sym, ap, subst, arith}
use Rattle.std.proofs.Common.{slice_index_or}
use Rattle.std.specs.Option.{option_map}
use Rattle.std.proofs.lemmas.List.FromFn.{map-range_with_len_more}
use Rattle.std_lemmas.proofs.Lists.{at_place}
use Rattle.slot_match.specs.declared.matching.Served.{Served}
use Rattle.slot_match.specs.Parts.{served_of}
use Rattle.cell_cutter.specs.declared.cell.CellName.{CellName}
use Rattle.multicast_queue.specs.FanQueues.{first_name}
use Rattle.eslip_rounds.specs.Schedulers.{Scheduler, IsScheduler}
use Rattle.card_core.specs.Plans.{Plan, no_packet, cell_named, size_of}
use Rattle.card_core.specs.Queues.{waiting, queue_in}
use Rattle.card_core.specs.Posts.{IsServable, queue_served, granted_by, granted_at}
use Rattle.switch_plan.specs.GoodPlans.{SwitchPlan, IsGood}
use Rattle.run_laws.specs.Runs.{ports_of, setup_for, card_at, parts_under, posts_under}
use Rattle.run_laws.proofs.Base.{requested, served-is, served-length, served-at, queue_in-same}
use Rattle.slot_histories.specs.Slots.{served_under}
use Rattle.slot_histories.specs.Parts.{IsPartOf}
use Rattle.slot_records.specs.Slots.{match_under, name_served, granted_name}
use Rattle.descriptor_runs.specs.InputSteps.{InputValue, HasServed, row_in}
use Rattle.descriptor_runs.specs.SwitchSteps.{AreInputs, IsNameOf, AreNames, AreGranted, name_by}
use Rattle.descriptor_runs.proofs.ServedInputs.{name_there}
use Rattle.descriptor_runs.proofs.InputPorts.{count-inputs, plan-of}
use Rattle.descriptor_runs.proofs.Letting.{arrived-row}

-- the name is of a cell of one of the card's packets that go anywhere
abbrev IsThere : Plan → CellName → Type 0
IsThere card name = (name.packet < length card.packets) × (name.number < size_of (slice_index_or card.packets name.packet no_packet))
    × ((slice_index_or card.packets name.packet no_packet).fan ≢ 0)

module _ (scheduler : Scheduler) (scheduling : IsScheduler scheduler) (plan : SwitchPlan) (good : IsGood plan) (t : ℕ) where
  abbrev part : ℕ → Option Served
  part i = served_of (match_under scheduler plan t) i

  -- an input may be served its part
  pub may-serve : (i : ℕ) (input : InputValue) → i < ports_of plan → input.plan ≡ card_at plan i → HasServed input (parts_under scheduler plan i t) true
      → IsServable (row_in input) (part i)
  may-serve i input inside own served =
      subst (λ r. IsServable r (part i)) (sym (arrived-row scheduler plan t i input own served)) (requested scheduler scheduling plan good i t inside)

  -- after it, it has been served what the run has for its port before the next slot
  parts-more : (i : ℕ) → parts_under scheduler plan i t ++ part i ∷ [] ≡ parts_under scheduler plan i (t + 1)
  parts-more i =
      let served : ℕ → Option Served = served_under scheduler (setup_for plan) (posts_under scheduler plan) i in
      ap (λ parts. parts ++ part i ∷ []) (served-is scheduler plan i t)
      ∙ (sym (map-range_with_len_more served 0 t t (omega arith)) ∙ sym (served-is scheduler plan i (t + 1)))

  pub served-next : (i : ℕ) (input : InputValue) → HasServed input (parts_under scheduler plan i t ++ part i ∷ []) false
      → HasServed input (parts_under scheduler plan i (t + 1)) false
  served-next i input served = subst (λ parts. HasServed input parts false) (parts-more i) served

  -- ---- the name of the cell that it is granted
  named-by : (i : ℕ) (card : Plan) (p : Option Served) → card ≡ card_at plan i
      → name_by card (parts_under scheduler plan i t) p ≡ name_served scheduler plan i t p
  named-by i card None own = refl
  named-by i card (Some p) own =
      let parts = parts_under scheduler plan i t in
      ap (λ c. first_name (waiting (queue_in c (queue_served p) parts (length parts)))) own
      ∙ ap (λ n. first_name (waiting (queue_in (card_at plan i) (queue_served p) parts n))) (served-length scheduler plan i t)

  pub name-granted : (i : ℕ) (input : InputValue) → input.plan ≡ card_at plan i
      → name_by input.plan (parts_under scheduler plan i t) (part i) ≡ granted_name scheduler plan i t
  name-granted i input own = named-by i input.plan (part i) own

  -- it is that of the cell which the port posts in the next slot
  module _ (i : ℕ) (inside : i < ports_of plan) (input : InputValue) (own : input.plan ≡ card_at plan i)
      (served : HasServed input (parts_under scheduler plan i t) true) where
    abbrev card : Plan
    card = card_at plan i

    of-name : (p : Served) (name : Option CellName) → IsPartOf (row_in input) p
        → first_name (waiting (queue_in card (queue_served p) (parts_under scheduler plan i t) t)) ≡ name
        → IsNameOf card (option_map (cell_named card) name) name
    of-name p None may is = refl
    of-name p (Some name) may is =
        let granted = name_there input (parts_under scheduler plan i t) served p may name (sym is ∙ sym (named-by i input.plan (Some p) own)) in
        let (packet, number, routed) = subst (λ (c : Plan). IsThere c name) own (granted.named.there, granted.named.number, granted.routed) in
        (refl, packet, number, routed)

    by-part : (p : Option Served) → IsServable (row_in input) p
        → IsNameOf card (granted_by card (parts_under scheduler plan i (suc t)) t p) (name_served scheduler plan i t p)
    by-part None may = refl
    by-part (Some p) may =
        let name = first_name (waiting (queue_in card (queue_served p) (parts_under scheduler plan i t) t)) in
        let same : first_name (waiting (queue_in card (queue_served p) (parts_under scheduler plan i (suc t)) t)) ≡ name =
        ap (λ s. first_name (waiting s)) (queue_in-same scheduler plan i t (suc t) (omega arith) (queue_served p)) in
        subst (λ n. IsNameOf card (option_map (cell_named card) n) name) (sym same) (of-name p name may refl)

    name-is : IsNameOf card (granted_at card (parts_under scheduler plan i (suc t)) (suc t)) (granted_name scheduler plan i t)
    name-is =
        subst (λ p. IsNameOf card (granted_by card (parts_under scheduler plan i (suc t)) t p) (granted_name scheduler plan i t))
        (sym (served-at scheduler plan i t (suc t) (omega arith))) (by-part (part i) (may-serve i input inside own served))

  pub names-next : (inputs : List InputValue) (names : List (Option CellName)) → AreInputs scheduler plan t true inputs → AreGranted scheduler plan t names
      → AreNames scheduler plan (t + 1) names
  names-next inputs names are granted i inside =
      let next : suc t ≡ t + 1 = omega arith in
      let card = card_at plan i in
      let count = count-inputs plan inputs are.plans in
      let (input, at) = at_place inputs i (omega arith) in
      subst (λ k. IsNameOf card (granted_at card (parts_under scheduler plan i k) k) (slice_index_or names i None)) next
      (subst (IsNameOf card (granted_at card (parts_under scheduler plan i (suc t)) (suc t))) (sym (granted i inside))
      (name-is i inside input (plan-of plan inputs are.plans i input at) (are.served i input at)))
