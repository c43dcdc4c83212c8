-- Inputs that are served in a slot, one after another.
use Rattle.std.proofs.Common.{◌≡◌, ◌≢◌, ◌∙◌, ℕ, ◌+◌, ◌<◌, ◌↔◌, true, false, List, [], ◌∷◌, ◌++◌, map, length, replicate, set, Option, None, Some}
use Rattle.std.proofs.Common.{refl, sym, ap, subst, arith, inl, inr, slice_index_or, get_or-set_same, get_or-set_other}
use Rattle.std.specs.Prelude.{slice_get}
use Rattle.std.proofs.lemmas.Bool.{cases_eq}
use Rattle.std.proofs.lemmas.List.{length-set}
use Rattle.std.proofs.lemmas.Option.{same_Some}
use Rattle.std_lemmas.proofs.Lists.{at_place, get_or-same}
use Rattle.rotating_pick.specs.PortSets.{Has}
use Rattle.rotating_pick.specs.declared.limits.TheConstants.{MAX_PORTS}
use Rattle.cell_cutter.specs.declared.cell.CellName.{CellName}
use Rattle.slot_match.specs.declared.matching.Fed.{Fed}
use Rattle.slot_match.specs.declared.matching.Served.{Served}
use Rattle.slot_match.specs.Matches.{IsFreeInput}
use Rattle.slot_match.specs.Parts.{served_of}
use Rattle.slot_match.proofs.ServedParts.{served_of-free, served_of-none}
use Rattle.multicast_queue.specs.FanQueues.{first_name}
use Rattle.slot_histories.specs.Parts.{IsPartOf}
use Rattle.eslip_rounds.specs.Schedulers.{Scheduler, IsScheduler}
use Rattle.card_core.specs.Queues.{waiting, queue_in}
use Rattle.card_core.specs.Posts.{IsServable, queue_served}
use Rattle.switch_plan.specs.GoodPlans.{SwitchPlan, IsGood}
use Rattle.run_laws.specs.Runs.{ports_of, parts_under}
use Rattle.run_laws.proofs.Base.{sound}
use Rattle.slot_records.specs.Slots.{match_under, name_served, granted_name}
use Rattle.descriptor_runs.specs.InputSteps.{InputValue, HasServed, row_in}
use Rattle.descriptor_runs.specs.SwitchSteps.{AreInputs, AreNames, AreParts, AreGranted, name_by}
use Rattle.descriptor_runs.proofs.InputPorts.{count-inputs, plan-of, in-ports}
use Rattle.descriptor_runs.proofs.ServedInputs.{serves_none}
use Rattle.descriptor_runs.proofs.Granting.{may-serve, served-next, name-granted, names-next}

-- These are the inputs in slot t, whose packets have arrived, its match, and its part of each input.
pub record IsServing (scheduler : Scheduler) (plan : SwitchPlan) (t : ℕ) (inputs : List InputValue) (matched : List (Option Fed))
    (parts : List (Option Served)) : Type 0 where
  pub scheduling : IsScheduler scheduler
  pub good : IsGood plan
  pub inputs_are : AreInputs scheduler plan t true inputs
  pub matched_is : matched ≡ match_under scheduler plan t
  pub parts_are : AreParts scheduler plan t parts

-- The inputs have been served in slot t and are granted their cells, except for those of the set, which are as they were given.
pub record AreServed (scheduler : Scheduler) (plan : SwitchPlan) (t : ℕ) (given : List InputValue) (rest : ℕ) (inputs : List InputValue)
    (names : List (Option CellName)) : Type 0 where
  pub long : length names ≡ MAX_PORTS
  pub plans : map (λ (input : InputValue). input.plan) inputs ≡ plan.cards
  pub waiting : (i : ℕ) → Has rest i → slice_get inputs i ≡ slice_get given i
  pub served : (i : ℕ) (input : InputValue) → (Has rest i → ⊥) → slice_get inputs i ≡ Some input → HasServed input (parts_under scheduler plan i (t + 1)) false
  pub named : (i : ℕ) → i < ports_of plan → (Has rest i → ⊥) → slice_index_or names i None ≡ granted_name scheduler plan i t

-- the inputs of the set are those that the match serves
abbrev pub AreServing : List (Option Fed) → ℕ → Type 0
AreServing matched served = (i : ℕ) → Has served i ↔ ((i < length matched) × (IsFreeInput matched i → ⊥))

-- an input that is not in it is free
pub free-unless : (matched : List (Option Fed)) (served i : ℕ) → AreServing matched served → i < length matched → (Has served i → ⊥) → IsFreeInput matched i
free-unless matched served i serving inside lacks j level kind s = lacks ((serving i).1 (inside, λ free. free j level kind s))

module _ (scheduler : Scheduler) (plan : SwitchPlan) (t : ℕ) (given : List InputValue) (matched : List (Option Fed)) (parts : List (Option Served))
    (is : IsServing scheduler plan t given matched parts) where
  pub match-long : length matched ≡ ports_of plan
  match-long = ap length is.matched_is ∙ (sound scheduler is.scheduling plan is.good t).matches.count

  -- an input that is not served has no part
  no-part : (served : ℕ) → AreServing matched served → (i : ℕ) → i < ports_of plan → (Has served i → ⊥) → served_of (match_under scheduler plan t) i ≡ None
  no-part served serving i inside lacks =
      let long = match-long in
      let free : IsFreeInput matched i = free-unless matched served i serving (omega arith) lacks in
      ap (λ (m : List (Option Fed)). served_of m i) (sym is.matched_is) ∙ served_of-free matched i free

  -- and one that is has one
  pub some-part : (i : ℕ) → i < ports_of plan → (IsFreeInput matched i → ⊥) → slice_index_or parts i None ≡ None → ⊥
  some-part i inside serves none =
      let m = match_under scheduler plan t in
      let whole = (sound scheduler is.scheduling plan is.good t).matches in
      serves (subst (λ (m : List (Option Fed)). IsFreeInput m i) (sym is.matched_is)
      (served_of-none (ports_of plan) m whole i (sym (is.parts_are i inside) ∙ none)))

  -- before any input is served
  pub served-first : (served : ℕ) (names : List (Option CellName)) → AreServing matched served → names ≡ replicate MAX_PORTS None
      → AreServed scheduler plan t given served given names
  served-first served names serving none =
      let are = is.inputs_are in
      record {
        long = ap length none;
        plans = are.plans;
        waiting = λ i has. refl;
        served = λ i input lacks at.
            let part = no-part served serving i (in-ports plan given are.plans i input at) lacks in
            served-next scheduler is.scheduling plan is.good t i input
            (subst (λ p. HasServed input (parts_under scheduler plan i t ++ p ∷ []) false) (sym part)
            (serves_none input (parts_under scheduler plan i t) (are.served i input at)));
        named = λ i inside lacks.
            ap (λ (ns : List (Option CellName)). slice_index_or ns i None) none
            ∙ (get_or-same None MAX_PORTS i ∙ sym (ap (name_served scheduler plan i t) (no-part served serving i inside lacks)));
      }

  -- ---- one input
  module _ (i : ℕ) (inside : i < ports_of plan) (part : Served) (own : slice_index_or parts i None ≡ Some part) where
    abbrev pub now : List (Option Served)
    now = parts_under scheduler plan i t

    part-is : Some part ≡ served_of (match_under scheduler plan t) i
    part-is = sym own ∙ is.parts_are i inside

    pub input-there : (input : InputValue) × (slice_get given i ≡ Some input)
    input-there =
        let count = count-inputs plan given is.inputs_are.plans in
        at_place given i (omega arith)

    pub was : HasServed input-there.0 now true
    was = is.inputs_are.served i input-there.0 input-there.1

    pub may : IsPartOf (row_in input-there.0) part
    may =
        subst (IsServable (row_in input-there.0)) (sym part-is)
        (may-serve scheduler is.scheduling plan is.good t i input-there.0 inside (plan-of plan given is.inputs_are.plans i input-there.0 input-there.1) was)

    -- it is served, and granted the cell that was the first of its queue
    pub served-more : (rest less : ℕ) (inputs later : List InputValue) (names : List (Option CellName)) (after : InputValue) (name : CellName)
        → AreServed scheduler plan t given rest inputs names → Has rest i → ((y : ℕ) → Has less y ↔ ((y ≢ i) × Has rest y))
        → map (λ (input : InputValue). input.plan) later ≡ map (λ (input : InputValue). input.plan) inputs
        → ((k : ℕ) → k ≢ i → slice_get later k ≡ slice_get inputs k) → slice_get later i ≡ Some after → HasServed after (now ++ Some part ∷ []) false
        → Some name ≡ first_name (waiting (queue_in input-there.0.plan (queue_served part) now (length now)))
        → AreServed scheduler plan t given less later (set names i (Some name))
    served-more rest less inputs later names after name so_far has fewer plans others there left first =
        let good = is.good in
        let most = good.size.most in
        let long = so_far.long in
        let stays = λ (k : ℕ) (other : k ≢ i) (lacks : Has less k → ⊥) (waits : Has rest k). lacks ((fewer k).1 (other, waits)) in
        let own_plan = plan-of plan given is.inputs_are.plans i input-there.0 input-there.1 in
        record {
          long = length-set names i (Some name) ∙ long;
          plans = plans ∙ so_far.plans;
          waiting = λ k waits. let p = (fewer k).0 waits in others k p.0 ∙ so_far.waiting k p.1;
          served = λ k input lacks at. elim (cases_eq k i) [
            | inl same ↦
                let mine : after ≡ input = same_Some after input (sym there ∙ (ap (slice_get later) (sym same) ∙ at)) in
                subst (λ j. HasServed input (parts_under scheduler plan j (t + 1)) false) (sym same)
                (subst (λ (x : InputValue). HasServed x (parts_under scheduler plan i (t + 1)) false) mine
                (served-next scheduler is.scheduling plan good t i after (subst (λ p. HasServed after (now ++ p ∷ []) false) part-is left)))
            | inr apart ↦ so_far.served k input (stays k apart lacks) (sym (others k apart) ∙ at)
          ];
          named = λ k below lacks. elim (cases_eq k i) [
            | inl same ↦
                rw same (get_or-set_same names i (Some name) None (omega arith)
                ∙ (first ∙ (ap (name_by input-there.0.plan now) part-is ∙ name-granted scheduler is.scheduling plan good t i input-there.0 own_plan)))
            | inr apart ↦ get_or-set_other names i k (Some name) None apart ∙ so_far.named k below (stays k apart lacks)
          ];
        }

  -- when all are
  pub served-all : (inputs : List InputValue) (names : List (Option CellName)) (rest : ℕ) → AreServed scheduler plan t given rest inputs names
      → ((i : ℕ) → Has rest i → ⊥)
      → AreInputs scheduler plan (t + 1) false inputs × AreGranted scheduler plan t names × AreNames scheduler plan (t + 1) names
  served-all inputs names rest all none =
      let granted : AreGranted scheduler plan t names = λ i inside. all.named i inside (none i) in (
        record { plans = all.plans; served = λ i input at. all.served i input (none i) at },
        granted,
        names-next scheduler is.scheduling plan is.good t given names is.inputs_are granted,
      )
