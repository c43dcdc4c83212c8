-- What a slot brings to the outputs: each takes the cell of the input that feeds it.
use Rattle.std.proofs.Common.{◌≡◌, ◌≢◌, ◌∙◌, ℕ, ◌+◌, ◌^◌, ◌<◌, ◌≤◌, ◌↔◌, Bool, List, ◌++◌, map, length, set, Option, None, Some, refl, sym, ap, subst}
use Rattle.std.proofs.Common.{arith, inl, inr}
use Rattle.std.specs.Prelude.{slice_get, slice_index_or, IfSome}
use Rattle.std.proofs.lemmas.List.{get_or-map, length-append, length-map, length-set}
use Rattle.std.proofs.lemmas.Option.{none-some, slice_get_within, slice_get-get_or}
use Rattle.std_lemmas.proofs.Lists.{got_set}
use Rattle.rotating_pick.specs.PortSets.{Has}
use Rattle.cell_cutter.specs.declared.cell.CellName.{CellName}
use Rattle.slot_match.specs.declared.matching.Fed.{Fed}
use Rattle.slot_match.specs.Matches.{IsFreeOutput, fed_of}
use Rattle.pcap_records.specs.Output.{capture_text}
use Rattle.eslip_rounds.specs.Schedulers.{Scheduler, IsScheduler}
use Rattle.card_core.specs.Plans.{Plan as CardPlan, IsGoodPlan}
use Rattle.switch_plan.specs.GoodPlans.{SwitchPlan, IsGood, IsCountable}
use Rattle.run_laws.specs.Runs.{ports_of, card_at, no_plan}
use Rattle.run_laws.specs.Crossings.{cells_under}
use Rattle.run_laws.proofs.Base.{good-card, sound}
use Rattle.run_laws.specs.Outcomes.{messages_under}
use Rattle.slot_records.specs.Slots.{match_under, packet_named, AddsNothing, AddsCell, AddsBy, AddsInSlot}
use Rattle.descriptor_runs.specs.InputSteps.{InputValue}
use Rattle.descriptor_runs.specs.OutputSteps.{OutputValue, HasCome, HasTaken, messages_with}
use Rattle.descriptor_runs.specs.SwitchSteps.{AreGranted, AreOutputs}

-- The outputs have what slot t brings to them, except for those of the set, which have what came before.
pub record AreFed (scheduler : Scheduler) (plan : SwitchPlan) (t left : ℕ) (outputs : List OutputValue) : Type 0 where
  pub count : length outputs ≡ ports_of plan
  pub fed : (j : ℕ) (output : OutputValue) → (Has left j → ⊥) → slice_get outputs j ≡ Some output → HasCome scheduler plan (t + 2) j output
  pub rest : (j : ℕ) (output : OutputValue) → Has left j → slice_get outputs j ≡ Some output → HasCome scheduler plan (t + 1) j output

-- the outputs of the set are those that the match feeds
abbrev pub AreFeeding : List (Option Fed) → ℕ → Type 0
AreFeeding matched fed = (j : ℕ) → Has fed j ↔ ((j < length matched) × (IsFreeOutput matched j → ⊥))

-- These are the inputs of the plan's ports, the names of the cells that they are granted in slot t, its match, and the unit of
-- captures.
pub record IsFeeding (scheduler : Scheduler) (plan : SwitchPlan) (t : ℕ) (inputs : List InputValue) (names : List (Option CellName))
    (matched : List (Option Fed)) (nano : Bool) : Type 0 where
  pub scheduling : IsScheduler scheduler
  pub good : IsGood plan
  pub plans : map (λ (input : InputValue). input.plan) inputs ≡ plan.cards
  pub granted : AreGranted scheduler plan t names
  pub matched_is : matched ≡ match_under scheduler plan t
  pub nano_is : nano ≡ plan.nano

-- What is known where the outputs take what slot t brings.
pub record Feeding (inputs : List InputValue) (names : List (Option CellName)) (matched : List (Option Fed)) (nano : Bool)
    (outputs : List OutputValue) : Type 0 where
  pub scheduler : Scheduler
  pub plan : SwitchPlan
  pub t : ℕ
  pub is : IsFeeding scheduler plan t inputs names matched nano
  pub slots : plan.max_slots < 2 ^ 32
  pub below : t < plan.max_slots
  pub outputs_are : AreOutputs scheduler plan (t + 1) outputs

-- what slots add to outputs, as the law says it
abbrev pub Law : Type 0
Law = (scheduler : Scheduler) (plan : SwitchPlan) (j t : ℕ) → IsScheduler scheduler → IsGood plan → j < ports_of plan → AddsInSlot scheduler plan j t

pub feeding : (inputs : List InputValue) (names : List (Option CellName)) (matched : List (Option Fed)) (nano : Bool) (outputs : List OutputValue)
    → ((scheduler : Scheduler) × (plan : SwitchPlan) × (t : ℕ) × IsScheduler scheduler × IsGood plan × IsCountable plan × (t < plan.max_slots)
    × (map (λ (input : InputValue). input.plan) inputs ≡ plan.cards) × AreGranted scheduler plan t names × (matched ≡ match_under scheduler plan t)
    × (nano ≡ plan.nano) × AreOutputs scheduler plan (t + 1) outputs) → Feeding inputs names matched nano outputs
feeding inputs names matched nano outputs (scheduler, plan, t, scheduling, good, countable, below, plans, granted, matched-is, nano-is, are) = record {
  scheduler = scheduler;
  plan = plan;
  t = t;
  is = record { scheduling = scheduling; good = good; plans = plans; granted = granted; matched_is = matched-is; nano_is = nano-is };
  slots = countable.slots;
  below = below;
  outputs_are = are;
}

-- An input feeds output j, and is granted the cell of this name, which is the cell that the slot adds to the output.
pub record IsFed (scheduler : Scheduler) (plan : SwitchPlan) (t j : ℕ) (names : List (Option CellName)) (fed : Fed) : Type 0 where
  pub name : CellName
  pub named : slice_index_or names fed.input None ≡ Some name
  pub adds : AddsCell scheduler plan j fed.input name (t + 1) (t + 2)

module _ (scheduler : Scheduler) (plan : SwitchPlan) (t : ℕ) where
  -- ---- one output
  come_nothing : (j : ℕ) (output : OutputValue) → AddsNothing scheduler plan j (t + 1) (t + 2) → HasCome scheduler plan (t + 1) j output
      → HasCome scheduler plan (t + 2) j output
  come_nothing j output adds come = record {
    text = subst (λ messages. IfSome output.text (λ text. text ≡ capture_text plan.nano plan.link messages)) (sym adds.messages) come.text;
    packets = come.packets ∙ ap length (sym adds.messages);
    cells = come.cells ∙ ap length (sym adds.cells);
  }

  come_cell : (j i : ℕ) (name : CellName) (card : CardPlan) (nano : Bool) (before after : OutputValue) → card_at plan i ≡ card → nano ≡ plan.nano
      → AddsCell scheduler plan j i name (t + 1) (t + 2) → HasTaken nano (messages_with card name) before after
      → HasCome scheduler plan (t + 1) j before → HasCome scheduler plan (t + 2) j after
  come_cell j i name card nano before after card-is nano-is adds taken come =
      let earlier = messages_under scheduler plan j (t + 1) in
      let added = messages_with card name in
      let more : earlier ++ added ≡ messages_under scheduler plan j (t + 2) = sym (adds.messages ∙ ap (λ c. earlier ++ messages_with c name) card-is) in
      let own : IfSome before.text (λ text. text ≡ capture_text nano plan.link earlier) =
      subst (λ n. IfSome before.text (λ text. text ≡ capture_text n plan.link earlier)) (sym nano-is) come.text in
      let now : IfSome after.text (λ text. text ≡ capture_text plan.nano plan.link (earlier ++ added)) =
      subst (λ n. IfSome after.text (λ text. text ≡ capture_text n plan.link (earlier ++ added))) nano-is (taken.text plan.link earlier own) in
      record {
        text = subst (λ messages. IfSome after.text (λ text. text ≡ capture_text plan.nano plan.link messages)) more now;
        packets = taken.packets ∙ ap (λ n. n + length added) come.packets ∙ sym (length-append earlier added) ∙ ap length more;
        cells = taken.cells ∙ ap (λ n. n + 1) come.cells ∙ sym adds.cells;
      }

  -- ---- all outputs
  pub fed_all : (outputs : List OutputValue) (left : ℕ) → AreFed scheduler plan t left outputs → ((j : ℕ) → Has left j → ⊥)
      → AreOutputs scheduler plan (t + 2) outputs
  fed_all outputs left are none = record { count = are.count; come = λ j output at. are.fed j output (none j) at }

  fed_set : (outputs : List OutputValue) (left less k : ℕ) (new : OutputValue) → AreFed scheduler plan t left outputs
      → ((y : ℕ) → Has less y ↔ ((y ≢ k) × Has left y)) → HasCome scheduler plan (t + 2) k new → AreFed scheduler plan t less (set outputs k new)
  fed_set outputs left less k new are fewer here = record {
    count = length-set outputs k new ∙ are.count;
    fed = λ j output lacks at. elim (got_set outputs k j new output at) [
      | inl (same, is) ↦
          subst (λ i. HasCome scheduler plan (t + 2) i output) (sym same) (subst (HasCome scheduler plan (t + 2) k) (sym is) here)
      | inr (other, there) ↦ are.fed j output (λ has. lacks ((fewer j).1 (other, has))) there
    ];
    rest = λ j output has at. elim (got_set outputs k j new output at) [
      | inl (same, is) ↦ absurd (((fewer j).0 has).0 same)
      | inr (other, there) ↦ are.rest j output ((fewer j).0 has).1 there
    ];
  }

  -- ---- a slot
  module _ (inputs : List InputValue) (names : List (Option CellName)) (matched : List (Option Fed)) (nano : Bool)
      (is : IsFeeding scheduler plan t inputs names matched nano) where
    pub match-long : length matched ≡ ports_of plan
    match-long = ap length is.matched_is ∙ (sound scheduler is.scheduling plan is.good t).matches.count

    pub inputs-long : length inputs ≡ ports_of plan
    inputs-long = sym (length-map inputs (λ (input : InputValue). input.plan)) ∙ ap length is.plans

    pub card-is : (i : ℕ) (input : InputValue) → input ≡ slice_index_or inputs i input → i < ports_of plan → card_at plan i ≡ input.plan
    card-is i input own inside =
        ap (λ cards. slice_index_or cards i no_plan) (sym is.plans)
        ∙ get_or-map (λ (x : InputValue). x.plan) inputs i input no_plan (omega (arith, inputs-long))
        ∙ ap (λ (x : InputValue). x.plan) (sym own)

    module _ (law : Law) (given : List OutputValue) (are-given : AreOutputs scheduler plan (t + 1) given) (j : ℕ) (below : j < length given) where
      feeds : (feed : Option Fed) → fed_of matched j ≡ feed → AddsBy scheduler plan j t feed
      feeds feed at =
          subst (AddsBy scheduler plan j t) (sym (ap (λ m. fed_of m j) is.matched_is) ∙ at)
          (law scheduler plan j t is.scheduling is.good (omega (arith, are-given.count)))

      -- an input that feeds the output is granted the cell that the output takes
      pub fed_from : (fed : Fed) → fed_of matched j ≡ Some fed → IsFed scheduler plan t j names fed
      fed_from fed at =
          let (name, granted, adds) = feeds (Some fed) at in
          record { name = name; named = is.granted fed.input adds.input ∙ granted; adds = adds }

      pub some_name : (fed : Fed) → fed_of matched j ≡ Some fed → slice_index_or names fed.input None ≡ None → ⊥
      some_name fed at none = let named = (fed_from fed at).named in cc

      adds_named : (fed : Fed) (name : CellName) → fed_of matched j ≡ Some fed → slice_index_or names fed.input None ≡ Some name
          → AddsCell scheduler plan j fed.input name (t + 1) (t + 2)
      adds_named fed name at named =
          let from = fed_from fed at in
          let same : from.name ≡ name = let own = from.named in cc in
          subst (λ n. AddsCell scheduler plan j fed.input n (t + 1) (t + 2)) same from.adds

      -- the input can hand its packet on
      pub good-input : (fed : Fed) (input : InputValue) → fed_of matched j ≡ Some fed → input ≡ slice_index_or inputs fed.input input → IsGoodPlan input.plan
      good-input fed input at own =
          let inside = (fed_from fed at).adds.input in
          subst IsGoodPlan (card-is fed.input input own inside) (good-card plan is.good fed.input inside).good

      pub packet-there : (fed : Fed) (name : CellName) (input : InputValue) → fed_of matched j ≡ Some fed → slice_index_or names fed.input None ≡ Some name
          → input ≡ slice_index_or inputs fed.input input → name.packet < length input.plan.packets
      packet-there fed name input at named own =
          let adds = adds_named fed name at named in
          subst (λ (card : CardPlan). name.packet < length card.packets) (card-is fed.input input own adds.input)
          (slice_get_within (card_at plan fed.input).packets name.packet (packet_named plan fed.input name) adds.there)

      -- ---- what the slot makes of the output
      come_free : (output : OutputValue) → fed_of matched j ≡ None → HasCome scheduler plan (t + 1) j output → HasCome scheduler plan (t + 2) j output
      come_free output free = come_nothing j output (feeds None free)

      pub fed_more : (outputs : List OutputValue) (left less : ℕ) (before after : OutputValue) (fed : Fed) (name : CellName) (input : InputValue)
          → AreFed scheduler plan t left outputs → ((y : ℕ) → Has less y ↔ ((y ≢ j) × Has left y)) → HasCome scheduler plan (t + 1) j before
          → fed_of matched j ≡ Some fed → slice_index_or names fed.input None ≡ Some name → input ≡ slice_index_or inputs fed.input input
          → HasTaken nano (messages_with input.plan name) before after → AreFed scheduler plan t less (set outputs j after)
      fed_more outputs left less before after fed name input are fewer come at named own taken =
          let adds = adds_named fed name at named in
          fed_set outputs left less j after are fewer
          (come_cell j fed.input name input.plan nano before after (card-is fed.input input own adds.input) is.nano_is adds taken come)

    -- before any output takes what the slot brings, those that are not fed have it
    module _ (law : Law) (given : List OutputValue) (are-given : AreOutputs scheduler plan (t + 1) given) (fed : ℕ) (feeding : AreFeeding matched fed) where
      free-output : (j : ℕ) → j < length matched → (Has fed j → ⊥) → (feed : Option Fed) → fed_of matched j ≡ feed → fed_of matched j ≡ None
      free-output j inside lacks None at = at
      free-output j inside lacks (Some f) at = absurd (lacks ((feeding j).1 (inside, λ free. none-some f (sym free ∙ at))))

      pub fed_first : AreFed scheduler plan t fed given
      fed_first = record {
        count = are-given.count;
        fed = λ j output lacks at.
            let below = slice_get_within given j output at in
            let count = are-given.count in
            let long = match-long in
            let free = free-output j (omega arith) lacks (fed_of matched j) refl in
            come_free law given are-given j below output free (are-given.come j output at);
        rest = λ j output has at. are-given.come j output at;
      }

  -- ---- an output that is next
  pub come_before : (outputs : List OutputValue) (left k : ℕ) (d : OutputValue) → AreFed scheduler plan t left outputs → Has left k → k < length outputs
      → HasCome scheduler plan (t + 1) k (slice_index_or outputs k d)
  come_before outputs left k d are has inside = are.rest k (slice_index_or outputs k d) has (slice_get-get_or outputs k d inside)

  -- its numbers are of 32 bits
  pub few_cells : (j : ℕ) (output : OutputValue) → HasCome scheduler plan (t + 1) j output → t < plan.max_slots → plan.max_slots < 2 ^ 32
      → length (cells_under scheduler plan j (t + 1)) ≤ t → output.cells + 1 < 2 ^ 32
  few_cells j output come slot slots cells = omega (arith, come.cells)

  pub few_packets : (j : ℕ) (output : OutputValue) → HasCome scheduler plan (t + 1) j output
      → length (messages_under scheduler plan j (t + 1)) ≤ length (cells_under scheduler plan j (t + 1)) → output.packets ≤ output.cells
  few_packets j output come fewer = omega (arith, come.cells, come.packets)
