-- Each output has room for the messages that the inputs send to it.
use Rattle.std.proofs.Common.{◌≡◌, ◌∙◌, ℕ, zero, suc, ◌+◌, ◌*◌, ◌<◌, ◌≤◌, max, ◌==◌, ◌&&◌, Bool, true, false, List, [], ◌∷◌, ◌++◌, map, length, fold}
use Rattle.std.proofs.Common.{Some, slice_get, slice_index, slice_index_or, refl, sym, ap, subst, arith, if◌then◌else◌}
use Rattle.std.specs.List.{range_with_len}
use Rattle.std.proofs.Math.Nat.{le-max_left, le-max_right}
use Rattle.std.proofs.lemmas.Bool.{eq-eqb}
use Rattle.std.proofs.lemmas.List.{get_or_append_left, get_or-append-add, get_or-map, length-map}
use Rattle.std.proofs.lemmas.List.Concat.{flat_map-cons}
use Rattle.std.proofs.lemmas.List.FromFn.{get_or-map-range_with_len, length-map-range_with_len}
use Rattle.rotating_pick.specs.declared.kinds.Kind.{Kind}
use Rattle.rotating_pick.specs.declared.kinds.Kind.TheVariants.{Uni, Multi}
use Rattle.slot_histories.specs.Tests.{has}
use Rattle.cell_cutter.specs.Kinds.{kind_byte}
use Rattle.reassembly.specs.Flows.{place_of}
use Rattle.card_core.specs.declared.plan.Planned.{Planned}
use Rattle.card_core.specs.Plans.{Plan, kind_of, queue_of, message_of}
use Rattle.card_core.proofs.Messaging.{message-long}
use Rattle.std.proofs.lemmas.Option.{same_Some}
use Rattle.switch_plan.specs.Totals.{goes_to, message_length, flow_of, greatest_message, sizes_for}
use Rattle.switch_plan.specs.GoodPlans.{SwitchPlan, IsGood, packets_in}
use Rattle.run_laws.specs.Runs.{ports_of, card_at, no_plan}
use Rattle.run_laws.proofs.Base.{good-card}

-- ---- the greatest message of a flow
-- the greatest so far, after one packet more
abbrev greater : ℕ → ℕ → ℕ → Planned → ℕ
greater j flow most p = if goes_to j p && (flow_of p == flow) then max most (message_length p) else most

greater_if : (most n : ℕ) (b : Bool) → most ≤ (if b then max most n else most)
greater_if most n true = le-max_left most n
greater_if most n false = omega arith

greatest_rises : (j flow : ℕ) (ps : List Planned) (most : ℕ) → most ≤ fold (greater j flow) most ps
greatest_rises j flow [] most = omega arith
greatest_rises j flow (p ∷ ps) most =
    let step = greater_if most (message_length p) (goes_to j p && (flow_of p == flow)) in
    let rest = greatest_rises j flow ps (greater j flow most p) in
    omega (arith, step, rest)

greatest_has : (j flow : ℕ) (ps : List Planned) (most k : ℕ) (p : Planned) → slice_get ps k ≡ Some p → goes_to j p ≡ true → flow_of p ≡ flow
    → message_length p ≤ fold (greater j flow) most ps
greatest_has j flow [] most k p there goes is = absurd (cc)
greatest_has j flow (x ∷ ps) most zero p there goes is =
    let test : goes_to j p && (flow_of p == flow) ≡ true = rw (goes, eq-eqb (flow_of p) flow is) in
    let step : message_length p ≤ greater j flow most p = rw test (le-max_right most (message_length p)) in
    let rest = greatest_rises j flow ps (greater j flow most p) in
    subst (λ r. message_length p ≤ fold (greater j flow) (greater j flow most r) ps) (sym (same_Some x p there)) (omega (arith, step, rest))
greatest_has j flow (x ∷ ps) most (suc k) p there goes is = greatest_has j flow ps (greater j flow most x) k p there goes is

-- ---- the sizes of all flows
sizes_at : (j flow : ℕ) → flow < 8 → (ports : List (List Planned)) (i : ℕ) → i < length ports
    → slice_index (sizes_for j ports) (8 * i + flow) ≡ greatest_message j flow (slice_index_or ports i [])
sizes_at j flow small [] i inside = absurd (omega arith)
sizes_at j flow small (packets ∷ ports) zero inside =
    let own = map (λ f. greatest_message j f packets) (range_with_len 0 8) in
    ap (λ xs. slice_index xs (8 * 0 + flow)) (flat_map-cons (λ ps. map (λ f. greatest_message j f ps) (range_with_len 0 8)) packets ports)
    ∙ ap (slice_index (own ++ sizes_for j ports)) (let e : 8 * 0 + flow ≡ flow = omega arith in e)
    ∙ get_or_append_left own (sizes_for j ports) 0 flow (omega (arith, length-map-range_with_len (λ f. greatest_message j f packets) 0 8))
    ∙ get_or-map-range_with_len (λ f. greatest_message j f packets) 0 8 flow flow 0 small (omega arith)
sizes_at j flow small (packets ∷ ports) (suc i) inside =
    let own = map (λ f. greatest_message j f packets) (range_with_len 0 8) in
    let long : length own ≡ 8 = length-map-range_with_len (λ f. greatest_message j f packets) 0 8 in
    ap (λ xs. slice_index xs (8 * suc i + flow)) (flat_map-cons (λ ps. map (λ f. greatest_message j f ps) (range_with_len 0 8)) packets ports)
    ∙ ap (slice_index (own ++ sizes_for j ports)) (let e : 8 * suc i + flow ≡ length own + (8 * i + flow) = omega arith in e)
    ∙ get_or-append-add own (sizes_for j ports) (8 * i + flow) 0
    ∙ sizes_at j flow small ports i (omega arith)

flow_small : (level : ℕ) (kind : Kind) → level < 4 → 2 * level + kind_byte kind < 8
flow_small level Uni small = omega arith
flow_small level Multi small = omega arith

-- ---- packets and their messages
module _ (plan : SwitchPlan) (good : IsGood plan) where
  pub packets-at : (i : ℕ) → i < ports_of plan → slice_index_or (packets_in plan) i [] ≡ (card_at plan i).packets
  packets-at i inside = get_or-map (λ (card : Plan). card.packets) plan.cards i no_plan [] inside

  -- the flow of a packet at each of its outputs has room for its message
  pub size-enough : (i j k : ℕ) (p : Planned) → i < ports_of plan → j < ports_of plan → slice_get (card_at plan i).packets k ≡ Some p → has p.fan j ≡ true
      → length (message_of (card_at plan i) p) ≤ slice_index (card_at plan j).sizes (place_of i p.level (kind_of (queue_of p)))
  size-enough i j k p inside to there goes =
      let small = flow_small p.level (kind_of (queue_of p)) ((good-card plan good i inside).good.packets k p there).level in
      let count : length (packets_in plan) ≡ ports_of plan = length-map plan.cards (λ (card : Plan). card.packets) in
      let at : slice_index (card_at plan j).sizes (place_of i p.level (kind_of (queue_of p))) ≡ greatest_message j (flow_of p) (card_at plan i).packets =
      ap (λ sizes. slice_index sizes (place_of i p.level (kind_of (queue_of p)))) (good-card plan good j to).sizes
      ∙ ap (slice_index (sizes_for j (packets_in plan))) (let e : 8 * i + 2 * p.level + kind_byte (kind_of (queue_of p)) ≡ 8 * i + flow_of p = omega arith in e)
      ∙ sizes_at j (flow_of p) small (packets_in plan) i (omega arith)
      ∙ ap (greatest_message j (flow_of p)) (packets-at i inside) in
      let most = greatest_has j (flow_of p) (card_at plan i).packets 0 k p there goes refl in
      omega (arith, at, most, message-long (card_at plan i) (good-card plan good i inside).good k p there)
