-- The rows of what is kept of a run are those of the packets file.
use Rattle.std.proofs.Common.{◌≡◌, ◌∙◌, ℕ, zero, suc, ◌+◌, ◌-◌, ◌<◌, ◌≤◌, ◌==◌, ◌&&◌, not, nat_lt, Bool, true, false, List, [], ◌∷◌, ◌++◌, map, length}
use Rattle.std.proofs.Common.{if◌then◌else◌, Option, None, Some, refl, sym, ap, subst, arith, slice_get, slice_index, slice_index_or, zero-add}
use Rattle.std.specs.List.{flat_map, range_with_len, enumerate_from}
use Rattle.std.proofs.lemmas.Bool.{lt-ltb}
use Rattle.rotating_pick.proofs.Bits.{Has-lt}
use Rattle.rotating_pick.specs.declared.limits.TheConstants.{LEVELS, MAX_PORTS}
use Rattle.eslip_rounds.specs.Schedulers.{Scheduler}
use Rattle.card_core.specs.declared.plan.Planned.{Planned}
use Rattle.card_core.specs.Plans.{kind_of, queue_of}
use Rattle.card_core.specs.Queues.{is_routed, is_admitted}
use Rattle.cell_cutter.specs.declared.sizes.TheConstants.{MAX_FORWARDED_BYTES}
use Rattle.switch_plan.specs.GoodPlans.{SwitchPlan}
use Rattle.run_laws.specs.Runs.{ports_of, card_at, parts_under}
use Rattle.run_laws.specs.Promises.{ArrivalsComeFirst}
use Rattle.run_laws.specs.Departures.{departure_under}
use Rattle.packet_times.specs.declared.state.PacketState.{PacketState}
use Rattle.packet_times.specs.declared.state.PacketState.TheVariants.{Forwarded, Dropped, Unrouted, Oversize}
use Rattle.packet_times.specs.NotingSteps.{Input, Times, no_input, flow_place, was_admitted, HasNoted}
use Rattle.packet_times.specs.Rows.{row_text, header, outputs_in, aside_row, routed_row, state_of, packet_rows, all_rows, packets_text_under}
use Rattle.packet_times.specs.WalkingSteps.{own_place, row_to, HasGone}
use Rattle.packet_times.specs.KeptSteps.{kept_state, is_flow, kept_departure, kept_row, kept_rows, counts_after, counts_with, rows_from, input_rows}
use Rattle.packet_times.specs.KeptSteps.{walk_at, rows_left}
use Rattle.packet_times.proofs.Counted.{counted-all}
use Rattle.packet_times.proofs.Rowing.{outputs-within, map-outputs, row-is}
use Rattle.packet_times.proofs.Walked.{gone-first, gone-more, gone-same, ports-kept, planned-is, admitted-is, departure-is}

-- the state of a packet by whether it was admitted
state-kept : (r a o : Bool) → ◌≡◌ {A = PacketState} (if r then (if r && a then Forwarded else Dropped) else (if o then Oversize else Unrouted))
    (if r then (if a then Forwarded else Dropped) else (if o then Oversize else Unrouted))
state-kept true a o = refl
state-kept false a o = refl

all-lt : (i j l ports : ℕ) → i < ports → j < ports → l < LEVELS → is_flow ports i j l ≡ true
all-lt i j l ports first second third =
    let a = lt-ltb i ports first in
    let b = lt-ltb j ports second in
    let c = lt-ltb l LEVELS third in
    rw (a, b, c) refl

if-admitted : (admitted flow : Bool) (here there : Option ℕ) → flow ≡ true → here ≡ there
    → (if admitted && flow then here else None) ≡ (if admitted then there else None)
if-admitted true true here there is same = same
if-admitted true false here there is same = absurd (cc)
if-admitted false flow here there is same = refl

module _ (scheduler : Scheduler) (plan : SwitchPlan) (slots : ℕ) (times : Times) (noted : HasNoted scheduler plan times slots)
    (come : ArrivalsComeFirst plan slots) where
  module _ (i k : ℕ) (p : Planned) (counts : List ℕ) (inside : i < ports_of plan) (at : slice_get (card_at plan i).packets k ≡ Some p)
      (gone : HasGone scheduler plan slots i k counts) (a : Bool) (is : a ≡ was_admitted (card_at plan i) (parts_under scheduler plan i slots) p) where
    state-same : kept_state p a ≡ state_of (card_at plan i) (parts_under scheduler plan i slots) p
    state-same = ap (kept_state p) is
        ∙ state-kept (is_routed p) (is_admitted (card_at plan i) (parts_under scheduler plan i slots) p.arrival p) (nat_lt MAX_FORWARDED_BYTES p.len)

    departure-same : (j : ℕ) → j < ports_of plan
        → kept_departure times counts i p a j ≡ (if a then departure_under scheduler plan slots i j k p else None)
    departure-same j below =
        let planned = planned-is scheduler plan slots times noted i k p inside at in
        ap (λ n. if a && is_flow n i j p.level
        then slice_get (slice_index_or times.ends (flow_place n (record { input = i; output = j; level = p.level; kind = kind_of (queue_of p) })) [])
        (slice_index counts (own_place j p.level (kind_of (queue_of p)))) else None) (ports-kept scheduler plan slots times noted)
        ∙ if-admitted a (is_flow (ports_of plan) i j p.level) _ (departure_under scheduler plan slots i j k p)
        (all-lt i j p.level (ports_of plan) inside below planned.level)
        (departure-is scheduler plan slots times noted i k p inside at j counts below gone)

    row-same : (j : ℕ) → j < ports_of plan → kept_row times counts i k p a j ≡ row_to scheduler plan slots i k p j
    row-same j below =
        ap (λ (s : PacketState). routed_row i k p s j (kept_departure times counts i p a j)) state-same
        ∙ ap (routed_row i k p (state_of (card_at plan i) (parts_under scheduler plan i slots) p) j) (departure-same j below)
        ∙ row-is scheduler plan slots i k p j a is

    outputs-same : outputs_in MAX_PORTS p.fan ≡ outputs_in (ports_of plan) p.fan
    outputs-same =
        let planned = planned-is scheduler plan slots times noted i k p inside at in
        let all : MAX_PORTS ≡ (MAX_PORTS - ports_of plan) + ports_of plan = omega (arith, noted.good.size.most) in
        ap (λ n. outputs_in n p.fan) all ∙ outputs-within p.fan (ports_of plan) (MAX_PORTS - ports_of plan) planned.fan

    rows-same : kept_rows times counts i k p a p.fan ≡ packet_rows scheduler plan slots i k p
    rows-same = go (p.fan == 0) where
      go : (b : Bool)
          → (if b then aside_row i k p (kept_state p a) ∷ [] else map (kept_row times counts i k p a) (outputs_in MAX_PORTS p.fan))
          ≡ (if not b then map (row_to scheduler plan slots i k p) (outputs_in (ports_of plan) p.fan)
          else aside_row i k p (state_of (card_at plan i) (parts_under scheduler plan i slots) p) ∷ [])
      go true = ap (λ s. aside_row i k p s ∷ []) state-same
      go false = ap (map (kept_row times counts i k p a)) outputs-same
          ∙ map-outputs (kept_row times counts i k p a) (row_to scheduler plan slots i k p) p.fan (ports_of plan) row-same

    -- and with it so many went by each flow
    gone-after : HasGone scheduler plan slots i (k + 1) (counts_after a p counts)
    gone-after = go a is where
      go : (b : Bool) → b ≡ was_admitted (card_at plan i) (parts_under scheduler plan i slots) p
          → HasGone scheduler plan slots i (k + 1) (counts_after b p counts)
      go true entered =
          let planned = planned-is scheduler plan slots times noted i k p inside at in
          let most = noted.good.size.most in
          gone-more scheduler plan slots k p noted.good (λ n below. (noted.each n below).few) i counts at gone (counts_with p counts) (sym entered)
          (counted-all p counts planned.level gone.long
          (λ j has. let low = Has-lt (ports_of plan) p.fan j planned.fan has in omega (arith, low, most)))
      go false dropped = gone-same scheduler plan slots k p noted.good (λ n below. (noted.each n below).few) i counts at gone (sym dropped)

  -- ---- the rows of an input
  module _ (i : ℕ) (inside : i < ports_of plan) where
    abbrev own : Input
    own = slice_index_or times.inputs i no_input

    rows-from : (k : ℕ) (counts : List ℕ) (ps : List Planned)
        → ((m : ℕ) (p : Planned) → slice_get ps m ≡ Some p → slice_get (card_at plan i).packets (k + m) ≡ Some p)
        → HasGone scheduler plan slots i k counts
        → rows_from times own i k counts 0 ps ≡ flat_map (λ q. packet_rows scheduler plan slots i q.0 q.1) (enumerate_from k ps)
    rows-from k counts [] all gone = refl
    rows-from k counts (p ∷ ps) all gone =
        let first : k + 0 ≡ k = omega arith in
        let at : slice_get (card_at plan i).packets k ≡ Some p = subst (λ n. slice_get (card_at plan i).packets n ≡ Some p) first (all 0 p refl) in
        let a = slice_index_or own.admitted k false in
        let is : a ≡ was_admitted (card_at plan i) (parts_under scheduler plan i slots) p = admitted-is scheduler plan slots times noted i k p inside at come in
        ap (λ rows. rows ++ rows_from times own i (k + 1) (counts_after a p counts) 0 ps) (rows-same i k p counts inside at gone a is)
        ∙ ap (λ rows. packet_rows scheduler plan slots i k p ++ rows)
        (rows-from (k + 1) (counts_after a p counts) ps
        (λ m q there. let next : k + suc m ≡ k + 1 + m = omega arith in
        subst (λ n. slice_get (card_at plan i).packets n ≡ Some q) next (all (suc m) q there))
        (gone-after i k p counts inside at gone a is))

    input-same : input_rows times i ≡ flat_map (λ q. packet_rows scheduler plan slots i q.0 q.1) (enumerate_from 0 (card_at plan i).packets)
    input-same =
        rows-from 0 _ own.counters.packets
        (λ m p there. subst (λ n. slice_get (card_at plan i).packets n ≡ Some p) (sym (zero-add m))
        (subst (λ ps. slice_get ps m ≡ Some p) ((noted.each i inside).counts.packets) there))
        (gone-first scheduler plan slots i)
        ∙ ap (λ ps. flat_map (λ q. packet_rows scheduler plan slots i q.0 q.1) (enumerate_from 0 ps)) (noted.each i inside).counts.packets

  -- ---- all rows
  inputs-same : (first count : ℕ) → first + count ≡ ports_of plan → flat_map (input_rows times) (range_with_len first count)
      ≡ flat_map (λ i. flat_map (λ q. packet_rows scheduler plan slots i q.0 q.1) (enumerate_from 0 (card_at plan i).packets)) (range_with_len first count)
  inputs-same first zero all = refl
  inputs-same first (suc count) all =
      ap (λ rows. rows ++ flat_map (input_rows times) (range_with_len (first + 1) count)) (input-same first (omega arith))
      ∙ ap (λ rows. flat_map (λ q. packet_rows scheduler plan slots first q.0 q.1) (enumerate_from 0 (card_at plan first).packets) ++ rows)
      (inputs-same (first + 1) count (omega arith))

  whole-walk : (n : ℕ) → n ≡ length times.inputs → 1 ≤ n → rows_left times (walk_at 0) ≡ flat_map (input_rows times) (range_with_len 0 n)
  whole-walk zero is some = absurd (omega arith)
  whole-walk (suc n) is some =
      let few : length times.inputs - (0 + 1) ≡ n = omega arith in
      ap (λ m. input_rows times 0 ++ flat_map (input_rows times) (range_with_len (0 + 1) m)) few

  pub all-same : rows_left times (walk_at 0) ≡ all_rows scheduler plan slots
  all-same = whole-walk (ports_of plan) (sym noted.count) noted.good.size.some ∙ inputs-same 0 (ports_of plan) (zero-add (ports_of plan))

  pub text-same : header ++ flat_map row_text (rows_left times (walk_at 0)) ≡ packets_text_under scheduler plan slots
  unfolding packets_text_under
  text-same = ap (λ rows. header ++ flat_map row_text rows) all-same
