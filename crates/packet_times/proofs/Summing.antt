-- The packets and the rows of a packets file add up to the numbers of the run's summary.
use Rattle.std.proofs.Common.{◌≡◌, ◌≢◌, ◌∙◌, ℕ, suc, ◌+◌, ◌^◌, ◌<◌, ◌≤◌, ◌&&◌, not, nat_lt, Bool, true, false, List, [], ◌∷◌, length}
use Rattle.std.proofs.Common.{cond, count_by, sum_by, Some, slice_get, refl, sym, ap, arith, if◌then◌else◌}
use Rattle.std.specs.Prelude.{All}
use Rattle.std.specs.List.{flat_map, list_any, range_with_len, enumerate_from}
use Rattle.std.proofs.lemmas.Bool.{eq-eqb, lt-ltb}
use Rattle.std.proofs.lemmas.List.Sums.{sum_by-cons, sum_by-append}
use Rattle.rotating_pick.specs.PortSets.{Has}
use Rattle.rotating_pick.proofs.Bits.{Has-lt, zero-no_members}
use Rattle.eslip_rounds.specs.Schedulers.{Scheduler, IsScheduler}
use Rattle.slot_match.proofs.Sets.{Has-some}
use Rattle.slot_histories.specs.Tests.{has}
use Rattle.card_core.specs.declared.plan.Planned.{Planned}
use Rattle.card_core.specs.Queues.{is_routed, is_admitted, count_before}
use Rattle.card_core.proofs.Admitting.{count-is}
use Rattle.switch_plan.specs.GoodPlans.{SwitchPlan, IsGood}
use Rattle.run_laws.specs.Runs.{ports_of, card_at, parts_under}
use Rattle.run_laws.specs.Ends.{IsLengthUnder}
use Rattle.run_laws.proofs.Base.{good-card}
use Rattle.run_laws.proofs.Arrivals.{arrivals_first}
use Rattle.std_lemmas.proofs.Sums.{sum_by-turn}
use Rattle.std_lemmas.proofs.Numbers.{below_power}
use Rattle.std_lemmas.proofs.RangeSums.{sum_by-range_same}
use Rattle.run_laws.proofs.PacketCells.{some_fan}
use Rattle.run_laws.specs.Outcomes.{admitted_count, dropped_count, summary_under}
use Rattle.run_laws.specs.DeparturePromises.{leaves_by}
use Rattle.run_laws.proofs.Copies.{counted}
use Rattle.packet_times.specs.declared.state.PacketState.{PacketState}
use Rattle.packet_times.specs.declared.state.PacketState.TheVariants.{Forwarded, Dropped}
use Rattle.packet_times.specs.Rows.{state_of, outputs_in, packet_rows}
use Rattle.packet_times.specs.Sums.{tells, input_told, packets_told, rows_told}
use Rattle.packet_times.proofs.Telling.{is_state, forwarded-if, dropped-if, some-in, rows-tell, rows-forwarded}

-- ---- sums over the packets of a list, with their numbers or in time
pub enumerated : (f : ℕ → Planned → ℕ) (g : Planned → ℕ) (n : ℕ) (ps : List Planned) → ((m k : ℕ) (p : Planned) → slice_get ps k ≡ Some p → f m p ≡ g p)
    → sum_by (λ q. f q.0 q.1) (enumerate_from n ps) ≡ sum_by g ps
enumerated f g n [] each = refl
enumerated f g n (p ∷ ps) each =
    let here = each n 0 p refl in
    let rest = enumerated f g (n + 1) ps (λ m k r at. each m (suc k) r at) in
    omega (arith, here, rest, sum_by-cons (λ (q : ℕ × Planned). f q.0 q.1) (n, p) (enumerate_from (n + 1) ps), sum_by-cons g p ps)

pub in-time : (test : Planned → Bool) (t : ℕ) (ps : List Planned) → All (λ p. p.arrival < t) ps
    → count_by (λ p. nat_lt p.arrival t && test p) ps ≡ count_by test ps
in-time test t [] early = refl
in-time test t (p ∷ ps) early =
    sum_by-cons (λ r. if nat_lt r.arrival t && test r then 1 else 0) p ps
    ∙ ap (λ b. (if b && test p then 1 else 0) + count_by (λ r. nat_lt r.arrival t && test r) ps) (lt-ltb p.arrival t (early 0 p (omega arith)))
    ∙ ap (λ n. (if test p then 1 else 0) + n) (in-time test t ps (λ k d inside. early (suc k) d (omega arith)))
    ∙ sym (sum_by-cons (λ r. if test r then 1 else 0) p ps)

pub count-flat : {X Y : Type 0} (test : Y → Bool) (f : X → List Y) (xs : List X) → count_by test (flat_map f xs) ≡ sum_by (λ x. count_by test (f x)) xs
count-flat test f [] = refl
count-flat test f (x ∷ xs) =
    sum_by-append (λ y. cond (test y) 1 0) (f x) (flat_map f xs)
    ∙ ap (λ n. count_by test (f x) + n) (count-flat test f xs)
    ∙ sym (sum_by-cons (λ z. count_by test (f z)) x xs)

-- ---- the outputs of a packet

has-one : (n fan : ℕ) → n ≤ 64 → fan < 2 ^ n → fan ≢ 0 → (j : ℕ) × Has fan j
has-one n fan few among some = Has-some fan (below_power n fan few among) (λ none. some (zero-no_members fan none))

-- ---- the packets of an input
module _ (scheduler : Scheduler) (plan : SwitchPlan) (good : IsGood plan) (slots i : ℕ) (inside : i < ports_of plan) where
  -- a packet that goes anywhere has an output
  some-outputs : (k : ℕ) (p : Planned) → slice_get (card_at plan i).packets k ≡ Some p → is_routed p ≡ true → 0 < length (outputs_in (ports_of plan) p.fan)
  some-outputs k p at routed =
      let card = good-card plan good i inside in
      let is = card.good.packets k p at in
      let few = card.good.size in
      let member = has-one (card_at plan i).ports p.fan few is.fan (some_fan p routed) in
      let ports = card.ports in
      let to : member.0 < ports_of plan = let below = Has-lt (card_at plan i).ports p.fan member.0 is.fan member.1 in omega (arith, below, ports) in
      some-in (has p.fan) 0 (ports_of plan) member.0 (omega arith) (omega (arith, to)) (eq-eqb _ 1 member.1)

  pub input-counted : (s : PacketState) (test : Planned → Bool)
      → ((p : Planned) → is_state (state_of (card_at plan i) (parts_under scheduler plan i slots) p) s ≡ test p)
      → input_told scheduler plan slots s i ≡ count_by test (card_at plan i).packets
  input-counted s test tests =
      enumerated (λ k p. cond (list_any (tells s) (packet_rows scheduler plan slots i k p)) 1 0) (λ p. cond (test p) 1 0) 0 (card_at plan i).packets
      (λ m k p at. ap (λ b. cond b 1 0) (rows-tell scheduler plan slots i m p s (some-outputs k p at) ∙ tests p))

  abbrev admits : Planned → Bool
  admits p = is_admitted (card_at plan i) (parts_under scheduler plan i slots) p.arrival p

  module _ (ends : IsLengthUnder scheduler plan slots) where
    in-all : (wanted : Bool) → count_before wanted (card_at plan i) (parts_under scheduler plan i slots) slots
        ≡ count_by (λ p. is_routed p && (if wanted then admits p else not (admits p))) (card_at plan i).packets
    in-all wanted =
        count-is (card_at plan i) (good-card plan good i inside).good (parts_under scheduler plan i slots) wanted slots
        ∙ in-time (λ p. is_routed p && (if wanted then admits p else not (admits p))) slots (card_at plan i).packets
        (arrivals_first scheduler plan slots ends i inside)

    pub input-forwarded : input_told scheduler plan slots Forwarded i ≡ admitted_count scheduler plan slots i
    input-forwarded = input-counted Forwarded (λ p. is_routed p && admits p) (λ p. forwarded-if (is_routed p) (admits p) _) ∙ sym (in-all true)

    pub input-dropped : input_told scheduler plan slots Dropped i ≡ dropped_count scheduler plan slots i
    input-dropped = input-counted Dropped (λ p. is_routed p && not (admits p)) (λ p. dropped-if (is_routed p) (admits p) _) ∙ sym (in-all false)

  -- the rows of its forwarded packets, by output
  pub input-rows : count_by (tells Forwarded) (flat_map (λ p. packet_rows scheduler plan slots i p.0 p.1) (enumerate_from 0 (card_at plan i).packets))
      ≡ sum_by (λ j. count_by (leaves_by scheduler plan slots i j) (card_at plan i).packets) (range_with_len 0 (ports_of plan))
  input-rows =
      let ports = range_with_len 0 (ports_of plan) in
      let packets = (card_at plan i).packets in
      let one : Planned → ℕ → ℕ = λ p j. if leaves_by scheduler plan slots i j p then 1 else 0 in
      count-flat (tells Forwarded) (λ (p : ℕ × Planned). packet_rows scheduler plan slots i p.0 p.1) (enumerate_from 0 packets)
      ∙ enumerated (λ k p. count_by (tells Forwarded) (packet_rows scheduler plan slots i k p)) (λ p. sum_by (one p) ports) 0 packets
      (λ m k p at. rows-forwarded scheduler plan slots i m p)
      ∙ sum_by-turn one packets ports

-- ---- all inputs
module _ (scheduler : Scheduler) (scheduling : IsScheduler scheduler) (plan : SwitchPlan) (good : IsGood plan) (slots : ℕ)
    (ends : IsLengthUnder scheduler plan slots) where
  pub forwarded-told : packets_told scheduler plan slots Forwarded ≡ (summary_under scheduler plan slots).forwarded
  unfolding summary_under
  forwarded-told =
      sum_by-range_same 0 (ports_of plan) (admitted_count scheduler plan slots) (input_told scheduler plan slots Forwarded)
      (λ i from below. input-forwarded scheduler plan good slots i (omega (arith, below)) ends)

  pub dropped-told : packets_told scheduler plan slots Dropped ≡ (summary_under scheduler plan slots).dropped
  unfolding summary_under
  dropped-told =
      sum_by-range_same 0 (ports_of plan) (dropped_count scheduler plan slots) (input_told scheduler plan slots Dropped)
      (λ i from below. input-dropped scheduler plan good slots i (omega (arith, below)) ends)

  pub copies-told : rows_told scheduler plan slots Forwarded ≡ (summary_under scheduler plan slots).copies
  copies-told =
      let ports = range_with_len 0 (ports_of plan) in
      let rows : ℕ → List (List (List ℕ)) =
      λ i. flat_map (λ p. packet_rows scheduler plan slots i p.0 p.1) (enumerate_from 0 (card_at plan i).packets) in
      let leaving : ℕ → ℕ → ℕ = λ i j. count_by (leaves_by scheduler plan slots i j) (card_at plan i).packets in
      count-flat (tells Forwarded) rows ports
      ∙ sum_by-range_same 0 (ports_of plan) (λ i. sum_by (leaving i) ports) (λ i. count_by (tells Forwarded) (rows i))
      (λ i from below. input-rows scheduler plan good slots i (omega (arith, below)))
      ∙ sum_by-turn leaving ports ports
      ∙ (counted scheduler scheduling plan good slots ends).all
