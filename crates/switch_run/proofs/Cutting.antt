-- The lengths of the messages that a run delivers.
use Rattle.std.proofs.Common.{◌≡◌, ◌≢◌, ◌<◌, ◌≤◌, ◌+◌, ℕ, Bool, true, List, [], ◌∷◌, ◌++◌, map, drop, length, get_or, Option, Some, refl, sym}
use Rattle.std.proofs.Common.{◌∙◌, ap, arith, length-append}
use Rattle.std.specs.Prelude.{All, nat_lt, ◌&&◌, filter, sum, sum_by, slice_get, if◌then◌else◌}
use Rattle.std.specs.List.{concat}
use Rattle.std.specs.Int.{bit_at}
use Rattle.std.proofs.lemmas.Bool.{eqb-true}
use Rattle.std.proofs.lemmas.List.{length-take}
use Rattle.std.proofs.lemmas.List.Elements.{All-append, All-cons, All-filter, All-head, All-map, All-nil, All-same, All-tail, filter_passes}
use Rattle.std.proofs.lemmas.List.Sums.{sum-map, sum_by-cons}
use Rattle.std.proofs.lemmas.Nat.Bits.{bit_at-zero}
use Rattle.std.proofs.lemmas.Option.{slice_get-get_or}
use Rattle.std.specs.Cmp.{second_so}
use Rattle.card_core.proofs.Delivering.{of_own}
use Rattle.rotating_pick.specs.declared.kinds.Kind.{Kind}
use Rattle.cell_cutter.specs.declared.cell.Cell.{Cell}
use Rattle.cell_cutter.specs.Messages.{message_header}
use Rattle.eslip_rounds.specs.Schedulers.{Scheduler, IsScheduler}
use Rattle.eslip_rounds.specs.Decisions.{decision_of}
use Rattle.eslip_rounds.proofs.Scheduling.{IsScheduler-decision_of}
use Rattle.slot_match.specs.declared.matching.Served.{Served}
use Rattle.card_core.specs.declared.outcome.CardOut.{CardOut}
use Rattle.card_core.specs.declared.plan.Planned.{Planned}
use Rattle.card_core.specs.Plans.{Plan, Queue, IsGoodPlan, bytes_of, message_of}
use Rattle.card_core.specs.Queues.{enters}
use Rattle.card_core.specs.Grants.{packets_to}
use Rattle.card_core.specs.Deliveries.{ended_by, is_of_flow, messages_after, messages_from}
use Rattle.slot_histories.specs.Tests.{has}
use Rattle.switch_plan.specs.GoodPlans.{SwitchPlan, IsGood}
use Rattle.run_laws.specs.Runs.{card_at, no_plan, ports_of, parts_under}
use Rattle.run_laws.specs.Ends.{IsLengthUnder}
use Rattle.run_laws.specs.Crossings.{admitted_under, cells_under, queue_to}
use Rattle.run_laws.specs.declared.outcome.Outcome.{Outcome}
use Rattle.run_laws.specs.Outcomes.{IsOutcome, messages_under}
use Rattle.switch_jobs.specs.Captures.{IsCut}
use Rattle.run_laws.proofs.Emptied.{packets_delivered}
use Rattle.run_laws.proofs.OfFlows.{all_of_flows}

-- ---- what holds of all messages of each flow holds of all messages

All-left : {X : Type 0} (P : X → Type 0) (xs ys : List X) → All P (xs ++ ys) → All P xs
All-left P [] ys all = All-nil P
All-left P (x ∷ xs) ys all = All-cons P x xs (All-head P x (xs ++ ys) all) (All-left P xs ys (All-tail P x (xs ++ ys) all))

All-right : {X : Type 0} (P : X → Type 0) (xs ys : List X) → All P (xs ++ ys) → All P ys
All-right P [] ys all = all
All-right P (x ∷ xs) ys all = All-right P xs ys (All-tail P x (xs ++ ys) all)

-- a cell of one of so many inputs and levels
abbrev IsOfPort : ℕ → ℕ → Cell → Type 0
IsOfPort n levels cell = (cell.input < n) × (cell.level < levels)

all_flows : (P : List ℕ → Type 0) (n levels : ℕ) (before cells : List Cell) → All (IsOfPort n levels) cells
    → ((input level : ℕ) (kind : Kind) → input < n → level < levels → All P (messages_from input level kind before cells)) → All P (messages_after before cells)
all_flows P n levels before [] ports flows = All-nil P
all_flows P n levels before (cell ∷ cells) ports flows =
    let here = All-head (IsOfPort n levels) cell cells ports in
    let first : All P ((if is_of_flow cell.input cell.level cell.kind cell then ended_by before cell else [])
    ++ messages_from cell.input cell.level cell.kind (before ++ cell ∷ []) cells) = flows cell.input cell.level cell.kind here.0 here.1 in
    let mine = rw (of_own cell) at first in
    All-append P (ended_by before cell) (messages_after (before ++ cell ∷ []) cells)
    (All-left P (ended_by before cell) (messages_from cell.input cell.level cell.kind (before ++ cell ∷ []) cells) mine)
    (all_flows P n levels (before ++ cell ∷ []) cells (All-tail (IsOfPort n levels) cell cells ports)
    (λ input level kind input_in level_in. All-right P (if is_of_flow input level kind cell then ended_by before cell else [])
    (messages_from input level kind (before ++ cell ∷ []) cells) (flows input level kind input_in level_in)))

-- ---- the message of a packet that goes to an output

-- as long as a message that a capture is written of
abbrev IsOfSize : List ℕ → Type 0
IsOfSize m = (16 ≤ length m) × (length m ≤ 65551)

message_size : (plan : Plan) (packet : Planned) → packet.len ≤ 65535 → IsOfSize (message_of plan packet)
unfolding message_header
message_size plan packet short =
    let bytes = bytes_of plan packet in
    let long : length (message_of plan packet) ≡ 16 + length bytes =
    length-append (message_header packet.seconds packet.nanos (length bytes) packet.original) bytes in
    let most = length-take packet.len (drop packet.start plan.bytes) in
    (omega (arith, long), omega (arith, long, most, short))

-- what passes a test of a list, where what passes has it
All-filter_with : {X : Type 0} (test : X → Bool) (P : X → Type 0) (xs : List X) → ((k : ℕ) (x : X) → slice_get xs k ≡ Some x → test x ≡ true → P x)
    → All P (filter test xs)
All-filter_with test P xs each k d k_in =
    let when : All (λ x. test x ≡ true → P x) xs = λ i e i_in. each i (get_or xs i e) (slice_get-get_or xs i e i_in) in
    All-filter test (λ x. test x ≡ true → P x) xs when k d k_in (filter_passes test xs k d k_in)

-- a set with a member is not empty
some_fan : (fan j : ℕ) → has fan j ≡ true → fan ≢ 0
some_fan fan j is none =
    let bit : bit_at fan j ≡ 1 = eqb-true (bit_at fan j) 1 is in
    let zero_bit : bit_at fan j ≡ 0 = ap (λ f. bit_at f j) none ∙ bit_at-zero j in
    omega (arith, bit, zero_bit)

-- the messages of the packets of a queue that go to an output
packets_size : (plan : Plan) (q : Queue) (j : ℕ) (served : List (Option Served)) (t : ℕ) → IsGoodPlan plan
    → All IsOfSize (map (message_of plan) (packets_to plan q j served t))
packets_size plan q j served t good =
    All-map IsOfSize (message_of plan) (packets_to plan q j served t)
    (All-filter_with (λ packet. nat_lt packet.arrival t && enters plan q served packet && has packet.fan j)
    (λ packet. IsOfSize (message_of plan packet)) plan.packets
    (λ k packet found passes. message_size plan packet ((good.packets k packet found).forwarded
    (some_fan packet.fan j (second_so (nat_lt packet.arrival t && enters plan q served packet) (has packet.fan j) passes)))))

-- ---- the messages of a run

good_card : (plan : SwitchPlan) (i : ℕ) → IsGood plan → i < ports_of plan → IsGoodPlan (card_at plan i)
good_card plan i good i_in = (good.cards i (card_at plan i) (slice_get-get_or plan.cards i no_plan i_in)).good

messages_size : (scheduler : Scheduler) (plan : SwitchPlan) (slots j : ℕ) → IsScheduler scheduler → IsGood plan → IsLengthUnder scheduler plan slots
    → j < ports_of plan → All IsOfSize (messages_under scheduler plan j slots)
messages_size scheduler plan slots j scheduling good ends j_in =
    all_flows IsOfSize (ports_of plan) 4 [] (cells_under scheduler plan j slots) (all_of_flows scheduler scheduling plan good j slots)
    (λ i level kind i_in level_in. All-same IsOfSize (messages_from i level kind [] (cells_under scheduler plan j slots))
    (map (message_of (card_at plan i)) (admitted_under scheduler plan j i level kind slots))
    (packets_delivered scheduler scheduling plan good i j level kind slots ends i_in j_in level_in)
    (packets_size (card_at plan i) (queue_to j level kind) j (parts_under scheduler plan i slots) slots (good_card plan i good i_in)))

by_lengths : (ms : List (List ℕ)) → sum_by length ms ≡ length (concat ms)
by_lengths [] = refl
by_lengths (m ∷ ms) = sum_by-cons length m ms ∙ ap (λ n. length m + n) (by_lengths ms) ∙ sym (length-append m (concat ms))

sum_lengths : (ms : List (List ℕ)) → sum (map length ms) ≡ length (concat ms)
sum_lengths ms = sum-map length ms ∙ by_lengths ms

cut_of : (messages : List (List ℕ)) (out : CardOut) → out.body.items ≡ concat messages → out.lens.items ≡ map length messages → All IsOfSize messages
    → IsCut out
cut_of messages out body lens size = record {
  longer = All-same (λ len. 16 ≤ len) out.lens.items (map length messages) lens (All-map (λ len. 16 ≤ len) length messages (λ k d inside. (size k d inside).0));
  shorter = All-same (λ len. len ≤ 65551) out.lens.items (map length messages) lens
      (All-map (λ len. len ≤ 65551) length messages (λ k d inside. (size k d inside).1));
  whole = ap sum lens ∙ sum_lengths messages ∙ sym (ap length body);
}

-- what a run leaves at each port of a board can be written as a capture
pub cut_outputs : (plan : SwitchPlan) (outcome : Outcome) → IsGood plan → IsOutcome plan outcome → All IsCut outcome.outputs.items
cut_outputs plan outcome good left j d j_in =
    let out = get_or outcome.outputs.items j d in
    let is = left.outputs j out (slice_get-get_or outcome.outputs.items j d j_in) in
    let j_port : j < ports_of plan = omega (arith, j_in, left.ports) in
    cut_of (messages_under decision_of plan j left.slots) out is.body is.lens
    (messages_size decision_of plan left.slots j IsScheduler-decision_of good left.ends j_port)
