-- The packets file has no more bytes than its header and 256 for each row.
use Rattle.std.proofs.Common.{◌≡◌, ◌∙◌, ℕ, zero, suc, ◌+◌, ◌*◌, ◌^◌, ◌<◌, ◌≤◌, Bool, true, false, List, [], ◌∷◌, ◌++◌, map, length}
use Rattle.std.proofs.Common.{if◌then◌else◌, Option, None, Some, inl, inr, refl, sym, ap, subst, arith, slice_index_or, length-append}
use Rattle.std.specs.Prelude.{All, sum_by, count_ones, decimal}
use Rattle.std.specs.Int.{bit_at}
use Rattle.std.specs.List.{flat_map, join_with_byte, range_with_len, enumerate_from}
use Rattle.std.proofs.lemmas.Bool.{cases_eq}
use Rattle.std.proofs.lemmas.Fmt.{length-decimal-le}
use Rattle.std.proofs.lemmas.List.{map-append}
use Rattle.std.proofs.lemmas.List.Concat.{flat_map-append}
use Rattle.std.proofs.lemmas.List.Sums.{sum_by-cons, sum_by-append}
use Rattle.std.proofs.lemmas.Option.{none-some, slice_get_within, get_or_from_slice_get}
use Rattle.std.proofs.Math.Nat.{le-max_left, le-max_right}
use Rattle.std_lemmas.proofs.Ranges.{range_more}
use Rattle.std_lemmas.proofs.Sums.{bits-few}
use Rattle.rotating_pick.specs.declared.kinds.Kind.{Kind}
use Rattle.rotating_pick.specs.declared.kinds.Kind.TheVariants.{Uni, Multi}
use Rattle.cell_cutter.specs.Messages.{cells_of_packet}
use Rattle.eslip_rounds.specs.Schedulers.{Scheduler}
use Rattle.card_core.specs.declared.plan.Planned.{Planned}
use Rattle.card_core.specs.Plans.{kind_of, queue_of, size_of}
use Rattle.card_core.specs.Queues.{is_routed}
use Rattle.slot_report.specs.Texts.{letter_of}
use Rattle.switch_plan.specs.GoodPlans.{SwitchPlan}
use Rattle.run_laws.specs.Runs.{ports_of, card_at, parts_under}
use Rattle.run_laws.specs.Departures.{flow_of, ends_of, earlier_by, departure_under}
use Rattle.packet_times.specs.declared.state.PacketState.{PacketState}
use Rattle.packet_times.specs.declared.state.PacketState.TheVariants.{Forwarded, Dropped, Unrouted, Oversize}
use Rattle.packet_times.specs.NotingSteps.{Input, Times, no_input, HasNoted}
use Rattle.packet_times.specs.Rows.{state_of, state_name, departure_text, delay_text, routed_row, aside_row, departure_if, outputs_in}
use Rattle.packet_times.specs.Rows.{packet_rows, all_rows, row_text, header, packets_text_under}
use Rattle.packet_times.specs.WalkingSteps.{row_to}
use Rattle.packet_times.specs.MostSteps.{IsNarrow, most_rows, most_of_input, AreAllCounted}
use Rattle.packet_times.proofs.Rowing.{outputs-yes, outputs-no}

-- ---- the text of a row
-- each field has at most 20 bytes
abbrev AreShort : List (List ℕ) → Type 0
AreShort [] = Unit {0}
AreShort (field ∷ fields) = (length field ≤ 20) × AreShort fields

joined-short : (field : List ℕ) (fields : List (List ℕ)) → length field ≤ 20 → AreShort fields
    → length (join_with_byte 44 (field ∷ fields)) ≤ 20 + 21 * length fields
joined-short field [] short all = omega (arith, short)
joined-short field (next ∷ fields) short all =
    let rest = joined-short next fields all.0 all.1 in
    omega (arith, short, rest, length-append field (44 ∷ join_with_byte 44 (next ∷ fields)))

text-short : (field : List ℕ) (fields : List (List ℕ)) → length fields ≤ 10 → length field ≤ 20 → AreShort fields
    → length (row_text (field ∷ fields)) ≤ 256
unfolding row_text
text-short field fields few short all =
    let joined = joined-short field fields short all in
    omega (arith, few, joined, length-append (join_with_byte 44 (field ∷ fields)) (10 ∷ []))

number-short : (n : ℕ) → n < 2 ^ 64 → length (decimal n) ≤ 20
number-short n few = length-decimal-le 20 n (omega arith) (omega (arith, few)) few

state-short : (state : PacketState) → length (state_name state) ≤ 20
state-short Forwarded = omega arith
state-short Dropped = omega arith
state-short Unrouted = omega arith
state-short Oversize = omega arith

letter-short : (kind : Kind) → length (letter_of kind) ≤ 20
letter-short Uni = omega arith
letter-short Multi = omega arith

cells-few : (len : ℕ) → len < 2 ^ 32 → cells_of_packet len < 2 ^ 64
cells-few len few = omega (arith, few)

departure-short : (departure : Option ℕ) → ((t : ℕ) → departure ≡ Some t → t < 2 ^ 32) → length (departure_text departure) ≤ 20
departure-short None few = omega arith
departure-short (Some t) few = let small = few t refl in number-short t (omega (arith, small))

delay-short : (arrival : ℕ) (departure : Option ℕ) → ((t : ℕ) → departure ≡ Some t → t < 2 ^ 32) → length (delay_text arrival departure) ≤ 20
delay-short arrival None few = omega arith
delay-short arrival (Some t) few = let small = few t refl in number-short _ (omega (arith, small))

module _ (i k : ℕ) (p : Planned) (state : PacketState) (input : i < 2 ^ 32) (number : k < 2 ^ 32) (narrow : IsNarrow p) where
  first : length (decimal i) ≤ 20
  first = number-short i (omega (arith, input))

  second : length (decimal k) ≤ 20
  second = number-short k (omega (arith, number))

  len : length (decimal p.len) ≤ 20
  len = number-short p.len (omega (arith, narrow.len))

  cells : length (decimal (size_of p)) ≤ 20
  cells = number-short (size_of p) (cells-few p.len narrow.len)

  arrival : length (decimal p.arrival) ≤ 20
  arrival = number-short p.arrival (omega (arith, narrow.arrival))

  routed-short : (j : ℕ) (departure : Option ℕ) → j < 2 ^ 32 → ((t : ℕ) → departure ≡ Some t → t < 2 ^ 32)
      → length (row_text (routed_row i k p state j departure)) ≤ 256
  unfolding routed_row
  routed-short j departure output few =
      let level = number-short p.level (omega (arith, narrow.level)) in
      let kind = letter-short (kind_of (queue_of p)) in
      let to = number-short j (omega (arith, output)) in
      let left = departure-short departure few in
      let delay = delay-short p.arrival departure few in
      text-short _ _ (omega arith) first (second, (len, (cells, (state-short state, (level, (kind, (to, (arrival, (left, (delay, tt))))))))))

  aside-short : length (row_text (aside_row i k p state)) ≤ 256
  unfolding aside_row
  aside-short =
      let none : length {A = ℕ} [] ≤ 20 = omega arith in
      text-short _ _ (omega arith) first (second, (len, (cells, (state-short state, (none, (none, (none, (arrival, (none, (none, tt))))))))))

-- ---- the bytes of rows
abbrev bytes_of : List (List (List ℕ)) → ℕ
bytes_of rows = length (flat_map row_text rows)

bytes-append : (a b : List (List (List ℕ))) → bytes_of (a ++ b) ≡ bytes_of a + bytes_of b
bytes-append a b = ap length (flat_map-append row_text a b) ∙ length-append (flat_map row_text a) (flat_map row_text b)

bytes-one : (row : List (List ℕ)) → bytes_of (row ∷ []) ≡ length (row_text row)
bytes-one row = omega (arith, length-append (row_text row) [])

-- one row for each output
module _ (row : ℕ → List (List ℕ)) (fan : ℕ) where
  abbrev members : ℕ → ℕ
  members n = sum_by (bit_at fan) (range_with_len 0 n)

  members-more : (n : ℕ) → members (n + 1) ≡ members n + bit_at fan n
  members-more n =
      let last = sum_by-cons (bit_at fan) n [] in
      let parts = ap (sum_by (bit_at fan)) (range_more n) ∙ sum_by-append (bit_at fan) (range_with_len 0 n) (n ∷ []) in
      omega (arith, last, parts)

  outputs-short : (n : ℕ) → ((j : ℕ) → j < n → length (row_text (row j)) ≤ 256) → bytes_of (map row (outputs_in n fan)) ≤ 256 * members n
  outputs-short zero each = omega arith
  outputs-short (suc n) each =
      let next : suc n ≡ n + 1 = omega arith in
      let rest = outputs-short n (λ j below. each j (omega arith)) in
      let here = each n (omega arith) in
      let more = members-more n in
      subst (λ m. bytes_of (map row (outputs_in m fan)) ≤ 256 * members m) (sym next) (elim (cases_eq (bit_at fan n) 1) [
        | inl there ↦
            let rows = ap (λ js. bytes_of (map row js)) (outputs-yes fan n there)
            ∙ ap bytes_of (map-append row (outputs_in n fan) (n ∷ []))
            ∙ bytes-append (map row (outputs_in n fan)) (row n ∷ []) in
            omega (arith, rows, bytes-one (row n), here, rest, more, there)
        | inr none ↦
            let rows = ap (λ js. bytes_of (map row js)) (outputs-no fan n none) in
            omega (arith, rows, rest, more)
      ])

-- ---- the rows of a run
module _ (scheduler : Scheduler) (plan : SwitchPlan) (slots : ℕ) (times : Times) (noted : HasNoted scheduler plan times slots) where
  departure-few : (i j k : ℕ) (p : Planned) (state : PacketState) (t : ℕ)
      → departure_if state (departure_under scheduler plan slots i j k p) ≡ Some t → t < 2 ^ 32
  departure-few i j k p Forwarded t is =
      let ends = ends_of scheduler plan (flow_of i j p) slots in
      let number = earlier_by scheduler plan slots (flow_of i j p) k in
      subst (λ n. n < 2 ^ 32) (get_or_from_slice_get ends number t t is) (noted.narrow (flow_of i j p) number t (slice_get_within ends number t is))
  departure-few i j k p Dropped t is = absurd (none-some t is)
  departure-few i j k p Unrouted t is = absurd (none-some t is)
  departure-few i j k p Oversize t is = absurd (none-some t is)

  module _ (i : ℕ) (inside : i < ports_of plan) where
    packet-short : (k : ℕ) (p : Planned) → k < 2 ^ 32 → IsNarrow p → bytes_of (packet_rows scheduler plan slots i k p) ≤ 256 * most_rows p
    packet-short k p number narrow = go (is_routed p) where
      state : PacketState
      state = state_of (card_at plan i) (parts_under scheduler plan i slots) p

      input : i < 2 ^ 32
      input = let few = noted.good.size.most in omega (arith, few, inside)

      row-short : (j : ℕ) → j < ports_of plan → length (row_text (row_to scheduler plan slots i k p j)) ≤ 256
      row-short j below =
          let few = noted.good.size.most in
          routed-short i k p state input number narrow j _ (omega (arith, few, below)) (departure-few i j k p state)

      go : (b : Bool)
          → bytes_of (if b then map (row_to scheduler plan slots i k p) (outputs_in (ports_of plan) p.fan) else aside_row i k p state ∷ [])
          ≤ 256 * most_rows p
      go true =
          let rows = outputs-short (row_to scheduler plan slots i k p) p.fan (ports_of plan) row-short in
          let few = bits-few (ports_of plan) p.fan in
          let most = le-max_right 1 (count_ones p.fan) in
          omega (arith, rows, few, most)
      go false =
          let row = aside-short i k p state input number narrow in
          let most = le-max_left 1 (count_ones p.fan) in
          omega (arith, bytes-one (aside_row i k p state), row, most)

    abbrev rows_of : ℕ → List Planned → List (List (List ℕ))
    rows_of k ps = flat_map (λ q. packet_rows scheduler plan slots i q.0 q.1) (enumerate_from k ps)

    packets-short : (k : ℕ) (ps : List Planned) → k + length ps < 2 ^ 32 → All IsNarrow ps → bytes_of (rows_of k ps) ≤ 256 * sum_by most_rows ps
    packets-short k [] few narrow = omega arith
    packets-short k (p ∷ ps) few narrow =
        let here = packet-short k p (omega (arith, few)) (narrow 0 p (omega arith)) in
        let rest = packets-short (k + 1) ps (omega (arith, few)) (λ m d below. narrow (suc m) d (omega (arith, below))) in
        omega (arith, here, rest, bytes-append (packet_rows scheduler plan slots i k p) (rows_of (k + 1) ps), sum_by-cons most_rows p ps)

    -- the rows of an input
    input-short : All (λ input. All IsNarrow input.counters.packets) times.inputs
        → bytes_of (rows_of 0 (card_at plan i).packets) ≤ 256 * most_of_input (slice_index_or times.inputs i no_input)
    input-short narrow =
        let own = noted.each i inside in
        let same = own.counts.packets in
        let count = noted.count in
        let few = own.few in
        let all = subst (λ ps. All IsNarrow ps) same (narrow i no_input (omega (arith, count, inside))) in
        subst (λ ps. bytes_of (rows_of 0 (card_at plan i).packets) ≤ 256 * sum_by most_rows ps) (sym same)
        (packets-short 0 (card_at plan i).packets (omega (arith, few)) all)

  -- ---- all rows
  abbrev input_rows : ℕ → List (List (List ℕ))
  input_rows i = flat_map (λ q. packet_rows scheduler plan slots i q.0 q.1) (enumerate_from 0 (card_at plan i).packets)

  inputs-short : (first : ℕ) (inputs : List Input)
      → ((m : ℕ) → m < length inputs → bytes_of (input_rows (first + m)) ≤ 256 * most_of_input (slice_index_or inputs m no_input))
      → bytes_of (flat_map input_rows (range_with_len first (length inputs))) ≤ 256 * sum_by most_of_input inputs
  inputs-short first [] each = omega arith
  inputs-short first (input ∷ inputs) each =
      let start : first + 0 ≡ first = omega arith in
      let here = subst (λ n. bytes_of (input_rows n) ≤ 256 * most_of_input input) start (each 0 (omega arith)) in
      let rest = inputs-short (first + 1) inputs (λ m below.
      let next : first + suc m ≡ first + 1 + m = omega arith in
      subst (λ n. bytes_of (input_rows n) ≤ 256 * most_of_input (slice_index_or inputs m no_input)) next (each (suc m) (omega (arith, below)))) in
      omega (
        arith,
        here,
        rest,
        bytes-append (input_rows first) (flat_map input_rows (range_with_len (first + 1) (length inputs))),
        sum_by-cons most_of_input input inputs,
      )

  pub file-short : (rows : ℕ) → AreAllCounted times.inputs rows → length (packets_text_under scheduler plan slots) ≤ rows * 256 + length header
  unfolding packets_text_under
  file-short rows counted =
      let each : (m : ℕ) → m < length times.inputs
      → bytes_of (input_rows (0 + m)) ≤ 256 * most_of_input (slice_index_or times.inputs m no_input) =
      λ m below.
      let first : m ≡ 0 + m = omega arith in
      let count = noted.count in
      subst (λ n. bytes_of (input_rows n) ≤ 256 * most_of_input (slice_index_or times.inputs m no_input)) first
      (input-short m (omega (arith, count, below)) counted.narrow) in
      let all = subst (λ n. bytes_of (flat_map input_rows (range_with_len 0 n)) ≤ 256 * sum_by most_of_input times.inputs) noted.count
      (inputs-short 0 times.inputs each) in
      omega (arith, all, counted.rows, length-append header (flat_map row_text (all_rows scheduler plan slots)))
