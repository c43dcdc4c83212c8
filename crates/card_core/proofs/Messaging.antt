-- The messages of the cells of a queue are those of its admitted packets.
use Rattle.std.proofs.Common.{◌≡◌, ◌∙◌, ℕ, zero, suc, ◌+◌, ◌-◌, ◌*◌, ◌<◌, ◌&&◌, ◌==◌, nat_lt, leb, Bool, true, false, cond, List, [], ◌∷◌, ◌++◌, map}
use Rattle.std.proofs.Common.{filter, length, Option, Some, slice_get, slice_index_or, refl, sym, ap, arith, if◌then◌else◌, append_assoc}
use Rattle.std.proofs.lemmas.Bool.{le-leb, lt-leb}
use Rattle.std.proofs.lemmas.List.{map-append}
use Rattle.std.proofs.lemmas.List.Elements.{filter-append}
use Rattle.std.specs.List.{range_with_len}
use Rattle.std.proofs.lemmas.Option.{get_or_from_slice_get}
use Rattle.rotating_pick.specs.declared.kinds.Kind.{Kind}
use Rattle.slot_match.specs.declared.matching.Served.{Served}
use Rattle.slot_histories.specs.Tests.{has}
use Rattle.multicast_queue.specs.FanQueues.{FanCell}
use Rattle.cell_cutter.specs.declared.cell.Cell.{Cell}
use Rattle.cell_cutter.specs.declared.cell.CellName.{CellName}
use Rattle.cell_cutter.specs.Messages.{cells_in}
use Rattle.cell_cutter.specs.Cells.{cell_of, cells_of_message}
use Rattle.cell_cutter.proofs.Payloads.{length-message}
use Rattle.cell_cutter.proofs.Forms.{cells_join}
use Rattle.voq_banks.specs.CellQueues.{names_of_packet, cells_with_fan}
use Rattle.reassembly.specs.Cutting.{pieces_after, joined, messages_of}
use Rattle.card_core.specs.declared.plan.Planned.{Planned}
use Rattle.card_core.specs.Plans.{Plan, Queue, IsGoodPlan, queue_of, size_of, level_of, kind_of, bytes_of, message_of, cell_in, cell_named, no_packet}
use Rattle.card_core.specs.Queues.{before, enters, cells_admitted}
use Rattle.card_core.specs.Grants.{to_output, packets_to}
use Rattle.card_core.proofs.Accepting.{length-place}
use Rattle.card_core.proofs.Admitting.{entered-is}

-- ---- the messages of a message's cells and others
module _ (input level : ℕ) (kind : Kind) (message : List ℕ) (cells : List Cell) where
  -- the last n + 1 cells of a message end a piece
  piece_then : (begun : List Cell) (a n : ℕ) → a + suc n ≡ cells_in (length message)
      → pieces_after begun (map (cell_of input level kind message) (range_with_len a (suc n)) ++ cells) ≡
      (begun ++ map (cell_of input level kind message) (range_with_len a (suc n))) ∷ pieces_after [] cells
  piece_then begun a zero all =
      let cell : Cell = cell_of input level kind message a in
      let last : leb (length message) (56 * a + 56) ≡ true = le-leb _ _ (omega arith) in
      ap (λ v. cond v ((begun ++ cell ∷ []) ∷ pieces_after [] cells) (pieces_after (begun ++ cell ∷ []) cells)) last
  piece_then begun a (suc n) all =
      let cell : Cell = cell_of input level kind message a in
      let rest : List Cell = map (cell_of input level kind message) (range_with_len (a + 1) (suc n)) in
      let more : leb (length message) (56 * a + 56) ≡ false = lt-leb _ _ (omega arith) in
      ap (λ v. cond v ((begun ++ cell ∷ []) ∷ pieces_after [] (rest ++ cells)) (pieces_after (begun ++ cell ∷ []) (rest ++ cells))) more
      ∙ (piece_then (begun ++ cell ∷ []) (a + 1) n (omega arith) ∙ ap (λ cs. cs ∷ pieces_after [] cells) (append_assoc begun (cell ∷ []) rest))

  message_then : 0 < length message → messages_of (cells_of_message input level kind message ++ cells) ≡ message ∷ messages_of cells
  message_then some =
      let count : ℕ = cells_in (length message) - 1 in
      let e : suc count ≡ cells_in (length message) = omega arith in
      let all : ℕ → List Cell = λ n. map (cell_of input level kind message) (range_with_len 0 n) in
      let one : pieces_after [] (all (suc count) ++ cells) ≡ all (suc count) ∷ pieces_after [] cells = piece_then [] 0 count (omega arith) in
      ap (λ n. messages_of (all n ++ cells)) (sym e)
      ∙ (ap (map joined) one ∙ (ap (λ n. joined (all n) ∷ messages_of cells) e ∙ ap (λ m. m ∷ messages_of cells) (cells_join input level kind message)))

-- ---- the cells of a packet
abbrev fan_cell : ℕ → CellName → FanCell
fan_cell fan name = record { name = name; fan = fan }

abbrev cell_name : ℕ → ℕ → ℕ → CellName
cell_name k total i = record { packet = k; number = i; last = i + 1 == total }

pub all_go : (j fan : ℕ) (names : List CellName) → has fan j ≡ true → to_output j (map (fan_cell fan) names) ≡ map (fan_cell fan) names
all_go j fan [] yes' = refl
all_go j fan (name ∷ names) yes' = rw yes' (ap (λ w. fan_cell fan name ∷ w) (all_go j fan names yes'))

pub none_goes : (j fan : ℕ) (names : List CellName) → has fan j ≡ false → to_output j (map (fan_cell fan) names) ≡ []
none_goes j fan [] no' = refl
none_goes j fan (name ∷ names) no' = rw no' (none_goes j fan names no')

module _ (plan : Plan) (good : IsGoodPlan plan) where
  abbrev cells_named : List FanCell → List Cell
  cells_named cells = map (λ cell. cell_named plan cell.name) cells

  cells-are : (k total : ℕ) (p : Planned) → slice_index_or plan.packets k no_packet ≡ p → (a n : ℕ)
      → cells_named (map (fan_cell p.fan) (map (cell_name k total) (range_with_len a n))) ≡ map (cell_in plan p) (range_with_len a n)
  cells-are k total p at a zero = refl
  cells-are k total p at a (suc n) =
      ap (λ r. cell_in plan r a ∷ cells_named (map (fan_cell p.fan) (map (cell_name k total) (range_with_len (a + 1) n)))) at
      ∙ ap (λ w. cell_in plan p a ∷ w) (cells-are k total p at (a + 1) n)

  pub message-long : (k : ℕ) (p : Planned) → slice_get plan.packets k ≡ Some p → length (message_of plan p) ≡ 16 + p.len
  message-long k p there =
      length-message p.seconds p.nanos p.original (bytes_of plan p) ∙ ap (λ n. 16 + n) (length-place plan.bytes p.start p.len (good.packets k p there).place)

  pub packet-cells : (k : ℕ) (p : Planned) → slice_get plan.packets k ≡ Some p
      → cells_named (cells_with_fan k (size_of p) p.fan) ≡ cells_of_message plan.card (level_of (queue_of p)) (kind_of (queue_of p)) (message_of plan p)
  packet-cells k p there =
      cells-are k (size_of p) p (get_or_from_slice_get plan.packets k p no_packet there) 0 (size_of p)
      ∙ ap (λ n. map (cell_in plan p) (range_with_len 0 (cells_in n))) (sym (message-long k p there))

  module _ (q : Queue) (j : ℕ) (served : List (Option Served)) (t : ℕ) where
    messages_step : (k : ℕ) (p : Planned) → slice_get plan.packets k ≡ Some p → (cells : List FanCell) (packets : List Planned) (b h : Bool) → has p.fan j ≡ h
        → messages_of (cells_named (to_output j cells)) ≡ map (message_of plan) packets
        → messages_of (cells_named (to_output j ((if b then cells_with_fan k (size_of p) p.fan else []) ++ cells))) ≡ map (message_of plan)
        (if b && h then p ∷ packets else packets)
    messages_step k p there cells packets true true goes rest =
        let own = cells_with_fan k (size_of p) p.fan in
        ap (λ w. messages_of (cells_named w)) (filter-append (λ (cell : FanCell). has cell.fan j) own cells
        ∙ ap (λ w. w ++ to_output j cells) (all_go j p.fan (names_of_packet k (size_of p)) goes))
        ∙ ap messages_of (map-append (λ (cell : FanCell). cell_named plan cell.name) own (to_output j cells)
        ∙ ap (λ w. w ++ cells_named (to_output j cells)) (packet-cells k p there))
        ∙ message_then plan.card (level_of (queue_of p)) (kind_of (queue_of p)) (message_of plan p) (cells_named (to_output j cells))
        (omega (arith, message-long k p there))
        ∙ ap (λ w. message_of plan p ∷ w) rest
    messages_step k p there cells packets true false goes rest =
        let own = cells_with_fan k (size_of p) p.fan in
        ap (λ w. messages_of (cells_named w)) (filter-append (λ (cell : FanCell). has cell.fan j) own cells
        ∙ ap (λ w. w ++ to_output j cells) (none_goes j p.fan (names_of_packet k (size_of p)) goes))
        ∙ rest
    messages_step k p there cells packets false h goes rest = rest

    messages_from_on : (k : ℕ) (ps : List Planned) → ((i : ℕ) (p : Planned) → slice_get ps i ≡ Some p → slice_get plan.packets (k + i) ≡ Some p)
        → messages_of (cells_named (to_output j (cells_admitted plan q served t k ps))) ≡ map (message_of plan)
        (filter (λ packet. nat_lt packet.arrival t && enters plan q served packet && has packet.fan j) ps)
    messages_from_on k [] there = refl
    messages_from_on k (p ∷ ps) there =
        let here : slice_get plan.packets k ≡ Some p = ap (slice_get plan.packets) (let e : k ≡ k + 0 = omega arith in e) ∙ there 0 p refl in
        messages_step k p here (cells_admitted plan q served t (k + 1) ps)
        (filter (λ packet. nat_lt packet.arrival t && enters plan q served packet && has packet.fan j) ps)
        (nat_lt p.arrival t && enters plan q served p) (has p.fan j) refl
        (messages_from_on (k + 1) ps (λ i r at. ap (slice_get plan.packets) (let e : k + 1 + i ≡ k + suc i = omega arith in e) ∙ there (suc i) r at))

pub messages-are : (plan : Plan) (q : Queue) (j : ℕ) (served : List (Option Served)) (t : ℕ) → IsGoodPlan plan
    → messages_of (map (λ cell. cell_named plan cell.name) (to_output j (before plan q served t).entered)) ≡ map (message_of plan)
    (packets_to plan q j served t)
messages-are plan q j served t good =
    ap (λ cells. messages_of (map (λ cell. cell_named plan cell.name) (to_output j cells))) (entered-is plan q served good t)
    ∙ messages_from_on plan good q j served t 0 plan.packets (λ i p at. ap (slice_get plan.packets) (let e : 0 + i ≡ i = omega arith in e) ∙ at)
