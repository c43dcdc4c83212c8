-- The cell of a name that is the next of its packet: it ends the packet's message where the name is a last one.
use Rattle.std.proofs.Common.{◌≡◌, ◌∙◌, ℕ, ◌+◌, true, false, Bool, List, [], ◌∷◌, ◌++◌, map, length, refl, sym, ap, arith, inl, inr}
use Rattle.std.proofs.Common.{if◌then◌else◌}
use Rattle.std.specs.List.{range_with_len}
use Rattle.std.proofs.lemmas.Bool.{cases_eq, eq-eqb, ne_eqb}
use Rattle.std.proofs.lemmas.Grind.{flat_map-append}
use Rattle.std.proofs.lemmas.List.{append-nil}
use Rattle.std.proofs.lemmas.List.FromFn.{map-range_with_len_more}
use Rattle.rotating_pick.specs.declared.kinds.Kind.{Kind}
use Rattle.cell_cutter.specs.declared.cell.Cell.{Cell}
use Rattle.cell_cutter.specs.declared.cell.CellName.{CellName}
use Rattle.cell_cutter.specs.Cells.{cell_of, used_bytes}
use Rattle.cell_cutter.specs.Messages.{cells_in}
use Rattle.cell_cutter.proofs.Forms.{cells_join}
use Rattle.reassembly.specs.Cutting.{rest_after, joined}
use Rattle.reassembly.proofs.Taking.{last-more, last-end}
use Rattle.card_core.specs.declared.plan.Planned.{Planned}
use Rattle.card_core.specs.Plans.{Plan, IsGoodPlan, level_of, kind_of, queue_of, size_of, message_of, cell_named}
use Rattle.card_core.specs.Deliveries.{flow_cells, message_with, ended_by}
use Rattle.card_core.proofs.Messaging.{message-long}
use Rattle.slot_records.proofs.NextNames.{packet_at, IsNextName}

-- all cells of a message but the last, and the last, have its bytes
joined_whole : (input level : ℕ) (kind : Kind) (message : List ℕ) (k : ℕ) → k + 1 ≡ cells_in (length message)
    → joined (map (cell_of input level kind message) (range_with_len 0 k)) ++ used_bytes (cell_of input level kind message k) ≡ message
joined_whole input level kind message k count =
    let cell : Cell = cell_of input level kind message k in
    let cells : ℕ → List Cell = λ n. map (cell_of input level kind message) (range_with_len 0 n) in
    ap (λ bytes. joined (cells k) ++ bytes) (sym (append-nil (used_bytes cell)))
    ∙ sym (flat_map-append used_bytes (cells k) (cell ∷ []))
    ∙ ap joined (sym (map-range_with_len_more (cell_of input level kind message) 0 k k (omega arith)))
    ∙ ap (λ n. joined (cells n)) count
    ∙ cells_join input level kind message

if_same : {X : Type 0} (a b v : Bool) (x y : X) → a ≡ v → b ≡ v → (v ≡ true → x ≡ y) → (if a then x ∷ [] else []) ≡ (if b then y ∷ [] else [])
if_same a b true x y left right same = rw (left, right) (ap (λ z. z ∷ []) (same refl))
if_same a b false x y left right same = rw (left, right) refl

module _ (plan : Plan) (good : IsGoodPlan plan) (name : CellName) (stand : List Cell) (next : IsNextName plan stand name) where
  abbrev own : Planned
  own = packet_at plan name.packet

  abbrev text : List ℕ
  text = message_of plan own

  count_is : cells_in (length text) ≡ size_of own
  count_is = ap cells_in (message-long plan good name.packet own next.there)

  joined_is : name.number + 1 ≡ size_of own → joined stand ++ used_bytes (cell_named plan name) ≡ text
  joined_is last =
      ap (λ cells. joined cells ++ used_bytes (cell_named plan name)) next.begun
      ∙ joined_whole plan.card (level_of (queue_of own)) (kind_of (queue_of own)) text name.number (last ∙ sym count_is)

  -- what ends with the cell, where these cells of its flow stand before it
  pub ended_is : (before : List Cell) (cell : Cell) → cell ≡ cell_named plan name
      → rest_after [] (flow_cells cell.input cell.level cell.kind before) ≡ stand
      → ended_by before cell ≡ (if name.last then text ∷ [] else [])
  ended_is before cell is stands =
      let level = level_of (queue_of own) in
      let kind = kind_of (queue_of own) in
      let mark : cell.last ≡ (cell_named plan name).last = ap (λ (c : Cell). c.last) is in
      elim (cases_eq (name.number + 1) (size_of own)) [
        | inl whole ↦
            if_same cell.last name.last true (message_with before cell) text
            (mark ∙ last-end plan.card level name.number kind text (whole ∙ sym count_is))
            (next.last ∙ eq-eqb (name.number + 1) (size_of own) whole)
            (λ yes. ap (λ cells. joined cells ++ used_bytes cell) stands ∙ ap (λ (c : Cell). joined stand ++ used_bytes c) is ∙ joined_is whole)
        | inr other ↦
            let few = next.few in
            if_same cell.last name.last false (message_with before cell) text
            (mark ∙ last-more plan.card level name.number kind text (omega (arith, few, other, count_is)))
            (next.last ∙ ne_eqb (name.number + 1) (size_of own) other)
            (λ yes. absurd (cc))
      ]
