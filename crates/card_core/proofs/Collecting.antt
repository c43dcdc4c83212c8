-- What comes to the output of a card.
use Rattle.std.proofs.Common.{◌≡◌, ◌∙◌, ℕ, ◌+◌, ◌*◌, Bool, true, false, List, length, slice_index_or, slice_set, refl, sym}
use Rattle.std.proofs.Common.{ap, arith, inl, inr, if◌then◌else◌, length-append}
use Rattle.std.proofs.lemmas.Bool.{cases_eq, cases_lt}
use Rattle.std.proofs.lemmas.List.{get_or-set_same, get_or-set_other, set_past, length-take-le}
use Rattle.cell_cutter.specs.declared.cell.Cell.{Cell}
use Rattle.cell_cutter.specs.Cells.{IsUsed, used_bytes}
use Rattle.reassembly.specs.Flows.{Flow, Flows, fresh, flow_of, bytes_with, with_cell, after_cell, place_of_cell, Fits}
use Rattle.card_core.specs.Cards.{Received}
use Rattle.card_core.specs.CardSteps.{AreFull}

abbrev pub received_of : Flows → List ℕ → List ℕ → ℕ → ℕ → ℕ → Received
received_of flows body lens cells body_room packet_room =
    record { flows = flows; body = body; lens = lens; cells = cells; body_room = body_room; packet_room = packet_room }

-- ---- the flows stay full
full_case : (flow : Flow) (cell : Cell) (last : Bool) → length flow.bytes ≡ 56 * flow.next → cell.number ≡ flow.next → IsUsed last cell.used
    → length cell.payload ≡ 56
    → length (if last then fresh flow.size else record { size = flow.size; bytes = bytes_with flow cell; next = cell.number + 1 }).bytes ≡ 56 *
    (if last then fresh flow.size else record { size = flow.size; bytes = bytes_with flow cell; next = cell.number + 1 }).next
full_case flow cell true full next used room = refl
full_case flow cell false full next used room =
    omega (arith, length-append flow.bytes (used_bytes cell), length-take-le cell.used cell.payload (omega arith))

pub full_after : (flows : Flows) (cell : Cell) → AreFull flows → Fits flows cell → AreFull (after_cell flows cell)
full_after flows cell full fits place = elim (cases_eq place (place_of_cell cell)) [
  | inr other ↦
      let same : slice_index_or (slice_set flows.flows (place_of_cell cell) (with_cell (flow_of flows cell) cell)) place
      (fresh 0) ≡ slice_index_or flows.flows place (fresh 0) =
      get_or-set_other flows.flows (place_of_cell cell) place (with_cell (flow_of flows cell) cell) (fresh 0) other in
      ap (λ (f : Flow). length f.bytes) same ∙ full place ∙ ap (λ (f : Flow). 56 * f.next) (sym same)
  | inl here ↦ elim (cases_lt (place_of_cell cell) (length flows.flows)) [
    | inl inside ↦
        let now : slice_index_or (slice_set flows.flows (place_of_cell cell) (with_cell (flow_of flows cell) cell)) place (fresh 0) ≡ with_cell
        (flow_of flows cell) cell =
        ap (λ k. slice_index_or (slice_set flows.flows (place_of_cell cell) (with_cell (flow_of flows cell) cell)) k (fresh 0)) here
        ∙ get_or-set_same flows.flows (place_of_cell cell) (with_cell (flow_of flows cell) cell) (fresh 0) inside in
        ap (λ (f : Flow). length f.bytes) now
        ∙ full_case (flow_of flows cell) cell cell.last (full (place_of_cell cell)) fits.next fits.form.used fits.form.room
        ∙ ap (λ (f : Flow). 56 * f.next) (sym now)
    | inr past ↦
        let same : slice_index_or (slice_set flows.flows (place_of_cell cell) (with_cell (flow_of flows cell) cell)) place
        (fresh 0) ≡ slice_index_or flows.flows place (fresh 0) =
        ap (λ fs. slice_index_or fs place (fresh 0)) (set_past flows.flows (place_of_cell cell) (with_cell (flow_of flows cell) cell) past) in
        ap (λ (f : Flow). length f.bytes) same ∙ full place ∙ ap (λ (f : Flow). 56 * f.next) (sym same)
  ]
]
