-- A buffer that took a cell stands for the flow after the cell.
use Rattle.std.proofs.Common.{◌≡◌, ◌≢◌, ℕ, ◌+◌, ◌<◌, Bool, true, false, List, [], ◌++◌, map, set, get_or, length, refl, sym, ap, ◌∙◌, arith, cond, lit<}
use Rattle.std.proofs.lemmas.List.{map-set, get_or-map, get_or-set_same}
use Rattle.std.proofs.lemmas.Bool.{ne_eqb}
use Rattle.rotating_pick.specs.declared.kinds.Kind.{Kind}
use Rattle.rotating_pick.specs.declared.kinds.Kind.TheVariants.{Uni, Multi}
use Rattle.cell_cutter.specs.Kinds.{kind_byte}
use Rattle.cell_cutter.specs.declared.cell.Cell.{Cell}
use Rattle.cell_cutter.specs.Cells.{used_bytes}
use Rattle.reassembly.specs.Flows.{fresh, flow_of, with_cell, after_cell, place_of_cell, bytes_with}
use Rattle.reassembly.specs.BufferSteps.{Stored, begun, flow_in, flows_in, stored_with}

-- the bytes stand where the flow goes on, and do not where it begins anew
flow_in-next : (size number : ℕ) (bytes : List ℕ) (last : Bool)
    → flow_in (record { size = size; bytes = bytes; next = cond last 0 (number + 1) }) ≡ cond last (fresh size)
    (record { size = size; bytes = bytes; next = number + 1 })
flow_in-next size number bytes true = refl
flow_in-next size number bytes false =
    let more : number + 1 ≢ 0 = λ e. omega (arith, e) in
    ap (λ b. record { size = size; bytes = cond b [] bytes; next = number + 1 }) (ne_eqb (number + 1) 0 more)

pub flow_in-stored_with : (stored : Stored) (cell : Cell) → flow_in (stored_with stored cell) ≡ with_cell (flow_in stored) cell
flow_in-stored_with stored cell = flow_in-next stored.size cell.number (begun stored ++ used_bytes cell) cell.last

-- the flow of a cell, by its buffer
pub flow_of-flows_in : (ports : ℕ) (buffers : List Stored) (cell : Cell) (old : Stored) → place_of_cell cell < length buffers
    → old ≡ get_or buffers (place_of_cell cell) old → flow_of (flows_in ports buffers) cell ≡ flow_in old
flow_of-flows_in ports buffers cell old h e = get_or-map flow_in buffers (place_of_cell cell) old (fresh 0) h ∙ ap flow_in (sym e)

-- where its buffer took the cell, the flow is the one after the cell, and the others stay
pub flows_in-set : (ports : ℕ) (buffers : List Stored) (cell : Cell) (old : Stored) → place_of_cell cell < length buffers
    → old ≡ get_or buffers (place_of_cell cell) old
    → flows_in ports (set buffers (place_of_cell cell) (stored_with old cell)) ≡ after_cell (flows_in ports buffers) cell
flows_in-set ports buffers cell old h e =
    let flow : flow_in (stored_with old cell) ≡ with_cell (flow_of (flows_in ports buffers) cell) cell = flow_in-stored_with old cell
    ∙ ap (λ f. with_cell f cell) (sym (flow_of-flows_in ports buffers cell old h e)) in
    ap (λ fs. record { ports = ports; flows = fs }) (map-set flow_in buffers (place_of_cell cell) (stored_with old cell)
    ∙ ap (set (map flow_in buffers) (place_of_cell cell)) flow)

-- a buffer at the place of a cell took the cell
pub record IsPut (buffers : List Stored) (cell : Cell) (place : ℕ) (old new : Stored) : Type 0 where
  pub place_is : place ≡ place_of_cell cell
  pub inside : place < length buffers
  pub was : old ≡ get_or buffers place old
  pub now : new ≡ stored_with old cell

-- the flows that stand after that
pub flows-put : (ports : ℕ) (buffers : List Stored) (cell : Cell) (place : ℕ) (old new : Stored) → IsPut buffers cell place old new
    → flows_in ports (set buffers place new) ≡ after_cell (flows_in ports buffers) cell
flows-put ports buffers cell place old new put =
    let there : place_of_cell cell < length buffers = omega (arith, put.place_is, put.inside) in
    let e : old ≡ get_or buffers (place_of_cell cell) old = put.was ∙ ap (λ i. get_or buffers i old) put.place_is in
    ap (λ n. flows_in ports (set buffers place n)) put.now
    ∙ (ap (λ i. flows_in ports (set buffers i (stored_with old cell))) put.place_is ∙ flows_in-set ports buffers cell old there e)

-- and the message that the buffer shows
pub message-put : (ports : ℕ) (buffers : List Stored) (cell : Cell) (place : ℕ) (old new shown : Stored) → IsPut buffers cell place old new
    → shown ≡ get_or (set buffers place new) place shown → shown.bytes ≡ bytes_with (flow_of (flows_in ports buffers) cell) cell
message-put ports buffers cell place old new shown put shows =
    let there : place_of_cell cell < length buffers = omega (arith, put.place_is, put.inside) in
    let e : old ≡ get_or buffers (place_of_cell cell) old = put.was ∙ ap (λ i. get_or buffers i old) put.place_is in
    let same : shown ≡ stored_with old cell = shows ∙ (get_or-set_same buffers place new shown put.inside ∙ put.now) in
    ap (λ s. s.bytes) same ∙ ap (λ f. bytes_with f cell) (sym (flow_of-flows_in ports buffers cell old there e))

pub kind_byte-lt : (kind : Kind) → kind_byte kind < 2
kind_byte-lt Uni = lit< tt
kind_byte-lt Multi = lit< tt
