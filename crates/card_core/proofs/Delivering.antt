-- The messages of the cells that came, with one cell more.
use Rattle.std.proofs.Common.{◌≡◌, ◌≢◌, ◌∙◌, ℕ, zero, suc, ◌+◌, ◌<◌, ◌==◌, ◌&&◌, Bool, true, false, List, [], ◌∷◌, ◌++◌, map, length}
use Rattle.std.proofs.Common.{slice_index_or, slice_set, refl, sym, ap, subst, arith, inl, inr, if◌then◌else◌, append_assoc}
use Rattle.std.specs.List.{concat}
use Rattle.std.proofs.lemmas.Bool.{eq-eqb, eqb-true, cases_Bool}
use Rattle.std.proofs.lemmas.List.{append-nil, map-set, map-append, set-get_or, get_or-set_same, get_or-set_other, length_push, length-map}
use Rattle.std.proofs.lemmas.List.Elements.{filter-append}
use Rattle.std.proofs.lemmas.List.Folds.{concat-append}
use Rattle.reassembly.proofs.Storing.{kind_byte-lt}
use Rattle.rotating_pick.specs.declared.kinds.Kind.{Kind}
use Rattle.rotating_pick.specs.declared.kinds.Kind.TheVariants.{Uni, Multi}
use Rattle.eslip_rounds.specs.Decisions.{is_kind}
use Rattle.cell_cutter.specs.declared.cell.Cell.{Cell}
use Rattle.cell_cutter.specs.Cells.{used_bytes}
use Rattle.reassembly.specs.Flows.{Flow, fresh, place_of, place_of_cell, flow_of, bytes_with, with_cell, after_cell}
use Rattle.reassembly.specs.Cutting.{Stands, rest_after, joined, messages_of}
use Rattle.reassembly.proofs.Pieces.{Stands-with_cell, messages_of-push}
use Rattle.card_core.specs.Plans.{Plan, IsGoodPlan}
use Rattle.card_core.specs.Deliveries.{is_of_flow, flow_cells, message_with, ended_by, messages_after, delivered, messages_from}
use Rattle.card_core.specs.Cards.{Received, HasReceived, MayReceive, flow_at}
use Rattle.card_core.specs.CardSteps.{received_with}

-- ---- the messages
messages-push : (before cells : List Cell) (cell : Cell) → messages_after before (cells ++ cell ∷ []) ≡ messages_after before cells
    ++ ended_by (before ++ cells) cell
messages-push before [] cell =
    append-nil (ended_by before cell) ∙ ap (λ b. ended_by b cell) (sym (append-nil before))
messages-push before (c ∷ cells) cell =
    ap (λ m. ended_by before c ++ m) (messages-push (before ++ c ∷ []) cells cell)
    ∙ sym (append_assoc (ended_by before c) (messages_after (before ++ c ∷ []) cells) (ended_by ((before ++ c ∷ []) ++ cells) cell))
    ∙ ap (λ b. (ended_by before c ++ messages_after (before ++ c ∷ []) cells) ++ ended_by b cell) (append_assoc before (c ∷ []) cells)

pub delivered-push : (cells : List Cell) (cell : Cell) → delivered (cells ++ cell ∷ []) ≡ delivered cells ++ ended_by cells cell
delivered-push cells cell = messages-push [] cells cell

concat_if : (b : Bool) (body bytes : List ℕ) → (if b then body ++ bytes else body) ≡ body ++ concat (if b then bytes ∷ [] else [])
concat_if true body bytes = ap (λ x. body ++ x) (sym (append-nil bytes))
concat_if false body bytes = sym (append-nil body)

lens_if : (b : Bool) (lens bytes : List ℕ) → (if b then lens ++ length bytes ∷ [] else lens) ≡ lens ++ map length (if b then bytes ∷ [] else [])
lens_if true lens bytes = refl
lens_if false lens bytes = sym (append-nil lens)

-- ---- one flow
same_kind : (a b : Kind) → is_kind a b ≡ true → a ≡ b
same_kind Uni Uni is = refl
same_kind Uni Multi is = absurd (cc)
same_kind Multi Uni is = absurd (cc)
same_kind Multi Multi is = refl

pub kind_refl : (k : Kind) → is_kind k k ≡ true
kind_refl Uni = refl
kind_refl Multi = refl

-- two flows are one or have different places
kind_place : (a b : Kind) (i l j m : ℕ) → l < 4 → m < 4 → place_of i l a ≡ place_of j m b → (i ≡ j) × (l ≡ m) × (a ≡ b)
kind_place Uni Uni i l j m below below' same = (omega arith, omega arith, refl)
kind_place Uni Multi i l j m below below' same = absurd (omega arith)
kind_place Multi Uni i l j m below below' same = absurd (omega arith)
kind_place Multi Multi i l j m below below' same = (omega arith, omega arith, refl)

pub of_own : (cell : Cell) → is_of_flow cell.input cell.level cell.kind cell ≡ true
of_own cell = let a = eq-eqb cell.input cell.input refl in let b = eq-eqb cell.level cell.level refl in rw (a, b) (kind_refl cell.kind)

parts_of : (a b c : Bool) → a && b && c ≡ true → (a ≡ true) × (b ≡ true) × (c ≡ true)
parts_of true true true is = (refl, refl, refl)
parts_of true true false is = absurd (cc)
parts_of true false c is = absurd (cc)
parts_of false b c is = absurd (cc)

cells-own : (cells : List Cell) (cell : Cell) (i l : ℕ) (k : Kind) → is_of_flow i l k cell ≡ true
    → flow_cells i l k (cells ++ cell ∷ []) ≡ flow_cells i l k cells ++ cell ∷ []
cells-own cells cell i l k is = filter-append (is_of_flow i l k) cells (cell ∷ [])
    ∙ ap (λ (b : Bool). flow_cells i l k cells ++ (if b then cell ∷ [] else [])) is

cells-other : (cells : List Cell) (cell : Cell) (i l : ℕ) (k : Kind) → is_of_flow i l k cell ≡ false
    → flow_cells i l k (cells ++ cell ∷ []) ≡ flow_cells i l k cells
cells-other cells cell i l k is = filter-append (is_of_flow i l k) cells (cell ∷ [])
    ∙ ap (λ (b : Bool). flow_cells i l k cells ++ (if b then cell ∷ [] else [])) is ∙ append-nil (flow_cells i l k cells)

-- ---- the sizes stay
size_if : (b : Bool) (flow : Flow) (bytes : List ℕ) (next : ℕ)
    → (if b then fresh flow.size else record { size = flow.size; bytes = bytes; next = next }).size ≡ flow.size
size_if true flow bytes next = refl
size_if false flow bytes next = refl

size_at : (flows : List Flow) (place : ℕ) → (slice_index_or flows place (fresh 0)).size ≡ slice_index_or (map (λ (f : Flow). f.size) flows) place 0
size_at [] place = refl
size_at (f ∷ flows) zero = refl
size_at (f ∷ flows) (suc place) = size_at flows place

sizes_stay : (flows : List Flow) (place : ℕ) (flow : Flow) → flow.size ≡ (slice_index_or flows place (fresh 0)).size
    → map (λ (f : Flow). f.size) (slice_set flows place flow) ≡ map (λ (f : Flow). f.size) flows
sizes_stay flows place flow same =
    map-set (λ (f : Flow). f.size) flows place flow
    ∙ ap (slice_set (map (λ (f : Flow). f.size) flows) place) (same ∙ size_at flows place)
    ∙ set-get_or (map (λ (f : Flow). f.size) flows) place 0

module _ (plan : Plan) (good : IsGoodPlan plan) (r : Received) (cells : List Cell) (had : HasReceived plan r cells) (cell : Cell)
    (may : MayReceive r cell) where
  input_in : cell.input < plan.ports
  input_in = let a = may.flow.input in let b = had.ports in omega arith

  place_in : place_of_cell cell < length r.flows.flows
  place_in =
      let a = length-map r.flows.flows (λ (f : Flow). f.size) in
      let b = ap length had.sizes in
      let k = kind_byte-lt cell.kind in
      let i = input_in in
      let l = may.flow.form.level in
      omega (arith, a, b, k, i, l, good.flows)

  own : Stands (flow_of r.flows cell) (flow_cells cell.input cell.level cell.kind cells)
  own = had.flows cell.input cell.level cell.kind input_in may.flow.form.level

  message_is : bytes_with (flow_of r.flows cell) cell ≡ message_with cells cell
  message_is = ap (λ b. b ++ used_bytes cell) own.bytes

  after_at : (place : ℕ) → place ≡ place_of_cell cell → slice_index_or (after_cell r.flows cell).flows place (fresh 0) ≡ with_cell (flow_of r.flows cell) cell
  after_at place here =
      ap (λ k. slice_index_or (slice_set r.flows.flows (place_of_cell cell) (with_cell (flow_of r.flows cell) cell)) k (fresh 0)) here
      ∙ get_or-set_same r.flows.flows (place_of_cell cell) (with_cell (flow_of r.flows cell) cell) (fresh 0) place_in

  flows_case : (i l : ℕ) (k : Kind) → i < plan.ports → l < 4 → Stands (flow_at (after_cell r.flows cell) i l k) (flow_cells i l k (cells ++ cell ∷ []))
  flows_case i l k inside below = elim (cases_Bool (is_of_flow i l k cell)) [
    | inl mine ↦
        let p = parts_of (cell.input == i) (cell.level == l) (is_kind cell.kind k) mine in
        let same_i = eqb-true cell.input i p.0 in
        let same_l = eqb-true cell.level l p.1 in
        let same_k = same_kind cell.kind k p.2 in
        let here : place_of i l k ≡ place_of_cell cell =
        sym (ap (λ x. place_of x cell.level cell.kind) same_i ∙ ap (λ x. place_of i x cell.kind) same_l ∙ ap (place_of i l) same_k) in
        let before : Stands (flow_of r.flows cell) (flow_cells i l k cells) =
        subst (λ x. Stands (flow_of r.flows cell) (flow_cells x l k cells)) same_i
        (subst (λ x. Stands (flow_of r.flows cell) (flow_cells cell.input x k cells)) same_l
        (subst (λ x. Stands (flow_of r.flows cell) (flow_cells cell.input cell.level x cells)) same_k own)) in
        subst (λ cs. Stands (flow_at (after_cell r.flows cell) i l k) cs) (sym (cells-own cells cell i l k mine))
        (subst (λ f. Stands f (flow_cells i l k cells ++ cell ∷ [])) (sym (after_at (place_of i l k) here))
        (Stands-with_cell (flow_of r.flows cell) (flow_cells i l k cells) cell before may.flow.next))
    | inr other ↦
        let apart : place_of i l k ≢ place_of_cell cell = λ same.
        let e = kind_place k cell.kind i l cell.input cell.level below may.flow.form.level same in
        let mine : is_of_flow i l k cell ≡ true =
        subst (λ x. is_of_flow x l k cell ≡ true) (sym e.0)
        (subst (λ x. is_of_flow cell.input x k cell ≡ true) (sym e.1)
        (subst (λ x. is_of_flow cell.input cell.level x cell ≡ true) (sym e.2) (of_own cell))) in
        absurd (cc) in
        subst (λ cs. Stands (flow_at (after_cell r.flows cell) i l k) cs) (sym (cells-other cells cell i l k other))
        (subst (λ f. Stands f (flow_cells i l k cells))
        (sym (get_or-set_other r.flows.flows (place_of_cell cell) (place_of i l k) (with_cell (flow_of r.flows cell) cell) (fresh 0) apart))
        (had.flows i l k inside below))
  ]

  pub received-push : HasReceived plan (received_with r cell) (cells ++ cell ∷ [])
  received-push = record {
    ports = had.ports;
    sizes = sizes_stay r.flows.flows (place_of_cell cell) (with_cell (flow_of r.flows cell) cell)
        (size_if cell.last (flow_of r.flows cell) (bytes_with (flow_of r.flows cell) cell) (cell.number + 1)) ∙ had.sizes;
    body_room = had.body_room;
    packet_room = had.packet_room;
    flows = flows_case;
    body =
        concat_if cell.last r.body (bytes_with (flow_of r.flows cell) cell)
        ∙ ap (λ m. r.body ++ concat (if cell.last then m ∷ [] else [])) message_is
        ∙ ap (λ b. b ++ concat (ended_by cells cell)) had.body
        ∙ sym (concat-append (delivered cells) (ended_by cells cell))
        ∙ ap concat (sym (delivered-push cells cell));
    lens =
        lens_if cell.last r.lens (bytes_with (flow_of r.flows cell) cell)
        ∙ ap (λ m. r.lens ++ map length (if cell.last then m ∷ [] else [])) message_is
        ∙ ap (λ b. b ++ map length (ended_by cells cell)) had.lens
        ∙ sym (map-append length (delivered cells) (ended_by cells cell))
        ∙ ap (map length) (sym (delivered-push cells cell));
    count = ap (λ n. n + 1) had.count ∙ sym (length_push cells cell);
  }

-- ---- the messages of one flow are its cells, cut after each last one
module _ (i l : ℕ) (k : Kind) where
  own_flow : (before : List Cell) (cell : Cell) → is_of_flow i l k cell ≡ true → flow_cells cell.input cell.level cell.kind before ≡ flow_cells i l k before
  own_flow before cell mine =
      let p = parts_of (cell.input == i) (cell.level == l) (is_kind cell.kind k) mine in
      ap (λ x. flow_cells x cell.level cell.kind before) (eqb-true cell.input i p.0)
      ∙ ap (λ x. flow_cells i x cell.kind before) (eqb-true cell.level l p.1)
      ∙ ap (λ x. flow_cells i l x before) (same_kind cell.kind k p.2)

  last_case : (last : Bool) (messages : List (List ℕ)) (bytes message : List ℕ) → bytes ≡ message
      → messages ++ (if last then message ∷ [] else []) ≡ (if last then messages ++ bytes ∷ [] else messages)
  last_case true messages bytes message same = ap (λ m. messages ++ m ∷ []) (sym same)
  last_case false messages bytes message same = append-nil messages

  one_more : (before : List Cell) (cell : Cell) (mine : Bool) → is_of_flow i l k cell ≡ mine
      → messages_of (flow_cells i l k before) ++ (if mine then ended_by before cell else []) ≡ messages_of (flow_cells i l k (before ++ cell ∷ []))
  one_more before cell true is =
      let cells = flow_cells i l k before in
      let flow : Flow = record { size = 0; bytes = joined (rest_after [] cells); next = length (rest_after [] cells) } in
      let stands : Stands flow cells = record { bytes = refl; next = refl } in
      last_case cell.last (messages_of cells) (bytes_with flow cell) (message_with before cell)
      (ap (λ cs. joined (rest_after [] cs) ++ used_bytes cell) (sym (own_flow before cell is)))
      ∙ sym (messages_of-push flow cells cell stands)
      ∙ ap messages_of (sym (cells-own before cell i l k is))
  one_more before cell false is = append-nil (messages_of (flow_cells i l k before)) ∙ ap messages_of (sym (cells-other before cell i l k is))

  from_all : (before cells : List Cell) → messages_of (flow_cells i l k before)
      ++ messages_from i l k before cells ≡ messages_of (flow_cells i l k (before ++ cells))
  from_all before [] = append-nil (messages_of (flow_cells i l k before)) ∙ ap (λ cs. messages_of (flow_cells i l k cs)) (sym (append-nil before))
  from_all before (cell ∷ cells) =
      let here = if is_of_flow i l k cell then ended_by before cell else [] in
      let rest = messages_from i l k (before ++ cell ∷ []) cells in
      sym (append_assoc (messages_of (flow_cells i l k before)) here rest)
      ∙ ap (λ xs. xs ++ rest) (one_more before cell (is_of_flow i l k cell) refl)
      ∙ from_all (before ++ cell ∷ []) cells
      ∙ ap (λ cs. messages_of (flow_cells i l k cs)) (append_assoc before (cell ∷ []) cells)

  pub flow_is_cut : (cells : List Cell) → messages_from i l k [] cells ≡ messages_of (flow_cells i l k cells)
  flow_is_cut cells = from_all [] cells
