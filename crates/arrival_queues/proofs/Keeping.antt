-- The fields of the queues of a switch, where a cell enters and where one leaves.
use Rattle.std.proofs.Common.{◌≡◌, ◌≢◌, ◌∙◌, ◌↔◌, ◌⊎◌, ℕ, ◌+◌, ◌-◌, ◌*◌, ◌%◌, ◌^◌, ◌<◌, ◌≤◌}
use Rattle.std.proofs.Common.{List, [], ◌∷◌, ◌++◌, Option, Some, None, IfSome, length, drop, map, nat_lt, slice_get}
use Rattle.std.proofs.Common.{slice_index_or, slice_set, replicate, refl, sym, ap, subst, inl, inr, arith}
use Rattle.std.specs.List.{range_with_len}
use Rattle.std.proofs.lemmas.Bool.{cases_eq, cond-false, cond-true, le-ltb, lt-ltb}
use Rattle.std.proofs.lemmas.List.{get_or-map, get_or-set_other, get_or-set_same, get_or-replicate, length-map, length-replicate}
use Rattle.std.proofs.lemmas.List.{length-set, map-set, nil_from_length, same_lists, set-get_or, set-set}
use Rattle.std.proofs.lemmas.List.FromFn.{get_or-map-range_with_len, length-map-range_with_len, map-range_with_len_more}
use Rattle.std.proofs.lemmas.Nat.{div-mul-add, mod-mul-add, same_from_place}
use Rattle.std_lemmas.proofs.Lists.{get_or-same}
use Rattle.rotating_pick.specs.PortSets.{Has}
use Rattle.rotating_pick.specs.declared.kinds.Kind.TheVariants.{Uni}
use Rattle.slot_match.specs.declared.rows.Row.{Row}
use Rattle.slot_match.specs.Rows.{Names, empty_row, row_of}
use Rattle.arrival_queues.specs.declared.cell.ArrivedCell.{ArrivedCell}
use Rattle.arrival_queues.specs.declared.queueing.Queueing.{Queueing}
use Rattle.arrival_queues.specs.declared.queueing.Queueing.TheVariants.{ByPair, ByInput, ByOutput}
use Rattle.arrival_queues.specs.Queues.{Queues, queue_at, queue_count, queue_of, queues_where, queues_with}
use Rattle.arrival_queues.specs.Queues.{queues_without_head, empty_queues, has_room, head_of, length_with, rows_of, held_count}
use Rattle.arrival_queues.specs.Queues.{sum_of_arrivals, IsInQueue, AreQueues, HasPorts}
use Rattle.unicast_slots.specs.RowSteps.{AsksNoMore, AsksToo, rows_asking}
use Rattle.arrival_queues.specs.FieldSteps.{QueueValue, cell_told, empty_queue, input_told, output_told, queue_made}
use Rattle.arrival_queues.specs.FieldSteps.{port_untold, cells_of, queues_kept, AsksFor, HasEntered, IsOwn, AreKept}
use Rattle.arrival_queues.proofs.Changes.{AreQueues-with, AreQueues-without, at_same, queue_of-lt, rest_at}
use Rattle.arrival_queues.proofs.Counts.{arrivals-empty, arrivals-with, arrivals-without, held-empty, held-with, held-without}
use Rattle.arrival_queues.proofs.Asking.{rows-empty, rows-less, rows-more, rows-stay, rows-within}

-- ---- the cell that a queue tells
told_own : (queueing : Queueing) (n input output slot : ℕ) → output < n
    → cell_told queueing (input_told queueing n (queue_of queueing n input output)) (output_told queueing n (queue_of queueing n input output)) slot
    (port_untold queueing input output) ≡ record { arrival = slot; input = input; output = output }
told_own ByPair n input output slot below =
    ap (λ i. let cell : ArrivedCell = record { arrival = slot; input = i; output = (input * n + output) % n } in cell) (div-mul-add input n output below)
    ∙ ap (λ j. let cell : ArrivedCell = record { arrival = slot; input = input; output = j } in cell) (mod-mul-add input n output below)
told_own ByInput n input output slot below = refl
told_own ByOutput n input output slot below = refl

-- a cell of a queue has the ports that the queue tells
HasPorts-of : (queueing : Queueing) (n input output : ℕ) (cell : ArrivedCell) → output < n → cell.output < n
    → queue_of queueing n cell.input cell.output ≡ queue_of queueing n input output → HasPorts queueing input output cell
HasPorts-of ByPair n input output cell below own same = same_from_place cell.input cell.output input output n own below same
HasPorts-of ByInput n input output cell below own same = same
HasPorts-of ByOutput n input output cell below own same = same

-- the first cell stays where one more comes
first_stays : (cells : List ArrivedCell) (cell : ArrivedCell) → 0 < length cells → slice_get (cells ++ cell ∷ []) 0 ≡ slice_get cells 0
first_stays [] cell some = absurd (omega arith)
first_stays (first ∷ cells) cell some = refl

none_left : (cells : List ArrivedCell) → None ≡ slice_get cells 0 → drop 1 cells ≡ cells
none_left [] none = refl
none_left (first ∷ cells) none = absurd cc

module _ (n : ℕ) (queueing : Queueing) (depth : ℕ) where
  -- the queues, where one of those that are kept is another
  kept-where : (kept : List QueueValue) (q : ℕ) (new : QueueValue) (cells : List ArrivedCell) → new.cells ≡ cells
      → queues_kept n queueing depth (slice_set kept q new) ≡ queues_where (queues_kept n queueing depth kept) q cells
  kept-where kept q new cells is =
      ap (λ (lists : List (List ArrivedCell)). let queues : Queues = record { ports = n; queueing = queueing; depth = depth; cells = lists } in queues)
      (map-set (λ (queue : QueueValue). queue.cells) kept q new ∙ ap (slice_set (cells_of kept) q) is)

  -- its cells are those of the queue that is kept
  cells-kept : (kept : List QueueValue) (q : ℕ) (found : QueueValue) → q < length kept → found ≡ slice_index_or kept q found
      → queue_at (queues_kept n queueing depth kept) q ≡ found.cells
  cells-kept kept q found inside is =
      get_or-map (λ (queue : QueueValue). queue.cells) kept q found [] inside ∙ ap (λ (queue : QueueValue). queue.cells) (sym is)

  count-kept : (kept : List QueueValue) → length (cells_of kept) ≡ length kept
  count-kept kept = length-map kept (λ (queue : QueueValue). queue.cells)

  module _ (kept : List QueueValue) (q : ℕ) (found new : QueueValue) (rows : List Row) (held arrivals : ℕ)
      (is : AreKept (queues_kept n queueing depth kept) kept rows held arrivals) (inside : q < length kept) (here : found ≡ slice_index_or kept q found) where
    own-kept : IsOwn (queues_kept n queueing depth kept) q found
    own-kept = subst (IsOwn (queues_kept n queueing depth kept) q) (sym here) (is.own q found inside)

    in-queues : q < length (cells_of kept)
    in-queues = omega (arith, count-kept kept, inside)

    AreKept-where : (cells : List ArrivedCell) (rows' : List Row) (held' arrivals' : ℕ)
        → new ≡ record found { cells = cells } → AreQueues (queues_where (queues_kept n queueing depth kept) q cells)
        → rows' ≡ rows_of (queues_where (queues_kept n queueing depth kept) q cells)
        → held' ≡ held_count (queues_where (queues_kept n queueing depth kept) q cells)
        → arrivals' ≡ sum_of_arrivals (queues_where (queues_kept n queueing depth kept) q cells)
        → AreKept (queues_kept n queueing depth (slice_set kept q new)) (slice_set kept q new) rows' held' arrivals'
    AreKept-where cells rows' held' arrivals' becomes whole asked held_is arrivals_are =
        let same = kept-where kept q new cells (ap (λ (queue : QueueValue). queue.cells) becomes) in
        let own_new : IsOwn (queues_kept n queueing depth kept) q new =
        rw becomes record { queueing = own-kept.queueing; input = own-kept.input; output = own-kept.output; depth = own-kept.depth } in
        subst (λ (queues : Queues). AreKept queues (slice_set kept q new) rows' held' arrivals') (sym same) record {
          whole = whole;
          own = λ k d k_in. elim (cases_eq k q) [
            | inl at ↦
                let is_new : slice_index_or (slice_set kept q new) k d ≡ new =
                ap (λ p. slice_index_or (slice_set kept q new) p d) at ∙ get_or-set_same kept q new d inside in
                rw (is_new, at) record { queueing = own_new.queueing; input = own_new.input; output = own_new.output; depth = own_new.depth }
            | inr other ↦
                let was = is.own k d (omega (arith, k_in, length-set kept q new)) in
                rw (get_or-set_other kept q k new d other)
                record { queueing = was.queueing; input = was.input; output = was.output; depth = was.depth }
          ];
          asked = asked;
          held_is = held_is;
          arrivals_are = arrivals_are;
        }

  -- there is a queue for two ports
  pub inside-kept : (kept : List QueueValue) (input output : ℕ) (rows : List Row) (held arrivals : ℕ)
      → AreKept (queues_kept n queueing depth kept) kept rows held arrivals → input < n → output < n → queue_of queueing n input output < length kept
  inside-kept kept input output rows held arrivals is i_in j_in =
      omega (arith, queue_of-lt queueing n input output i_in j_in, is.whole.count, count-kept kept)

  -- ---- a cell enters, or leaves, by the queue of two ports
  module _ (kept : List QueueValue) (input output : ℕ) (found : QueueValue) (rows : List Row) (held arrivals : ℕ)
      (is : AreKept (queues_kept n queueing depth kept) kept rows held arrivals) (i_in : input < n) (j_in : output < n)
      (inside : queue_of queueing n input output < length kept) (here : found ≡ slice_index_or kept (queue_of queueing n input output) found) where
    abbrev q : ℕ
    q = queue_of queueing n input output

    abbrev before : Queues
    before = queues_kept n queueing depth kept

    abbrev rest : List ArrivedCell
    rest = drop 1 (queue_at before q)

    abbrev after : List ArrivedCell → Queues
    after cells = queues_where before q cells

    waiting : queue_at before q ≡ found.cells
    waiting = cells-kept kept q found inside here

    in_all : q < length before.cells
    in_all = in-queues kept q found found rows held arrivals is inside here

    depth-is : found.depth ≡ depth
    depth-is = (own-kept kept q found found rows held arrivals is inside here).depth

    -- nothing changes where the queue stays
    stays : slice_set kept q found ≡ kept
    stays = ap (slice_set kept q) here ∙ set-get_or kept q found

    -- ---- it enters
    module _ (slot port : ℕ) (port-is : port ≡ port_untold queueing input output) (slot_in : slot < 2 ^ 32) where
      abbrev cell : ArrivedCell
      cell = record { arrival = slot; input = input; output = output }

      abbrev longer : List ArrivedCell
      longer = queue_at before q ++ cell ∷ []

      told : cell_told found.queueing found.input found.output slot port ≡ cell
      told =
          let own = own-kept kept q found found rows held arrivals is inside here in
          ap (λ (k : Queueing). cell_told k found.input found.output slot port) own.queueing
          ∙ ap (λ i. cell_told queueing i found.output slot port) own.input
          ∙ ap (λ j. cell_told queueing (input_told queueing n q) j slot port) own.output
          ∙ ap (cell_told queueing (input_told queueing n q) (output_told queueing n q) slot) port-is
          ∙ told_own queueing n input output slot j_in

      entered_as : (new : QueueValue)
          → new ≡ record found { cells = found.cells ++ cell_told found.queueing found.input found.output slot port ∷ [] }
          → new ≡ record found { cells = longer }
      entered_as new becomes = becomes ∙ ap (λ (c : ArrivedCell). let queue : QueueValue = record found { cells = found.cells ++ c ∷ [] } in queue) told
          ∙ ap (λ (cells : List ArrivedCell). let queue : QueueValue = record found { cells = cells ++ cell ∷ [] } in queue) (sym waiting)

      room-is : has_room before cell ≡ nat_lt (length found.cells) found.depth
      room-is = ap (λ (cells : List ArrivedCell). nat_lt (length cells) depth) waiting ∙ ap (nat_lt (length found.cells)) (sym depth-is)

      pub length-entered : (new : QueueValue) (count : ℕ) → HasEntered found new slot port count → Some count ≡ length_with before cell
      length-entered new count has =
          ap Some has.longer ∙ ap (λ (cells : List ArrivedCell). Some (length cells + 1)) (sym waiting)
          ∙ sym (cond-true (has_room before cell) _ _ (room-is ∙ lt-ltb (length found.cells) found.depth has.room))

      pub length-full : found.depth ≤ length found.cells → None ≡ length_with before cell
      length-full full = sym (cond-false (has_room before cell) _ _ (room-is ∙ le-ltb (length found.cells) found.depth full))

      pub view-entered : (new : QueueValue) (count : ℕ) → HasEntered found new slot port count
          → queues_kept n queueing depth (slice_set kept q new) ≡ queues_with before cell
      unfolding queues_with
      view-entered new count has =
          kept-where kept q new longer (ap (λ (queue : QueueValue). queue.cells) (entered_as new has.queue))
          ∙ sym (cond-true (has_room before cell) _ _ (room-is ∙ lt-ltb (length found.cells) found.depth has.room))

      pub view-full : (new : QueueValue) → found.depth ≤ length found.cells → new ≡ found
          → queues_kept n queueing depth (slice_set kept q new) ≡ queues_with before cell
      unfolding queues_with
      view-full new full same =
          ap (λ (queue : QueueValue). queues_kept n queueing depth (slice_set kept q queue)) same ∙ ap (queues_kept n queueing depth) stays
          ∙ sym (cond-false (has_room before cell) _ _ (room-is ∙ le-ltb (length found.cells) found.depth full))

      -- the row of its input
      rows-first : (rows' : List Row) → length found.cells ≡ 0 → AsksToo rows rows' input output → rows' ≡ rows_of (after longer)
      rows-first rows' none asks =
          let empty : queue_at before q ≡ [] = waiting ∙ nil_from_length found.cells none in
          asks.1 ∙ ap (λ (all : List Row). rows_asking all input asks.0) is.asked
          ∙ rows-more before q longer cell asks.0 in_all (ap (λ (cells : List ArrivedCell). slice_get cells 0) empty)
          (ap (λ (cells : List ArrivedCell). slice_get (cells ++ cell ∷ []) 0) empty) i_in j_in refl
          (subst (λ (all : List Row). (j : ℕ) → Has asks.0 j ↔ ((j ≡ output) ⊎ Names (row_of all input) 0 Uni j)) is.asked asks.2)

      rows-later : (rows' : List Row) → 0 < length found.cells → rows' ≡ rows → rows' ≡ rows_of (after longer)
      rows-later rows' some same = same ∙ is.asked ∙ rows-stay before q longer in_all (first_stays (queue_at before q) cell (omega (arith, ap length waiting)))

      pub AreKept-entered : (new : QueueValue) (count : ℕ) (rows' : List Row) → HasEntered found new slot port count
          → (count ≡ 1 → AsksToo rows rows' input output) → (count ≢ 1 → rows' ≡ rows)
          → AreKept (queues_kept n queueing depth (slice_set kept q new)) (slice_set kept q new) rows' (held + 1) (arrivals + slot)
      AreKept-entered new count rows' has first later =
          let room_in : length (queue_at before q) < depth = omega (arith, ap length waiting, depth-is, has.room) in
          let asked : rows' ≡ rows_of (after longer) = elim (cases_eq count 1) [
            | inl one ↦ rows-first rows' (omega (arith, has.longer)) (first one)
            | inr more ↦ rows-later rows' (omega (arith, has.longer, more)) (later more)
          ] in
          AreKept-where kept q found new rows held arrivals is inside here longer rows' (held + 1) (arrivals + slot) (entered_as new has.queue)
          (AreQueues-with before q cell is.whole in_all record { input = i_in; output = j_in; place = refl; arrival = slot_in } room_in)
          asked
          (omega (arith, is.held_is, held-with before q cell in_all))
          (omega (arith, is.arrivals_are, arrivals-with before q cell in_all))

    pub AreKept-same : (new : QueueValue) → new ≡ found
        → AreKept (queues_kept n queueing depth (slice_set kept q new)) (slice_set kept q new) rows held arrivals
    AreKept-same new same =
        let e : kept ≡ slice_set kept q new = sym (ap (slice_set kept q) same ∙ stays) in
        subst (λ (all : List QueueValue). AreKept (queues_kept n queueing depth all) all rows held arrivals) e is

    -- ---- the first cell leaves
    left_as : (new : QueueValue) → new ≡ record found { cells = drop 1 found.cells } → new ≡ record found { cells = rest }
    left_as new becomes = becomes ∙ ap (λ (cells : List ArrivedCell). let queue : QueueValue = record found { cells = drop 1 cells } in queue) (sym waiting)

    pub view-left : (new : QueueValue) → new ≡ record found { cells = drop 1 found.cells }
        → queues_kept n queueing depth (slice_set kept q new) ≡ queues_without_head before q
    unfolding queues_without_head
    view-left new becomes = kept-where kept q new rest (ap (λ (queue : QueueValue). queue.cells) (left_as new becomes))

    pub head-is : (first : Option ArrivedCell) → first ≡ slice_get found.cells 0 → first ≡ head_of before q
    head-is first at = at ∙ ap (λ (cells : List ArrivedCell). slice_get cells 0) (sym waiting)

    pub AreKept-none : (new : QueueValue) → new ≡ record found { cells = drop 1 found.cells } → None ≡ slice_get found.cells 0
        → AreKept (queues_kept n queueing depth (slice_set kept q new)) (slice_set kept q new) rows held arrivals
    AreKept-none new becomes none = AreKept-same new
        (becomes ∙ ap (λ (cells : List ArrivedCell). let queue : QueueValue = record found { cells = cells } in queue) (none_left found.cells none))

    module _ (gone : ArrivedCell) (first : Some gone ≡ slice_get found.cells 0) where
      head : head_of before q ≡ Some gone
      head = sym (head-is (Some gone) first)

      pub gone-in : IsInQueue before q gone
      gone-in = is.whole.own q 0 gone head

      pub gone-ports : HasPorts queueing input output gone
      gone-ports = HasPorts-of queueing n input output gone j_in gone-in.output gone-in.place

      pub held-some : held ≡ held_count (after rest) + 1
      held-some = is.held_is ∙ held-without before q gone in_all head

      pub arrivals-some : arrivals ≡ sum_of_arrivals (after rest) + gone.arrival
      arrivals-some = is.arrivals_are ∙ arrivals-without before q gone in_all head

      -- the rows, where no cell of the queue is left
      rows-none : (rows' : List Row) (cells : List ArrivedCell) → slice_get cells 0 ≡ None → AsksNoMore rows rows' gone.input gone.output
          → rows' ≡ rows_of (after cells)
      rows-none rows' cells none asks =
          asks.1 ∙ ap (λ (all : List Row). rows_asking all gone.input asks.0) is.asked
          ∙ rows-less before q cells gone asks.0 in_all head none gone-in.input gone-in.place
          (subst (λ (all : List Row). (j : ℕ) → Has asks.0 j ↔ ((j ≢ gone.output) × Names (row_of all gone.input) 0 Uni j)) is.asked asks.2)

      -- the cell that comes first then
      pub next-in : (new : QueueValue) (next : ArrivedCell) → new ≡ record found { cells = drop 1 found.cells } → slice_get new.cells 0 ≡ Some next
          → IsInQueue before q next
      next-in new next becomes second =
          let at : slice_get rest 0 ≡ Some next = ap (λ (queue : QueueValue). slice_get queue.cells 0) (sym (left_as new becomes)) ∙ second in
          is.whole.own q 1 next (rest_at (queue_at before q) 0 next at)

      pub next-below : (new : QueueValue) (next : Option ArrivedCell) → new ≡ record found { cells = drop 1 found.cells } → next ≡ slice_get new.cells 0
          → IfSome next (λ cell. (cell.input < n) × (cell.output < n))
      next-below new None becomes second = tt
      next-below new (Some next) becomes second = let own = next-in new next becomes (sym second) in (own.input, own.output)

      rows-next : (new : QueueValue) (next : Option ArrivedCell) (fewer rows' : List Row) → new ≡ record found { cells = drop 1 found.cells }
          → next ≡ slice_get new.cells 0 → AsksNoMore rows fewer gone.input gone.output → AsksFor fewer rows' next → rows' ≡ rows_of (after rest)
      rows-next new None fewer rows' becomes second less same =
          same ∙ rows-none fewer rest (ap (λ (queue : QueueValue). slice_get queue.cells 0) (sym (left_as new becomes)) ∙ sym second) less
      rows-next new (Some next) fewer rows' becomes second less asks =
          let own = next-in new next becomes (sym second) in
          let at : slice_get rest 0 ≡ Some next = ap (λ (queue : QueueValue). slice_get queue.cells 0) (sym (left_as new becomes)) ∙ sym second in
          let emptied : fewer ≡ rows_of (after []) = rows-none fewer [] refl less in
          let long : q < length (after []).cells = omega (arith, in_all, length-set before.cells q []) in
          asks.1 ∙ ap (λ (all : List Row). rows_asking all next.input asks.0) emptied
          ∙ rows-more (after []) q rest next asks.0 long (ap (λ (cells : List ArrivedCell). slice_get cells 0) (at_same before q [] in_all)) at
          own.input own.output
          own.place (subst (λ (all : List Row). (j : ℕ) → Has asks.0 j ↔ ((j ≡ next.output) ⊎ Names (row_of all next.input) 0 Uni j)) emptied asks.2)
          ∙ ap (λ (lists : List (List ArrivedCell)). rows_of (record before { cells = lists })) (set-set before.cells q [] rest)

      pub AreKept-left : (new : QueueValue) (next : Option ArrivedCell) (fewer rows' : List Row) → new ≡ record found { cells = drop 1 found.cells }
          → next ≡ slice_get new.cells 0 → AsksNoMore rows fewer gone.input gone.output → AsksFor fewer rows' next
          → AreKept (queues_kept n queueing depth (slice_set kept q new)) (slice_set kept q new) rows' (held - 1) (arrivals - gone.arrival)
      AreKept-left new next fewer rows' becomes second less asks =
          AreKept-where kept q found new rows held arrivals is inside here rest rows' (held - 1) (arrivals - gone.arrival) (left_as new becomes)
          (AreQueues-without before q is.whole in_all) (rows-next new next fewer rows' becomes second less asks) (omega (arith, held-some))
          (omega (arith, arrivals-some))

-- ---- a row for each input
pub length-rows : (n : ℕ) (queueing : Queueing) (depth : ℕ) (kept : List QueueValue) (rows : List Row) (held arrivals : ℕ)
    → AreKept (queues_kept n queueing depth kept) kept rows held arrivals → length rows ≡ n
length-rows n queueing depth kept rows held arrivals is = ap length is.asked ∙ (rows-within (queues_kept n queueing depth kept)).count

pub may_ask : (n : ℕ) (rows fewer : List Row) (input output : ℕ) (next : Option ArrivedCell) → length rows ≡ n → n ≤ 64 → AsksNoMore rows fewer input output
    → IfSome next (λ cell. (cell.input < n) × (cell.output < n)) → IfSome next (λ cell. (cell.input < length fewer) × (cell.output < 64))
may_ask n rows fewer input output None long size less below = tt
may_ask n rows fewer input output (Some next) long size less below =
    let kept : length fewer ≡ length rows = ap length less.1 ∙ length-set rows input _ in
    (omega (arith, kept, long, below.0), omega (arith, below.1, size))

-- ---- before a cell came
-- one queue more is made
pub made_next : (queueing : Queueing) (n depth place input output : ℕ) (made : QueueValue) → input ≡ input_told queueing n place
    → output ≡ output_told queueing n place → made ≡ empty_queue queueing input output depth
    → map (queue_made queueing n depth) (range_with_len 0 place) ++ made ∷ [] ≡ map (queue_made queueing n depth) (range_with_len 0 (place + 1))
made_next queueing n depth place input output made i_is j_is is =
    let first = map (queue_made queueing n depth) (range_with_len 0 place) in
    ap (λ (queue : QueueValue). first ++ queue ∷ []) (is ∙ ap (λ i. empty_queue queueing i output depth) i_is
    ∙ ap (λ j. empty_queue queueing (input_told queueing n place) j depth) j_is)
    ∙ sym (map-range_with_len_more (queue_made queueing n depth) 0 place place (omega arith))

pub queues-made : (queueing : Queueing) (n depth : ℕ)
    → queues_kept n queueing depth (map (queue_made queueing n depth) (range_with_len 0 (queue_count queueing n))) ≡ empty_queues queueing n depth
queues-made queueing n depth =
    let count = queue_count queueing n in
    let made = map (queue_made queueing n depth) (range_with_len 0 count) in
    let long : length made ≡ count = length-map-range_with_len (queue_made queueing n depth) 0 count in
    ap (λ (lists : List (List ArrivedCell)). let queues : Queues = record { ports = n; queueing = queueing; depth = depth; cells = lists } in queues)
    (same_lists (cells_of made) (replicate count []) (length-map made (λ (queue : QueueValue). queue.cells) ∙ long ∙ sym
    (length-replicate {A = List ArrivedCell} count []))
    (λ k d inside.
    let k_in : k < count = omega (arith, length-map made (λ (queue : QueueValue). queue.cells), long, inside) in
    get_or-map (λ (queue : QueueValue). queue.cells) made k (queue_made queueing n depth k) d (omega arith)
    ∙ ap (λ (queue : QueueValue). queue.cells) (get_or-map-range_with_len (queue_made queueing n depth) 0 count k k (queue_made queueing n depth k)
    k_in (omega arith))
    ∙ sym (get_or-replicate count k [] d k_in)))

pub AreKept-made : (queueing : Queueing) (n depth : ℕ) → 0 < n → n ≤ 64 → queue_count queueing n * depth ≤ 67108864
    → AreKept (queues_kept n queueing depth (map (queue_made queueing n depth) (range_with_len 0 (queue_count queueing n))))
    (map (queue_made queueing n depth) (range_with_len 0 (queue_count queueing n))) (replicate n empty_row) 0 0
AreKept-made queueing n depth some size room =
    let count = queue_count queueing n in
    let made = map (queue_made queueing n depth) (range_with_len 0 count) in
    let long : length made ≡ count = length-map-range_with_len (queue_made queueing n depth) 0 count in
    let none : (k : ℕ) → queue_at (empty_queues queueing n depth) k ≡ [] = λ k. get_or-same {X = List ArrivedCell} [] count k in
    subst (λ (queues : Queues). AreKept queues made (replicate n empty_row) 0 0) (sym (queues-made queueing n depth)) record {
      whole = record {
        some = some;
        size = size;
        room = room;
        count = length-replicate {A = List ArrivedCell} count [];
        within = λ k. rw (none k) (omega arith);
        own = λ k place cell is. absurd (let gone = ap (λ (cells : List ArrivedCell). slice_get cells place) (sym (none k)) ∙ is in cc);
      };
      own = λ k d k_in.
          let k_below : k < count = omega (arith, long, k_in) in
          rw (get_or-map-range_with_len (queue_made queueing n depth) 0 count k k d k_below (omega arith))
          record { queueing = refl; input = refl; output = refl; depth = refl };
      asked = rows-empty queueing n depth;
      held_is = sym (held-empty queueing n depth);
      arrivals_are = sym (arrivals-empty queueing n depth);
    }
