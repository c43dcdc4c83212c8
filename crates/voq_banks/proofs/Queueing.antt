-- A ring of packets, where there is one.
use Rattle.std.proofs.Common.{◌≡◌, ◌∙◌, ℕ, ◌+◌, ◌-◌, ◌<◌, ◌≤◌, Option, Some, ◌++◌, ◌∷◌, [], length, length-drop, drop, slice_get, ap, sym, subst, arith}
use Rattle.std.proofs.Common.{true}
use Rattle.std.specs.List.{range_with_len}
use Rattle.std.proofs.lemmas.Bool.{eqb-true}
use Rattle.std.proofs.lemmas.Simd.{map-map}
use Rattle.std.proofs.lemmas.List.{length_push}
use Rattle.circular_buffer.specs.Buffer.{Buffer, buffer, keep_last}
use Rattle.voq_banks.specs.declared.ring.QueuedCell.{QueuedCell}
use Rattle.voq_banks.specs.declared.ring.Waiting.{Waiting}
use Rattle.voq_banks.specs.CellQueues.{CellQueue, cells_with_fan, queue_with}
use Rattle.voq_banks.specs.RunSteps.{cell_of, run_of, cells_left}
use Rattle.voq_banks.specs.RingSteps.{IsRing, queue_of}
use Rattle.voq_banks.proofs.Running.{keeps_all, cells_left-more, first_cell, last_cell, packed, IsQueue-more, IsQueue-next}

-- a packet of so many cells may enter a queue of so many
pub record MayEnter (depth count spare cells : ℕ) : Type 0 where
  pub some : 0 < cells
  pub few : cells ≤ 1171
  pub place : 0 < spare
  pub fits : count + cells ≤ depth

module _ {F : Type 0} where
  -- the cells of a packet are those of its entry in the ring
  run_of-is : (w : Waiting F) → run_of w ≡ cells_with_fan w.packet w.cells w.fan
  run_of-is w =
      sym (map-map (λ name. record { name = name; fan = w.fan }) (λ k. (cell_of w k).name) (range_with_len 0 w.cells))

  -- the queue that a ring is
  pub IsRing-in : (depth gone count spare : ℕ) (kept : Option (Buffer (Waiting F))) (ring : Buffer (Waiting F)) → kept ≡ Some ring
      → IsRing depth gone count spare kept → IsRing depth gone count spare (Some ring)
  IsRing-in depth gone count spare kept ring is q = subst (IsRing depth gone count spare) is q

  pub queue_of-in : (depth gone spare : ℕ) (kept : Option (Buffer (Waiting F))) (ring : Buffer (Waiting F)) (value : CellQueue F) → kept ≡ Some ring
      → queue_of depth gone spare kept ≡ value → value ≡ queue_of depth gone spare (Some ring)
  queue_of-in depth gone spare kept ring value is view = sym view ∙ ap (queue_of depth gone spare) is

  -- ---- a packet enters a queue that takes it
  -- there is a place for it
  pub items-more : (depth gone count spare : ℕ) (ring : Buffer (Waiting F)) (w : Waiting F) → IsRing depth gone count spare (Some ring)
      → MayEnter depth count spare w.cells
      → buffer (keep_last ring.capacity (ring.items ++ w ∷ [])) ring.capacity ≡ buffer (ring.items ++ w ∷ []) ring.capacity
  items-more depth gone count spare ring w q may =
      let room : length ring.items < ring.capacity =
      omega (arith, q.taken, q.queue.counted, packed gone count ring.items q.queue, may.some, may.place, may.fits) in
      ap (λ items. buffer items ring.capacity) (keeps_all ring.capacity ring.items w room)

  pub IsRing-more : (depth gone count spare : ℕ) (ring : Buffer (Waiting F)) (w : Waiting F) → IsRing depth gone count spare (Some ring)
      → MayEnter depth count spare w.cells
      → IsRing depth gone (count + w.cells) (spare - 1) (Some (buffer (ring.items ++ w ∷ []) ring.capacity))
  IsRing-more depth gone count spare ring w q may = record {
    queue = IsQueue-more gone count ring.items w may.some may.few q.queue;
    within = may.fits;
    taken = omega (arith, q.taken, length_push ring.items w, may.place);
    needed = q.needed;
  }

  pub queue_of-more : (depth gone count spare : ℕ) (ring : Buffer (Waiting F)) (w : Waiting F) → IsRing depth gone count spare (Some ring)
      → queue_of depth gone (spare - 1) (Some (buffer (ring.items ++ w ∷ []) ring.capacity)) ≡ queue_with
      (queue_of depth gone spare (Some ring)) w.packet w.cells w.fan
  queue_of-more depth gone count spare ring w q =
      let cells : cells_left gone (ring.items ++ w ∷ []) ≡ cells_left gone ring.items ++ cells_with_fan w.packet w.cells w.fan =
      cells_left-more gone ring.items w q.queue.begun ∙ ap (λ run. cells_left gone ring.items ++ run) (run_of-is w) in
      ap (λ c. record { depth = depth; cells = c; spare = spare - 1 }) cells

  -- ---- the first cell leaves
  -- and it was the last of its packet
  pub IsRing-next : (depth gone count spare : ℕ) (ring : Buffer (Waiting F)) (w : Waiting F) → Some w ≡ slice_get ring.items 0 → gone + 1 ≡ w.cells
      → IsRing depth gone count spare (Some ring) → IsRing depth 0 (count - 1) spare (Some (buffer (drop 1 ring.items) ring.capacity))
  IsRing-next depth gone count spare ring w is end q = record {
    queue = IsQueue-next gone count ring.items w is end q.queue;
    within = omega (arith, q.within);
    taken = omega (arith, q.taken, length-drop 1 ring.items);
    needed = q.needed;
  }

  pub queue_of-first : (depth gone count spare : ℕ) (ring : Buffer (Waiting F)) (w : Waiting F) → Some w ≡ slice_get ring.items 0
      → IsRing depth gone count spare (Some ring) → cells_left gone ring.items ≡ cell_of w gone ∷ cells_left (gone + 1) ring.items
  queue_of-first depth gone count spare ring w is q = first_cell gone ring.items w is q.queue.begun

  pub queue_of-next : (depth gone count spare : ℕ) (ring : Buffer (Waiting F)) (w : Waiting F) → Some w ≡ slice_get ring.items 0 → gone + 1 ≡ w.cells
      → IsRing depth gone count spare (Some ring) → cells_left gone ring.items ≡ cell_of w gone ∷ cells_left 0 (drop 1 ring.items)
  queue_of-next depth gone count spare ring w is end q =
      first_cell gone ring.items w is q.queue.begun ∙ ap (λ cells. cell_of w gone ∷ cells) (last_cell (gone + 1) ring.items w is end)

  -- whether it was the last, by what is told of the cell
  pub last-true : (gone : ℕ) (w : Waiting F) (cell : QueuedCell F) → cell ≡ cell_of w gone → cell.name.last ≡ true → gone + 1 ≡ w.cells
  last-true gone w cell is last = eqb-true (gone + 1) w.cells (sym (ap (λ c. c.name.last) is) ∙ last)
