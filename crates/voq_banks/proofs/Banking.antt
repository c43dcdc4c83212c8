-- One queue of an input changes, and the set of outputs of its level with it.
use Rattle.std.proofs.Common.{◌≡◌, ◌∙◌, ◌≢◌, ℕ, zero, suc, ◌+◌, ◌*◌, ◌<◌, ◌≤◌, ◌↔◌, List, [], ◌∷◌, ◌++◌, length, map, map-id, ap, sym, refl, arith, inl}
use Rattle.std.proofs.Common.{inr, slice_index, slice_index_or, slice_set, length-append}
use Rattle.std.proofs.Math.ListN.{get_or-map}
use Rattle.std.proofs.lemmas.Bool.{cases_eq}
use Rattle.std.proofs.lemmas.List.{get_or-set_same, get_or-set_other, get_or_default, length-set, length-map, map-append, get_or-map as get_or-map-at}
use Rattle.std.proofs.lemmas.List.FromFn.{length-map-range_with_len}
use Rattle.std.proofs.lemmas.Simd.{map-map}
use Rattle.rotating_pick.proofs.Bits.{no_member-zero}
use Rattle.rotating_pick.specs.PortSets.{Has}
use Rattle.cell_cutter.specs.declared.cell.CellName.{CellName}
use Rattle.voq_banks.specs.declared.ring.QueuedCell.{QueuedCell}
use Rattle.voq_banks.specs.CellQueues.{names_of_packet, cells_with_fan, empty_queue, queue_with}
use Rattle.voq_banks.specs.Queues.{Queues, place_of, queue_at, spare_at, Waits, OthersStay, empty_queues}
use Rattle.voq_banks.specs.FieldSteps.{Kept, names_of, queues_in, ring_at, HasDepth, AreMasks, AreKept}

-- ---- a queue is what its ring stands for
pub queue-of_ring : (ports depth : ℕ) (kept : List Kept) (output level : ℕ)
    → queue_at (queues_in ports depth kept) output level ≡ names_of (ring_at kept (place_of output level))
queue-of_ring ports depth kept output level = get_or-map names_of kept (place_of output level) (empty_queue 0 0)

pub spare-of_ring : (ports depth : ℕ) (kept : List Kept) (output level : ℕ)
    → spare_at (queues_in ports depth kept) output level ≡ (ring_at kept (place_of output level)).spare
spare-of_ring ports depth kept output level = get_or-map (λ k. k.spare) kept (place_of output level) (empty_queue 0 0)

-- as many cells wait as the ring has
pub count-of_ring : (ports depth : ℕ) (kept : List Kept) (output level : ℕ)
    → length (queue_at (queues_in ports depth kept) output level) ≡ length (ring_at kept (place_of output level)).cells
count-of_ring ports depth kept output level =
    ap length (queue-of_ring ports depth kept output level) ∙ length-map (ring_at kept (place_of output level)).cells (λ cell. cell.name)

-- each queue has a place of its own, and there is a ring at each
places_differ : (j l output level : ℕ) → l < 4 → level < 4 → ((j ≡ output) × (l ≡ level) → ⊥) → place_of j l ≢ place_of output level
places_differ j l output level l_in level_in differ same = differ (omega arith, omega arith)

pub place-lt : (ports output level size : ℕ) → size ≡ 4 * ports → output < ports → level < 4 → place_of output level < size
place-lt ports output level size long output_in level_in = omega arith

-- what an index found is the ring at its place
pub found_is : (kept : List Kept) (place : ℕ) (found : Kept) → place < length kept → found ≡ slice_index_or kept place found → found ≡ ring_at kept place
found_is kept place found inside is = is ∙ get_or_default kept place found (empty_queue 0 0) inside

-- the names of the cells of a packet
pub names-with_fan : (packet cells : ℕ) → map (λ (cell : QueuedCell (Unit {0})). cell.name) (cells_with_fan packet cells tt) ≡ names_of_packet packet cells
names-with_fan packet cells = map-map _ _ (names_of_packet packet cells) ∙ map-id (names_of_packet packet cells)

-- the queue that a packet entered
pub names-admitted : (queue : Kept) (packet cells : ℕ) → names_of (queue_with queue packet cells tt) ≡ names_of queue ++ names_of_packet packet cells
names-admitted queue packet cells =
    map-append (λ cell. cell.name) queue.cells (cells_with_fan packet cells tt) ∙ ap (λ names. names_of queue ++ names) (names-with_fan packet cells)

-- ---- a queue changes
module _ (ports depth : ℕ) (kept : List Kept) (output level : ℕ) (new : Kept) (long : length kept ≡ 4 * ports) (output_in : output < ports)
    (level_in : level < 4) where
  -- the queues before and after
  abbrev before : Queues
  before = queues_in ports depth kept

  abbrev after : Queues
  after = queues_in ports depth (slice_set kept (place_of output level) new)

  same_place : ring_at (slice_set kept (place_of output level) new) (place_of output level) ≡ new
  same_place = get_or-set_same kept (place_of output level) new (empty_queue 0 0) (place-lt ports output level (length kept) long output_in level_in)

  other_place : (place : ℕ) → place ≢ place_of output level → ring_at (slice_set kept (place_of output level) new) place ≡ ring_at kept place
  other_place place differ = get_or-set_other kept (place_of output level) place new (empty_queue 0 0) differ

  pub queue-set : queue_at after output level ≡ names_of new
  queue-set = queue-of_ring ports depth (slice_set kept (place_of output level) new) output level ∙ ap names_of same_place

  pub spare-set : spare_at after output level ≡ new.spare
  spare-set = spare-of_ring ports depth (slice_set kept (place_of output level) new) output level ∙ ap (λ k. k.spare) same_place

  pub others-set : OthersStay output level before after
  others-set = record {
    ports = refl;
    depth = refl;
    queues = λ j l l_in differ. queue-of_ring ports depth (slice_set kept (place_of output level) new) j l
        ∙ ap names_of (other_place (place_of j l) (places_differ j l output level l_in level_in differ)) ∙ sym (queue-of_ring ports depth kept j l);
    spare = λ j l l_in differ. spare-of_ring ports depth (slice_set kept (place_of output level) new) j l
        ∙ ap (λ k. k.spare) (other_place (place_of j l) (places_differ j l output level l_in level_in differ)) ∙ sym (spare-of_ring ports depth kept j l);
  }

  -- the sets stay right where the output is now in its level's exactly where its queue has a cell
  AreMasks-set : (masks : List ℕ) (mask : ℕ) → length masks ≡ 4 → AreMasks before masks
      → ((y : ℕ) → y ≢ output → Has mask y ↔ Has (slice_index masks level) y) → Has mask output ↔ Waits after output level
      → AreMasks after (slice_set masks level mask)
  AreMasks-set masks mask four old others here l y l_in =
      elim (cases_eq l level) [
        | inl same_level ↦
            let set_is : slice_index (slice_set masks level mask) l ≡ mask = ap (λ i. slice_index (slice_set masks level mask) i) same_level
            ∙ get_or-set_same masks level mask 0 (omega arith) in
            elim (cases_eq y output) [
              | inl same_output ↦ rw (set_is, same_level, same_output) (λ h. (output_in, here.0 h), λ s. here.1 s.1)
              | inr other_output ↦
                  let queue_is = ap length (others-set.queues y l l_in (λ e. other_output e.0)) in
                  let was : Has (slice_index masks level) y ↔ ((y < ports) × Waits before y l) = rw (← same_level) (old l y l_in) in
                  rw set_is (
                    λ h. let w = was.0 ((others y other_output).0 h) in (w.0, omega (arith, w.1, queue_is)),
                    λ s. (others y other_output).1 (was.1 (s.0, omega (arith, s.1, queue_is))),
                  )
            ]
        | inr other_level ↦
            let set_is : slice_index (slice_set masks level mask) l ≡ slice_index masks l = get_or-set_other masks level l mask 0 other_level in
            let queue_is = ap length (others-set.queues y l l_in (λ e. other_level e.1)) in
            let was = old l y l_in in
            rw set_is (
              λ h. let w = was.0 h in (w.0, omega (arith, w.1, queue_is)),
              λ s. was.1 (s.0, omega (arith, s.1, queue_is)),
            )
      ]

  deep-set : HasDepth depth new → ((place : ℕ) → place < length kept → HasDepth depth (ring_at kept place)) → (place : ℕ)
      → place < length (slice_set kept (place_of output level) new) → HasDepth depth (ring_at (slice_set kept (place_of output level) new) place)
  deep-set deep old place inside =
      elim (cases_eq place (place_of output level)) [
        | inl same ↦ rw (same, same_place) deep
        | inr other ↦ rw (other_place place other) (old place (omega (arith, inside, length-set kept (place_of output level) new)))
      ]

  pub AreKept-set : (masks : List ℕ) (mask : ℕ) → length masks ≡ 4 → AreKept ports depth kept masks → HasDepth depth new
      → ((y : ℕ) → y ≢ output → Has mask y ↔ Has (slice_index masks level) y) → Has mask output ↔ (0 < length new.cells)
      → AreKept ports depth (slice_set kept (place_of output level) new) (slice_set masks level mask)
  AreKept-set masks mask four old deep others here =
      let count : length (queue_at after output level) ≡ length new.cells = ap length queue-set
      ∙ length-map new.cells (λ cell. cell.name) in record {
        size = old.size;
        long = length-set kept (place_of output level) new ∙ long;
        deep = deep-set deep old.deep;
        waiting = AreMasks-set masks mask four old.waiting others (λ h. omega (arith, count, here.0 h), λ s. here.1 (omega (arith, count, s)));
      }

-- ---- the depth of a queue
-- that gains the cells of a packet
pub count-admitted : (packet cells : ℕ) (old new : Kept) → new ≡ queue_with old packet cells tt → length new.cells ≡ length old.cells + cells
count-admitted packet cells old new is =
    let long = length-append old.cells (cells_with_fan packet cells tt) in
    let with_fan : CellName → QueuedCell (Unit {0}) = λ name. record { name = name; fan = tt } in
    let count = length-map (names_of_packet packet cells) with_fan in
    let names : length (names_of_packet packet cells) ≡ cells = length-map-range_with_len _ 0 cells in
    omega (arith, ap (λ k. length k.cells) is, long, count, names)

pub HasDepth-admitted : (depth packet cells : ℕ) (old new : Kept) → HasDepth depth old → length old.cells + cells ≤ depth
    → new ≡ queue_with old packet cells tt → HasDepth depth new
HasDepth-admitted depth packet cells old new deep fits is =
    record { deep = ap (λ k. k.depth) is ∙ deep.deep; within = omega (arith, count-admitted packet cells old new is) }

-- that loses its first cell
pub HasDepth-popped : (depth : ℕ) (cell : QueuedCell (Unit {0})) (old new : Kept) → HasDepth depth old → new.depth ≡ old.depth → old.cells ≡ cell ∷ new.cells
    → HasDepth depth new
HasDepth-popped depth cell old new deep depth_is cells =
    record { deep = depth_is ∙ deep.deep; within = omega (arith, ap length cells, deep.within) }

-- no queue has more cells than the depth
pub depth-within : (ports depth : ℕ) (kept : List Kept) (masks : List ℕ) → AreKept ports depth kept masks → (output level : ℕ) → output < ports → level < 4
    → length (queue_at (queues_in ports depth kept) output level) ≤ depth
depth-within ports depth kept masks all output level output_in level_in =
    omega (
      arith,
      count-of_ring ports depth kept output level,
      (all.deep (place_of output level) (place-lt ports output level (length kept) all.long output_in level_in)).within,
    )

-- ---- before any packet entered
pub queues-empty : (ports depth : ℕ) (room : List ℕ) → queues_in ports depth (map (empty_queue depth) room) ≡ empty_queues ports depth room
queues-empty ports depth room =
    let queues = map-map names_of (empty_queue depth) room in
    let spare : map (λ (k : Kept). k.spare) (map (empty_queue depth) room) ≡ room = map-map (λ (k : Kept). k.spare) (empty_queue depth) room ∙ map-id room in
    rw (queues, spare) refl

pub queue_at-empty : (ports depth : ℕ) (room : List ℕ) (output level : ℕ) → queue_at (empty_queues ports depth room) output level ≡ []
queue_at-empty ports depth room output level = get_or-map {A = ℕ} {B = List CellName} (λ _. []) room (place_of output level) 0

none_waits : (ports depth : ℕ) (room : List ℕ) (output level : ℕ) → length (queue_at (queues_in ports depth (map (empty_queue depth) room)) output level) ≡ 0
none_waits ports depth room output level =
    ap length (ap (λ all. queue_at all output level) (queues-empty ports depth room) ∙ queue_at-empty ports depth room output level)

no_mask : (level : ℕ) → slice_index (0 ∷ 0 ∷ 0 ∷ 0 ∷ []) level ≡ 0
no_mask zero = refl
no_mask (suc zero) = refl
no_mask (suc (suc zero)) = refl
no_mask (suc (suc (suc zero))) = refl
no_mask (suc (suc (suc (suc level)))) = refl

ring_at-empty : (depth : ℕ) (room : List ℕ) (place : ℕ) → place < length room
    → ring_at (map (empty_queue depth) room) place ≡ empty_queue depth (slice_index room place)
ring_at-empty depth room place inside = get_or-map-at (empty_queue depth) room place 0 (empty_queue 0 0) inside

pub AreKept-empty : (ports depth : ℕ) (room : List ℕ) → ports ≤ 64 → length room ≡ 4 * ports
    → AreKept ports depth (map (empty_queue depth) room) (0 ∷ 0 ∷ 0 ∷ 0 ∷ [])
AreKept-empty ports depth room size long =
    let rings : List Kept = map (empty_queue depth) room in
    let count : length rings ≡ length room = length-map room (empty_queue depth) in record {
      size = size;
      long = count ∙ long;
      deep = λ place inside. rw (ring_at-empty depth room place (omega (arith, inside, count))) record { deep = refl; within = omega arith };
      waiting = λ level output level_in. let none = none_waits ports depth room output level in
          rw (no_mask level) (λ h. absurd (no_member-zero output h), λ s. absurd (omega (arith, none, s.1)));
    }
