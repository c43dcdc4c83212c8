-- The queue of one level changes.
use Rattle.std.proofs.Common.{◌≡◌, ◌≢◌, ◌∙◌, ℕ, ◌+◌, ◌<◌, ◌≤◌, Bool, true, false, List, [], ◌∷◌, length, map, ap, sym, subst, refl, arith, inl, inr}
use Rattle.std.proofs.Common.{slice_index, slice_index_or, slice_set, length-append, length-drop}
use Rattle.std.proofs.Math.ListN.{get_or-map}
use Rattle.std.proofs.lemmas.Bool.{cases_eq}
use Rattle.std.proofs.lemmas.List.{get_or-set_same, get_or-set_other, get_or_default, length-set, length-map, get_or-map as get_or-map-at}
use Rattle.std.proofs.lemmas.List.FromFn.{length-map-range_with_len}
use Rattle.std.proofs.lemmas.Simd.{map-map}
use Rattle.cell_cutter.specs.declared.cell.CellName.{CellName}
use Rattle.rotating_pick.specs.PortSets.{IsAmong}
use Rattle.voq_banks.specs.CellQueues.{names_of_packet, cells_with_fan}
use Rattle.multicast_queue.specs.FanQueues.{FanCell, FanQueue, empty_queue, empty_queues, queue_at, HeadLeaves, HeadStays, OthersStay}
use Rattle.multicast_queue.specs.FieldSteps.{Kept, empty_kept, kept_with, queues_in, kept_at, HaveFans, IsRest, IsKept, AreKept}
use Rattle.multicast_queue.proofs.Rests.{HaveFans-append, HaveFans-packet, IsRest-more, IsRest-on, HaveFans-next, IsRest-next}

-- a queue is the one that is kept of its level
pub queue-of_kept : (ports depth : ℕ) (kept : List Kept) (level : ℕ) → queue_at (queues_in ports depth kept) level ≡ (kept_at kept level).queue
queue-of_kept ports depth kept level = get_or-map (λ k. k.queue) kept level (empty_kept 0 0)

-- what is read at a level is the one of the level
pub read_is : (kept : List Kept) (level : ℕ) (otherwise : Kept) → level < length kept → slice_index_or kept level otherwise ≡ kept_at kept level
read_is kept level otherwise inside = get_or_default kept level otherwise (empty_kept 0 0) inside

-- ---- a queue changes
module _ (ports depth : ℕ) (kept : List Kept) (level : ℕ) (new : Kept) where
  pub queue-set : level < length kept → queue_at (queues_in ports depth (slice_set kept level new)) level ≡ new.queue
  queue-set inside = queue-of_kept ports depth (slice_set kept level new) level ∙ ap (λ k. k.queue) (get_or-set_same kept level new (empty_kept 0 0) inside)

  pub others-set : OthersStay level (queues_in ports depth kept) (queues_in ports depth (slice_set kept level new))
  others-set = record {
    ports = refl;
    depth = refl;
    queues = λ l differ. queue-of_kept ports depth (slice_set kept level new) l
        ∙ ap (λ k. k.queue) (get_or-set_other kept level l new (empty_kept 0 0) differ) ∙ sym (queue-of_kept ports depth kept l);
  }

  each-set : level < length kept → ((l : ℕ) → l < 4 → IsKept ports depth (kept_at kept l)) → IsKept ports depth new → (l : ℕ) → l < 4
      → IsKept ports depth (kept_at (slice_set kept level new) l)
  each-set inside old one l l_in =
      elim (cases_eq l level) [
        | inl same ↦
            let here : kept_at (slice_set kept level new) l ≡ new = ap (kept_at (slice_set kept level new)) same
            ∙ get_or-set_same kept level new (empty_kept 0 0) inside in
            rw here one
        | inr other ↦ rw (get_or-set_other kept level l new (empty_kept 0 0) other) (old l l_in)
      ]

  pub AreKept-set : level < length kept → AreKept ports depth kept → IsKept ports depth new → AreKept ports depth (slice_set kept level new)
  AreKept-set inside old one = record { long = length-set kept level new ∙ old.long; each = each-set inside old.each one }

-- ---- what is kept of a queue
-- that may gain the cells of a packet
pub record MayEnter (ports depth cells fan : ℕ) (old : Kept) : Type 0 where
  pub some : 0 < cells
  pub fits : length old.queue.cells + cells ≤ depth
  pub somewhere : fan ≢ 0
  pub among : IsAmong ports fan

-- and gains them
pub IsKept-admitted : (ports depth packet cells fan : ℕ) (old : Kept) → IsKept ports depth old → MayEnter ports depth cells fan old
    → IsKept ports depth (kept_with old packet cells fan)
IsKept-admitted ports depth packet cells fan old kept may =
    let names : length (names_of_packet packet cells) ≡ cells = length-map-range_with_len _ 0 cells in
    let with_fan : CellName → FanCell = λ name. record { name = name; fan = fan } in
    let count = length-map (names_of_packet packet cells) with_fan in
    let long = length-append old.queue.cells (cells_with_fan packet cells fan) in
    record {
      deep = kept.deep;
      within = omega (arith, long, count, names, may.fits);
      fans = HaveFans-append ports old.queue.cells (cells_with_fan packet cells fan) kept.fans
          (HaveFans-packet ports fan (names_of_packet packet cells) may.somewhere may.among);
      rests = IsRest-more old.queue.rest fan old.queue.cells (names_of_packet packet cells) kept.rests may.somewhere (omega (arith, names, may.some));
    }

-- whose head has left, or not
pub record IsServed (mask : ℕ) (done : Bool) (old new : Kept) : Type 0 where
  pub depth : new.depth ≡ old.depth
  pub leaves : done ≡ true → HeadLeaves old.queue new.queue
  pub stays : done ≡ false → HeadStays mask old.queue new.queue
  pub some : done ≡ false → new.queue.rest ≢ 0

pub IsKept-served : (ports depth mask : ℕ) (done : Bool) (old new : Kept) → IsKept ports depth old → IsServed mask done old new → IsKept ports depth new
IsKept-served ports depth mask true old new kept served =
    let left = served.leaves refl in
    let fans : HaveFans ports new.queue.cells = subst (HaveFans ports) (sym left.cells) (HaveFans-next ports old.queue.cells kept.fans) in
    record {
      deep = served.depth ∙ kept.deep;
      within = omega (arith, ap length left.cells, length-drop 1 old.queue.cells, kept.within);
      fans = fans;
      rests = IsRest-next ports new.queue.rest new.queue.cells fans left.rest;
    }
IsKept-served ports depth mask false old new kept served =
    let on = served.stays refl in record {
      deep = served.depth ∙ kept.deep;
      within = omega (arith, ap length on.cells, kept.within);
      fans = subst (HaveFans ports) (sym on.cells) kept.fans;
      rests = IsRest-on old.queue.rest new.queue.rest old.queue.cells new.queue.cells on.cells kept.rests (served.some refl)
          (λ output has. ((on.rest output).0 has).0);
    }

-- ---- what holds of all queues
module _ (ports depth : ℕ) (kept : List Kept) (all : AreKept ports depth kept) (level : ℕ) (level_in : level < 4) where
  pub depth-within : length (queue_at (queues_in ports depth kept) level).cells ≤ depth
  depth-within =
      omega (arith, ap (λ q. length q.cells) (queue-of_kept ports depth kept level), (all.each level level_in).within)

  pub rest-at : IsRest (queue_at (queues_in ports depth kept) level).rest (queue_at (queues_in ports depth kept) level).cells
  rest-at =
      subst (λ (q : FanQueue). IsRest q.rest q.cells) (sym (queue-of_kept ports depth kept level)) (all.each level level_in).rests

  pub fans-at : HaveFans ports (queue_at (queues_in ports depth kept) level).cells
  fans-at =
      subst (λ (q : FanQueue). HaveFans ports q.cells) (sym (queue-of_kept ports depth kept level)) (all.each level level_in).fans

-- ---- before any packet entered
pub queues-empty : (ports depth : ℕ) (room : List ℕ) → queues_in ports depth (map (empty_kept depth) room) ≡ empty_queues ports depth room
queues-empty ports depth room =
    let queues : map (λ (k : Kept). k.queue) (map (empty_kept depth) room) ≡ map empty_queue room = map-map (λ (k : Kept). k.queue) (empty_kept depth) room in
    rw queues refl

pub queue_at-empty : (ports depth : ℕ) (room : List ℕ) (level : ℕ) → (queue_at (empty_queues ports depth room) level).cells ≡ []
queue_at-empty ports depth room level = ap (λ queue. queue.cells) (get_or-map empty_queue room level 0)

each-empty : (ports depth : ℕ) (room : List ℕ) → length room ≡ 4 → (level : ℕ) → level < 4 → IsKept ports depth (kept_at (map (empty_kept depth) room) level)
each-empty ports depth room four level level_in =
    let is : kept_at (map (empty_kept depth) room) level ≡ empty_kept depth (slice_index room level) =
    get_or-map-at (empty_kept depth) room level 0 (empty_kept 0 0) (omega arith) in
    rw is record { deep = refl; within = omega arith; fans = tt; rests = refl }

pub AreKept-empty : (ports depth : ℕ) (room : List ℕ) → length room ≡ 4 → AreKept ports depth (map (empty_kept depth) room)
AreKept-empty ports depth room four = record {
  long = length-map room (empty_kept depth) ∙ four;
  each = each-empty ports depth room four;
}

-- the four of them
pub four_are : (depth : ℕ) (room : List ℕ) → length room ≡ 4 → map (empty_kept depth) room ≡ empty_kept depth (slice_index room 0)
    ∷ empty_kept depth (slice_index room 1) ∷ empty_kept depth (slice_index room 2) ∷ empty_kept depth (slice_index room 3) ∷ []
four_are depth [] four = absurd (omega arith)
four_are depth (a ∷ []) four = absurd (omega arith)
four_are depth (a ∷ b ∷ []) four = absurd (omega arith)
four_are depth (a ∷ b ∷ c ∷ []) four = absurd (omega arith)
four_are depth (a ∷ b ∷ c ∷ d ∷ []) four = refl
four_are depth (a ∷ b ∷ c ∷ d ∷ x ∷ room) four = absurd (omega arith)
