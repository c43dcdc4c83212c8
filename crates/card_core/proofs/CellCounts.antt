-- How many cells a packet brings to an output, and how many were granted to it.
use Rattle.std.proofs.Common.{◌≡◌, ◌∙◌, ℕ, ◌+◌, ◌<◌, ◌≤◌, ◌&&◌, not, Bool, true, false, List, [], ◌∷◌, map, take, drop, length, Option, None}
use Rattle.std.proofs.Common.{slice_index_or, refl, ap, arith, if◌then◌else◌, length-append}
use Rattle.std.proofs.lemmas.List.FromFn.{length-map-range_with_len}
use Rattle.std.proofs.lemmas.List.Sums.{sum_by-take-drop, length-filter}
use Rattle.cell_cutter.specs.declared.cell.CellName.{CellName}
use Rattle.slot_match.specs.declared.matching.Served.{Served}
use Rattle.multicast_queue.specs.FanQueues.{FanCell, first_fan}
use Rattle.voq_banks.specs.CellQueues.{names_of_packet, cells_with_fan}
use Rattle.slot_histories.specs.Tests.{has}
use Rattle.card_core.specs.Plans.{Plan, Queue, IsGoodPlan}
use Rattle.card_core.specs.Queues.{waiting, rest_of, before}
use Rattle.card_core.specs.Posts.{has_cells, row_at, IsServable}
use Rattle.card_core.specs.Grants.{first_of, granted_to, to_output, begun_for}
use Rattle.card_core.proofs.Granting.{granted_is}

-- the cells of one packet go to an output together
all_go : (j fan : ℕ) (names : List CellName)
    → length (to_output j (map (λ name. record { name = name; fan = fan }) names)) ≡ (if has fan j then length names else 0)
all_go j fan [] = none_go (has fan j) where
  none_go : (a : Bool) → ◌≡◌ {A = ℕ} 0 (if a then 0 else 0)
  none_go true = refl
  none_go false = refl
all_go j fan (name ∷ names) = more_go (has fan j) (to_output j (map (λ name. record { name = name; fan = fan }) names)) (all_go j fan names) where
  more_go : (a : Bool) (cells : List FanCell) → length cells ≡ (if a then length names else 0)
      → length (if a then record { name = name; fan = fan } ∷ cells else cells) ≡ (if a then length (name ∷ names) else 0)
  more_go true cells is = omega arith
  more_go false cells is = is

pub packet_goes : (j k m fan : ℕ) (b : Bool) → length (to_output j (if b then cells_with_fan k m fan else [])) ≡ (if b && has fan j then m else 0)
packet_goes j k m fan false = refl
packet_goes j k m fan true = all_go j fan (names_of_packet k m) ∙ ap (λ n. if has fan j then n else 0) (length-map-range_with_len _ 0 m)

-- a slot that serves a queue in which a cell waits grants one
pub one_first : (b : Bool) (w : List FanCell) → b ≡ true → has_cells w ≡ true → length (if b then first_of w else []) ≡ 1
one_first true [] is some = absurd (cc)
one_first true (c ∷ w) is some = refl
one_first false w is some = absurd (cc)

-- what was granted of the head is of the cells that wait
begun_few : (j : ℕ) (b : Bool) (w : List FanCell) → length (if has (first_fan w) j && b then first_of w else []) ≤ length (to_output j w)
begun_few j b [] = none_begun (has 0 j && b) where
  none_begun : (a : Bool) → length (if a then [] else (let e : List FanCell = [] in e)) ≤ 0
  none_begun true = omega arith
  none_begun false = omega arith
begun_few j b (c ∷ v) = one_begun (has c.fan j) b (to_output j v) where
  one_begun : (a b : Bool) (v : List FanCell) → length (if a && b then c ∷ [] else []) ≤ length (if a then c ∷ v else v)
  one_begun true true v = omega arith
  one_begun true false v = omega arith
  one_begun false b v = omega arith

-- what was granted is of the cells that entered and go to the output
pub granted_few : (plan : Plan) → IsGoodPlan plan → (served : List (Option Served)) (q : Queue) (j t : ℕ)
    → ((u : ℕ) → u < t → IsServable (row_at plan served u) (slice_index_or served u None))
    → length (granted_to plan q j served t) ≤ length (to_output j (before plan q served t).entered)
granted_few plan good served q j t may =
    let s = before plan q served t in
    let gone = to_output j (take s.left s.entered) in
    let goes = λ (cell : FanCell). has cell.fan j in
    let granted : length (granted_to plan q j served t) ≡ length gone + length (begun_for q j s) = ap length (granted_is plan good served q j t may)
    ∙ length-append gone (begun_for q j s) in
    let begun = begun_few j (not (has (rest_of q s) j)) (waiting s) in
    let whole = sum_by-take-drop (λ cell. if goes cell then 1 else 0) s.entered s.left in
    let some = length-filter goes (take s.left s.entered) in
    let rest = length-filter goes (drop s.left s.entered) in
    let all = length-filter goes s.entered in
    omega arith
