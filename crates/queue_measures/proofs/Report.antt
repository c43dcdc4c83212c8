-- The text of what is kept is that of the report's lines.
use Rattle.std.proofs.Common.{◌≡◌, ◌∙◌, ℕ, zero, suc, ◌+◌, ◌*◌, ◌/◌, ◌%◌, ◌<◌, ◌≤◌, ◌&&◌, not, nat_lt, max, Bool, true, false, List, [], ◌∷◌, ◌++◌, map}
use Rattle.std.proofs.Common.{take, length, Option, slice_index_or, refl, sym, ap, arith, if◌then◌else◌, append_assoc}
use Rattle.std.specs.Prelude.{filter, fold, All}
use Rattle.std.specs.List.{flat_map, range_with_len, sum_by}
use Rattle.std.proofs.lemmas.Bool.{lt-ltb, le-ltb}
use Rattle.std.proofs.lemmas.List.{append-nil, flat_map_more, take_all}
use Rattle.std.proofs.lemmas.List.Concat.{flat_map-append}
use Rattle.std.proofs.lemmas.List.Folds.{fold-map}
use Rattle.std.proofs.lemmas.List.FromFn.{fill_by_all}
use Rattle.std.proofs.lemmas.List.Sums.{sum_by-cons, fold_more}
use Rattle.std.proofs.lemmas.Simd.{map-map}
use Rattle.slot_report.specs.Lines.{line_text, lines_text}
use Rattle.slot_report.specs.Texts.{map_with_place}
use Rattle.slot_report.proofs.Appending.{length-map_with_place, get_or-map_with_place}
use Rattle.slot_match.specs.declared.matching.Served.{Served}
use Rattle.eslip_rounds.specs.Schedulers.{Scheduler}
use Rattle.card_core.specs.declared.plan.Planned.{Planned}
use Rattle.card_core.specs.Plans.{Plan, Queue, OfOutput, OfLevel, size_of}
use Rattle.card_core.specs.Queues.{is_admitted, enters}
use Rattle.switch_plan.specs.GoodPlans.{SwitchPlan}
use Rattle.run_laws.specs.Runs.{ports_of, card_at, parts_under}
use Rattle.run_laws.specs.Promises.{ArrivalsComeFirst}
use Rattle.run_laws.proofs.Base.{good-card, served-length}
use Rattle.queue_measures.specs.Sizing.{deepest_under}
use Rattle.queue_lengths.specs.Lengths.{count_of, queues_of, greatest, deepest_of, is_for, packets_of}
use Rattle.queue_measures.specs.declared.numbers.QueueNumbers.{QueueNumbers}
use Rattle.queue_measures.specs.Lines.{numbers_of, queue_line, queue_lines_under, deepest_line, input_lines}
use Rattle.queue_measures.specs.NotingSteps.{Input, IsNoted, HasNoted, no_numbers, no_input, numbers_so_far}
use Rattle.queue_measures.specs.Steps.{queue_at, line_at, input_text, deepest_in, deepest_among}
use Rattle.queue_measures.proofs.Counting.{at-place}
use Rattle.queue_measures.proofs.SoFar.{so_far}

-- ---- the queues in the order of their places
row-div : (j r : ℕ) → r < 4 → (4 * j + r) / 4 ≡ j
row-div j r few = omega arith

row-mod : (j r : ℕ) → r < 4 → (4 * j + r) % 4 ≡ r
row-mod j r few = omega arith

at-output : (ports j x r : ℕ) → x ≡ 4 * j + r → r < 4 → j < ports → queue_at ports x ≡ OfOutput j r
at-output ports j x r is few inside = ap (queue_at ports) is ∙ rw (row-div j r few, row-mod j r few, lt-ltb j ports inside) refl

at-level : (ports x r : ℕ) → x ≡ 4 * ports + r → r < 4 → queue_at ports x ≡ OfLevel r
at-level ports x r is few = ap (queue_at ports) is ∙ rw (row-div ports r few, row-mod ports r few, le-ltb ports ports (omega arith)) refl

-- two ranges of one length, where the functions agree
shifted : {X : Type 0} (f g : ℕ → X) (a b n : ℕ) → ((i j r : ℕ) → r < n → i ≡ a + r → j ≡ b + r → f i ≡ g j)
    → map f (range_with_len a n) ≡ map g (range_with_len b n)
shifted f g a b zero same = refl
shifted f g a b (suc n) same =
    ap (λ x. x ∷ map f (range_with_len (a + 1) n)) (same a b 0 (omega arith) (omega arith) (omega arith))
    ∙ ap (λ xs. g b ∷ xs) (shifted f g (a + 1) (b + 1) n (λ i j r inside i_is j_is. same i j (r + 1) (omega arith) (omega arith) (omega arith)))

range-split : {X : Type 0} (f : ℕ → X) (a n m : ℕ) → map f (range_with_len a (n + m)) ≡ map f (range_with_len a n) ++ map f (range_with_len (a + n) m)
range-split f a zero m =
    let same : a ≡ a + 0 = omega arith in
    let none : 0 + m ≡ m = omega arith in
    ap (λ k. map f (range_with_len a k)) none ∙ ap (λ k. map f (range_with_len k m)) same
range-split f a (suc n) m =
    let e : suc n + m ≡ suc (n + m) = omega arith in
    let g : (a + 1) + n ≡ a + suc n = omega arith in
    ap (λ k. map f (range_with_len a k)) e ∙ ap (λ xs. f a ∷ xs) (range-split f (a + 1) n m)
    ∙ ap (λ k. f a ∷ (map f (range_with_len (a + 1) n) ++ map f (range_with_len k m))) g

flat-last : {X : Type 0} (f : ℕ → List X) (a n : ℕ) → flat_map f (range_with_len a (suc n)) ≡ flat_map f (range_with_len a n) ++ f (a + n)
flat-last f a zero = let same : a ≡ a + 0 = omega arith in append-nil (f a) ∙ ap f same
flat-last f a (suc n) =
    let g : (a + 1) + n ≡ a + suc n = omega arith in
    ap (λ xs. f a ++ xs) (flat-last f (a + 1) n) ∙ sym (append_assoc (f a) (flat_map f (range_with_len (a + 1) n)) (f ((a + 1) + n)))
    ∙ ap (λ k. (f a ++ flat_map f (range_with_len (a + 1) n)) ++ f k) g

outputs-placed : (ports n : ℕ) → n ≤ ports
    → map (queue_at ports) (range_with_len 0 (4 * n)) ≡ flat_map (λ j. map (OfOutput j) (range_with_len 0 4)) (range_with_len 0 n)
outputs-placed ports zero few = refl
outputs-placed ports (suc n) few =
    let long : 4 * suc n ≡ 4 * n + 4 = omega arith in
    let from : n ≡ 0 + n = omega arith in
    let x = 0 + 4 * n in
    let block : map (queue_at ports) (range_with_len x 4) ≡ map (OfOutput n) (range_with_len 0 4) =
    shifted (queue_at ports) (OfOutput n) x 0 4 (λ i j r small i_is j_is. at-output ports n i j (omega arith) (omega arith) (omega arith)) in
    ap (λ k. map (queue_at ports) (range_with_len 0 k)) long ∙ range-split (queue_at ports) 0 (4 * n) 4
    ∙ ap (λ qs. qs ++ map (queue_at ports) (range_with_len x 4)) (outputs-placed ports n (omega arith))
    ∙ ap (λ qs. flat_map (λ j. map (OfOutput j) (range_with_len 0 4)) (range_with_len 0 n) ++ qs) block
    ∙ ap (λ k. flat_map (λ j. map (OfOutput j) (range_with_len 0 4)) (range_with_len 0 n) ++ map (OfOutput k) (range_with_len 0 4)) from
    ∙ sym (flat-last (λ j. map (OfOutput j) (range_with_len 0 4)) 0 n)

pub queues-placed : (ports : ℕ) → queues_of ports ≡ map (queue_at ports) (range_with_len 0 (count_of ports))
queues-placed ports =
    let x = 0 + 4 * ports in
    let block : map (queue_at ports) (range_with_len x 4) ≡ map OfLevel (range_with_len 0 4) =
    shifted (queue_at ports) OfLevel x 0 4 (λ i j r small i_is j_is. at-level ports i j (omega arith) (omega arith)) in
    sym (range-split (queue_at ports) 0 (4 * ports) 4
    ∙ ap (λ qs. qs ++ map (queue_at ports) (range_with_len x 4)) (outputs-placed ports ports (omega arith))
    ∙ ap (λ qs. flat_map (λ j. map (OfOutput j) (range_with_len 0 4)) (range_with_len 0 ports) ++ qs) block)

-- ---- all packets have arrived
pub all-early : (test : Planned → Bool) (weight : Planned → ℕ) (t : ℕ) (ps : List Planned) → All (λ p. p.arrival < t) ps
    → so_far test weight t ps ≡ sum_by (λ p. if test p then weight p else 0) ps
all-early test weight t [] early = refl
all-early test weight t (p ∷ ps) early =
    sum_by-cons (λ r. if nat_lt r.arrival t && test r then weight r else 0) p ps
    ∙ ap (λ b. (if b && test p then weight p else 0) + so_far test weight t ps) (lt-ltb p.arrival t (early 0 p (omega arith)))
    ∙ ap (λ n. (if test p then weight p else 0) + n) (all-early test weight t ps (λ k d inside. early (suc k) d (omega arith)))
    ∙ sym (sum_by-cons (λ r. if test r then weight r else 0) p ps)

pub numbers-whole : (plan : Plan) (served : List (Option Served)) (slots : ℕ) (q : Queue) → All (λ packet. packet.arrival < slots) plan.packets
    → numbers_so_far plan served slots q ≡ numbers_of plan served slots q
numbers-whole plan served slots q early =
    let packets = all-early (is_for q) (λ p. 1) slots plan.packets early in
    let dropped = all-early (λ p. is_for q p && not (is_admitted plan served p.arrival p)) (λ p. 1) slots plan.packets early in
    let cells = all-early (enters plan q served) size_of slots plan.packets early in
    rw (packets, dropped, cells) refl

-- ---- the lines of those with packets
picked-one : (b : Bool) (line : List (List ℕ)) (more : List (List (List ℕ))) → lines_text (if b then line ∷ [] else [])
    ++ lines_text more ≡ lines_text (if b then line ∷ more else more)
picked-one true line more = ap (λ text. text ++ lines_text more) (append-nil (line_text line))
picked-one false line more = refl

map-if : (b : Bool) (f : Queue → List (List ℕ)) (q : Queue) (more : List Queue)
    → (if b then f q ∷ map f more else map f more) ≡ map f (if b then q ∷ more else more)
map-if true f q more = refl
map-if false f q more = refl

picked : (f : Queue → List (List ℕ)) (test : Queue → Bool) (qs : List Queue)
    → flat_map lines_text (map (λ q. if test q then f q ∷ [] else []) qs) ≡ lines_text (map f (filter test qs))
picked f test [] = refl
picked f test (q ∷ qs) =
    ap (λ text. lines_text (if test q then f q ∷ [] else []) ++ text) (picked f test qs)
    ∙ picked-one (test q) (f q) (map f (filter test qs)) ∙ ap lines_text (map-if (test q) f q (filter test qs))

-- ---- an input
module _ (plan : Plan) (served : List (Option Served)) (slots : ℕ) (now : length served ≡ slots) (input : Input) (noted : IsNoted plan input served)
    (early : All (λ packet. packet.arrival < slots) plan.packets) where
  abbrev of : Queue → QueueNumbers
  of = numbers_of plan served slots

  at : (place : ℕ) → place < count_of plan.ports → slice_index_or input.numbers place no_numbers ≡ of (queue_at plan.ports place)
  at place inside =
      let it = at-place plan.ports place inside in
      ap (λ k. slice_index_or input.numbers k no_numbers) (sym it.1) ∙ noted.numbers (queue_at plan.ports place) it.0
      ∙ ap (λ t. numbers_so_far plan served t (queue_at plan.ports place)) now ∙ numbers-whole plan served slots (queue_at plan.ports place) early

  numbers-are : input.numbers ≡ map of (queues_of plan.ports)
  numbers-are =
      fill_by_all (λ place. of (queue_at plan.ports place)) input.numbers (count_of plan.ports) no_numbers noted.count at
      ∙ sym (map-map of (queue_at plan.ports) (range_with_len 0 (count_of plan.ports)))
      ∙ ap (map of) (sym (queues-placed plan.ports))

  pub deepest-is : deepest_in input.numbers ≡ deepest_of plan served slots
  deepest-is = ap deepest_in numbers-are ∙ fold-map (λ (most : ℕ) (queue : QueueNumbers). max most queue.peak) of 0 (queues_of plan.ports)

  abbrev kept : ℕ → Queue → List (List (List ℕ))
  kept i q = if nat_lt 0 (of q).packets then queue_line i q (of q) ∷ [] else []

  kept-are : (i : ℕ) → map_with_place (line_at plan.ports i) input.numbers ≡ map (kept i) (queues_of plan.ports)
  kept-are i =
      fill_by_all (λ place. kept i (queue_at plan.ports place)) (map_with_place (line_at plan.ports i) input.numbers) (count_of plan.ports) []
      (length-map_with_place (line_at plan.ports i) input.numbers ∙ noted.count)
      (λ place inside. get_or-map_with_place (line_at plan.ports i) input.numbers place no_numbers [] (omega (arith, noted.count, inside))
      ∙ ap (line_at plan.ports i place) (at place inside))
      ∙ sym (map-map (kept i) (queue_at plan.ports) (range_with_len 0 (count_of plan.ports)))
      ∙ ap (map (kept i)) (sym (queues-placed plan.ports))

  pub input-is : (i : ℕ) → input_text plan.ports i input ≡ lines_text (input_lines i plan served slots)
  input-is i = ap (flat_map lines_text) (kept-are i) ∙ picked (λ q. queue_line i q (of q)) (λ q. nat_lt 0 (packets_of plan q)) (queues_of plan.ports)

-- ---- the run
lines-flat : (lines : ℕ → List (List (List ℕ))) (inputs : List ℕ)
    → flat_map (λ text. text) (map (λ i. lines_text (lines i)) inputs) ≡ lines_text (flat_map lines inputs)
lines-flat lines [] = refl
lines-flat lines (i ∷ inputs) = ap (λ text. lines_text (lines i) ++ text) (lines-flat lines inputs)
    ∙ sym (flat_map-append line_text (lines i) (flat_map lines inputs))

most-so-far : {X : Type 0} (g : X → ℕ) (f : ℕ → ℕ) (xs : List X) (d : X) → ((i : ℕ) → i < length xs → g (slice_index_or xs i d) ≡ f i) → (n : ℕ)
    → n ≤ length xs → fold (λ most x. max most (g x)) 0 (take n xs) ≡ greatest f n
most-so-far g f xs d are zero few = refl
most-so-far g f xs d are (suc n) few =
    let next : suc n ≡ n + 1 = omega arith in
    ap (λ k. fold (λ most x. max most (g x)) 0 (take k xs)) next ∙ fold_more (λ (most : ℕ) (x : _). max most (g x)) 0 xs n d (omega arith)
    ∙ ap (λ most. max most (g (slice_index_or xs n d))) (most-so-far g f xs d are n (omega arith)) ∙ ap (max (greatest f n)) (are n (omega arith))

module _ (scheduler : Scheduler) (plan : SwitchPlan) (slots : ℕ) (inputs : List Input) (noted : HasNoted scheduler plan inputs slots)
    (early : ArrivalsComeFirst plan slots) where
  abbrev lines_of : ℕ → List (List (List ℕ))
  lines_of i = input_lines i (card_at plan i) (parts_under scheduler plan i slots) slots

  text-of : (i : ℕ) → i < ports_of plan → input_text (length inputs) i (slice_index_or inputs i no_input) ≡ lines_text (lines_of i)
  text-of i inside =
      let card = good-card plan noted.good i inside in
      ap (λ n. input_text n i (slice_index_or inputs i no_input)) (noted.count ∙ sym card.ports)
      ∙ input-is (card_at plan i) (parts_under scheduler plan i slots) slots (served-length scheduler plan i slots) (slice_index_or inputs i no_input)
      (noted.each i inside) (early i inside) i

  pub texts-are : flat_map (λ text. text) (map_with_place (input_text (length inputs)) inputs) ≡ lines_text
      (flat_map lines_of (range_with_len 0 (ports_of plan)))
  texts-are =
      ap (flat_map (λ text. text)) (fill_by_all (λ i. lines_text (lines_of i)) (map_with_place (input_text (length inputs)) inputs) (ports_of plan) []
      (length-map_with_place (input_text (length inputs)) inputs ∙ noted.count)
      (λ i inside. get_or-map_with_place (input_text (length inputs)) inputs i no_input [] (omega (arith, noted.count, inside)) ∙ text-of i inside))
      ∙ lines-flat lines_of (range_with_len 0 (ports_of plan))

  pub deepest-are : deepest_among inputs ≡ deepest_under scheduler plan slots
  deepest-are =
      let f : ℕ → ℕ = λ i. deepest_of (card_at plan i) (parts_under scheduler plan i slots) slots in
      ap (fold (λ (most : ℕ) (input : Input). max most (deepest_in input.numbers)) 0) (sym (take_all (length inputs) inputs (omega arith)))
      ∙ most-so-far (λ (input : Input). deepest_in input.numbers) f inputs no_input
      (λ i within. let inside : i < ports_of plan = omega (arith, noted.count, within) in
      deepest-is (card_at plan i) (parts_under scheduler plan i slots) slots (served-length scheduler plan i slots) (slice_index_or inputs i no_input)
      (noted.each i inside) (early i inside))
      (length inputs) (omega arith)
      ∙ ap (greatest f) noted.count

  pub report-is : (before text : List ℕ) (most : ℕ) → before ≡ flat_map (λ text. text) (map_with_place (input_text (length inputs)) inputs)
      → most ≡ deepest_among inputs
      → text ≡ before ++ line_text (deepest_line most) → text ≡ lines_text (queue_lines_under scheduler plan slots)
  unfolding queue_lines_under
  report-is before text most first deepest last =
      let lines = flat_map lines_of (range_with_len 0 (ports_of plan)) in
      last ∙ ap (λ n. before ++ line_text (deepest_line n)) (deepest ∙ deepest-are)
      ∙ ap (λ b. b ++ line_text (deepest_line (deepest_under scheduler plan slots))) (first ∙ texts-are)
      ∙ flat_map_more line_text [] lines (deepest_line (deepest_under scheduler plan slots))
