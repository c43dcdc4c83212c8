-- Cells that leave after others in a slot.
use Rattle.std.proofs.Common.{◌≡◌, ◌∙◌, ◌++◌, ◌+◌, ◌*◌, ◌<◌, ap, sym, subst, refl, arith, ℕ, List, [], ◌∷◌, drop, append_assoc, append-nil, map-id}
use Rattle.std.specs.Prelude.{Option, None, Some, filter_map, option_to_list, slice_get}
use Rattle.std.specs.List.{range_with_len}
use Rattle.std.proofs.lemmas.List.{map-append}
use Rattle.std.proofs.lemmas.List.Elements.{All-drop, All-set, filter_map-append}
use Rattle.std.proofs.lemmas.List.FromFn.{map-range_with_len_more}
use Rattle.rotating_pick.specs.declared.limits.TheConstants.{MAX_PORTS}
use Rattle.slot_match.specs.declared.matching.Fed.{Fed}
use Rattle.arrival_queues.specs.declared.cell.ArrivedCell.{ArrivedCell}
use Rattle.arrival_queues.specs.Queues.{Queues, head_of, queue_at, queues_without_head}
use Rattle.delay_counts.specs.CountSteps.{HasCounted as HasDelays}
use Rattle.simulated_slots.specs.declared.departed.Departed.{Departed}
use Rattle.simulated_slots.specs.declared.discipline.Discipline.{Discipline}
use Rattle.simulated_slots.specs.ArrivalSteps.{AllCame}
use Rattle.simulated_slots.specs.DepartureSteps.{AreDeparted, HaveDeparted, HaveServed, where_batched}
use Rattle.simulated_slots.specs.Slots.{all_left, departing, served_queue, served_queues}
use Rattle.simulated_slots.specs.TableSteps.{HasBatched, HasCounted}
use Rattle.simulated_slots.proofs.Appends.{all_left-append, departing-append}
use Rattle.simulated_slots.proofs.TakingIn.{AllBefore, AllCame-at}

first-before : (t : ℕ) (cells : List ArrivedCell) (cell : ArrivedCell) → AllBefore t cells → slice_get cells 0 ≡ Some cell → cell.arrival < t
first-before t [] cell all is = absurd (no is)
  where
    no : ◌≡◌ {A = Option ArrivedCell} None (Some cell) → ⊥
    no h = cc
first-before t (x ∷ xs) cell all is = subst (λ (c : ArrivedCell). c.arrival < t) (same is) (all 0 x (omega arith))
  where
    same : ◌≡◌ {A = Option ArrivedCell} (Some x) (Some cell) → x ≡ cell
    same h = cc

-- the first cell of a queue came before a slot where all cells did
pub head-came : (t : ℕ) (queues : Queues) (q : ℕ) (cell : ArrivedCell) → AllCame t queues → head_of queues q ≡ Some cell → cell.arrival < t
head-came t queues q cell came is = first-before t (queue_at queues q) cell (AllCame-at t queues q came) is

-- nothing is counted, and what is counted after other things
module _ {X Y : Type 0} (f : ℕ → X → Y) where
  batched-none : (batch : Option ℕ) → where_batched batch f [] ≡ []
  batched-none None = refl
  batched-none (Some b) = refl

  batched-append : (batch : Option ℕ) (xs ys : List X) → where_batched batch f xs ++ where_batched batch f ys ≡ where_batched batch f (xs ++ ys)
  batched-append None xs ys = refl
  batched-append (Some b) xs ys = sym (map-append (f b) xs ys)

  module _ {T : Type 0} (Has : T → List Y → Type 0) where
    -- these are noted after others
    abbrev pub notes : Option ℕ → List X → T → T → Type 0
    notes batch xs old new = (noted : List Y) → Has old noted → Has new (noted ++ where_batched batch f xs)

    notes-none : (batch : Option ℕ) (table : T) → notes batch [] table table
    notes-none batch table noted has = subst (Has table) (sym (ap (λ (more : List Y). noted ++ more) (batched-none batch) ∙ append-nil noted)) has

    notes-append : (batch : Option ℕ) (xs ys : List X) (a b c : T) → notes batch xs a b → notes batch ys b c → notes batch (xs ++ ys) a c
    notes-append batch xs ys a b c first second noted has =
        subst (Has c) (append_assoc noted (where_batched batch f xs) (where_batched batch f ys)
        ∙ ap (λ (more : List Y). noted ++ more) (batched-append batch xs ys)) (second (noted ++ where_batched batch f xs) (first noted has))

HaveDeparted-none : (t : ℕ) (batch : Option ℕ) (departed : Departed) → HaveDeparted t batch [] departed departed
HaveDeparted-none t batch departed = record {
  left = notes-none _ HasCounted batch departed.left;
  fed = notes-none _ HasCounted batch departed.fed;
  batches = notes-none _ HasBatched batch departed.batches;
  delays = notes-none _ HasDelays batch departed.delays;
}

HaveDeparted-append : (t : ℕ) (batch : Option ℕ) (xs ys : List ArrivedCell) (a b c : Departed) → HaveDeparted t batch xs a b → HaveDeparted t batch ys b c
    → HaveDeparted t batch (xs ++ ys) a c
HaveDeparted-append t batch xs ys a b c first second = record {
  left = notes-append _ HasCounted batch xs ys a.left b.left c.left first.left second.left;
  fed = notes-append _ HasCounted batch xs ys a.fed b.fed c.fed first.fed second.fed;
  batches = notes-append _ HasBatched batch xs ys a.batches b.batches c.batches first.batches second.batches;
  delays = notes-append _ HasDelays batch xs ys a.delays b.delays c.delays first.delays second.delays;
}

AreDeparted-more : (n batches most : ℕ) (departed : Departed) → AreDeparted n batches most departed → AreDeparted n batches (most + 1) departed
AreDeparted-more n batches most departed are = record {
  left = are.left;
  fed = are.fed;
  delays = are.delays;
  counts = are.counts;
  few_left = omega (arith, are.few_left);
  few_fed = omega (arith, are.few_fed);
  few_batched = omega (arith, are.few_batched);
  few_delays = omega (arith, are.few_delays);
}

one-more : (n batches t k : ℕ) (departed : Departed) → AreDeparted n batches (MAX_PORTS * t + k + 1) departed
    → AreDeparted n batches (MAX_PORTS * t + (k + 1)) departed
one-more n batches t k departed are = subst (λ (most : ℕ). AreDeparted n batches most departed) (omega arith) are

-- one output more
range-more : (k : ℕ) → range_with_len 0 (k + 1) ≡ range_with_len 0 k ++ k ∷ []
range-more k = sym (map-id (range_with_len 0 (k + 1))) ∙ (map-range_with_len_more (λ (n : ℕ). n) 0 k k (omega arith)
    ∙ ap (λ (ns : List ℕ). ns ++ k ∷ []) (map-id (range_with_len 0 k)))

queues-more : (discipline : Discipline) (n : ℕ) (matched : List (Option Fed)) (k : ℕ)
    → served_queues discipline n matched (k + 1) ≡ served_queues discipline n matched k ++ option_to_list (served_queue discipline n matched k)
queues-more discipline n matched k =
    ap (filter_map (served_queue discipline n matched)) (range-more k)
    ∙ (filter_map-append (served_queue discipline n matched) (range_with_len 0 k) (k ∷ [])
    ∙ ap (λ (more : List ℕ). served_queues discipline n matched k ++ more) (single (served_queue discipline n matched k) refl))
  where
    single : (o : Option ℕ) → served_queue discipline n matched k ≡ o
        → filter_map (served_queue discipline n matched) (k ∷ []) ≡ option_to_list (served_queue discipline n matched k)
    single None is = rw is refl
    single (Some q) is = rw is refl

AllCame-without : (t : ℕ) (queues : Queues) (q : ℕ) → AllCame t queues → AllCame t (queues_without_head queues q)
unfolding queues_without_head
AllCame-without t queues q came = All-set (AllBefore t) queues.cells q (drop 1 (queue_at queues q))
    (All-drop (λ (c : ArrivedCell). c.arrival < t) 1 (queue_at queues q) (AllCame-at t queues q came)) came

ports-without : (queues : Queues) (q : ℕ) → (queues_without_head queues q).ports ≡ queues.ports
unfolding queues_without_head
ports-without queues q = refl

queueing-without : (queues : Queues) (q : ℕ) → (queues_without_head queues q).queueing ≡ queues.queueing
unfolding queues_without_head
queueing-without queues q = refl

-- where output k is served from no queue
pub HaveServed-none : (t : ℕ) (batch : Option ℕ) (discipline : Discipline) (matched : List (Option Fed)) (k batches : ℕ)
    (before now : Queues) (old new : Departed)
    → HaveServed t batch discipline matched k batches before now old new → served_queue discipline before.ports matched k ≡ None
    → HaveServed t batch discipline matched (k + 1) batches before now old new
HaveServed-none t batch discipline matched k batches before now old new has none =
    let same : served_queues discipline before.ports matched (k + 1) ≡ served_queues discipline before.ports matched k =
    queues-more discipline before.ports matched k
    ∙ (ap (λ (o : Option ℕ). served_queues discipline before.ports matched k ++ option_to_list o) none
    ∙ append-nil (served_queues discipline before.ports matched k)) in
    record {
      queues = has.queues ∙ ap (all_left before) (sym same);
      ports = has.ports;
      queueing = has.queueing;
      departed = subst (λ (qs : List ℕ). HaveDeparted t batch (departing before qs) old new) (sym same) has.departed;
      sizes = one-more before.ports batches t k new (AreDeparted-more before.ports batches (MAX_PORTS * t + k) new has.sizes);
      came = has.came;
    }

-- where it is served from queue q
pub HaveServed-some : (t : ℕ) (batch : Option ℕ) (discipline : Discipline) (matched : List (Option Fed)) (k batches q : ℕ)
    (before now : Queues) (old mid new : Departed)
    → HaveServed t batch discipline matched k batches before now old mid → served_queue discipline before.ports matched k ≡ Some q
    → HaveDeparted t batch (option_to_list (head_of now q)) mid new → AreDeparted before.ports batches (MAX_PORTS * t + k + 1) new
    → HaveServed t batch discipline matched (k + 1) batches before (queues_without_head now q) old new
HaveServed-some t batch discipline matched k batches q before now old mid new has some departed sizes =
    let first = served_queues discipline before.ports matched k in
    let all : served_queues discipline before.ports matched (k + 1) ≡ first ++ q ∷ [] = queues-more discipline before.ports matched k
    ∙ ap (λ (o : Option ℕ). first ++ option_to_list o) some in
    let cells : departing before (first ++ q ∷ []) ≡ departing before first ++ option_to_list (head_of now q) =
    departing-append before first (q ∷ [])
    ∙ (ap (λ (qs : Queues). departing before first ++ (option_to_list (head_of qs q) ++ [])) (sym has.queues)
    ∙ ap (λ (more : List ArrivedCell). departing before first ++ more) (append-nil (option_to_list (head_of now q)))) in
    record {
      queues = ap (λ (qs : Queues). queues_without_head qs q) has.queues ∙ (sym (all_left-append before first (q ∷ [])) ∙ ap (all_left before) (sym all));
      ports = ports-without now q ∙ has.ports;
      queueing = queueing-without now q ∙ has.queueing;
      departed = subst (λ (cs : List ArrivedCell). HaveDeparted t batch cs old new) (sym cells ∙ ap (departing before) (sym all))
          (HaveDeparted-append t batch (departing before first) (option_to_list (head_of now q)) old mid new has.departed departed);
      sizes = one-more before.ports batches t k new sizes;
      came = AllCame-without (t + 1) now q has.came;
    }
