-- Cells that come after others in a slot.
use Rattle.std.proofs.Common.{◌≡◌, ◌∙◌, ◌++◌, ◌+◌, ◌<◌, ap, sym, subst, refl, arith, ℕ, zero, suc, Bool}
use Rattle.std.proofs.Common.{true, false, max, List, [], ◌∷◌, length, map, take, drop, get_or, set, append_assoc, append-nil}
use Rattle.std.proofs.Common.{inl, inr}
use Rattle.std.specs.Prelude.{All, Option, None, Some, nat_lt, option_map, option_to_list}
use Rattle.std.proofs.Common.{add-one}
use Rattle.std.proofs.Math.Seq.{take-suc}
use Rattle.std.proofs.Math.ListN.{get_or-eq_default}
use Rattle.std.proofs.lemmas.Bool.{cases_Bool}
use Rattle.std.proofs.lemmas.List.{map-append}
use Rattle.std.proofs.lemmas.List.Elements.{All-get_or, All-push, All-set, filter_map-append}
use Rattle.service_bound.specs.Waits.{greatest}
use Rattle.made_traffic.specs.Sources.{SourceValue, next_source}
use Rattle.arrival_queues.specs.declared.cell.ArrivedCell.{ArrivedCell}
use Rattle.arrival_queues.specs.Queues.{Queues, has_room, queue_at, queue_entered, queue_for, queues_with}
use Rattle.simulated_slots.specs.declared.arrivals.Arrivals.{Arrivals}
use Rattle.simulated_slots.specs.Slots.{all_entered, dropped, lengths}
use Rattle.simulated_slots.specs.ArrivalSteps.{AllCame, HaveCome, HaveTold, KeepSizes, cell_from, cells_from, where_measured}
use Rattle.simulated_slots.specs.TableSteps.{CountTable, HasCounted}
use Rattle.simulated_slots.proofs.Appends.{all_entered-append, dropped-append, lengths-append}

greatest-append : (xs ys : List ℕ) → greatest (xs ++ ys) ≡ max (greatest xs) (greatest ys)
greatest-append [] ys = omega arith
greatest-append (x ∷ xs) ys = let tail = greatest-append xs ys in omega arith

where-none : (measured : Bool) → where_measured {X = ℕ} measured [] ≡ []
where-none true = refl
where-none false = refl

where-append : (measured : Bool) (xs ys : List ℕ) → where_measured measured xs ++ where_measured measured ys ≡ where_measured measured (xs ++ ys)
where-append true xs ys = refl
where-append false xs ys = refl

-- numbers that are counted after others
abbrev pub counts_more : CountTable → CountTable → List ℕ → Type 0
counts_more old new more = (numbers : List ℕ) → HasCounted old numbers → HasCounted new (numbers ++ more)

counts-none : (table : CountTable) (measured : Bool) → counts_more table table (where_measured measured [])
counts-none table measured numbers has =
    subst (HasCounted table) (sym (ap (λ (more : List ℕ). numbers ++ more) (where-none measured) ∙ append-nil numbers)) has

counts-append : (a b c : CountTable) (measured : Bool) (xs ys : List ℕ) → counts_more a b (where_measured measured xs)
    → counts_more b c (where_measured measured ys)
    → counts_more a c (where_measured measured (xs ++ ys))
counts-append a b c measured xs ys first second numbers has =
    subst (HasCounted c) (append_assoc numbers (where_measured measured xs) (where_measured measured ys)
    ∙ ap (λ (more : List ℕ). numbers ++ more) (where-append measured xs ys)) (second (numbers ++ where_measured measured xs) (first numbers has))

abbrev pub inputs : List ArrivedCell → List ℕ
inputs cells = map (λ (c : ArrivedCell). c.input) cells

pub HaveCome-none : (measured : Bool) (arrivals : Arrivals) → HaveCome measured [] arrivals arrivals
HaveCome-none measured arrivals = record {
  queues = refl;
  arrived = counts-none arrivals.arrived measured;
  dropped = counts-none arrivals.dropped measured;
  peak = omega arith;
}

pub HaveCome-append : (measured : Bool) (xs ys : List ArrivedCell) (a b c : Arrivals) → HaveCome measured xs a b → HaveCome measured ys b c
    → HaveCome measured (xs ++ ys) a c
HaveCome-append measured xs ys a b c first second =
    let dropped_ys : dropped b.queues ys ≡ dropped (all_entered a.queues xs) ys = ap (λ (q : Queues). dropped q ys) first.queues in
    let lengths_ys : lengths b.queues ys ≡ lengths (all_entered a.queues xs) ys = ap (λ (q : Queues). lengths q ys) first.queues in
    record {
      queues = second.queues ∙ (ap (λ (q : Queues). all_entered q ys) first.queues ∙ sym (all_entered-append a.queues xs ys));
      arrived = subst (λ (more : List ℕ). counts_more a.arrived c.arrived (where_measured measured more))
          (sym (map-append (λ (c : ArrivedCell). c.input) xs ys))
          (counts-append a.arrived b.arrived c.arrived measured _ _ first.arrived second.arrived);
      dropped = subst (λ (more : List ℕ). counts_more a.dropped c.dropped (where_measured measured more))
          (sym (map-append (λ (c : ArrivedCell). c.input) (dropped a.queues xs) (dropped (all_entered a.queues xs) ys))
          ∙ ap inputs (sym (dropped-append a.queues xs ys)))
          (counts-append a.dropped b.dropped c.dropped measured _ _ first.dropped
          (subst (λ (cells : List ArrivedCell). counts_more b.dropped c.dropped (where_measured measured (inputs cells))) dropped_ys second.dropped));
      peak =
          let both = ap greatest (lengths-append a.queues xs ys) ∙ greatest-append (lengths a.queues xs) (lengths (all_entered a.queues xs) ys) in
          let last = ap greatest lengths_ys in
          omega (arith, first.peak, second.peak, both, last);
    }

module _ {X : Type 0} (f : X → X) where
  -- a list of which the first k are told
  abbrev pub told : ℕ → List X → List X
  told k xs = map f (take k xs) ++ drop k xs

  -- the next one is not
  pub told-next : (xs : List X) (k : ℕ) (d : X) → k < length xs → get_or (told k xs) k d ≡ get_or xs k d
  told-next [] k d inside = absurd (omega (arith, inside))
  told-next (x ∷ xs) zero d inside = refl
  told-next (x ∷ xs) (suc k) d inside = told-next xs k d (omega (arith, inside))

  told-suc : (xs : List X) (k : ℕ) (d : X) → k < length xs → set (told k xs) k (f (get_or xs k d)) ≡ told (suc k) xs
  told-suc [] k d inside = absurd (omega (arith, inside))
  told-suc (x ∷ xs) zero d inside = refl
  told-suc (x ∷ xs) (suc k) d inside = ap (λ (rest : List X). f x ∷ rest) (told-suc xs k d (omega (arith, inside)))

  -- and is told then
  pub told-more : (xs : List X) (k : ℕ) (d : X) → k < length xs → set (told k xs) k (f (get_or xs k d)) ≡ told (k + 1) xs
  told-more xs k d inside = rw add-one (told-suc xs k d inside)

-- every cell of these came before slot t
abbrev pub AllBefore : ℕ → List ArrivedCell → Type 0
AllBefore t cells = All (λ (cell : ArrivedCell). cell.arrival < t) cells

-- so did those of each queue
pub AllCame-at : (t : ℕ) (queues : Queues) (q : ℕ) → AllCame t queues → AllBefore t (queue_at queues q)
AllCame-at t queues q came = elim (cases_Bool (nat_lt q (length queues.cells))) [
  | inl inside ↦ All-get_or (AllBefore t) queues.cells q [] (grind arith) came
  | inr outside ↦ subst (AllBefore t) (sym (get_or-eq_default queues.cells [] (grind arith))) (λ k d none. absurd (omega (arith, none)))
]

AllCame-with : (t : ℕ) (queues : Queues) (cell : ArrivedCell) → AllCame t queues → cell.arrival < t → AllCame t (queues_with queues cell)
unfolding queues_with
AllCame-with t queues cell came young = elim (cases_Bool (has_room queues cell)) [
  | inl room ↦ rw room (All-set (AllBefore t) queues.cells (queue_for queues cell.input cell.output) (queue_entered queues cell ++ cell ∷ [])
      (All-push (λ (c : ArrivedCell). c.arrival < t) (queue_entered queues cell) cell
      (AllCame-at t queues (queue_for queues cell.input cell.output) came) young) came)
  | inr none ↦ rw none came
]

pub AllCame-entered : (t : ℕ) (queues : Queues) (cells : List ArrivedCell) → AllCame t queues → AllBefore t cells → AllCame t (all_entered queues cells)
AllCame-entered t queues [] came young = came
AllCame-entered t queues (cell ∷ cells) came young =
    AllCame-entered t (queues_with queues cell) cells (AllCame-with t queues cell came (young 0 cell (omega arith)))
    (λ k d inside. young (suc k) d (omega (arith, inside)))

ports-with : (queues : Queues) (cell : ArrivedCell) → (queues_with queues cell).ports ≡ queues.ports
unfolding queues_with
ports-with queues cell = elim (cases_Bool (has_room queues cell)) [
  | inl room ↦ rw room refl
  | inr none ↦ rw none refl
]

ports-entered : (queues : Queues) (cells : List ArrivedCell) → (all_entered queues cells).ports ≡ queues.ports
ports-entered queues [] = refl
ports-entered queues (cell ∷ cells) = ports-entered (queues_with queues cell) cells ∙ ports-with queues cell

one-told : (o : Option ℕ) (t i : ℕ) → AllBefore (t + 1) (option_to_list (option_map (λ j. record { arrival = t; input = i; output = j }) o))
one-told None t i = λ k d none. absurd (omega (arith, none))
one-told (Some j) t i = λ k d one.
    subst (λ (n : ℕ). (get_or (record { arrival = t; input = i; output = j } ∷ []) n d).arrival < t + 1) (sym (only k one)) (omega arith)
  where
    only : (k : ℕ) → k < 1 → k ≡ 0
    only k one = omega (arith, one)

single : (t : ℕ) (source : SourceValue) → cells_from t (source ∷ []) ≡ option_to_list (cell_from t source)
single t source = go (cell_from t source) refl
  where
    go : (o : Option ArrivedCell) → cell_from t source ≡ o → cells_from t (source ∷ []) ≡ option_to_list (cell_from t source)
    go None is = rw is refl
    go (Some cell) is = rw is refl

cells-more : (t k : ℕ) (sources : List SourceValue) (d : SourceValue) → k < length sources
    → cells_from t (take (k + 1) sources) ≡ cells_from t (take k sources) ++ option_to_list (cell_from t (get_or sources k d))
cells-more t k sources d inside =
    rw (add-one, take-suc sources k d inside) (filter_map-append (cell_from t) (take k sources) (get_or sources k d ∷ [])
    ∙ ap (λ (more : List ArrivedCell). cells_from t (take k sources) ++ more) (single t (get_or sources k d)))

pub HaveTold-more : (measured : Bool) (t k : ℕ) (before now : List SourceValue) (d : SourceValue) (old mid new : Arrivals) → k < length before
    → HaveTold measured t k before now old mid → HaveCome measured (option_to_list (cell_from t (get_or before k d))) mid new → KeepSizes mid new
    → HaveTold measured t (k + 1) before (set now k (next_source (get_or before k d))) old new
HaveTold-more measured t k before now d old mid new inside has come keep =
    let cells = option_to_list (cell_from t (get_or before k d)) in
    let ports = ap (λ (q : Queues). q.ports) come.queues ∙ ports-entered mid.queues cells in
    record {
      sources = ap (λ (list : List SourceValue). set list k (next_source (get_or before k d))) has.sources ∙ told-more next_source before k d inside;
      come = rw (cells-more t k before d inside) (HaveCome-append measured (cells_from t (take k before)) cells old mid new has.come come);
      sizes = record {
        ports = ports ∙ has.sizes.ports;
        arrived = keep.arrived ∙ has.sizes.arrived;
        dropped = keep.dropped ∙ has.sizes.dropped;
        few = omega (arith, keep.few, has.sizes.few);
        few_dropped = omega (arith, keep.few_dropped, has.sizes.few_dropped);
      };
      came = subst (AllCame (t + 1)) (sym come.queues) (AllCame-entered (t + 1) mid.queues cells has.came
          (one-told (next_source (get_or before k d)).state.output t (get_or before k d).input));
    }
