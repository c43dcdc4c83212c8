-- Each message that is delivered is of one flow.
use Rattle.std.proofs.Common.{◌≡◌, ◌≢◌, ◌∙◌, ℕ, ◌+◌, ◌<◌, ◌==◌, ◌&&◌, Bool, true, false, List, [], ◌∷◌, ◌++◌, All, sum_by, refl, sym}
use Rattle.std.proofs.Common.{arith, if◌then◌else◌}
use Rattle.std.specs.List.{range_with_len}
use Rattle.std.proofs.lemmas.Bool.{eq-eqb, ne_eqb}
use Rattle.std.proofs.lemmas.List.Elements.{All-head, All-tail}
use Rattle.std.proofs.lemmas.List.Sums.{sum_by-append}
use Rattle.rotating_pick.specs.declared.kinds.Kind.{Kind}
use Rattle.rotating_pick.specs.declared.kinds.Kind.TheVariants.{Uni, Multi}
use Rattle.rotating_pick.specs.declared.limits.TheConstants.{LEVELS}
use Rattle.eslip_rounds.specs.Decisions.{is_kind}
use Rattle.cell_cutter.specs.declared.cell.Cell.{Cell}
use Rattle.card_core.specs.Deliveries.{is_of_flow, ended_by, messages_after, messages_from}
use Rattle.std_lemmas.proofs.Sums.{sum_by-same, sum_by-plus, sum_by-none, range_sum-at}

-- ---- sums over the flows
-- over those of an input
abbrev pub level_sum : (ℕ → Kind → ℕ) → ℕ
level_sum f = sum_by (λ l. f l Uni + f l Multi) (range_with_len 0 LEVELS)

-- over those of n inputs
abbrev pub flow_sum : ℕ → (ℕ → ℕ → Kind → ℕ) → ℕ
flow_sum n f = sum_by (λ i. level_sum (f i)) (range_with_len 0 n)

level_same : (f g : ℕ → Kind → ℕ) → ((l : ℕ) (k : Kind) → f l k ≡ g l k) → level_sum f ≡ level_sum g
level_same f g same = sum_by-same (λ l. f l Uni + f l Multi) (λ l. g l Uni + g l Multi) (range_with_len 0 LEVELS)
    (λ l. omega (arith, same l Uni, same l Multi))

flow_same : (n : ℕ) (f g : ℕ → ℕ → Kind → ℕ) → ((i l : ℕ) (k : Kind) → f i l k ≡ g i l k) → flow_sum n f ≡ flow_sum n g
flow_same n f g same = sum_by-same (λ i. level_sum (f i)) (λ i. level_sum (g i)) (range_with_len 0 n) (λ i. level_same (f i) (g i) (same i))

pub level_add : (f g : ℕ → Kind → ℕ) → level_sum (λ l k. f l k + g l k) ≡ level_sum f + level_sum g
level_add f g =
    sum_by-same (λ l. f l Uni + g l Uni + (f l Multi + g l Multi)) (λ l. f l Uni + f l Multi + (g l Uni + g l Multi)) (range_with_len 0 LEVELS)
    (λ l. omega arith)
    ∙ sum_by-plus (λ l. f l Uni + f l Multi) (λ l. g l Uni + g l Multi) (range_with_len 0 LEVELS)

flow_add : (n : ℕ) (f g : ℕ → ℕ → Kind → ℕ) → flow_sum n (λ i l k. f i l k + g i l k) ≡ flow_sum n f + flow_sum n g
flow_add n f g =
    sum_by-same (λ i. level_sum (λ l k. f i l k + g i l k)) (λ i. level_sum (f i) + level_sum (g i)) (range_with_len 0 n) (λ i. level_add (f i) (g i))
    ∙ sum_by-plus (λ i. level_sum (f i)) (λ i. level_sum (g i)) (range_with_len 0 n)

flow_none : (n : ℕ) → flow_sum n (λ i l k. 0) ≡ 0
flow_none n = sum_by-none (λ i. level_sum (λ l k. 0)) (range_with_len 0 n) (λ i. refl)

-- ---- a cell is of one flow
module _ (cell : Cell) (x : ℕ) where
  -- so much for its own flow
  abbrev own : ℕ → ℕ → Kind → ℕ
  own i l k = if is_of_flow i l k cell then x else 0

  both_kinds : (a b : Bool) (kind : Kind)
      → ◌≡◌ {A = ℕ} ((if a && b && is_kind kind Uni then x else 0) + (if a && b && is_kind kind Multi then x else 0)) (if a && b then x else 0)
  both_kinds true true Uni = omega arith
  both_kinds true true Multi = omega arith
  both_kinds true false kind = refl
  both_kinds false b kind = refl

  other_input : (i : ℕ) → i ≢ cell.input → level_sum (own i) ≡ 0
  other_input i differ =
      let apart : (cell.input == i) ≡ false = ne_eqb cell.input i (λ e. differ (sym e)) in
      sum_by-none (λ l. own i l Uni + own i l Multi) (range_with_len 0 LEVELS)
      (λ l. both_kinds (cell.input == i) (cell.level == l) cell.kind ∙ rw apart)

  own_input : cell.level < LEVELS → level_sum (own cell.input) ≡ x
  own_input small =
      let mine : (cell.input == cell.input) ≡ true = eq-eqb cell.input cell.input refl in
      range_sum-at (λ l. own cell.input l Uni + own cell.input l Multi) cell.level
      (λ l differ. let apart : (cell.level == l) ≡ false = ne_eqb cell.level l (λ e. differ (sym e)) in
      both_kinds (cell.input == cell.input) (cell.level == l) cell.kind ∙ rw (mine, apart)) 0 LEVELS (omega arith) small
      ∙ both_kinds (cell.input == cell.input) (cell.level == cell.level) cell.kind
      ∙ (let here : (cell.level == cell.level) ≡ true = eq-eqb cell.level cell.level refl in rw (mine, here))

  one_flow : (n : ℕ) → cell.input < n → cell.level < LEVELS → flow_sum n own ≡ x
  one_flow n inside small = range_sum-at (λ i. level_sum (own i)) cell.input other_input 0 n (omega arith) (omega arith) ∙ own_input small

-- ---- the messages of all flows are those that are delivered
module _ (w : List ℕ → ℕ) (n : ℕ) where
  weight_if : (b : Bool) (ended rest : List (List ℕ)) → sum_by w ((if b then ended else []) ++ rest) ≡ (if b then sum_by w ended else 0) + sum_by w rest
  weight_if true ended rest = sum_by-append w ended rest
  weight_if false ended rest = omega arith

  messages-sum : (before cells : List Cell) → All (λ cell. (cell.input < n) × (cell.level < LEVELS)) cells
      → flow_sum n (λ i l k. sum_by w (messages_from i l k before cells)) ≡ sum_by w (messages_after before cells)
  messages-sum before [] within = flow_none n
  messages-sum before (cell ∷ cells) within =
      let P : Cell → Type 0 = λ cell. (cell.input < n) × (cell.level < LEVELS) in
      let here : P cell = All-head P cell cells within in
      let ended : List (List ℕ) = ended_by before cell in
      let more : List Cell = before ++ cell ∷ [] in
      let rest = messages-sum more cells (All-tail P cell cells within) in
      flow_same n (λ i l k. sum_by w (messages_from i l k before (cell ∷ cells)))
      (λ i l k. own cell (sum_by w ended) i l k + sum_by w (messages_from i l k more cells))
      (λ i l k. weight_if (is_of_flow i l k cell) ended (messages_from i l k more cells))
      ∙ flow_add n (own cell (sum_by w ended)) (λ i l k. sum_by w (messages_from i l k more cells))
      ∙ (let one = one_flow cell (sum_by w ended) n here.0 here.1 in omega (arith, one, rest))
      ∙ sym (sum_by-append w ended (messages_after more cells))

  -- where the cells' inputs and levels are those of a switch of n ports
  pub delivered-sum : (cells : List Cell) → All (λ cell. (cell.input < n) × (cell.level < LEVELS)) cells
      → flow_sum n (λ i l k. sum_by w (messages_from i l k [] cells)) ≡ sum_by w (messages_after [] cells)
  delivered-sum cells within = messages-sum [] cells within
