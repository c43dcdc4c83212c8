-- The cells of queues: each is in its own, and the first stays the first until it is served.
use Rattle.std.proofs.Common.{◌≡◌, ◌≢◌, ◌∙◌, ◌+◌, ◌<◌, ap, refl, sym, subst, arith, ℕ, zero, suc, add-one, List, [], ◌∷◌, ◌++◌, length, drop, inl, inr}
use Rattle.std.specs.Prelude.{All, Option, Some, slice_get, slice_index_or}
use Rattle.std.proofs.lemmas.Bool.{cases_Bool, cases_eq, cases_lt}
use Rattle.std.proofs.lemmas.List.{set_past}
use Rattle.std.proofs.lemmas.List.Elements.{All-drop, All-head, All-nil, All-push, All-tail}
use Rattle.std_lemmas.proofs.Lists.{get_or-same}
use Rattle.arrival_queues.specs.declared.cell.ArrivedCell.{ArrivedCell}
use Rattle.arrival_queues.specs.declared.queueing.Queueing.{Queueing}
use Rattle.arrival_queues.specs.Queues.{Queues, empty_queues, has_room, head_of, queue_at, queue_count, queue_entered, queue_for, queue_of}
use Rattle.arrival_queues.specs.Queues.{queues_where, queues_with, queues_without_head}
use Rattle.arrival_queues.proofs.Changes.{at_other, at_same}
use Rattle.simulated_slots.specs.Jobs.{JobValue, queueing_of}
use Rattle.simulated_slots.specs.Slots.{all_entered, all_left, coming, slot_of, switch_before}
use Rattle.simulated_runs.proofs.Conserving.{coming-ports}
use Rattle.simulated_runs.proofs.MadeSlots.{after-is, filled-is, left-is, served_in}
use Rattle.simulated_runs.proofs.Starting.{before-first}

-- ---- what is true of the cells of a queue
abbrev AllAt : (ArrivedCell → Type 0) → Queues → ℕ → Type 0
AllAt P queues q = All P (queue_at queues q)

pub All-first : (P : ArrivedCell → Type 0) (cells : List ArrivedCell) (c : ArrivedCell) → All P cells → slice_get cells 0 ≡ Some c → P c
All-first P [] c all is = absurd cc
All-first P (x ∷ xs) c all is = subst P (same is) (all 0 x (omega arith))
  where
    same : ◌≡◌ {A = Option ArrivedCell} (Some x) (Some c) → x ≡ c
    same h = cc

pub at_where : (R : List ArrivedCell → Type 0) (queues : Queues) (q k : ℕ) (cells : List ArrivedCell) → R (queue_at queues k) → (k ≡ q → R cells)
    → R (queue_at (queues_where queues q cells) k)
at_where R queues q k cells old new = elim (cases_eq k q) [
  | inl same ↦ elim (cases_lt q (length queues.cells)) [
    | inl inside ↦ subst R (sym (ap (queue_at (queues_where queues q cells)) same ∙ at_same queues q cells inside)) (new same)
    | inr outside ↦ subst (λ (all : List (List ArrivedCell)). R (slice_index_or all k [])) (sym (set_past queues.cells q cells outside)) old
  ]
  | inr other ↦ subst R (sym (at_other queues q cells k other)) old
]

module _ (P : ArrivedCell → Type 0) where
  at-with : (queues : Queues) (c : ArrivedCell) (q : ℕ) → AllAt P queues q → (q ≡ queue_for queues c.input c.output → P c)
      → AllAt P (queues_with queues c) q
  unfolding queues_with
  at-with queues c q old new = elim (cases_Bool (has_room queues c)) [
    | inl room ↦ rw room (at_where (All P) queues (queue_for queues c.input c.output) q (queue_entered queues c ++ c ∷ []) old
        (λ same. All-push P (queue_entered queues c) c (subst (AllAt P queues) same old) (new same)))
    | inr full ↦ rw full old
  ]

  at-without : (queues : Queues) (k q : ℕ) → AllAt P queues q → AllAt P (queues_without_head queues k) q
  unfolding queues_without_head
  at-without queues k q old = at_where (All P) queues k q (drop 1 (queue_at queues k)) old
      (λ same. All-drop P 1 (queue_at queues k) (subst (AllAt P queues) same old))

  pub at-left : (queues : Queues) (qs : List ℕ) (q : ℕ) → AllAt P queues q → AllAt P (all_left queues qs) q
  at-left queues [] q old = old
  at-left queues (k ∷ qs) q old = at-left (queues_without_head queues k) qs q (at-without queues k q old)

  pub at-entered : (queues : Queues) (cs : List ArrivedCell) (q : ℕ) → AllAt P queues q → All P cs → AllAt P (all_entered queues cs) q
  at-entered queues [] q old new = old
  at-entered queues (c ∷ cs) q old new = at-entered (queues_with queues c) cs q (at-with queues c q old (λ same. All-head P c cs new)) (All-tail P c cs new)

-- ---- each cell is in its own queue
abbrev pub IsOwn : Queueing → ℕ → ℕ → ArrivedCell → Type 0
IsOwn queueing n q c = (c.input < n) × (c.output < n) × (queue_of queueing n c.input c.output ≡ q)

abbrev pub IsOf : ℕ → ArrivedCell → Type 0
IsOf n c = (c.input < n) × (c.output < n)

pub record HasOwn (queueing : Queueing) (n : ℕ) (queues : Queues) : Type 0 where
  pub ports : queues.ports ≡ n
  pub queues_by : queues.queueing ≡ queueing
  pub own : (q : ℕ) → All (IsOwn queueing n q) (queue_at queues q)

module _ (queueing : Queueing) (n : ℕ) where
  ports-with : (queues : Queues) (c : ArrivedCell) → (queues_with queues c).ports ≡ queues.ports
  unfolding queues_with
  ports-with queues c = elim (cases_Bool (has_room queues c)) [
    | inl room ↦ rw room refl
    | inr none ↦ rw none refl
  ]

  by-with : (queues : Queues) (c : ArrivedCell) → (queues_with queues c).queueing ≡ queues.queueing
  unfolding queues_with
  by-with queues c = elim (cases_Bool (has_room queues c)) [
    | inl room ↦ rw room refl
    | inr none ↦ rw none refl
  ]

  pub place-of : (queues : Queues) (i j : ℕ) → HasOwn queueing n queues → queue_for queues i j ≡ queue_of queueing n i j
  place-of queues i j has = ap (λ (by : Queueing). queue_of by queues.ports i j) has.queues_by ∙ ap (λ (m : ℕ). queue_of queueing m i j) has.ports

  pub HasOwn-with : (queues : Queues) (c : ArrivedCell) → IsOf n c → HasOwn queueing n queues → HasOwn queueing n (queues_with queues c)
  HasOwn-with queues c of has = record {
    ports = ports-with queues c ∙ has.ports;
    queues_by = by-with queues c ∙ has.queues_by;
    own = λ q. at-with (IsOwn queueing n q) queues c q (has.own q)
        (λ same. (of.0, of.1, sym (place-of queues c.input c.output has) ∙ sym same));
  }

  HasOwn-without : (queues : Queues) (k : ℕ) → HasOwn queueing n queues → HasOwn queueing n (queues_without_head queues k)
  unfolding queues_without_head
  HasOwn-without queues k has = record {
    ports = has.ports;
    queues_by = has.queues_by;
    own = λ q. at-without (IsOwn queueing n q) queues k q (has.own q);
  }

  HasOwn-entered : (queues : Queues) (cs : List ArrivedCell) → All (IsOf n) cs → HasOwn queueing n queues → HasOwn queueing n (all_entered queues cs)
  HasOwn-entered queues [] all has = has
  HasOwn-entered queues (c ∷ cs) all has =
      HasOwn-entered (queues_with queues c) cs (All-tail (IsOf n) c cs all) (HasOwn-with queues c (All-head (IsOf n) c cs all) has)

  HasOwn-left : (queues : Queues) (qs : List ℕ) → HasOwn queueing n queues → HasOwn queueing n (all_left queues qs)
  HasOwn-left queues [] has = has
  HasOwn-left queues (q ∷ qs) has = HasOwn-left (queues_without_head queues q) qs (HasOwn-without queues q has)

  HasOwn-empty : (depth : ℕ) → HasOwn queueing n (empty_queues queueing n depth)
  HasOwn-empty depth = record {
    ports = refl;
    queues_by = refl;
    own = λ q. subst (All (IsOwn queueing n q)) (sym (get_or-same {X = List ArrivedCell} [] (queue_count queueing n) q)) (All-nil (IsOwn queueing n q));
  }

module _ (job : JobValue) where
  abbrev pub Owns : Queues → Type 0
  Owns queues = HasOwn (queueing_of job.settings.discipline) job.traffic.ports queues

  owns-filled : (t : ℕ) → Owns (switch_before job t).queues → Owns (slot_of job t).filled
  owns-filled t has = subst Owns (sym (filled-is job t))
      (HasOwn-entered (queueing_of job.settings.discipline) job.traffic.ports (switch_before job t).queues (coming job t) (coming-ports job t) has)

  owns-after : (t : ℕ) → Owns (switch_before job t).queues → Owns (switch_before job (t + 1)).queues
  owns-after t has = subst Owns (sym (left-is job t) ∙ sym (ap (λ switch. switch.queues) (after-is job t)))
      (HasOwn-left (queueing_of job.settings.discipline) job.traffic.ports (slot_of job t).filled (served_in job t) (owns-filled t has))

  pub owns-before : (t : ℕ) → Owns (switch_before job t).queues
  owns-before zero = subst Owns (sym (before-first job)) (HasOwn-empty (queueing_of job.settings.discipline) job.traffic.ports job.settings.depth)
  owns-before (suc t) = subst (λ (s : ℕ). Owns (switch_before job s).queues) (add-one t) (owns-after t (owns-before t))

  pub owns : (t : ℕ) → Owns (slot_of job t).filled
  owns t = owns-filled t (owns-before t)

-- ---- the first cell of a queue stays where the queue is not served
abbrev Begins : ArrivedCell → List ArrivedCell → Type 0
Begins h cells = slice_get cells 0 ≡ Some h

begins-push : (h c : ArrivedCell) (cells : List ArrivedCell) → Begins h cells → Begins h (cells ++ c ∷ [])
begins-push h c [] is = absurd cc
begins-push h c (x ∷ xs) is = is

head-with : (queues : Queues) (c h : ArrivedCell) (q : ℕ) → head_of queues q ≡ Some h → head_of (queues_with queues c) q ≡ Some h
unfolding queues_with
head-with queues c h q is = elim (cases_Bool (has_room queues c)) [
  | inl room ↦ rw room (at_where (Begins h) queues (queue_for queues c.input c.output) q (queue_entered queues c ++ c ∷ []) is
      (λ same. begins-push h c (queue_entered queues c) (subst (λ (p : ℕ). Begins h (queue_at queues p)) same is)))
  | inr full ↦ rw full is
]

pub head-entered : (queues : Queues) (cs : List ArrivedCell) (h : ArrivedCell) (q : ℕ) → head_of queues q ≡ Some h
    → head_of (all_entered queues cs) q ≡ Some h
head-entered queues [] h q is = is
head-entered queues (c ∷ cs) h q is = head-entered (queues_with queues c) cs h q (head-with queues c h q is)

head-without : (queues : Queues) (k : ℕ) (h : ArrivedCell) (q : ℕ) → q ≢ k → head_of queues q ≡ Some h → head_of (queues_without_head queues k) q ≡ Some h
unfolding queues_without_head
head-without queues k h q other is = at_where (Begins h) queues k q (drop 1 (queue_at queues k)) is (λ same. absurd (other same))

pub head-left : (queues : Queues) (qs : List ℕ) (h : ArrivedCell) (q : ℕ) → All (λ k. q ≢ k) qs → head_of queues q ≡ Some h
    → head_of (all_left queues qs) q ≡ Some h
head-left queues [] h q others is = is
head-left queues (k ∷ qs) h q others is =
    head-left (queues_without_head queues k) qs h q (All-tail (λ (k : ℕ). q ≢ k) k qs others)
    (head-without queues k h q (All-head (λ (k : ℕ). q ≢ k) k qs others) is)
