-- The cells of a switch by their outputs: for each output at most one leaves in a slot.
use Rattle.std.proofs.Common.{◌≡◌, ◌≢◌, ◌∙◌, ◌+◌, ◌<◌, ◌≤◌, ◌==◌, ap, refl, sym, arith, ℕ, zero, suc, Bool, true, false, List, [], ◌∷◌, drop, inl, inr}
use Rattle.std.specs.Prelude.{All, Option, None, Some, filter_map, if◌then◌else◌, option_map, option_to_list, slice_get, sum_by}
use Rattle.std.specs.List.{range_with_len}
use Rattle.std.proofs.lemmas.Bool.{cases_eq, ne_eqb}
use Rattle.std.proofs.lemmas.List.Elements.{All-head, All-tail}
use Rattle.std.proofs.lemmas.List.Sums.{sum_by-append, sum_by-cons, sum_by_push}
use Rattle.std.proofs.lemmas.Option.{same_Some}
use Rattle.slot_match.specs.declared.matching.Fed.{Fed}
use Rattle.slot_match.specs.Matches.{fed_of}
use Rattle.made_traffic.specs.Sources.{IsTraffic}
use Rattle.arrival_queues.specs.declared.cell.ArrivedCell.{ArrivedCell}
use Rattle.arrival_queues.specs.Queues.{Queues, head_of, queue_at, queues_with, queues_without_head}
use Rattle.arrival_queues.proofs.Changes.{at_other}
use Rattle.simulated_slots.specs.Jobs.{JobValue, is_ideal}
use Rattle.simulated_slots.specs.Slots.{all_entered, coming, departing, dropped, dropped_one, served_queue, slot_of, switch_before}
use Rattle.simulated_runs.proofs.Conserving.{HasQueues, HasQueues-before, HasQueues-with, coming-ports, queue-inside}
use Rattle.simulated_runs.proofs.HeadCells.{IsOf}
use Rattle.simulated_runs.proofs.IdealQueues.{to_output}
use Rattle.simulated_runs.proofs.MadeSlots.{after-is, departed-is, dropped-is, filled-is, left-is, served_in}
use Rattle.simulated_runs.proofs.ScheduledSlots.{place, served-first}
use Rattle.simulated_runs.proofs.Weighing.{weight-left, weight-with}

-- what the cells of all queues weigh
abbrev pub sums : (ArrivedCell → ℕ) → Queues → ℕ
sums w queues = sum_by (sum_by w) queues.cells

module _ (w : ArrivedCell → ℕ) where
  no_sum : sum_by w [] ≡ 0
  no_sum = refl

  sums-entered : (n : ℕ) (queues : Queues) (cs : List ArrivedCell) → HasQueues n queues → All (IsOf n) cs
      → sums w (all_entered queues cs) + sum_by w (dropped queues cs) ≡ sums w queues + sum_by w cs
  sums-entered n queues [] has all = refl
  sums-entered n queues (c ∷ cs) has all =
      let first = weight-with (sum_by w) w no_sum (sum_by-cons w) (sum_by_push w) queues c (queue-inside n queues c has (All-head (IsOf n) c cs all)) in
      let rest = sums-entered n (queues_with queues c) cs (HasQueues-with n queues c has) (All-tail (IsOf n) c cs all) in
      let drops = sum_by-append w (dropped_one queues c) (dropped (queues_with queues c) cs) in
      omega (arith, first, rest, drops, sum_by-cons w c cs)

  -- a slot in which nothing is dropped
  pub sums-next : (job : JobValue) (t : ℕ) → (slot_of job t).dropped ≡ []
      → sums w (switch_before job (t + 1)).queues + sum_by w (slot_of job t).departed ≡ sums w (switch_before job t).queues + sum_by w (coming job t)
  sums-next job t none =
      let before = (switch_before job t).queues in
      let came = sums-entered job.traffic.ports before (coming job t) (HasQueues-before job t) (coming-ports job t) in
      let drops : sum_by w (dropped before (coming job t)) ≡ 0 = ap (sum_by w) (sym (dropped-is job t) ∙ none) in
      let filled = ap (sums w) (filled-is job t) in
      let gone = weight-left (sum_by w) w no_sum (sum_by-cons w) (sum_by_push w) (slot_of job t).filled (served_in job t) in
      let after = ap (λ switch. sums w switch.queues) (after-is job t) ∙ ap (sums w) (left-is job t) in
      let departed = ap (sum_by w) (departed-is job t) in
      omega (arith, came, drops, filled, gone, after, departed)

-- ---- what leaves, where no two outputs are served from one queue
head-other : (queues : Queues) (k q : ℕ) → q ≢ k → head_of (queues_without_head queues k) q ≡ head_of queues q
unfolding queues_without_head
head-other queues k q other = ap (λ (cells : List ArrivedCell). slice_get cells 0) (at_other queues k (drop 1 (queue_at queues k)) q other)

module _ (g : ℕ → Option ℕ) (only : (k m q : ℕ) → g k ≡ Some q → g m ≡ Some q → k ≡ m) (j : ℕ) where
  -- from output m on, the first cell of the queue that an output is served from is for it
  abbrev pub Give : ℕ → Queues → Type 0
  Give m queues = (k q : ℕ) (c : ArrivedCell) → m ≤ k → g k ≡ Some q → head_of queues q ≡ Some c → c.output ≡ k

  give-rest : (m q : ℕ) (queues : Queues) → g m ≡ Some q → Give m queues → Give (m + 1) (queues_without_head queues q)
  give-rest m q queues is give k p c from given first =
      let other : p ≢ q = λ same. let k_is = only k m q (given ∙ ap (λ (x : ℕ). Some x) same) is in omega (arith, k_is, from) in
      give k p c (omega (arith, from)) given (sym (head-other queues q p other) ∙ first)

  first-gives : (m : ℕ) (o : Option ArrivedCell) → ((c : ArrivedCell) → o ≡ Some c → c.output ≡ m)
      → (sum_by (to_output j) (option_to_list o) ≤ 1) × (m ≢ j → sum_by (to_output j) (option_to_list o) ≡ 0)
  first-gives m None own = (omega arith, λ other. refl)
  first-gives m (Some c) own = elim (cases_eq c.output j) [
    | inl same ↦ (at_most (c.output == j), λ other. absurd (other (sym (own c refl) ∙ same)))
    | inr other ↦ (at_most (c.output == j), λ apart. rw (ne_eqb c.output j other) refl)
  ]
    where
      at_most : (test : Bool) → 0 + (if test then 1 else 0) ≤ 1
      at_most true = omega arith
      at_most false = omega arith

  -- of the cells that leave for the outputs from m on there is at most one for the output
  abbrev FewLeave : ℕ → ℕ → Queues → Type 0
  FewLeave m count queues = (sum_by (to_output j) (departing queues (filter_map g (range_with_len m count))) ≤ 1)
      × (j < m → sum_by (to_output j) (departing queues (filter_map g (range_with_len m count))) ≡ 0)

  one-departs : (m count : ℕ) (queues : Queues) → Give m queues → FewLeave m count queues
  one-departs m zero queues give = (omega arith, λ below. refl)
  one-departs m (suc count) queues give = by_served (g m) refl (one-departs (m + 1) count)
    where
      by_served : (o : Option ℕ) → g m ≡ o → ((others : Queues) → Give (m + 1) others → FewLeave (m + 1) count others) → FewLeave m (suc count) queues
      by_served None is later =
          let rest = later queues (λ k q c from given first. give k q c (omega (arith, from)) given first) in
          rw is (rest.0, λ below. rest.1 (omega (arith, below)))
      by_served (Some q) is later =
          let rest = later (queues_without_head queues q) (give-rest m q queues is give) in
          let here = first-gives m (head_of queues q) (λ c first. give m q c (omega arith) is first) in
          let others = filter_map g (range_with_len (m + 1) count) in
          let all = sum_by-append (to_output j) (option_to_list (head_of queues q)) (departing (queues_without_head queues q) others) in
          rw is (elim (cases_eq m j) [
            | inl same ↦ (omega (arith, all, here.0, rest.1 (omega (arith, same))), λ below. absurd (omega (arith, below, same)))
            | inr other ↦
                (omega (arith, all, here.1 other, rest.0), λ below. omega (arith, all, here.1 other, rest.1 (omega (arith, below))))
          ])

-- ---- so it is in a slot of a switch with a scheduler
module _ (job : JobValue) (traffic : IsTraffic job.traffic) (scheduled : is_ideal job.settings.discipline ≡ false) (t : ℕ) where
  abbrev serve : ℕ → Option ℕ
  serve = served_queue job.settings.discipline job.traffic.ports (slot_of job t).decision.matched

  served-some : (k q : ℕ) (o : Option Fed) → fed_of (slot_of job t).decision.matched k ≡ o → option_map (λ fed. place job fed.input k) o ≡ Some q
      → (c : ArrivedCell) × (head_of (slot_of job t).filled q ≡ Some c) × (c.output ≡ k)
  served-some k q None fed is = absurd cc
  served-some k q (Some fed) found is =
      let first = (served-first job traffic scheduled t fed.input k fed.level fed.kind found).2 in
      (first.cell, ap (head_of (slot_of job t).filled) (sym (same_Some (place job fed.input k) q is)) ∙ first.first, first.output)

  serve-some : (k q : ℕ) → serve k ≡ Some q → (c : ArrivedCell) × (head_of (slot_of job t).filled q ≡ Some c) × (c.output ≡ k)
  serve-some k q is = served-some k q (fed_of (slot_of job t).decision.matched k) refl (rw scheduled at is)

  serve-only : (k m q : ℕ) → serve k ≡ Some q → serve m ≡ Some q → k ≡ m
  serve-only k m q one other =
      let a = serve-some k q one in
      let b = serve-some m q other in
      sym a.2 ∙ ap (λ (c : ArrivedCell). c.output) (same_Some a.0 b.0 (sym a.1 ∙ b.1)) ∙ b.2

  pub few-leave : (j : ℕ) → sum_by (to_output j) (slot_of job t).departed ≤ 1
  few-leave j =
      let one = one-departs serve serve-only j 0 job.traffic.ports (slot_of job t).filled
      (λ k q c from given first. let a = serve-some k q given in ap (λ (c : ArrivedCell). c.output) (same_Some c a.0 (sym first ∙ a.1)) ∙ a.2) in
      omega (arith, one.0, ap (sum_by (to_output j)) (departed-is job t))
