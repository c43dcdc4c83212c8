-- One history alone keeps the rules of a queue.
use Rattle.std.proofs.Common.{◌≡◌, ◌∙◌, ℕ, zero, suc, ◌+◌, ◌<◌, ◌≤◌, ◌==◌, ◌&&◌, nat_lt, List, [], ◌∷◌, ◌++◌, drop, length, Option, None}
use Rattle.std.proofs.Common.{slice_index_or, count_by, refl, sym, ap, arith, inl, inr, if◌then◌else◌}
use Rattle.std.specs.List.{range_with_len}
use Rattle.std.proofs.lemmas.Bool.{cases_eq, cases_lt, le-ltb}
use Rattle.slot_match.specs.declared.matching.Served.{Served}
use Rattle.multicast_queue.specs.FanQueues.{FanCell, first_fan}
use Rattle.voq_banks.specs.CellQueues.{cells_with_fan}
use Rattle.card_core.specs.declared.plan.Planned.{Planned}
use Rattle.card_core.specs.Plans.{Plan, Queue, is_queue, queue_of, size_of}
use Rattle.card_core.specs.Queues.{Passed, remaining, is_routed, fits}
use Rattle.card_core.specs.QueueRules.{comes_in, cells_entering, is_first, parts_for, left_of, completes, KeepsRules}
use Rattle.card_core.proofs.KeepingRules.{count_more}

passed_by : (entered entered' : List FanCell) (left left' : ℕ) (since since' : List (Option Served)) → entered ≡ entered' → left ≡ left' → since ≡ since'
    → ◌≡◌ {A = Passed} (record { entered = entered; left = left; since = since }) (record { entered = entered'; left = left'; since = since' })
passed_by entered entered' left left' since since' a b c = rw (a, b, c) refl

module _ (plan : Plan) (q : Queue) (served : List (Option Served)) (one other : ℕ → Passed)
    (keeps : KeepsRules plan q served one) (keeps' : KeepsRules plan q served other) where
  -- two histories that agree before slot t agree in what they tell of it
  module _ (t : ℕ) (agree : (u : ℕ) → u < t → one u ≡ other u) where
    same_cells : (u k : ℕ) (ps : List Planned) → u ≤ t → cells_entering plan q one u k ps ≡ cells_entering plan q other u k ps
    same_cells u k [] few = refl
    same_cells u k (p ∷ ps) few =
        let rest = same_cells u (k + 1) ps few in
        elim (cases_lt p.arrival u) [
          | inl less ↦
              let same = agree p.arrival (omega arith) in
              ap (λ s. (if nat_lt p.arrival u && (is_routed p && is_queue q (queue_of p) && fits plan s p)
              then cells_with_fan k (size_of p) p.fan else []) ++ cells_entering plan q one u (k + 1) ps) same
              ∙ ap (λ w. (if nat_lt p.arrival u && comes_in plan q other p then cells_with_fan k (size_of p) p.fan else []) ++ w) rest
          | inr late ↦ rw (le-ltb p.arrival u late) rest
        ]

    same_entered : (u : ℕ) → u ≤ t → (one u).entered ≡ (other u).entered
    same_entered u few = keeps.entered u ∙ same_cells u 0 plan.packets few ∙ sym (keeps'.entered u)

    same_first : (n u : ℕ) → u < t → is_first one n u ≡ is_first other n u
    same_first n u less =
        ap (λ s. (s.left == n) && nat_lt n (length (one (suc u)).entered)) (agree u less)
        ∙ ap (λ w. ((other u).left == n) && nat_lt n (length w)) (same_entered (suc u) (omega arith))

    same_parts : (n u : ℕ) → u ≤ t → parts_for served one n u ≡ parts_for served other n u
    same_parts n zero few = refl
    same_parts n (suc u) few =
        ap (λ b. if b then slice_index_or served u None ∷ parts_for served one n u else parts_for served one n u) (same_first n u (omega arith))
        ∙ ap (λ w. if is_first other n u then slice_index_or served u None ∷ w else w) (same_parts n u (omega arith))

    same_left_of : (n u : ℕ) → u ≤ t → left_of q served one n u ≡ left_of q served other n u
    same_left_of n u few =
        ap (λ w. remaining q (first_fan (drop n w)) (parts_for served one n u)) (same_entered u few)
        ∙ ap (λ w. remaining q (first_fan (drop n (other u).entered)) w) (same_parts n u few)

    same_completes : (u : ℕ) → u < t → completes q served one u ≡ completes q served other u
    same_completes u less =
        ap (λ s. is_first one s.left u && (left_of q served one s.left (suc u) == 0)) (agree u less)
        ∙ ap (λ b. b && (left_of q served one (other u).left (suc u) == 0)) (same_first (other u).left u less)
        ∙ ap (λ n. is_first other (other u).left u && (n == 0)) (same_left_of (other u).left (suc u) (omega arith))

    same_count : (u : ℕ) → u ≤ t
        → count_by (completes q served one) (range_with_len 0 u) ≡ count_by (completes q served other) (range_with_len 0 u)
    same_count zero few = refl
    same_count (suc u) few =
        count_more (completes q served one) u
        ∙ ap (λ b. count_by (completes q served one) (range_with_len 0 u) + (if b then 1 else 0)) (same_completes u (omega arith))
        ∙ ap (λ n. n + (if completes q served other u then 1 else 0)) (same_count u (omega arith))
        ∙ sym (count_more (completes q served other) u)

    same_left : (one t).left ≡ (other t).left
    same_left = keeps.left t ∙ same_count t (omega arith) ∙ sym (keeps'.left t)

    same_next : one t ≡ other t
    same_next = passed_by (one t).entered (other t).entered (one t).left (other t).left (one t).since (other t).since
        (same_entered t (omega arith)) same_left
        (keeps.since t ∙ same_parts (one t).left t (omega arith) ∙ ap (λ n. parts_for served other n t) same_left ∙ sym (keeps'.since t))

  agree_before : (t u : ℕ) → u < t → one u ≡ other u
  agree_before zero u less = absurd (omega arith)
  agree_before (suc t) u less = elim (cases_eq u t) [
    | inl same ↦ rw same (same_next t (agree_before t))
    | inr early ↦ agree_before t u (omega (arith, early))
  ]

  pub one_history : (t : ℕ) → one t ≡ other t
  one_history t = same_next t (agree_before t)
