-- A run that serves only what its rows name: what it fed to an output is of what came, and at its end it is all.
use Rattle.std.proofs.Common.{◌≡◌, ◌∙◌, ℕ, zero, suc, ◌+◌, ◌<◌, ◌≤◌, List, [], length, Option, None, Some, slice_index_or, refl, sym, ap, arith, inl}
use Rattle.std.proofs.Common.{inr, if◌then◌else◌}
use Rattle.std.specs.Prelude.{is_some}
use Rattle.std.proofs.lemmas.Bool.{cases_lt}
use Rattle.std.proofs.lemmas.List.{get_or-map}
use Rattle.slot_match.specs.declared.matching.Fed.{Fed}
use Rattle.slot_match.specs.Matches.{fed_of}
use Rattle.slot_match.specs.Parts.{served_of}
use Rattle.slot_match.proofs.Pairs.{Serves-from, Serves-once, fed_of-lt}
use Rattle.card_core.specs.Plans.{Plan, Queue, OfOutput, OfLevel}
use Rattle.card_core.specs.Queues.{waiting, before}
use Rattle.card_core.specs.Posts.{row_at, IsServable}
use Rattle.output_queued.specs.Ideal.{total}
use Rattle.output_queued.specs.Switches.{Matched, match_at, served_in, card_of, cells_from, comes, feeds, AreServed, AreEmptied, AreCards}
use Rattle.output_queued.specs.Lines.{ideal, ran}
use Rattle.output_queued.proofs.Totals.{total-same, total-plus, total-le, total-none, total-one}
use Rattle.output_queued.proofs.Ideals.{given-queued, never_behind}
use Rattle.output_queued.proofs.Shares.{over, over-none, entered_for, granted_for, grant_for, IsTo, unicast, multicast, all_entered, all_granted_more}
use Rattle.output_queued.proofs.Shares.{all_granted_few, all_granted_all}
use Rattle.output_queued.proofs.Pairs.{may_serve, pair_grants, none_granted}

pub served-at : (matches : List Matched) (i t : ℕ) → t < length matches → slice_index_or (served_in matches i) t None ≡ served_of (match_at matches t) i
served-at matches i t below = get_or-map (λ matched. served_of matched i) matches t [] None below

one_at_most : (o : Option Fed) → (if is_some o then 1 else 0) ≤ 1
one_at_most None = omega arith
one_at_most (Some fed) = omega arith

pub ran-one : (matches : List Matched) (j t : ℕ) → ran matches j (suc t) ≤ ran matches j t + 1
ran-one matches j t = omega (arith, one_at_most (fed_of (match_at matches t) j))

pub ran-up : (matches : List Matched) (j t : ℕ) → ran matches j t ≤ ran matches j (suc t)
ran-up matches j t = omega arith

module _ (cards : List Plan) (matches : List Matched) (are : AreCards cards) (run : AreServed cards matches) where
  pub servable : (i t : ℕ) → i < length cards → t < length matches
      → IsServable (row_at (card_of cards i) (served_in matches i) t) (slice_index_or (served_in matches i) t None)
  servable i t inside below =
      rw (served-at matches i t below)
      (may_serve (length cards) (match_at matches t) (run.whole t below) i (row_at (card_of cards i) (served_in matches i) t)
      (λ j level kind. run.named t i j level kind below))

  module _ (j : ℕ) where
    abbrev granted_all : ℕ → ℕ → ℕ
    granted_all t i = over j (λ q. granted_for (card_of cards i) (served_in matches i) j q t)

    abbrev grants_all : ℕ → ℕ → ℕ
    grants_all t i = over j (λ q. grant_for (card_of cards i) (served_in matches i) j q t)

    abbrev entered_all : ℕ → ℕ → ℕ
    entered_all t i = over j (λ q. entered_for (card_of cards i) (served_in matches i) j q t)

    -- one slot
    slot_by : (t : ℕ) → t < length matches → (fed : Option Fed) → fed_of (match_at matches t) j ≡ fed
        → total (grants_all t) (length cards) ≡ (if is_some fed then 1 else 0)
    slot_by t below None is =
        total-none (grants_all t) (length cards) (λ i inside.
        none_granted (length cards) (match_at matches t) (run.whole t below) i (card_of cards i) (are.good i inside) (served_in matches i) t
        (served-at matches i t below)
        (λ k level kind. run.named t i k level kind below) j (λ level kind pair. absurd (cc)))
    slot_by t below (Some fed) is =
        let matched = match_at matches t in
        let whole = run.whole t below in
        let pair = Serves-from matched j fed is in
        total-one (grants_all t) (length cards) fed.input (whole.input_in fed.input j fed.level fed.kind pair)
        (λ i inside same.
        pair_grants (length cards) matched whole i (card_of cards i) (are.good i inside) (served_in matches i) t (served-at matches i t below)
        (λ k level kind. run.named t i k level kind below) j fed.level fed.kind (rw same pair))
        (λ i inside other.
        none_granted (length cards) matched whole i (card_of cards i) (are.good i inside) (served_in matches i) t (served-at matches i t below)
        (λ k level kind. run.named t i k level kind below) j
        (λ level kind pair'. other (Serves-once matched j i fed.input level fed.level kind fed.kind pair' pair).0))

    granted-is : (t : ℕ) → t ≤ length matches → total (granted_all t) (length cards) ≡ ran matches j t
    granted-is zero within = total-none (granted_all 0) (length cards)
        (λ i inside. over-none j (λ q. granted_for (card_of cards i) (served_in matches i) j q 0) (λ q. refl))
    granted-is (suc t) within =
        total-same (granted_all (suc t)) (λ i. granted_all t i + grants_all t i) (length cards)
        (λ i inside. all_granted_more (card_of cards i) (are.good i inside) (served_in matches i) j t)
        ∙ total-plus (granted_all t) (grants_all t) (length cards)
        ∙ ap (λ n. n + total (grants_all t) (length cards)) (granted-is t (omega arith))
        ∙ ap (λ n. ran matches j t + n) (slot_by t (omega arith) (fed_of (match_at matches t) j) refl)

    entered-is : j < 64 → (t : ℕ) → total (entered_all t) (length cards) ≡ total (comes cards matches j) t
    unfolding comes
    entered-is inside zero = total-none (entered_all 0) (length cards)
        (λ i below. over-none j (λ q. entered_for (card_of cards i) (served_in matches i) j q 0) (λ q. refl))
    entered-is inside (suc t) =
        total-same (entered_all (suc t)) (λ i. entered_all t i + cells_from (card_of cards i) (served_in matches i) j t) (length cards)
        (λ i below. all_entered (card_of cards i) (are.good i below) (served_in matches i) j inside t)
        ∙ total-plus (entered_all t) (λ i. cells_from (card_of cards i) (served_in matches i) j t) (length cards)
        ∙ ap (λ n. n + total (λ i. cells_from (card_of cards i) (served_in matches i) j t) (length cards)) (entered-is inside t)

    pub small : j < length cards → j < 64
    small inside = let size = (are.good j inside).size in let ports = are.ports j inside in omega arith

    -- an output that the switch does not have is fed nothing
    unfed : length cards ≤ j → (t : ℕ) → t < length matches → (fed : Option Fed) → fed_of (match_at matches t) j ≡ fed
        → ◌≡◌ {A = ℕ} (if is_some fed then 1 else 0) 0
    unfed past t below None is = refl
    unfed past t below (Some fed) is =
        let count = (run.whole t below).count in
        let less = fed_of-lt (match_at matches t) j fed is in
        absurd (omega arith)

    ran-none : length cards ≤ j → (t : ℕ) → t ≤ length matches → ran matches j t ≡ 0
    ran-none past t within = total-none (feeds matches j) t (λ u below. unfed past u (omega arith) (fed_of (match_at matches u) j) refl)

    pub ran-few : (t : ℕ) → t ≤ length matches → ran matches j t ≤ total (comes cards matches j) t
    ran-few t within = elim (cases_lt j (length cards)) [
      | inl inside ↦
          let few = total-le (granted_all t) (entered_all t) (length cards)
          (λ i below. all_granted_few (card_of cards i) (are.good i below) (served_in matches i) j t (λ u less. servable i u below (omega arith))) in
          let granted = granted-is t within in
          let entered = entered-is (small inside) t in
          omega arith
      | inr past ↦ let none = ran-none past t within in omega arith
    ]

    pub ran-behind : (t : ℕ) → t ≤ length matches → ran matches j t ≤ ideal cards matches j t
    ran-behind t within = never_behind (comes cards matches j) (ran matches j) (length matches) refl (λ u below. ran-one matches j u) ran-few t within

    module _ (empty : AreEmptied cards matches) (inside : j < length cards) where
      none_waits : (i : ℕ) → i < length cards → (q : Queue) → IsTo j q → waiting (before (card_of cards i) q (served_in matches i) (length matches)) ≡ []
      none_waits i below (OfOutput k l) (unicast m small') = empty.unicast i j l below inside small'
      none_waits i below (OfLevel l) (multicast m small') = empty.multicast i l below small'

      pub ran-all : ran matches j (length matches) ≡ total (comes cards matches j) (length matches)
      ran-all =
          sym (granted-is (length matches) (omega arith))
          ∙ total-same (granted_all (length matches)) (entered_all (length matches)) (length cards)
          (λ i below. all_granted_all (card_of cards i) (are.good i below) (served_in matches i) j (length matches) (λ u less. servable i u below less)
          (none_waits i below))
          ∙ entered-is (small inside) (length matches)

      pub ran-ideal : ran matches j (length matches) ≡ ideal cards matches j (length matches)
      ran-ideal =
          let all = ran-all in
          let low = ran-behind (length matches) (omega arith) in
          let high = given-queued (comes cards matches j) (length matches) in
          omega arith
