-- A cell that waits is of a packet that was admitted.
use Rattle.std.proofs.Common.{◌≡◌, ◌∙◌, ℕ, zero, suc, ◌+◌, ◌<◌, ◌≤◌, ◌&&◌, nat_lt, Bool, true, false, List, [], ◌∷◌, ◌++◌, drop, Option, Some, None}
use Rattle.std.proofs.Common.{slice_index_or, slice_get, refl, sym, ap, arith, if◌then◌else◌}
use Rattle.std.proofs.lemmas.Bool.{ltb-true}
use Rattle.rotating_pick.specs.declared.kinds.Kind.{Kind}
use Rattle.rotating_pick.specs.declared.kinds.Kind.TheVariants.{Uni, Multi}
use Rattle.slot_match.specs.declared.matching.Served.{Served}
use Rattle.slot_match.specs.Rows.{Names}
use Rattle.multicast_queue.specs.FanQueues.{FanCell}
use Rattle.voq_banks.specs.CellQueues.{cells_with_fan}
use Rattle.eslip_rounds.specs.Schedulers.{Scheduler, IsScheduler}
use Rattle.card_core.specs.declared.plan.Planned.{Planned}
use Rattle.card_core.specs.Plans.{Plan, Queue, OfLevel, IsGoodPlan, is_queue, queue_of, size_of}
use Rattle.card_core.specs.Queues.{waiting, is_routed, fits, queue_in, is_admitted, enters, cells_admitted}
use Rattle.card_core.specs.Posts.{has_cells, row_at}
use Rattle.card_core.proofs.Accepting.{uni-in, multi-in, left_waits}
use Rattle.card_core.proofs.Admitting.{entered_stays, entered-is}
use Rattle.card_core.proofs.Passing.{is_queue-same}
use Rattle.switch_plan.specs.GoodPlans.{SwitchPlan, IsGood}
use Rattle.run_laws.specs.Runs.{ports_of, card_at, parts_under}
use Rattle.run_laws.specs.Crossings.{queue_to}
use Rattle.run_laws.specs.Sums.{IsAdmittedUnder}
use Rattle.run_laws.proofs.Base.{good-card, before-same}

-- ---- of which packet a cell is
has-drop : (n : ℕ) (cells : List FanCell) → has_cells (drop n cells) ≡ true → has_cells cells ≡ true
has-drop zero cells some = some
has-drop (suc n) [] some = some
has-drop (suc n) (c ∷ cells) some = refl

module _ (card : Plan) (q : Queue) (served : List (Option Served)) (t : ℕ) where
  -- one of the packets arrives before slot t and enters the queue
  record Enters (packets : List Planned) : Type 0 where
    pub place : ℕ
    pub packet : Planned
    pub found : slice_get packets place ≡ Some packet
    pub test : nat_lt packet.arrival t && enters card q served packet ≡ true

  first_or : (k : ℕ) (p : Planned) (ps : List Planned) (b : Bool) → nat_lt p.arrival t && enters card q served p ≡ b
      → has_cells ((if b then cells_with_fan k (size_of p) p.fan else []) ++ cells_admitted card q served t (k + 1) ps) ≡ true
      → (has_cells (cells_admitted card q served t (k + 1) ps) ≡ true → Enters ps) → Enters (p ∷ ps)
  first_or k p ps true is some later = record { place = 0; packet = p; found = refl; test = is }
  first_or k p ps false is some later = let one = later some in record { place = suc one.place; packet = one.packet; found = one.found; test = one.test }

  some-enters : (k : ℕ) (ps : List Planned) → has_cells (cells_admitted card q served t k ps) ≡ true → Enters ps
  some-enters k [] some = absurd (cc)
  some-enters k (p ∷ ps) some = first_or k p ps (nat_lt p.arrival t && enters card q served p) refl some (λ later. some-enters (k + 1) ps later)

-- ---- what a row names waits
module _ (card : Plan) (good : IsGoodPlan card) (served : List (Option Served)) (t : ℕ) where
  pub named-waits : (j level : ℕ) (kind : Kind) → Names (row_at card served t) level kind j
      → has_cells (waiting (queue_in card (queue_to j level kind) served t)) ≡ true
  named-waits j level Uni named = (uni-in card good served t level j named).2
  named-waits j level Multi named =
      left_waits card good (OfLevel level) (queue_in card (OfLevel level) served t) j (multi-in card good served t level j named).1

tests_of : (a r s d : Bool) → a && (r && s && d) ≡ true → (a ≡ true) × (r ≡ true) × (s ≡ true) × (d ≡ true)
tests_of true true true true is = (refl, refl, refl, refl)
tests_of true true true false is = absurd (cc)
tests_of true true false d is = absurd (cc)
tests_of true false s d is = absurd (cc)
tests_of false r s d is = absurd (cc)

module _ (scheduler : Scheduler) (scheduling : IsScheduler scheduler) (plan : SwitchPlan) (good : IsGood plan) (slots i u : ℕ) (inside : i < ports_of plan)
    (below : u < slots) where
  -- whether a packet is admitted depends on the slots before its own alone
  admitted_there : (p : Planned) → p.arrival ≤ u
      → is_admitted (card_at plan i) (parts_under scheduler plan i slots) p.arrival p ≡ is_admitted (card_at plan i)
      (parts_under scheduler plan i u) p.arrival p
  admitted_there p early =
      ap (λ s. fits (card_at plan i) s p) (before-same scheduler plan i p.arrival slots (omega arith) (queue_of p)
      ∙ sym (before-same scheduler plan i p.arrival u early (queue_of p)))

  pub waiting-admitted : (q : Queue) → has_cells (waiting (queue_in (card_at plan i) q (parts_under scheduler plan i u) u)) ≡ true → (p : Planned)
      × IsAdmittedUnder scheduler plan slots i p × (q ≡ queue_of p)
  waiting-admitted q some =
      let card = card_at plan i in
      let served = parts_under scheduler plan i u in
      let s = queue_in card q served u in
      let all : s.entered ≡ cells_admitted card q served (suc u) 0 card.packets =
      sym (entered_stays q s (slice_index_or served u None) (waiting s)) ∙ entered-is card q served (good-card plan good i inside).good (suc u) in
      let one = some-enters card q served (suc u) 0 card.packets (sym (ap has_cells all) ∙ has-drop s.left s.entered some) in
      let p = one.packet in
      let tests = tests_of (nat_lt p.arrival (suc u)) (is_routed p) (is_queue q (queue_of p)) (is_admitted card served p.arrival p) one.test in
      let early = ltb-true p.arrival (suc u) tests.0 in (
        p,
        record {
          place = one.place;
          found = one.found;
          early = omega arith;
          routed = tests.1;
          admitted = admitted_there p (omega arith) ∙ tests.3;
        },
        is_queue-same q (queue_of p) tests.2,
      )
