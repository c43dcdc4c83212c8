-- Of one input: the cells that come to an output, and those that are granted to it, over all queues from which it is fed.
use Rattle.std.proofs.Common.{◌≡◌, ◌≢◌, ◌∙◌, ℕ, zero, suc, ◌+◌, ◌^◌, ◌<◌, ◌≤◌, ◌==◌, ◌&&◌, not, Bool, true, false, List, [], length, Option, None, Some}
use Rattle.std.proofs.Common.{slice_index_or, refl, sym, ap, subst, arith, inl, inr, if◌then◌else◌, length-append}
use Rattle.std.proofs.lemmas.Bool.{eq-eqb, eqb-true}
use Rattle.std.proofs.lemmas.List.Elements.{filter-append}
use Rattle.std_lemmas.proofs.Numbers.{below_power}
use Rattle.rotating_pick.specs.PortSets.{Has}
use Rattle.rotating_pick.proofs.Bits.{no_member-zero}
use Rattle.rotating_pick.proofs.Members.{only_member}
use Rattle.slot_match.specs.declared.matching.Served.{Served}
use Rattle.multicast_queue.specs.FanQueues.{FanCell}
use Rattle.slot_histories.specs.Tests.{has}
use Rattle.slot_histories.proofs.SetTests.{Decides-has}
use Rattle.card_core.specs.declared.plan.Planned.{Planned}
use Rattle.card_core.specs.Plans.{Plan, Queue, OfOutput, OfLevel, IsGoodPlan, is_queue, queue_of, size_of, arriving}
use Rattle.card_core.specs.Queues.{waiting, is_routed, is_admitted, fits, coming, before, queue_in}
use Rattle.card_core.specs.Posts.{row_at, IsServable}
use Rattle.card_core.specs.Grants.{serves, first_of, granted_to, to_output}
use Rattle.card_core.proofs.Admitting.{entered_stays}
use Rattle.card_core.proofs.CellCounts.{packet_goes, granted_few}
use Rattle.card_core.proofs.Granting.{all_granted}
use Rattle.card_core.proofs.Passing.{arriving-there, is_queue-same}
use Rattle.card_core.proofs.Arriving.{queue-unicast, queue-multicast}
use Rattle.card_core.proofs.Posted.{one_or_several}
use Rattle.output_queued.specs.Switches.{brought, cells_from}

-- ---- the queues from which an output is fed
-- the sum over them
abbrev pub over : ℕ → (Queue → ℕ) → ℕ
over j f = f (OfOutput j 0) + f (OfOutput j 1) + f (OfOutput j 2) + f (OfOutput j 3) + (f (OfLevel 0) + f (OfLevel 1) + f (OfLevel 2) + f (OfLevel 3))

-- a queue of these
pub data IsTo (j : ℕ) : Queue → Type 0 where
  unicast : (l : ℕ) → l < 4 → IsTo j (OfOutput j l)
  multicast : (l : ℕ) → l < 4 → IsTo j (OfLevel l)

pub over-plus : (j : ℕ) (f g : Queue → ℕ) → over j (λ q. f q + g q) ≡ over j f + over j g
over-plus j f g = omega arith

pub over-same : (j : ℕ) (f g : Queue → ℕ) → ((q : Queue) → IsTo j q → f q ≡ g q) → over j f ≡ over j g
over-same j f g same =
    let a = same (OfOutput j 0) (unicast 0 (omega arith)) in
    let b = same (OfOutput j 1) (unicast 1 (omega arith)) in
    let c = same (OfOutput j 2) (unicast 2 (omega arith)) in
    let d = same (OfOutput j 3) (unicast 3 (omega arith)) in
    let e = same (OfLevel 0) (multicast 0 (omega arith)) in
    let k = same (OfLevel 1) (multicast 1 (omega arith)) in
    let m = same (OfLevel 2) (multicast 2 (omega arith)) in
    let n = same (OfLevel 3) (multicast 3 (omega arith)) in
    omega arith

pub over-le : (j : ℕ) (f g : Queue → ℕ) → ((q : Queue) → f q ≤ g q) → over j f ≤ over j g
over-le j f g le =
    let a = le (OfOutput j 0) in
    let b = le (OfOutput j 1) in
    let c = le (OfOutput j 2) in
    let d = le (OfOutput j 3) in
    let e = le (OfLevel 0) in
    let k = le (OfLevel 1) in
    let m = le (OfLevel 2) in
    let n = le (OfLevel 3) in
    omega arith

pub over-none : (j : ℕ) (f : Queue → ℕ) → ((q : Queue) → f q ≡ 0) → over j f ≡ 0
over-none j f none = over-same j f (λ q. 0) (λ q to. none q)

-- of terms that are some at one queue only
one_uni : (j l x : ℕ) → l < 4 → over j (λ q. if is_queue q (OfOutput j l) then x else 0) ≡ x
one_uni j zero x below = rw (eq-eqb j j refl) (omega arith)
one_uni j (suc zero) x below = rw (eq-eqb j j refl) (omega arith)
one_uni j (suc (suc zero)) x below = rw (eq-eqb j j refl) (omega arith)
one_uni j (suc (suc (suc zero))) x below = rw (eq-eqb j j refl) (omega arith)
one_uni j (suc (suc (suc (suc l)))) x below = absurd (omega arith)

one_multi : (j l x : ℕ) → l < 4 → over j (λ q. if is_queue q (OfLevel l) then x else 0) ≡ x
one_multi j zero x below = omega arith
one_multi j (suc zero) x below = omega arith
one_multi j (suc (suc zero)) x below = omega arith
one_multi j (suc (suc (suc zero))) x below = omega arith
one_multi j (suc (suc (suc (suc l)))) x below = absurd (omega arith)

pub over-one : (j x : ℕ) (r : Queue) → IsTo j r → over j (λ q. if is_queue q r then x else 0) ≡ x
over-one j x (OfOutput k l) (unicast m below) = one_uni j l x below
over-one j x (OfLevel l) (multicast m below) = one_multi j l x below

-- ---- what a slot does to the cells that entered
-- a packet that goes to an output goes anywhere
pub routed-if : (j : ℕ) (p : Planned) → has p.fan j ≡ true → is_routed p ≡ true
routed-if j p goes = routed-by (p.fan == 0) refl where
  routed-by : (b : Bool) → (p.fan == 0) ≡ b → not (p.fan == 0) ≡ true
  routed-by true none =
      let member = (Decides-has p.fan j).0 goes in
      absurd (no_member-zero j (subst (λ fan. Has fan j) (eqb-true p.fan 0 none) member))
  routed-by false some = rw some refl

-- the cells to output j that entered a queue before slot t, and those that were granted of it
abbrev pub entered_for : Plan → List (Option Served) → ℕ → Queue → ℕ → ℕ
entered_for plan served j q t = length (to_output j (before plan q served t).entered)

abbrev pub granted_for : Plan → List (Option Served) → ℕ → Queue → ℕ → ℕ
granted_for plan served j q t = length (granted_to plan q j served t)

-- and those that slot t grants of it
abbrev pub grant_for : Plan → List (Option Served) → ℕ → Queue → ℕ → ℕ
grant_for plan served j q t = length (if serves q j (slice_index_or served t None) then first_of (waiting (queue_in plan q served t)) else [])

module _ (plan : Plan) (good : IsGoodPlan plan) (served : List (Option Served)) (j : ℕ) where
  abbrev entered_to : Queue → ℕ → ℕ
  entered_to q t = entered_for plan served j q t

  abbrev granted_of : Queue → ℕ → ℕ
  granted_of q t = granted_for plan served j q t

  abbrev grant : Queue → ℕ → ℕ
  grant q t = grant_for plan served j q t

  abbrev come : Queue → ℕ → ℕ
  come q t = length (to_output j (coming plan q (before plan q served t) (arriving plan t)))

  entered-more : (q : Queue) (t : ℕ) → entered_to q (suc t) ≡ entered_to q t + come q t
  entered-more q t =
      let s = before plan q served t in
      let more = coming plan q s (arriving plan t) in
      ap (λ cells. length (to_output j cells)) (entered_stays q (queue_in plan q served t) (slice_index_or served t None) (waiting (queue_in plan q served t)))
      ∙ ap length (filter-append (λ (cell : FanCell). has cell.fan j) s.entered more)
      ∙ length-append (to_output j s.entered) (to_output j more)

  granted-more : (q : Queue) (t : ℕ) → granted_of q (suc t) ≡ granted_of q t + grant q t
  granted-more q t = length-append (granted_to plan q j served t)
      (if serves q j (slice_index_or served t None) then first_of (waiting (queue_in plan q served t)) else [])

  -- ---- the packet that arrives
  share-if : (a m h : Bool) (x : ℕ) → (h ≡ true → a ≡ true) → (if ((a && true) && m) && h then x else 0) ≡ (if h && m then x else 0)
  share-if true true true x yes' = refl
  share-if true true false x yes' = refl
  share-if true false true x yes' = refl
  share-if true false false x yes' = refl
  share-if false m true x yes' = let e = yes' refl in absurd (cc)
  share-if false m false x yes' = refl

  share-else : (a m h : Bool) (x : ℕ) → ◌≡◌ {A = ℕ} (if ((a && false) && m) && h then x else 0) 0
  share-else true m h x = refl
  share-else false m h x = refl

  share : (t k : ℕ) (p : Planned) (q : Queue) (b : Bool) → is_queue q (queue_of p) ≡ b
      → length (to_output j (coming plan q (before plan q served t) (Some (k, p)))) ≡ (if b then brought plan served j t (Some (k, p)) else 0)
  share t k p q true is =
      let same = is_queue-same q (queue_of p) is in
      packet_goes j k (size_of p) p.fan (is_routed p && is_queue q (queue_of p) && fits plan (before plan q served t) p)
      ∙ ap (λ b. if ((is_routed p && b) && fits plan (before plan q served t) p) && has p.fan j then size_of p else 0) is
      ∙ ap (λ r. if ((is_routed p && true) && fits plan (before plan r served t) p) && has p.fan j then size_of p else 0) same
      ∙ share-if (is_routed p) (is_admitted plan served t p) (has p.fan j) (size_of p) (routed-if j p)
  share t k p q false is =
      packet_goes j k (size_of p) p.fan (is_routed p && is_queue q (queue_of p) && fits plan (before plan q served t) p)
      ∙ ap (λ b. if ((is_routed p && b) && fits plan (before plan q served t) p) && has p.fan j then size_of p else 0) is
      ∙ share-else (is_routed p) (fits plan (before plan q served t) p) (has p.fan j) (size_of p)

  -- a packet that goes to the output is of a queue from which it is fed
  queue_is : (p : Planned) → p.fan < 2 ^ 64 → p.level < 4 → j < 64 → has p.fan j ≡ true → IsTo j (queue_of p)
  queue_is p small below inside goes =
      let member = (Decides-has p.fan j).0 goes in
      let some : p.fan ≢ 0 = λ none. no_member-zero j (subst (λ fan. Has fan j) none member) in
      elim (one_or_several p.fan small some) [
        | inl one ↦
            let port : j ≡ one.0 = only_member one.0 j (subst (λ fan. Has fan j) one.1 member) in
            let fan : p.fan ≡ 2 ^ j = one.1 ∙ ap (λ k. 2 ^ k) (sym port) in
            subst (IsTo j) (sym (queue-unicast p j fan inside)) (unicast p.level below)
        | inr several ↦ subst (IsTo j) (sym (queue-multicast p several)) (multicast p.level below)
      ]

  brought-if : (b : Bool) (m : Bool) (x : ℕ) → b ≡ false → (if b && m then x else 0) ≡ 0
  brought-if b m x is = rw is refl

  shares : (t k : ℕ) (p : Planned) → p.fan < 2 ^ 64 → p.level < 4 → j < 64 → (b : Bool) → has p.fan j ≡ b
      → over j (λ q. if is_queue q (queue_of p) then brought plan served j t (Some (k, p)) else 0) ≡ brought plan served j t (Some (k, p))
  shares t k p small below inside true goes = over-one j (brought plan served j t (Some (k, p))) (queue_of p) (queue_is p small below inside goes)
  shares t k p small below inside false goes =
      let none = brought-if (has p.fan j) (is_admitted plan served t p) (size_of p) goes in
      over-none j (λ q. if is_queue q (queue_of p) then brought plan served j t (Some (k, p)) else 0)
      (λ q. zero-if (is_queue q (queue_of p)) (brought plan served j t (Some (k, p))) none) ∙ sym none where
        zero-if : (b : Bool) (x : ℕ) → x ≡ 0 → (if b then x else 0) ≡ 0
        zero-if true x none' = none'
        zero-if false x none' = refl

  come_by : (t : ℕ) (arrives : Option (ℕ × Planned)) → j < 64 → arriving plan t ≡ arrives
      → over j (λ q. length (to_output j (coming plan q (before plan q served t) arrives))) ≡ brought plan served j t arrives
  come_by t None inside is = refl
  come_by t (Some (k, p)) inside is =
      let found = arriving-there 0 plan.packets t k p is in
      let planned = good.packets found.0 p found.2 in
      over-same j (λ q. length (to_output j (coming plan q (before plan q served t) (Some (k, p)))))
      (λ q. if is_queue q (queue_of p) then brought plan served j t (Some (k, p)) else 0)
      (λ q to. share t k p q (is_queue q (queue_of p)) refl)
      ∙ shares t k p (below_power plan.ports p.fan good.size planned.fan) planned.level inside (has p.fan j) refl

  -- ---- over all queues
  pub all_entered : j < 64 → (t : ℕ)
      → over j (λ q. entered_for plan served j q (suc t)) ≡ over j (λ q. entered_for plan served j q t) + cells_from plan served j t
  all_entered inside t =
      over-same j (λ q. entered_to q (suc t)) (λ q. entered_to q t + come q t) (λ q to. entered-more q t)
      ∙ over-plus j (λ q. entered_to q t) (λ q. come q t)
      ∙ ap (λ n. over j (λ q. entered_to q t) + n) (come_by t (arriving plan t) inside refl)

  pub all_granted_more : (t : ℕ)
      → over j (λ q. granted_for plan served j q (suc t)) ≡ over j (λ q. granted_for plan served j q t) + over j (λ q. grant_for plan served j q t)
  all_granted_more t = over-same j (λ q. granted_of q (suc t)) (λ q. granted_of q t + grant q t) (λ q to. granted-more q t)
      ∙ over-plus j (λ q. granted_of q t) (λ q. grant q t)

  -- what was granted is of the cells that entered and go to the output
  pub all_granted_few : (t : ℕ) → ((u : ℕ) → u < t → IsServable (row_at plan served u) (slice_index_or served u None))
      → over j (λ q. granted_for plan served j q t) ≤ over j (λ q. entered_for plan served j q t)
  all_granted_few t may = over-le j (λ q. granted_of q t) (λ q. entered_to q t) (λ q. granted_few plan good served q j t may)

  -- where no cell waits, these are all
  pub all_granted_all : (t : ℕ) → ((u : ℕ) → u < t → IsServable (row_at plan served u) (slice_index_or served u None))
      → ((q : Queue) → IsTo j q → waiting (before plan q served t) ≡ [])
      → over j (λ q. granted_for plan served j q t) ≡ over j (λ q. entered_for plan served j q t)
  all_granted_all t may empty =
      over-same j (λ q. granted_of q t) (λ q. entered_to q t) (λ q to. ap length (all_granted plan good served q j t may (empty q to)))
