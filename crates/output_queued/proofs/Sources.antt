-- An input that is told by the cells of its packets: its plan is one that a card can be made of, and what a packet that
-- arrives makes of its queues.
use Rattle.std.proofs.Common.{◌≡◌, ◌∙◌, ℕ, zero, suc, ◌+◌, ◌*◌, ◌<◌, ◌≤◌, ◌&&◌, Bool, true, false, List, [], ◌∷◌, map, length, replicate, Option}
use Rattle.std.proofs.Common.{None, Some, slice_get, slice_index_or, refl, sym, ap, subst, arith, inl, inr, if◌then◌else◌}
use Rattle.std.specs.List.{sum_by}
use Rattle.std.specs.Option.{option_map}
use Rattle.std.proofs.lemmas.Bool.{cases_lt, eq-eqb, ne_eqb}
use Rattle.std.proofs.lemmas.List.{length-replicate}
use Rattle.std.proofs.lemmas.List.Sums.{sum_by-cons}
use Rattle.std.proofs.lemmas.Option.{same_Some}
use Rattle.slot_match.specs.declared.matching.Served.{Served}
use Rattle.slot_match.specs.Rows.{empty_row}
use Rattle.slot_histories.specs.Tests.{has}
use Rattle.voq_banks.specs.Queues.{Queues as UniQueues, empty_queues as empty_unis}
use Rattle.multicast_queue.specs.FanQueues.{Queues as FanQueues, empty_queues as empty_fans}
use Rattle.card_core.specs.declared.plan.Planned.{Planned}
use Rattle.card_core.specs.Plans.{Plan, IsPlanned, IsGoodPlan, size_of, arriving}
use Rattle.card_core.specs.Queues.{queue_in, is_routed, is_admitted, admitted, dropped, counted, count_in}
use Rattle.card_core.specs.Posts.{granted_at}
use Rattle.card_core.specs.InputQueues.{InputQueues, QueueRooms}
use Rattle.card_core.specs.States.{State, HasSent, IsNext, AreQueues, state_of}
use Rattle.card_core.specs.StateSteps.{HasRooms, arriving_if, next_in, MayEnter, Enters}
use Rattle.card_core.proofs.Beginning.{begins}
use Rattle.card_core.proofs.Passing.{arriving-there}
use Rattle.card_core.proofs.Posted.{may_arrive, posted_is, posted_state}
use Rattle.output_queued.specs.declared.coming.Coming.{Coming}
use Rattle.output_queued.specs.Switches.{planned_of, bytes_for, card_for, brought, IsComing}
use Rattle.output_queued.specs.NotingSteps.{Source, IsBefore, IsIn}
use Rattle.output_queued.specs.Steps.{IsPart, HasEntered, cells_to}
use Rattle.output_queued.proofs.Shares.{routed-if}

-- ---- the plan
pub size-planned : (c : Coming) → 0 < c.cells → c.cells ≤ 1171 → size_of (planned_of c) ≡ c.cells
size-planned c some few = omega arith

pub planned-at : (coming : List Coming) (k : ℕ) (p : Planned) → slice_get (map planned_of coming) k ≡ Some p → (c : Coming) × (slice_get coming k ≡ Some c)
    × (planned_of c ≡ p)
planned-at [] k p is = absurd (cc)
planned-at (c ∷ coming) zero p is = (c, refl, same_Some (planned_of c) p is)
planned-at (c ∷ coming) (suc k) p is = planned-at coming k p is

pub at-planned : (coming : List Coming) (k : ℕ) (c : Coming) → slice_get coming k ≡ Some c → slice_get (map planned_of coming) k ≡ Some (planned_of c)
at-planned [] k c is = absurd (cc)
at-planned (x ∷ coming) zero c is = ap (λ y. Some (planned_of y)) (same_Some x c is)
at-planned (x ∷ coming) (suc k) c is = at-planned coming k c is

bytes-in : (coming : List Coming) (k : ℕ) (c : Coming) → slice_get coming k ≡ Some c → bytes_for c.cells ≤ sum_by (λ d. bytes_for d.cells) coming
bytes-in [] k c is = absurd (cc)
bytes-in (x ∷ coming) zero c is =
    let same : bytes_for x.cells ≡ bytes_for c.cells = ap (λ (y : Coming). bytes_for y.cells) (same_Some x c is) in
    let whole = sum_by-cons (λ (d : Coming). bytes_for d.cells) x coming in
    omega arith
bytes-in (x ∷ coming) (suc k) c is =
    let rest = bytes-in coming k c is in
    let whole = sum_by-cons (λ (d : Coming). bytes_for d.cells) x coming in
    omega arith

zeros : (n k d : ℕ) → k < n → slice_index_or (replicate n 0) k d ≤ 65551
zeros zero k d inside = absurd (omega arith)
zeros (suc n) zero d inside = omega arith
zeros (suc n) (suc k) d inside = zeros n k d (omega arith)

pub packets-are : (n depth : ℕ) (coming : List Coming) → (card_for n depth coming).packets ≡ map planned_of coming
unfolding card_for
packets-are n depth coming = refl

pub ports-are : (n depth : ℕ) (coming : List Coming) → (card_for n depth coming).ports ≡ n
unfolding card_for
ports-are n depth coming = refl

pub depth-is : (n depth : ℕ) (coming : List Coming) → (card_for n depth coming).depth ≡ depth
unfolding card_for
depth-is n depth coming = refl

pub good-card : (n depth : ℕ) (coming : List Coming) → IsPart n depth coming → IsGoodPlan (card_for n depth coming)
unfolding card_for
good-card n depth coming part = record {
  some = part.some;
  size = part.size;
  card = part.some;
  deep = part.deep;
  packets = λ k p there.
      let (c, at, same) = planned-at coming k p there in
      let is = part.input.packets k c at in
      let few = bytes-in coming k c at in
      let whole = length-replicate {A = ℕ} (sum_by (λ (d : Coming). bytes_for d.cells) coming) 0 in
      let cells = is.few in
      let some = is.some in
      subst (IsPlanned n (length (replicate {A = ℕ} (sum_by (λ (d : Coming). bytes_for d.cells) coming) 0))) same (record {
        place = omega arith;
        level = is.level;
        fan = is.fan;
        forwarded = λ _. omega arith;
      });
  rising = λ k j p r a b before.
      let (c, at, same) = planned-at coming k p a in
      let (d, there, same') = planned-at coming j r b in
      let less = part.input.rising k j c d at there before in
      let first : c.slot ≡ p.arrival = ap (λ (q : Planned). q.arrival) same in
      let second : d.slot ≡ r.arrival = ap (λ (q : Planned). q.arrival) same' in
      omega arith;
  flows = length-replicate (8 * n) 0;
  sizes = λ k d inside. zeros (8 * n) k d (let long = length-replicate {A = ℕ} (8 * n) 0 in omega arith);
}

-- ---- before any packet
pub begins_as : (n depth : ℕ) (coming : List Coming) (rooms : QueueRooms) (queues : InputQueues) → IsPart n depth coming
    → HasRooms n (map planned_of coming) rooms.unicast rooms.multicast → queues.unicast ≡ empty_unis n depth rooms.unicast
    → queues.multicast ≡ empty_fans n depth rooms.multicast
    → IsBefore (card_for n depth coming) (record { coming = coming; next = 0; banks = queues.unicast; fans = queues.multicast }) []
unfolding card_for
begins_as n depth coming rooms queues part has are fans_are =
    let uni = rooms.unicast in
    let fan = rooms.multicast in
    let sent = begins (card_for n depth coming) empty_row uni fan (good-card n depth coming part)
    (λ j l inside below. let e = has.unis j l inside below in omega arith) (λ l below. let e = has.fans l below in omega arith) in
    subst (λ b. IsBefore (card_for n depth coming) (record { coming = coming; next = 0; banks = b; fans = queues.multicast }) []) (sym are)
    (subst (λ f. IsBefore (card_for n depth coming) (record { coming = coming; next = 0; banks = empty_unis n depth uni; fans = f }) []) (sym fans_are)
    (record { next = sent.next; queues = sent.queues }))

-- ---- what a packet brings
none-by : (r a h : Bool) (x : ℕ) → (h ≡ true → r ≡ true) → ◌≡◌ {A = ℕ} (if r && a then 1 else 0) 0 → (if h && a then x else 0) ≡ 0
none-by true true h x routed none = absurd (cc)
none-by true false true x routed none = refl
none-by true false false x routed none = refl
none-by false a true x routed none = let e = routed refl in absurd (cc)
none-by false a false x routed none = refl

some-by : (r a : Bool) → ◌≡◌ {A = ℕ} (if r && a then 1 else 0) 1 → a ≡ true
some-by true true one = refl
some-by true false one = absurd (cc)
some-by false a one = absurd (cc)

and-true : (h a : Bool) (x : ℕ) → a ≡ true → (if h && a then x else 0) ≡ (if h then x else 0)
and-true true a x is = rw is refl
and-true false a x is = refl

brought-none : (plan : Plan) (served : List (Option Served)) (j t : ℕ) (arrives : Option (ℕ × Planned)) → count_in true plan served t arrives ≡ 0
    → brought plan served j t arrives ≡ 0
brought-none plan served j t None none = refl
brought-none plan served j t (Some (k, p)) none = none-by (is_routed p) (is_admitted plan served t p) (has p.fan j) (size_of p) (routed-if j p) none

brought-some : (plan : Plan) (served : List (Option Served)) (j t : ℕ) (arrives : Option (ℕ × Planned)) → count_in true plan served t arrives ≡ 1
    → (k : ℕ) × (p : Planned) × (arrives ≡ Some (k, p)) × (brought plan served j t arrives ≡ (if has p.fan j then size_of p else 0))
brought-some plan served j t None one = absurd (cc)
brought-some plan served j t (Some (k, p)) one =
    (k, p, refl, and-true (has p.fan j) (is_admitted plan served t p) (size_of p) (some-by (is_routed p) (is_admitted plan served t p) one))

-- ---- the packet of a slot
module _ (n depth : ℕ) (source : Source) (served : List (Option Served)) (part : IsPart n depth source.coming)
    (is : IsBefore (card_for n depth source.coming) source served) where
  abbrev plan : Plan
  plan = card_for n depth source.coming

  -- the card with these queues
  abbrev state : State
  state =
      state_of (card_for n depth source.coming) source.next (length served) false (granted_at (card_for n depth source.coming) served (length served)) empty_row
      (admitted (card_for n depth source.coming) served (length served))
      (dropped (card_for n depth source.coming) served (length served)) source.banks source.fans

  was : HasSent state served false
  was = record {
    plan = good-card n depth source.coming part;
    slot = refl;
    phase = refl;
    granted = refl;
    row = tt;
    next = is.next;
    admitted = refl;
    dropped = refl;
    queues = is.queues;
  }

  next-is : (found : Option Coming) → option_map planned_of found ≡ next_in (map planned_of source.coming) source.next (length served)
      → option_map planned_of found ≡ next_in plan.packets source.next (length served)
  next-is found e = e ∙ ap (λ ps. next_in ps source.next (length served)) (sym (packets-are n depth source.coming))

  pub may_come : (c : Coming) → IsComing n c → option_map planned_of (Some c) ≡ next_in (map planned_of source.coming) source.next (length served)
      → MayEnter source.banks source.fans c.fan c.level c.cells
  may_come c coming e =
      subst (MayEnter source.banks source.fans c.fan c.level) (size-planned c coming.some coming.few)
      (may_arrive state served was (Some (planned_of c)) (next-is (Some c) e) coming.routed)

  in_of : (packets came lost : ℕ) (banks : UniQueues) (fans : FanQueues) (next : ℕ)
      → HasSent (posted_state state (record { packets = packets; admitted = came; dropped = lost }) banks fans) served true → next ≡ source.next + packets
      → IsIn plan (record { coming = source.coming; next = next; banks = banks; fans = fans }) served
  in_of packets came lost banks fans next sent e = record {
    next = subst (IsNext plan.packets (length served + 1)) (sym e) sent.next;
    queues = subst (λ k. AreQueues plan (λ q. queue_in plan q served (length served)) k banks fans) (sym e) sent.queues;
  }

  counted-is : (packets came lost : ℕ) (banks : UniQueues) (fans : FanQueues)
      → HasSent (posted_state state (record { packets = packets; admitted = came; dropped = lost }) banks fans) served true
      → came ≡ count_in true plan served (length served) (arriving plan (length served))
  counted-is packets came lost banks fans sent =
      let all : admitted plan served (length served) + came ≡ admitted plan served (length served + 1) = sent.admitted in
      let one : length served + 1 ≡ suc (length served) = omega arith in
      let more : admitted plan served (length served + 1) ≡ admitted plan served (length served) + count_in true plan served (length served)
      (arriving plan (length served)) = ap (admitted plan served) one in
      omega arith

  none : option_map planned_of None ≡ next_in (map planned_of source.coming) source.next (length served)
      → HasEntered n depth (length served) served source source None
  none e =
      let sent = posted_is state served was None (record { packets = 0; admitted = 0; dropped = 0 }) source.banks source.fans (next-is None e)
      (refl, refl, refl, refl, refl) in
      record {
        coming = refl;
        queues = in_of 0 0 0 source.banks source.fans source.next sent (omega arith);
        cells = λ j. brought-none plan served j (length served) (arriving plan (length served)) (sym (counted-is 0 0 0 source.banks source.fans sent));
      }

  -- the packet of the slot is the next one
  same_coming : (c : Coming) (k : ℕ) (p : Planned) → slice_get source.coming source.next ≡ Some c → c.slot ≡ length served
      → arriving plan (length served) ≡ Some (k, p) → p ≡ planned_of c
  same_coming c k p there now arrives =
      let found = arriving-there 0 plan.packets (length served) k p arrives in
      let (d, at, same) = planned-at source.coming found.0 p (ap (λ ps. slice_get ps found.0) (sym (packets-are n depth source.coming)) ∙ found.2) in
      let slot : d.slot ≡ length served = ap (λ (q : Planned). q.arrival) same ∙ found.3 in
      elim (cases_lt found.0 source.next) [
        | inl less ↦ let up = part.input.rising found.0 source.next d c at there less in absurd (omega arith)
        | inr le ↦ elim (cases_lt source.next found.0) [
          | inl less ↦ let up = part.input.rising source.next found.0 c d there at less in absurd (omega arith)
          | inr le' ↦
              let place : found.0 ≡ source.next = omega arith in
              sym same ∙ ap planned_of (same_Some d c (sym at ∙ ap (slice_get source.coming) place ∙ there))
        ]
      ]

  module _ (c : Coming) (there : slice_get source.coming source.next ≡ Some c) (now : c.slot ≡ length served)
      (e : option_map planned_of (Some c) ≡ next_in (map planned_of source.coming) source.next (length served)) where
    coming_is : IsComing n c
    coming_is = part.input.packets source.next c there

    routed : is_routed (planned_of c) ≡ true
    routed = let some = coming_is.routed in rw (ne_eqb c.fan 0 some) refl

    sent_of : (fits : Bool) (banks : UniQueues) (fans : FanQueues) → Enters source.next c.fan c.level c.cells fits source.banks source.fans banks fans
        → HasSent (posted_state state
        (record { packets = 1; admitted = counted true (planned_of c) fits; dropped = counted false (planned_of c) fits }) banks fans) served true
    sent_of fits banks fans enters =
        posted_is state served was (Some (planned_of c))
        (record { packets = 1; admitted = counted true (planned_of c) fits; dropped = counted false (planned_of c) fits }) banks fans (next-is (Some c) e) (
          fits,
          subst (λ size. Enters source.next c.fan c.level size fits source.banks source.fans banks fans)
              (sym (size-planned c coming_is.some coming_is.few)) enters,
          refl,
          refl,
          refl,
        )

    cells-of : (j k : ℕ) (p : Planned) → p ≡ planned_of c → (if has p.fan j then size_of p else 0) ≡ cells_to (Some c) j
    cells-of j k p same = ap (λ (q : Planned). if has q.fan j then size_of q else 0) same
        ∙ ap (λ size. if has c.fan j then size else 0) (size-planned c coming_is.some coming_is.few)

    one_by : (fits : Bool) (banks : UniQueues) (fans : FanQueues) → Enters source.next c.fan c.level c.cells fits source.banks source.fans banks fans
        → HasEntered n depth (length served) served source (record { coming = source.coming; next = source.next + 1; banks = banks; fans = fans })
        (if fits then Some c else None)
    one_by true banks fans enters =
        let sent = sent_of true banks fans enters in
        let one : counted true (planned_of c) true ≡ 1 = rw routed refl in
        record {
          coming = refl;
          queues = in_of 1 (counted true (planned_of c) true) (counted false (planned_of c) true) banks fans (source.next + 1) sent refl;
          cells = λ j.
              let (k, p, arrives, brings) =
              brought-some plan served j (length served) (arriving plan (length served))
              (sym (counted-is 1 (counted true (planned_of c) true) (counted false (planned_of c) true) banks fans sent) ∙ one) in
              brings ∙ cells-of j k p (same_coming c k p there now arrives);
        }
    one_by false banks fans enters =
        let sent = sent_of false banks fans enters in
        let nothing : counted true (planned_of c) false ≡ 0 = rw routed refl in
        record {
          coming = refl;
          queues = in_of 1 (counted true (planned_of c) false) (counted false (planned_of c) false) banks fans (source.next + 1) sent refl;
          cells = λ j. brought-none plan served j (length served) (arriving plan (length served))
              (sym (counted-is 1 (counted true (planned_of c) false) (counted false (planned_of c) false) banks fans sent) ∙ nothing);
        }

  -- at a slot that is said
  pub none_at : (slot : ℕ) → length served ≡ slot → option_map planned_of None ≡ next_in (map planned_of source.coming) source.next slot
      → HasEntered n depth slot served source source None
  none_at slot long e = subst (λ s. HasEntered n depth s served source source None) long
      (none (subst (λ s. option_map planned_of None ≡ next_in (map planned_of source.coming) source.next s) (sym long) e))

  pub one_at : (slot : ℕ) → length served ≡ slot → (c : Coming) → slice_get source.coming source.next ≡ Some c → c.slot ≡ slot
      → (fits : Bool) (banks : UniQueues) (fans : FanQueues) → Enters source.next c.fan c.level c.cells fits source.banks source.fans banks fans
      → HasEntered n depth slot served source (record { coming = source.coming; next = source.next + 1; banks = banks; fans = fans })
      (if fits then Some c else None)
  one_at slot long c there now fits banks fans enters =
      let e : option_map planned_of (Some c) ≡ next_in (map planned_of source.coming) source.next (length served) =
      sym (ap (arriving_if (length served)) (at-planned source.coming source.next c there)
      ∙ ap (λ b. if b then Some (planned_of c) else None) (eq-eqb c.slot (length served) (now ∙ sym long))) in
      subst (λ s. HasEntered n depth s served source (record { coming = source.coming; next = source.next + 1; banks = banks; fans = fans })
      (if fits then Some c else None)) long
      (one_by c there (now ∙ sym long) e fits banks fans enters)

  pub may_at : (slot : ℕ) → length served ≡ slot → (c : Coming) → slice_get source.coming source.next ≡ Some c
      → option_map planned_of (Some c) ≡ next_in (map planned_of source.coming) source.next slot → MayEnter source.banks source.fans c.fan c.level c.cells
  may_at slot long c there e =
      may_come c (part.input.packets source.next c there)
      (subst (λ s. option_map planned_of (Some c) ≡ next_in (map planned_of source.coming) source.next s) (sym long) e)
