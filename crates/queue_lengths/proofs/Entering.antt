-- The counters after the packet that arrives in a slot.
use Rattle.std.proofs.Common.{◌≡◌, ◌≢◌, ◌∙◌, ℕ, ◌+◌, ◌-◌, ◌^◌, ◌<◌, ◌&&◌, ◌≤◌, nat_le, Bool, true, false, List, length, Option, Some, None}
use Rattle.std.proofs.Common.{refl, sym, ap, inl, inr, subst, arith, if◌then◌else◌, slice_get, slice_index, length-set, length-drop}
use Rattle.std.proofs.lemmas.Bool.{ne_eqb, cases_lt, le-leb, lt-leb}
use Rattle.std.proofs.lemmas.List.{get_or-set_same, get_or-set_other}
use Rattle.slot_match.specs.declared.matching.Served.{Served}
use Rattle.card_core.specs.declared.plan.Planned.{Planned}
use Rattle.card_core.specs.Plans.{Plan, Queue, IsPlanned, is_queue, queue_of, size_of, arriving}
use Rattle.card_core.specs.Queues.{is_routed, is_admitted, before}
use Rattle.card_core.specs.StateSteps.{next_in}
use Rattle.card_core.proofs.Passing.{is_queue-same}
use Rattle.card_core.proofs.Arriving.{is_queue-refl}
use Rattle.queue_lengths.specs.Lengths.{IsQueue, place_of, count_of, length_before}
use Rattle.queue_lengths.specs.Counters.{Counters, CountBefore, CountIn, arrival_in}
use Rattle.queue_lengths.specs.Steps.{MayEnter, place_for, enters_at, lengths_with}
use Rattle.queue_lengths.specs.declared.counters.Arrival.{Arrival}
use Rattle.queue_lengths.proofs.Places.{place-inside, place-same, IsQueue-packet}
use Rattle.queue_lengths.proofs.Lengths.{gain, in_count, before_few}
use Rattle.card_core.proofs.NextPackets.{next-none, next-there, next-one}

-- the lengths with a packet, queue by queue
module _ (ports : ℕ) (lengths : List ℕ) (p : Planned) (q : Queue) (mine : IsQueue ports (queue_of p)) (is : IsQueue ports q)
    (count : length lengths ≡ count_of ports) where
  with_at : (entered same : Bool) → is_queue q (queue_of p) ≡ same
      → slice_index (lengths_with ports lengths p entered) (place_of ports q)
      ≡ slice_index lengths (place_of ports q) + (if same && entered then size_of p else 0)
  with_at true true e =
      let inside = place-inside ports (queue_of p) mine in
      let here = get_or-set_same lengths (place_for ports p) (slice_index lengths (place_for ports p) + size_of p) 0 (omega (arith, inside)) in
      subst (λ r. slice_index (lengths_with ports lengths p true) (place_of ports r) ≡ slice_index lengths (place_of ports r) + size_of p)
      (sym (is_queue-same q (queue_of p) e)) here
  with_at true false e =
      let other = get_or-set_other lengths (place_for ports p) (place_of ports q) (slice_index lengths (place_for ports p) + size_of p) 0 (λ at.
      let same = place-same ports q (queue_of p) is mine at in
      let yes' : is_queue q (queue_of p) ≡ true = subst (λ r. is_queue q r ≡ true) same (is_queue-refl q) in
      absurd (cc)) in
      omega (arith, other)
  with_at false true e = omega arith
  with_at false false e = omega arith

-- what fits beside those that wait is no more than is left of the depth
fits_left : (waits cells depth : ℕ) → waits ≤ depth → nat_le cells (depth - waits) ≡ nat_le (waits + cells) depth
fits_left waits cells depth few = elim (cases_lt depth (waits + cells)) [
  | inl over ↦ lt-leb cells (depth - waits) (omega arith) ∙ sym (lt-leb (waits + cells) depth over)
  | inr fits ↦ le-leb cells (depth - waits) (omega arith) ∙ sym (le-leb (waits + cells) depth fits)
]

-- the test by what is left of the depth
pub enters_from : (ports depth : ℕ) (lengths : List ℕ) (p : Planned) → p.fan ≢ 0 → slice_index lengths (place_for ports p) ≤ depth
    → nat_le (size_of p) (depth - slice_index lengths (place_for ports p)) ≡ enters_at ports depth lengths p
enters_from ports depth lengths p some few =
    let routed : is_routed p ≡ true = rw (ne_eqb p.fan 0 some) refl in
    fits_left (slice_index lengths (place_for ports p)) (size_of p) depth few
    ∙ ap (λ b. b && nat_le (slice_index lengths (place_for ports p) + size_of p) depth) (sym routed)

swapped : (routed same admitted : Bool) (size : ℕ) → (if same && (routed && admitted) then size else 0) ≡ (if routed && same && admitted then size else 0)
swapped true true admitted size = refl
swapped true false admitted size = refl
swapped false true admitted size = refl
swapped false false admitted size = refl

module _ (plan : Plan) (counters : Counters) (served : List (Option Served)) (was : CountBefore plan counters served) where
  -- a length by the plan
  long_at : (q : Queue) → IsQueue plan.ports q → slice_index counters.lengths (place_of counters.ports q) ≡ length_before plan q served (length served)
  long_at q is = ap (λ n. slice_index counters.lengths (place_of n q)) was.ports ∙ was.lengths q is

  module _ (p : Planned) (next : next_in counters.packets counters.next (length served) ≡ Some p) where
    found : next_in plan.packets counters.next (length served) ≡ Some p
    found = ap (λ ps. next_in ps counters.next (length served)) (sym was.packets) ∙ next

    pub packet-there : slice_get plan.packets counters.next ≡ Some p
    packet-there = (next-there plan was.good (length served) counters.next was.next p found).0

    planned : IsPlanned plan.ports (length plan.bytes) p
    planned = was.good.packets counters.next p packet-there

    mine : IsQueue plan.ports (queue_of p)
    mine = IsQueue-packet plan.ports (length plan.bytes) p planned

    pub may_enter : MayEnter counters.ports counters.depth counters.lengths p
    may_enter = record {
      size = omega (arith, was.ports, was.good.size);
      count = was.count ∙ ap count_of (sym was.ports);
      few = let long = long_at (queue_of p) mine in
          let few = before_few plan (queue_of p) was.good served (length served) in
          omega (arith, long, few, was.depth);
      level = planned.level;
      fan = subst (λ n. p.fan < 2 ^ n) (sym was.ports) planned.fan;
      forwarded = planned.forwarded;
    }

    -- it enters where it is admitted
    pub enters_is : enters_at counters.ports counters.depth counters.lengths p ≡ (is_routed p && is_admitted plan served (length served) p)
    enters_is =
        let s = before plan (queue_of p) served (length served) in
        ap (λ n. is_routed p && nat_le (n + size_of p) counters.depth) (long_at (queue_of p) mine ∙ length-drop s.left s.entered)
        ∙ ap (λ d. is_routed p && nat_le (length s.entered - s.left + size_of p) d) was.depth

    pub arrival_is : (entered : Bool) → entered ≡ enters_at counters.ports counters.depth counters.lengths p
        → ◌≡◌ {A = Option Arrival} (Some (record { number = counters.next; packet = p; admitted = entered })) (arrival_in plan served (length served))
    arrival_is entered is =
        let arrives = (next-one plan was.good (length served) counters.next was.next p found).1 in
        rw (arrives, is, enters_is) refl

    pub entered_is : (entered : Bool) → entered ≡ enters_at counters.ports counters.depth counters.lengths p
        → CountIn plan (record counters { next = counters.next + 1; lengths = lengths_with counters.ports counters.lengths p entered }) served
    entered_is entered is =
        let (next', arrives) = next-one plan was.good (length served) counters.next was.next p found in
        record {
          good = was.good;
          ports = was.ports;
          depth = was.depth;
          packets = was.packets;
          servable = was.servable;
          next = next';
          count = same_count entered ∙ was.count;
          lengths = λ q inside.
              let admitted = is_routed p && is_admitted plan served (length served) p in
              ap (λ n. slice_index (lengths_with n counters.lengths p entered) (place_of plan.ports q)) was.ports
              ∙ with_at plan.ports counters.lengths p q mine inside was.count entered (is_queue q (queue_of p)) refl
              ∙ ap (λ n. n + (if is_queue q (queue_of p) && entered then size_of p else 0)) (was.lengths q inside)
              ∙ ap (λ b. length_before plan q served (length served) + (if is_queue q (queue_of p) && b then size_of p else 0)) (is ∙ enters_is)
              ∙ ap (λ n. length_before plan q served (length served) + n)
              (swapped (is_routed p) (is_queue q (queue_of p)) (is_admitted plan served (length served) p) (size_of p))
              ∙ ap (λ a. length_before plan q served (length served) + gain plan q served (length served) a) (sym arrives)
              ∙ sym (in_count plan q was.good served (length served));
        }
      where
        same_count : (b : Bool) → length (lengths_with counters.ports counters.lengths p b) ≡ length counters.lengths
        same_count true = length-set counters.lengths (place_for counters.ports p) (slice_index counters.lengths (place_for counters.ports p) + size_of p)
        same_count false = refl

  -- no packet arrives
  module _ (next : next_in counters.packets counters.next (length served) ≡ None) where
    nothing : next_in plan.packets counters.next (length served) ≡ None
    nothing = ap (λ ps. next_in ps counters.next (length served)) (sym was.packets) ∙ next

    pub no_arrival : ◌≡◌ {A = Option Arrival} None (arrival_in plan served (length served))
    no_arrival = let none = (next-none plan was.good (length served) counters.next was.next nothing).1 in rw none refl

    pub stays_is : CountIn plan counters served
    stays_is =
        let (next', none) = next-none plan was.good (length served) counters.next was.next nothing in
        record {
          good = was.good;
          ports = was.ports;
          depth = was.depth;
          packets = was.packets;
          servable = was.servable;
          next = next';
          count = was.count;
          lengths = λ q inside.
              let long = was.lengths q inside in
              let count = in_count plan q was.good served (length served) in
              let came : gain plan q served (length served) (arriving plan (length served)) ≡ 0 = ap (gain plan q served (length served)) none in
              omega (arith, long, count, came);
        }
