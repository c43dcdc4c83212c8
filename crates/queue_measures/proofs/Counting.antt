-- The numbers of all queues of an input, with the packet that arrives in a slot.
use Rattle.std.proofs.Common.{◌≡◌, ◌≢◌, ◌∙◌, ℕ, suc, ◌+◌, ◌*◌, ◌/◌, ◌%◌, ◌^◌, ◌<◌, ◌≤◌, ◌&&◌, not, nat_lt, Bool, true, false, List, [], ◌∷◌, ◌++◌}
use Rattle.std.proofs.Common.{length, Option, Some, None, slice_index, slice_index_or, slice_set, refl, sym, ap, subst, arith, inl, inr, if◌then◌else◌}
use Rattle.std.specs.List.{sum_by}
use Rattle.std.specs.Option.{option_map}
use Rattle.std.proofs.lemmas.Bool.{cases_eq, cases_lt, cases_Bool, lt-ltb, le-ltb, and_parts}
use Rattle.std.proofs.lemmas.Grind.{get_or-set_at}
use Rattle.std.proofs.lemmas.List.{get_or-set_other, length-set}
use Rattle.std.proofs.lemmas.List.Sums.{count_by-le-length, sum_by-le-sum_by}
use Rattle.std.proofs.lemmas.Option.{same_Some}
use Rattle.std_lemmas.proofs.Bools.{if_within}
use Rattle.std_lemmas.proofs.Numbers.{not_zero}
use Rattle.slot_match.specs.declared.matching.Served.{Served}
use Rattle.card_core.specs.declared.plan.Planned.{Planned}
use Rattle.card_core.specs.Plans.{Plan, Queue, IsGoodPlan, is_queue, queue_of, size_of, arriving}
use Rattle.card_core.specs.Queues.{is_routed, is_admitted, enters}
use Rattle.card_core.proofs.Passing.{arriving-there, is_queue-same}
use Rattle.card_core.proofs.Arriving.{is_queue-refl}
use Rattle.card_core.proofs.Taking.{one_slot}
use Rattle.queue_lengths.specs.declared.counters.Arrival.{Arrival}
use Rattle.queue_lengths.specs.Counters.{Counters, CountBefore, CountIn, arrival_in}
use Rattle.queue_lengths.specs.Lengths.{IsQueue, count_of, place_of, is_for, length_in}
use Rattle.queue_measures.specs.declared.numbers.QueueNumbers.{QueueNumbers}
use Rattle.queue_measures.specs.NotingSteps.{IsCounted, IsNoted, no_numbers, numbers_so_far}
use Rattle.queue_measures.specs.Steps.{with_packet, with_arrivals, queue_at, HasRoom, MayCount}
use Rattle.queue_measures.proofs.SoFar.{so_far, now_of, so_far-step, is_coming_for, numbers-stay, numbers-with}
use Rattle.queue_lengths.proofs.Places.{place-same, place-inside, IsQueue-packet}

-- ---- queues and places
pub at-place : (ports place : ℕ) → place < count_of ports → IsQueue ports (queue_at ports place) × (place_of ports (queue_at ports place) ≡ place)
at-place ports place inside =
    let rest : place % 4 < 4 = omega arith in
    let whole : 4 * (place / 4) + place % 4 ≡ place = omega arith in
    elim (cases_lt (place / 4) ports) [
      | inl less ↦ rw (lt-ltb (place / 4) ports less) ((less, rest), whole)
      | inr le ↦ rw (le-ltb (place / 4) ports le) (rest, omega arith)
    ]

-- ---- the numbers have room for the packet that arrives
module _ (plan : Plan) (good : IsGoodPlan plan) (t k : ℕ) (p : Planned) (is : arriving plan t ≡ Some (k, p)) (routed : is_routed p ≡ true) where
  -- what some of the packets weigh so far, with this one, is part of what all weigh that go anywhere
  within-all : (test : Planned → Bool) (weight : Planned → ℕ) → ((r : Planned) → test r ≡ true → is_routed r ≡ true)
      → so_far test weight t plan.packets + weight p ≤ sum_by (λ r. if is_routed r then weight r else 0) plan.packets
  within-all test weight goes =
      let part = sum_by-le-sum_by (λ r. if nat_lt r.arrival t && test r then weight r else 0)
      (λ r. if nat_lt r.arrival t && is_routed r then weight r else 0) plan.packets
      (λ r. if_within (nat_lt r.arrival t && test r) (weight r) (if nat_lt r.arrival t && is_routed r then weight r else 0) (λ both.
      let (early, passes) = and_parts (nat_lt r.arrival t) (test r) both in
      rw (early, goes r passes) (omega arith))) in
      let step = so_far-step is_routed weight t 0 plan.packets good.rising in
      let now : now_of is_routed weight (arriving plan t) ≡ weight p = ap (now_of is_routed weight) is ∙ ap (λ b. if b then weight p else 0) routed in
      let whole = sum_by-le-sum_by (λ r. if nat_lt r.arrival (suc t) && is_routed r then weight r else 0) (λ r. if is_routed r then weight r else 0)
      plan.packets
      (λ r. if_within (nat_lt r.arrival (suc t) && is_routed r) (weight r) (if is_routed r then weight r else 0) (λ both.
      rw ((and_parts (nat_lt r.arrival (suc t)) (is_routed r) both).1) (omega arith))) in
      omega (arith, part, step, now, whole)

  numbers-room : IsCounted plan → (served : List (Option Served)) (q : Queue) → HasRoom (size_of p) (numbers_so_far plan served t q)
  numbers-room counted served q =
      let all = count_by-le-length is_routed plan.packets in
      let for_it : (r : Planned) → is_for q r ≡ true → is_routed r ≡ true = λ r mine. (and_parts (is_routed r) (is_queue q (queue_of r)) mine).0 in
      let packets = within-all (is_for q) (λ r. 1) for_it in
      let dropped = within-all (λ r. is_for q r && not (is_admitted plan served r.arrival r)) (λ r. 1)
      (λ r passes. for_it r (and_parts (is_for q r) (not (is_admitted plan served r.arrival r)) passes).0) in
      let cells = within-all (enters plan q served) size_of (λ r passes. for_it r (and_parts (is_for q r) (is_admitted plan served r.arrival r) passes).0) in
      record {
        packets = omega (arith, packets, all, counted.packets);
        dropped = omega (arith, dropped, all, counted.packets);
        cells = omega (arith, cells, counted.cells);
      }

-- ---- the packet that arrives
module _ (plan : Plan) (good : IsGoodPlan plan) (served : List (Option Served)) (numbers : List QueueNumbers) (count : length numbers ≡ count_of plan.ports)
    (are : (q : Queue) → IsQueue plan.ports q → slice_index_or numbers (place_of plan.ports q) no_numbers ≡ numbers_so_far plan served (length served) q)
    (long : List ℕ) (lengths : length long ≡ count_of plan.ports) where
  abbrev here : ℕ
  here = length served

  abbrev told : ℕ × Planned → Arrival
  told p = record { number = p.0; packet = p.1; admitted = is_routed p.1 && is_admitted plan served here p.1 }

  own-room : IsCounted plan → (k : ℕ) (p : Planned) → arriving plan here ≡ Some (k, p) → p.fan ≢ 0
      → HasRoom (size_of p) (slice_index_or numbers (place_of plan.ports (queue_of p)) no_numbers)
  own-room counted k p is some =
      let there = arriving-there 0 plan.packets here k p is in
      let mine = IsQueue-packet plan.ports (length plan.bytes) p (good.packets there.0 p there.2) in
      subst (HasRoom (size_of p)) (sym (are (queue_of p) mine)) (numbers-room plan good here k p is (not_zero p.fan some) counted served (queue_of p))

  may-of : IsCounted plan → (arrives : Option (ℕ × Planned)) (arrival : Arrival) → arriving plan here ≡ arrives → option_map told arrives ≡ Some arrival
      → MayCount plan.ports long numbers arrival
  may-of counted None arrival is mapped = absurd cc
  may-of counted (Some (k, p)) arrival is mapped =
      let there = arriving-there 0 plan.packets here k p is in
      let planned = good.packets there.0 p there.2 in
      let packet : p ≡ arrival.packet = ap (λ (a : Arrival). a.packet) (same_Some (told (k, p)) arrival mapped) in
      record {
        size = good.size;
        lengths = lengths;
        count = count;
        level = subst (λ (r : Planned). r.level < 4) packet planned.level;
        fan = subst (λ (r : Planned). r.fan < 2 ^ plan.ports) packet planned.fan;
        forwarded = subst (λ (r : Planned). r.fan ≢ 0 → r.len ≤ 65535) packet planned.forwarded;
        room = subst (λ (r : Planned). r.fan ≢ 0 → HasRoom (size_of r) (slice_index_or numbers (place_of plan.ports (queue_of r)) no_numbers)) packet
            (own-room counted k p is);
      }

  pub may-count : IsCounted plan → (arrival : Arrival) → arrival_in plan served here ≡ Some arrival → MayCount plan.ports long numbers arrival
  may-count counted arrival is = may-of counted (arriving plan here) arrival refl is

  module _ (part : Option Served)
      (are_long : (q : Queue) → IsQueue plan.ports q → slice_index long (place_of plan.ports q) ≡ length_in plan q served here) where
    abbrev after : Queue → QueueNumbers
    after q = numbers_so_far plan (served ++ part ∷ []) (suc here) q

    abbrev place_for : Planned → ℕ
    place_for p = place_of plan.ports (queue_of p)

    abbrev changed : Planned → QueueNumbers
    changed p = with_packet here (size_of p) (is_routed p && is_admitted plan served here p) (slice_index long (place_for p))
        (slice_index_or numbers (place_for p) no_numbers)

    others : (q : Queue) (k : ℕ) (p : Planned) → IsQueue plan.ports q → arriving plan here ≡ Some (k, p) → is_for q p ≡ false
        → slice_index_or numbers (place_of plan.ports q) no_numbers ≡ after q
    others q k p mine is not_for = are q mine ∙ sym (numbers-stay plan good served part q (ap (is_coming_for q) is ∙ not_for))

    own : (k : ℕ) (p : Planned) → IsQueue plan.ports (queue_of p) → arriving plan here ≡ Some (k, p) → is_routed p ≡ true → changed p ≡ after (queue_of p)
    own k p mine is routed =
        let for_it : is_for (queue_of p) p ≡ true = rw (routed, is_queue-refl (queue_of p)) refl in
        ap (λ b. with_packet here (size_of p) (b && is_admitted plan served here p) (slice_index long (place_for p))
        (slice_index_or numbers (place_for p) no_numbers)) routed
        ∙ ap (λ n. with_packet here (size_of p) (is_admitted plan served here p) n (slice_index_or numbers (place_for p) no_numbers))
        (are_long (queue_of p) mine)
        ∙ ap (with_packet here (size_of p) (is_admitted plan served here p) (length_in plan (queue_of p) served here)) (are (queue_of p) mine)
        ∙ sym (numbers-with plan good served part (queue_of p) k p is for_it)

    is_other : (q : Queue) (p : Planned) → place_of plan.ports q ≢ place_for p → is_for q p ≡ false
    is_other q p differ = elim (cases_Bool (is_for q p)) [
      | inl hit ↦ absurd (differ (ap (place_of plan.ports) (is_queue-same q (queue_of p) (and_parts (is_routed p) (is_queue q (queue_of p)) hit).1)))
      | inr miss ↦ miss
    ]

    routed-at : (q : Queue) (k : ℕ) (p : Planned) → IsQueue plan.ports q → arriving plan here ≡ Some (k, p) → is_routed p ≡ true
        → slice_index_or (slice_set numbers (place_for p) (changed p)) (place_of plan.ports q) no_numbers ≡ after q
    routed-at q k p mine is routed =
        let there = arriving-there 0 plan.packets here k p is in
        let its = IsQueue-packet plan.ports (length plan.bytes) p (good.packets there.0 p there.2) in
        let inside = place-inside plan.ports (queue_of p) its in
        elim (cases_eq (place_of plan.ports q) (place_for p)) [
          | inl same ↦ get_or-set_at numbers (place_for p) (place_of plan.ports q) (changed p) no_numbers same (omega arith) ∙ own k p its is routed
              ∙ ap after (sym (place-same plan.ports q (queue_of p) mine its same))
          | inr differ ↦ get_or-set_other numbers (place_for p) (place_of plan.ports q) (changed p) no_numbers differ
              ∙ others q k p mine is (is_other q p differ)
        ]

    counted-of : (arrives : Option (ℕ × Planned)) → arriving plan here ≡ arrives → (q : Queue) → IsQueue plan.ports q
        → slice_index_or (with_arrivals plan.ports here long (option_map told arrives) numbers) (place_of plan.ports q) no_numbers ≡ after q
    counted-of None is q mine = are q mine ∙ sym (numbers-stay plan good served part q (ap (is_coming_for q) is))
    counted-of (Some (k, p)) is q mine = elim (cases_Bool (is_routed p)) [
      | inl routed ↦ ap (λ b. slice_index_or (if b then slice_set numbers (place_for p) (changed p) else numbers) (place_of plan.ports q) no_numbers) routed
          ∙ routed-at q k p mine is routed
      | inr not_routed ↦ ap (λ b. slice_index_or (if b then slice_set numbers (place_for p) (changed p) else numbers) (place_of plan.ports q) no_numbers)
          not_routed ∙ others q k p mine is (ap (λ b. b && is_queue q (queue_of p)) not_routed)
    ]

    pub counted : (q : Queue) → IsQueue plan.ports q
        → slice_index_or (with_arrivals plan.ports here long (arrival_in plan served here) numbers) (place_of plan.ports q) no_numbers ≡ after q
    counted q mine = counted-of (arriving plan here) refl q mine

either : (b : Bool) (numbers : List QueueNumbers) (place : ℕ) (x : QueueNumbers) → length (if b then slice_set numbers place x else numbers) ≡ length numbers
either true numbers place x = length-set numbers place x
either false numbers place x = refl

-- as many queues as before
pub with_arrivals-count : (ports slot : ℕ) (long : List ℕ) (arrival : Option Arrival) (numbers : List QueueNumbers)
    → length (with_arrivals ports slot long arrival numbers) ≡ length numbers
with_arrivals-count ports slot long None numbers = refl
with_arrivals-count ports slot long (Some arrival) numbers = either (is_routed arrival.packet) numbers (place_of ports (queue_of arrival.packet)) _

-- ---- an input that has noted a slot
module _ (plan : Plan) (served : List (Option Served)) (counters : Counters) (numbers : List QueueNumbers)
    (noted : IsNoted plan (record { counters = counters; numbers = numbers }) served)
    (ports slot : ℕ) (now : length served ≡ slot) (size : plan.ports ≡ ports) (new : Counters) (counts : CountIn plan new served) (arrival : Option Arrival)
    (comes : arrival ≡ arrival_in plan served slot) where
  comes-here : arrival ≡ arrival_in plan served (length served)
  comes-here = comes ∙ ap (arrival_in plan served) (sym now)

  pub noted-may : (packet : Arrival) → arrival ≡ Some packet → MayCount ports new.lengths numbers packet
  noted-may packet is = subst (λ n. MayCount n new.lengths numbers packet) size
      (may-count plan noted.counts.good served numbers noted.count noted.numbers new.lengths counts.count noted.counted packet (sym comes-here ∙ is))

  pub noted-next : (part : Option Served) (later : List QueueNumbers) (after : Counters) → later ≡ with_arrivals ports slot new.lengths arrival numbers
      → CountBefore plan after (served ++ part ∷ []) → IsNoted plan (record { counters = after; numbers = later }) (served ++ part ∷ [])
  noted-next part later after are before =
      let same : later ≡ with_arrivals plan.ports (length served) new.lengths (arrival_in plan served (length served)) numbers =
      are ∙ ap (λ n. with_arrivals n slot new.lengths arrival numbers) (sym size) ∙ ap (λ t. with_arrivals plan.ports t new.lengths arrival numbers) (sym now)
      ∙ ap (λ a. with_arrivals plan.ports (length served) new.lengths a numbers) comes-here in
      record {
        counted = noted.counted;
        counts = before;
        count = ap length are ∙ with_arrivals-count ports slot new.lengths arrival numbers ∙ noted.count;
        numbers = λ q mine. ap (λ (ns : List QueueNumbers). slice_index_or ns (place_of plan.ports q) no_numbers) same
            ∙ counted plan noted.counts.good served numbers noted.count noted.numbers new.lengths counts.count part counts.lengths q mine
            ∙ ap (λ t. numbers_so_far plan (served ++ part ∷ []) t q) (sym (one_slot served part));
      }
