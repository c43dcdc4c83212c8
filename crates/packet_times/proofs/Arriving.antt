-- The packet that arrives in a slot, by how many have come before and after it.
use Rattle.std.proofs.Common.{◌≡◌, ◌≢◌, ◌∙◌, ℕ, zero, suc, ◌+◌, ◌^◌, ◌<◌, ◌≤◌, ◌==◌, ◌&&◌, Bool, true, false, List, [], ◌∷◌, ◌++◌, length, map, take, Option}
use Rattle.std.proofs.Common.{Some, None, refl, sym, ap, subst, arith, inl, inr, slice_get, slice_index_or, if◌then◌else◌, length-append}
use Rattle.std.specs.Option.{option_map}
use Rattle.std.proofs.lemmas.Bool.{cases_eq, cases_lt, eqb-true, eq-eqb}
use Rattle.std.proofs.lemmas.List.{map-append, take_more}
use Rattle.std.proofs.lemmas.Option.{same_Some, slice_get-get_or, none-some, slice_get_within}
use Rattle.std.proofs.Math.ListN.{get_or-append}
use Rattle.std.specs.Prelude.{Result, IsErr, OnOk}
use Rattle.std.proofs.lemmas.Result.{IfOk-from_err}
use Rattle.slot_match.specs.declared.matching.Served.{Served}
use Rattle.card_core.specs.declared.plan.Planned.{Planned}
use Rattle.card_core.specs.Plans.{Plan, AreRising, arriving, arriving_from, no_packet, queue_of}
use Rattle.card_core.specs.Queues.{is_routed, is_admitted, fits}
use Rattle.card_core.specs.States.{IsNext}
use Rattle.queue_lengths.specs.declared.counters.Arrival.{Arrival}
use Rattle.queue_lengths.specs.Counters.{Counters, CountBefore, CountIn, arrival_in}
use Rattle.run_laws.proofs.SameParts.{before-alike}
use Rattle.packet_times.specs.NotingSteps.{Input, was_admitted, IsNoted}
use Rattle.packet_times.specs.Steps.{HasArrived}

-- a packet of a list that arrives in slot t, where one is found
record IsAt (k : ℕ) (ps : List Planned) (t : ℕ) (x : ℕ × Planned) : Type 0 where
  pub place : ℕ
  pub there : slice_get ps place ≡ Some x.1
  pub now : x.1.arrival ≡ t

found_in : (k : ℕ) (ps : List Planned) (t : ℕ) (x : ℕ × Planned) → arriving_from k ps t ≡ Some x → IsAt k ps t x
found_in k [] t x e = absurd (none-some x e)
found_in k (p ∷ ps) t x e = go (λ is. found_in (k + 1) ps t x is) (p.arrival == t) refl e where
  go : (arriving_from (k + 1) ps t ≡ Some x → IsAt (k + 1) ps t x) → (b : Bool) → (p.arrival == t) ≡ b
      → (if b then Some (k, p) else arriving_from (k + 1) ps t) ≡ Some x → IsAt k (p ∷ ps) t x
  go later true test is = let same = same_Some (k, p) x is in
      record { place = 0; there = ap (λ y. Some y.1) same; now = ap (λ (y : ℕ × Planned). y.1.arrival) (sym same) ∙ eqb-true p.arrival t test }
  go later false test is = let rest = later is in record { place = suc rest.place; there = rest.there; now = rest.now }

none_in : (k : ℕ) (ps : List Planned) (t : ℕ) → arriving_from k ps t ≡ None → (m : ℕ) (p : Planned) → slice_get ps m ≡ Some p → p.arrival ≢ t
none_in k [] t e m p there now = none-some p there
none_in k (q ∷ ps) t e m p there now = go (λ is n at. none_in (k + 1) ps t is n p at now) (q.arrival == t) refl e m there where
  go : (arriving_from (k + 1) ps t ≡ None → (n : ℕ) → slice_get ps n ≡ Some p → ⊥) → (b : Bool) → (q.arrival == t) ≡ b
      → (if b then Some (k, q) else arriving_from (k + 1) ps t) ≡ None → (n : ℕ) → slice_get (q ∷ ps) n ≡ Some p → ⊥
  go later true test is n at = none-some (k, q) (sym is)
  go later false test is zero at = let same = ap (λ (y : Planned). y.arrival) (same_Some q p at) in let yes' = eq-eqb q.arrival t (same ∙ now) in absurd (cc)
  go later false test is (suc n) at = later is n at

module _ (ps : List Planned) (t a : ℕ) (is : IsNext ps t a) where
  -- as many come before one slot
  pub next-unique : (b : ℕ) → IsNext ps t b → a ≡ b
  next-unique b again = elim (cases_lt a b) [
    | inl less ↦
        let there = slice_get-get_or ps a no_packet (omega (arith, again.within)) in
        let low = again.before a (slice_index_or ps a no_packet) there less in
        let high = is.after a (slice_index_or ps a no_packet) there (omega arith) in
        absurd (omega arith)
    | inr le ↦ elim (cases_eq a b) [
      | inl e ↦ e
      | inr ne ↦
          let there = slice_get-get_or ps b no_packet (omega (arith, is.within)) in
          let low = is.before b (slice_index_or ps b no_packet) there (omega arith) in
          let high = again.after b (slice_index_or ps b no_packet) there (omega arith) in
          absurd (omega arith)
    ]
  ]

  -- where nothing arrives in the slot, no more come
  pub next-none : (b : ℕ) → IsNext ps (t + 1) b → ((m : ℕ) (p : Planned) → slice_get ps m ≡ Some p → p.arrival ≢ t) → b ≡ a
  next-none b soon none =
      sym (next-unique b (record {
        within = soon.within;
        before = λ k p there less. let low = soon.before k p there less in let ne = none k p there in omega arith;
        after = λ k p there le. let high = soon.after k p there le in omega arith;
      }))

  -- where one arrives, one more comes: it
  pub next-one : AreRising ps → (b m : ℕ) (p : Planned) → IsNext ps (t + 1) b → slice_get ps m ≡ Some p → p.arrival ≡ t → (b ≡ a + 1) × (m ≡ a)
  next-one rising b m p soon there now =
      let inside = slice_get_within ps m p there in
      let from : a ≤ m = elim (cases_lt m a) [ inl less ↦ let low = is.before m p there less in absurd (omega arith) | inr le ↦ le ] in
      let below : m < b = elim (cases_lt m b) [ inl less ↦ less | inr le ↦ let high = soon.after m p there le in absurd (omega arith) ] in
      let first : m ≡ a = elim (cases_eq m a) [
        | inl e ↦ e
        | inr ne ↦
            let at = slice_get-get_or ps a no_packet (omega arith) in
            let high = is.after a (slice_index_or ps a no_packet) at (omega arith) in
            let up = rising a m (slice_index_or ps a no_packet) p at there (omega arith) in
            absurd (omega arith)
      ] in
      let last : b ≡ m + 1 = elim (cases_lt (m + 1) b) [
        | inl less ↦
            let at = slice_get-get_or ps (m + 1) no_packet (omega (arith, soon.within)) in
            let low = soon.before (m + 1) (slice_index_or ps (m + 1) no_packet) at less in
            let up = rising m (m + 1) p (slice_index_or ps (m + 1) no_packet) there at (omega arith) in
            absurd (omega arith)
        | inr le ↦ omega arith
      ] in
      (omega arith, first)

-- ---- the packet of a slot
none-arrives : (plan : Plan) (served : List (Option Served)) (t : ℕ) (x : Option (ℕ × Planned)) → arriving plan t ≡ x → None ≡ arrival_in plan served t
    → arriving plan t ≡ None
none-arrives plan served t None is none = is
none-arrives plan served t (Some x) is none = absurd (cc)

record Arrives (plan : Plan) (served : List (Option Served)) (t : ℕ) (arrival : Arrival) : Type 0 where
  pub number : ℕ
  pub packet : Planned
  pub found : arriving plan t ≡ Some (number, packet)
  pub admitted : arrival.admitted ≡ (is_routed packet && is_admitted plan served t packet)

some-arrives : (plan : Plan) (served : List (Option Served)) (t : ℕ) (arrival : Arrival) (x : Option (ℕ × Planned)) → arriving plan t ≡ x
    → Some arrival ≡ arrival_in plan served t → Arrives plan served t arrival
some-arrives plan served t arrival None is some = absurd (cc)
some-arrives plan served t arrival (Some x) is some =
    let made : Arrival = record { number = x.0; packet = x.1; admitted = is_routed x.1 && is_admitted plan served t x.1 } in
    let same : arrival ≡ made =
    same_Some arrival made (some
    ∙ ap (option_map (λ p. record { number = p.0; packet = p.1; admitted = is_routed p.1 && is_admitted plan served t p.1 })) is) in
    record { number = x.0; packet = x.1; found = is; admitted = ap (λ (y : Arrival). y.admitted) same }

module _ (plan : Plan) (old new : Input) (served : List (Option Served)) (was : IsNoted plan old served) (counts : CountIn plan new.counters served) where
  arrived-none : None ≡ arrival_in plan served (length served) → new.admitted ≡ old.admitted → HasArrived plan new served
  arrived-none none same =
      let nothing = none-arrives plan served (length served) (arriving plan (length served)) refl none in
      let stays = next-none plan.packets (length served) old.counters.next was.counts.next new.counters.next counts.next
      (none_in 0 plan.packets (length served) nothing) in
      record { counts = counts; admitted = same ∙ was.admitted ∙ ap (λ n. map (was_admitted plan served) (take n plan.packets)) (sym stays) }

  arrived-some : (arrival : Arrival) → Some arrival ≡ arrival_in plan served (length served) → new.admitted ≡ old.admitted ++ arrival.admitted ∷ []
      → HasArrived plan new served
  arrived-some arrival some more =
      let here = some-arrives plan served (length served) arrival (arriving plan (length served)) refl some in
      let x : ℕ × Planned = (here.number, here.packet) in
      let at = found_in 0 plan.packets (length served) x here.found in
      let next = next-one plan.packets
      (length served) old.counters.next was.counts.next was.counts.good.rising new.counters.next at.place here.packet counts.next at.there at.now in
      let place : slice_get plan.packets old.counters.next ≡ Some here.packet = ap (slice_get plan.packets) (sym next.1) ∙ at.there in
      let inside = slice_get_within plan.packets old.counters.next here.packet place in
      let own : slice_index_or plan.packets old.counters.next no_packet ≡ here.packet =
      same_Some _ _ (sym (slice_get-get_or plan.packets old.counters.next no_packet inside) ∙ place) in
      let f = was_admitted plan served in
      let bit : arrival.admitted ≡ f here.packet = here.admitted ∙ ap (λ t. is_routed here.packet && is_admitted plan served t here.packet) (sym at.now) in
      record {
        counts = counts;
        admitted = more ∙ ap (λ bits. bits ++ arrival.admitted ∷ []) was.admitted
            ∙ ap (λ b. map f (take old.counters.next plan.packets) ++ b ∷ []) (bit ∙ ap f (sym own))
            ∙ sym (map-append f (take old.counters.next plan.packets) (slice_index_or plan.packets old.counters.next no_packet ∷ []))
            ∙ ap (map f) (sym (take_more plan.packets old.counters.next no_packet inside))
            ∙ ap (λ n. map f (take n plan.packets)) (sym next.0);
      }

-- ---- what the slot serves changes no earlier admission
map-alike : {A : Type 0} (f g : Planned → A) (n : ℕ) (ps : List Planned) → ((k : ℕ) (p : Planned) → slice_get ps k ≡ Some p → k < n → f p ≡ g p)
    → map f (take n ps) ≡ map g (take n ps)
map-alike f g zero ps same = refl
map-alike f g (suc n) [] same = refl
map-alike f g (suc n) (p ∷ ps) same =
    let first = same 0 p refl (omega arith) in
    let rest = map-alike f g n ps (λ k q at less. same (suc k) q at (omega arith)) in
    cc

module _ (plan : Plan) (served more : List (Option Served)) where
  admitted-later : (packet : Planned) → packet.arrival ≤ length served → was_admitted plan served packet ≡ was_admitted plan (served ++ more) packet
  admitted-later packet early =
      ap (λ s. is_routed packet && fits plan s packet)
      (before-alike plan served (served ++ more) (length served) (λ u below. sym (get_or-append served more None u below))
      (queue_of packet) packet.arrival early)

  -- of packets that have come
  pub all-later : (slots next : ℕ) → IsNext plan.packets slots next → slots ≤ length served + 1
      → map (was_admitted plan served) (take next plan.packets) ≡ map (was_admitted plan (served ++ more)) (take next plan.packets)
  all-later slots next come few =
      map-alike (was_admitted plan served) (was_admitted plan (served ++ more)) next plan.packets
      (λ k p at less. let low = come.before k p at less in admitted-later p (omega arith))

noted-part : (plan : Plan) (mid new : Input) (served : List (Option Served)) (part : Option Served) → length plan.packets < 2 ^ 32 → HasArrived plan mid served
    → CountBefore plan new.counters (served ++ part ∷ []) → new.admitted ≡ mid.admitted → IsNoted plan new (served ++ part ∷ [])
noted-part plan mid new served part few was counts same =
    let long : length (served ++ part ∷ []) ≡ length served + 1 = length-append served (part ∷ []) in
    let now = subst (λ n. IsNext plan.packets n new.counters.next) long counts.next in
    let next = next-unique plan.packets (length served + 1) mid.counters.next was.counts.next new.counters.next now in
    record {
      few = few;
      counts = counts;
      admitted = same ∙ was.admitted
          ∙ all-later plan served (part ∷ []) (length served + 1) mid.counters.next was.counts.next (omega arith)
          ∙ ap (λ n. map (was_admitted plan (served ++ part ∷ [])) (take n plan.packets)) next;
    }

-- ---- a whole slot of an input
module _ (plan : Plan) (old new : Input) (counters : Counters) (served : List (Option Served)) (part : Option Served) (was : IsNoted plan old served)
    (counts : CountIn plan counters served) (after : CountBefore plan new.counters (served ++ part ∷ [])) where
  pub noted-none : None ≡ arrival_in plan served (length served) → new.admitted ≡ old.admitted → IsNoted plan new (served ++ part ∷ [])
  noted-none none same =
      let mid : Input = record { counters = counters; admitted = new.admitted } in
      noted-part plan mid new served part was.few (arrived-none plan old mid served was counts none same) after refl

  pub noted-some : (arrival : Arrival) → Some arrival ≡ arrival_in plan served (length served) → new.admitted ≡ old.admitted ++ arrival.admitted ∷ []
      → IsNoted plan new (served ++ part ∷ [])
  noted-some arrival some more =
      let mid : Input = record { counters = counters; admitted = new.admitted } in
      noted-part plan mid new served part was.few (arrived-some plan old mid served was counts arrival some more) after refl

-- a call that fails keeps what it promises of success
pub failed : {T E : Type 0} (P : Type 0) (r : Result T E) → IsErr r → OnOk r P
failed P r err = IfOk-from_err r (λ _. P) err

-- before slot 0 no packet has come
pub first-noted : (plan : Plan) (input : Input) → length plan.packets < 2 ^ 32 → CountBefore plan input.counters [] → input.admitted ≡ []
    → IsNoted plan input []
first-noted plan input few counts none =
    let zero_ : IsNext plan.packets 0 0 = record {
      within = omega arith;
      before = λ k p there less. absurd (omega arith);
      after = λ k p there le. omega arith;
    } in
    let next : 0 ≡ input.counters.next = next-unique plan.packets 0 0 zero_ input.counters.next counts.next in
    record { few = few; counts = counts; admitted = none ∙ ap (λ n. map (was_admitted plan []) (take n plan.packets)) next }
