-- From slot n - 1 of full load on each output serves the inputs in turn.
use Rattle.std.proofs.Common.{◌≡◌, ℕ, zero, suc, ◌+◌, ◌-◌, ◌%◌, ◌<◌, ◌≤◌, ◌∙◌, List, [], ◌∷◌, Any, length, drop, take, ap, subst, arith}
use Rattle.std.proofs.Math.Nat.{mod-eq_of_lt, mod-add-mod}
use Rattle.std_lemmas.proofs.Lists.{Any-here, Any-later}
use Rattle.rotating_pick.specs.Rotation.{distance}
use Rattle.rotating_pick.specs.declared.kinds.Kind.TheVariants.{Uni}
use Rattle.rotating_pick.proofs.Circle.{distance-lt, place_at_distance}
use Rattle.slot_match.specs.Matches.{Serves}
use Rattle.pointer_state.specs.Places.{Places, grant_of}
use Rattle.eslip_rounds.specs.Schedules.{DecidedSlot}
use Rattle.scheduler_laws.specs.FullLoad.{IsFullyLoaded}
use Rattle.scheduler_laws.proofs.Parking.{all_taken, apart_at_last}
use Rattle.scheduler_laws.proofs.Filling.{grants_of, Takes, begins, decided_here, first_here, step_here, AreSpreading, spread_on, spread_first}

module _ (n rounds level i j : ℕ) (i_in : i < n) (j_in : j < n) where
  -- the slot serves the queue
  abbrev pub IsServed : DecidedSlot → Type 0
  IsServed slot = Serves slot.decision.matched i j level Uni

  -- where no two pointers are together, output j is taken by the input at its pointer
  taken_here : (slot : DecidedSlot) (slots : List DecidedSlot) (on : AreSpreading n rounds level (slot ∷ slots)) → n ≤ on.spent + 1
      → Takes level (first_here n rounds on.t level on.some on.places slot slots on.loaded) (grant_of on.places j level) j
  taken_here slot slots on late =
      let first = first_here n rounds on.t level on.some on.places slot slots on.loaded in
      let step = step_here n rounds on.t level on.some on.places slot slots on.loaded in
      let apart = apart_at_last n on.spent (grants_of on.places level) late on.loaded.pointing.grant on.spread in
      all_taken n (grants_of on.places level) (grants_of slot.decision.places level) (Takes level first) step apart j j_in

  -- where no two pointers are together, an input d beyond an output's pointer is served d slots later
  served_in_turn : (d m : ℕ) (slots : List DecidedSlot) (on : AreSpreading n rounds level slots) → n ≤ on.spent + 1 → d < m → m ≤ length slots
      → (grant_of on.places j level + d) % n ≡ i → Any IsServed (take m slots)
  served_in_turn d zero slots on late far long turn = absurd (omega arith)
  served_in_turn d (suc m) [] on late far long turn = absurd (omega arith)
  served_in_turn zero (suc m) (slot ∷ slots) on late far long turn =
      let first = first_here n rounds on.t level on.some on.places slot slots on.loaded in
      let taken = taken_here slot slots on late in
      let short : grant_of on.places j level + 0 < n = let b = on.loaded.pointing.grant j j_in in omega arith in
      let value : (grant_of on.places j level + 0) % n ≡ grant_of on.places j level + 0 = mod-eq_of_lt short in
      let same : grant_of on.places j level ≡ i = omega arith in
      let opened = begins n rounds on.t level on.some on.places slot slots on.loaded in
      Any-here IsServed slot (take m slots) (opened.stays i j level Uni (subst (λ x. Takes level first x j) same taken))
  served_in_turn (suc d) (suc m) (slot ∷ slots) on late far long turn =
      let from : ℕ = grant_of on.places j level in
      let decided = decided_here n rounds on.t level on.some on.places slot slots on.loaded in
      let moved : grant_of slot.decision.places j level ≡ (from + 1) % n = decided.moved.granted from j level (taken_here slot slots on late) in
      let sums : from + 1 + d ≡ from + suc d = omega arith in
      let nearer : (grant_of slot.decision.places j level + d) % n ≡ i =
      ap (λ x. (x + d) % n) moved ∙ (mod-add-mod (from + 1) n d ∙ (ap (λ x. x % n) sums ∙ turn)) in
      Any-later IsServed slot (take m slots)
      (served_in_turn d m slots (spread_on n rounds level slot slots on) (omega arith) (omega arith) (omega arith) nearer)

  -- after k slots more, in any n slots the queue is served
  served_after : (k : ℕ) (slots : List DecidedSlot) (on : AreSpreading n rounds level slots) → n ≤ k + on.spent + 1 → k + n ≤ length slots
      → Any IsServed (take n (drop k slots))
  served_after zero slots on late long =
      let from : ℕ = grant_of on.places j level in
      let from_in = on.loaded.pointing.grant j j_in in
      let sums : from + distance n from i ≡ distance n from i + from = omega arith in
      served_in_turn (distance n from i) n slots on (omega arith) (distance-lt n from i from_in) (omega arith)
      (ap (λ x. x % n) sums ∙ place_at_distance n from i from_in i_in)
  served_after (suc k) [] on late long = absurd (omega arith)
  served_after (suc k) (slot ∷ slots) on late long =
      served_after k slots (spread_on n rounds level slot slots on) (omega arith) (omega arith)

  -- in any n slots one after the other, of which n - 1 or more come before, the queue is served
  pub served_each_turn : (k t : ℕ) (places : Places) (slots : List DecidedSlot) → 0 < rounds → IsFullyLoaded n rounds t level places slots
      → n - 1 ≤ k → k + n ≤ length slots → Any IsServed (take n (drop k slots))
  served_each_turn k t places slots some loaded late long =
      served_after k slots (spread_first n rounds t level places slots some loaded) (omega arith) long
