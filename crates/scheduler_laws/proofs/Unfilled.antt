-- From all pointers at port 0, with one round, none of the first n - 1 slots is full.
use Rattle.std.proofs.Common.{◌≡◌, ℕ, zero, suc, ◌+◌, ◌-◌, ◌<◌, ◌≤◌, ◌∙◌, List, [], ◌∷◌, All, take, sym, subst, arith}
use Rattle.std.proofs.Math.Nat.{mod-eq_of_lt}
use Rattle.std.proofs.lemmas.List.Elements.{All-nil, All-cons}
use Rattle.rotating_pick.specs.Rotation.{distance}
use Rattle.rotating_pick.specs.declared.kinds.Kind.TheVariants.{Uni}
use Rattle.rotating_pick.proofs.Picking.{distance-injective}
use Rattle.slot_match.specs.Matches.{unmatched, Serves}
use Rattle.pointer_state.specs.Places.{Places, places_at_first, grant_of, accept_of}
use Rattle.pointer_state.proofs.Tables.{place_of-at_first}
use Rattle.eslip_rounds.specs.Rounds.{Grants}
use Rattle.eslip_rounds.specs.Schedules.{DecidedSlot}
use Rattle.service_bound.proofs.Distances.{distance-own}
use Rattle.service_bound.proofs.Granting.{served_by_first}
use Rattle.service_bound.proofs.OneRound.{one_is_first}
use Rattle.scheduler_laws.specs.FullLoad.{IsFullyLoaded, IsFullMatch}
use Rattle.scheduler_laws.proofs.Lines.{IsLine, IsLine-next, left_over}
use Rattle.scheduler_laws.proofs.Filling.{grants_of, Takes, level_in, grants_there, begins, decided_here, within_here, load_here, first_here, step_here}
use Rattle.scheduler_laws.proofs.Filling.{loaded_later}

module _ (n s t level : ℕ) (places : Places) (slot : DecidedSlot) (slots : List DecidedSlot)
    (loaded : IsFullyLoaded n 1 t level places (slot ∷ slots)) (line : IsLine n s (grants_of places level))
    (accepts : accept_of places 0 level ≡ s) (more : s + 1 < n) where
  one : 0 < 1
  one = omega arith

  -- input 0 takes the first of the outputs that are left
  taken_next : Takes level (first_here n 1 t level one places slot slots loaded) 0 s
  taken_next =
      let s_in : s < n = omega arith in
      let opening = (begins n 1 t level one places slot slots loaded).opening in
      let first = first_here n 1 t level one places slot slots loaded in
      let within = within_here n 1 t level one places slot slots loaded in
      let load = load_here n 1 t level one places slot slots loaded in
      let there = level_in n t level slot.rows places first opening loaded.pointing within load s s_in in
      let at_zero : grant_of places s level ≡ 0 = line.here s (omega arith) s_in in
      let grants = grants_there n t level slot.rows places first opening loaded.pointing within load s s_in in
      let granted : Grants n t slot.rows places (unmatched n) 0 s level Uni =
      subst (λ x. Grants n t slot.rows places (unmatched n) x s level Uni) at_zero grants in
      let met = served_by_first n t level slot.rows first places there opening loaded.pointing load.clean load.alone 0 s (omega arith) granted in
      let near : distance n (accept_of places 0 level) met.0 ≤ distance n (accept_of places 0 level) s = met.1.least s s_in granted in
      let own : distance n (accept_of places 0 level) s ≡ 0 = subst (λ x. distance n x s ≡ 0) (sym accepts) (distance-own n s s_in) in
      let same : met.0 ≡ s = distance-injective n (accept_of places 0 level) met.0 s (loaded.pointing.accept 0 (omega arith)) met.1.below s_in (omega arith) in
      subst (λ y. Serves first 0 y level Uni) same met.2

  line_next : IsLine n (s + 1) (grants_of slot.decision.places level)
  line_next =
      IsLine-next n s (grants_of places level) (grants_of slot.decision.places level) (Takes level (first_here n 1 t level one places slot slots loaded))
      (step_here n 1 t level one places slot slots loaded) line more taken_next

  accepts_next : accept_of slot.decision.places 0 level ≡ s + 1
  accepts_next = (decided_here n 1 t level one places slot slots loaded).moved.accepted 0 s level taken_next ∙ mod-eq_of_lt more

  -- the last output is left over
  not_full : IsFullMatch n level slot.decision.matched → ⊥
  not_full full =
      let decided = decided_here n 1 t level one places slot slots loaded in
      let first = first_here n 1 t level one places slot slots loaded in
      let last_in : n - 1 < n = omega arith in
      let last = full.outputs (n - 1) last_in in
      let same : slot.decision.matched ≡ first = decided.result ∙ sym (one_is_first n decided.steps decided.count) in
      left_over n s (grants_of places level) (grants_of slot.decision.places level) (Takes level first)
      (step_here n 1 t level one places slot slots loaded) line more taken_next
      (n - 1) (omega arith) last_in last.0 (subst (λ matched. Serves matched last.0 (n - 1) level Uni) same last.2)

-- the slot leaves an output or an input
abbrev pub IsNotFull : ℕ → ℕ → DecidedSlot → Type 0
IsNotFull n level slot = IsFullMatch n level slot.decision.matched → ⊥

-- Slots of full load, before which the first `spent` outputs were taken.
record AreLined (n level : ℕ) (slots : List DecidedSlot) : Type 0 where
  spent : ℕ
  t : ℕ
  places : Places
  line : IsLine n spent (grants_of places level)
  accepts : accept_of places 0 level ≡ spent
  loaded : IsFullyLoaded n 1 t level places slots

-- the first m leave an output
unfilled_after : (n level m : ℕ) (slots : List DecidedSlot) (on : AreLined n level slots) → on.spent + m ≤ n - 1 → All (IsNotFull n level) (take m slots)
unfilled_after n level zero slots on room = All-nil (IsNotFull n level)
unfilled_after n level (suc m) [] on room = All-nil (IsNotFull n level)
unfilled_after n level (suc m) (slot ∷ slots) on room =
    let more : on.spent + 1 < n = omega arith in
    All-cons (IsNotFull n level) slot (take m slots)
    (not_full n on.spent on.t level on.places slot slots on.loaded on.line on.accepts more)
    (unfilled_after n level m slots (record {
      spent = on.spent + 1;
      t = on.t + 1;
      places = slot.decision.places;
      line = line_next n on.spent on.t level on.places slot slots on.loaded on.line on.accepts more;
      accepts = accepts_next n on.spent on.t level on.places slot slots on.loaded on.line on.accepts more;
      loaded = loaded_later n 1 on.t level (omega arith) on.places slot slots on.loaded;
    }) (omega arith))

-- from all pointers at port 0 the first n - 1 slots are not full
pub unfilled_at_first : (n t level : ℕ) (slots : List DecidedSlot) → IsFullyLoaded n 1 t level (places_at_first n) slots
    → All (IsNotFull n level) (take (n - 1) slots)
unfolding places_at_first
unfilled_at_first n t level slots loaded =
    let line : IsLine n 0 (grants_of (places_at_first n) level) =
    record { gone = λ j j_in. absurd (omega arith); here = λ j after j_in. place_of-at_first level j } in
    unfilled_after n level (n - 1) slots (record {
      spent = 0;
      t = t;
      places = places_at_first n;
      line = line;
      accepts = place_of-at_first level 0;
      loaded = loaded;
    }) (omega arith)
