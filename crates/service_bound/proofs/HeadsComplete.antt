-- Over a window the shared pointer comes nearer to a waiting head in every second slot, until the head completes.
use Rattle.std.proofs.Common.{◌≡◌, ℕ, ◌+◌, ◌*◌, ◌%◌, ◌<◌, ◌≤◌, List, [], ◌∷◌, Option, length, Any, refl, sym, subst, inl, inr, arith}
use Rattle.std.proofs.lemmas.Bool.{cases_eq}
use Rattle.std_lemmas.proofs.Lists.{Any-here, Any-later}
use Rattle.rotating_pick.specs.Rotation.{distance, IsFirstFrom}
use Rattle.rotating_pick.specs.declared.kinds.Kind.TheVariants.{Multi}
use Rattle.rotating_pick.specs.declared.limits.TheConstants.{LEVELS}
use Rattle.rotating_pick.proofs.Circle.{distance-lt}
use Rattle.rotating_pick.proofs.Picking.{distance-injective}
use Rattle.slot_match.specs.declared.rows.Row.{Row}
use Rattle.slot_match.specs.declared.matching.Fed.{Fed}
use Rattle.slot_match.specs.Rows.{row_of, HasHead, AreWithin}
use Rattle.slot_match.specs.Matches.{unmatched, Completes}
use Rattle.slot_match.specs.Keeping.{Keeps}
use Rattle.pointer_state.specs.Places.{Places, ArePointing, shared_of}
use Rattle.eslip_rounds.specs.Rounds.{preferred, Accepts}
use Rattle.eslip_rounds.specs.Slots.{Moving, AreMoved}
use Rattle.eslip_rounds.specs.Schedules.{DecidedSlot}
use Rattle.eslip_rounds.specs.Steps.{IsPassed}
use Rattle.eslip_rounds.proofs.Deciding.{Completes-or}
use Rattle.service_bound.specs.Windows.{IsClean, InFirst, IsWindowBy, IsWindow}
use Rattle.service_bound.proofs.Distances.{distance-passed}
use Rattle.service_bound.proofs.FirstRound.{IsFirstKind, grants_first, accepts_there}
use Rattle.service_bound.proofs.LaterRounds.{first_of, BeginsWith, BeginsWith-slot}
use Rattle.service_bound.proofs.PointersAfter.{first_head, passed_head}
use Rattle.service_bound.proofs.InWindows.{InFirst-along, KeepPointing, AreMoved-keep, IsWindowSlotBy, first_slot_by, later_slots_by}

-- twice the distance of the head from the shared pointer, and one more where slot t is even
abbrev pub slots_to_go : ℕ → ℕ → Places → ℕ → ℕ → ℕ
slots_to_go n level places t i = 2 * distance n (shared_of places level) i + (t + 1) % 2

odd_prefers : (t : ℕ) → t % 2 ≡ 1 → preferred t ≡ Multi
odd_prefers t odd = rw odd refl

module _ (n t level : ℕ) (rows : List Row) (first matched : List (Option Fed)) (before after : Places) (level_in : level < LEVELS)
    (begins : BeginsWith n t rows before first matched) (moved : IsPassed n rows matched before after level) (pointing : ArePointing n level before)
    (clean : IsClean n level rows) (within : AreWithin n rows) where
  -- in an odd slot every output of the first head from the shared pointer on grants that head, and it accepts them all
  first_completes : t % 2 ≡ 1 → (p : ℕ) → IsFirstFrom n (shared_of before level) (HasHead rows level) p → Completes rows matched level p
  first_completes odd p head y named =
      let y_in = within.ports p head.below level y Multi named in
      let multicast_first : IsFirstKind n t rows level Multi = record { preferred_first = λ i j i_in there. sym (odd_prefers t odd) } in
      let granted = grants_first n t rows before level level_in clean Multi multicast_first p y y_in
      (record { below = head.below; member = named; least = λ z z_in there. head.least z z_in (y, there) }) in
      let accepted : Accepts n t rows before (unmatched n) p y level Multi =
      record { best = accepts_there n t rows before level level_in clean Multi multicast_first p y granted; taken = granted } in
      begins.stays p y level Multi ((begins.opening.pairs p y level Multi).1 (inr accepted))

  module _ (i : ℕ) (i_in : i < n) (waits : HasHead rows level i) (left : Completes rows matched level i → ⊥) where
    -- past another head, the shared pointer is nearer to the waiting one
    nearer_past : (p : ℕ) → IsFirstFrom n (shared_of before level) (HasHead rows level) p → Completes rows matched level p
        → distance n (shared_of after level) i < distance n (shared_of before level) i
    nearer_past p head done =
        let at_most = head.least i i_in waits in
        let apart : distance n (shared_of before level) p ≡ distance n (shared_of before level) i → ⊥ =
        λ e. left (subst (Completes rows matched level) (distance-injective n (shared_of before level) p i pointing.shared head.below i_in e) done) in
        let nearer = distance-passed n (shared_of before level) p i pointing.shared head.below i_in (omega arith) in
        rw (moved.passed p head done) (omega arith)

    fewer_to_go : slots_to_go n level after (t + 1) i + 1 ≤ slots_to_go n level before t i
    fewer_to_go =
        elim (passed_head n level rows before within pointing matched) [
          | inl passed ↦ let nearer = nearer_past passed.0 passed.1 passed.2 in omega arith
          | inr none ↦
              let even : t % 2 ≡ 0 = elim (cases_eq (t % 2) 1) [
                | inl odd ↦ let head = first_head n level rows before within pointing i i_in waits in
                    absurd (none head.0 head.1 (first_completes odd head.0 head.1))
                | inr other ↦ omega arith
              ] in
              rw (moved.stays none) (omega arith)
        ]

-- where pointers move so, the shared pointer of the level moves one beyond the first head from it on, if that completes
abbrev pub PassHeads : Moving → ℕ → ℕ → Type 0
PassHeads Moves n level = (t : ℕ) (rows : List Row) (first matched : List (Option Fed)) (before after : Places) → Moves n t rows first matched before after
    → IsPassed n rows matched before after level

-- those of iSLIP do
pub AreMoved-pass : (n level : ℕ) → PassHeads AreMoved n level
AreMoved-pass n level t rows first matched before after moved = record { passed = λ p. moved.passed p level; stays = moved.shared_stays level }

module _ (Moves : Moving) (n rounds level i : ℕ) (keep : KeepPointing Moves n level) (pass : PassHeads Moves n level) (some : 0 < rounds) (i_in : i < n) where
  fewer_in_slot : (t : ℕ) (places : Places) (slot : DecidedSlot) → IsWindowSlotBy Moves n rounds t level places slot → HasHead slot.rows level i
      → (Completes slot.rows slot.decision.matched level i → ⊥) → slots_to_go n level slot.decision.places (t + 1) i + 1 ≤ slots_to_go n level places t i
  fewer_in_slot t places slot now waits left =
      fewer_to_go n t level slot.rows (first_of n now.decided.steps) slot.decision.matched places slot.decision.places
      (now.within.levels i i_in level waits.0 Multi waits.1)
      (BeginsWith-slot n t slot.rows places Moves rounds slot.decision some now.decided)
      (pass t slot.rows (first_of n now.decided.steps) slot.decision.matched places slot.decision.places now.decided.moved) now.pointing now.clean now.within
      i i_in waits left

  -- it completes in one of these slots, where they are more than it has to go
  completes_by_then : (slots : List DecidedSlot) (t : ℕ) (places : Places) → IsWindowBy Moves n rounds t level places slots
      → InFirst (λ rows. HasHead rows level i) slots → slots_to_go n level places t i < length slots
      → Any (λ slot. HasHead slot.rows level i × Completes slot.rows slot.decision.matched level i) slots
  completes_by_then [] t places window waits short = absurd (omega arith)
  completes_by_then (slot ∷ slots) t places window waits short =
      let Done : DecidedSlot → Type 0 = λ s. HasHead s.rows level i × Completes s.rows s.decision.matched level i in
      let now = first_slot_by Moves n rounds t level places slot slots window in
      elim (Completes-or n slot.rows slot.decision.matched level i now.within i_in) [
        | inl done ↦ Any-here Done slot slots (waits, done)
        | inr rest ↦
            let fewer = fewer_in_slot t places slot now waits (λ done. rest.2 (done rest.0 rest.1)) in
            let Keeping : List Row → Type 0 = λ rows. (x : ℕ) → x < n → Keeps slot.decision.matched x (row_of slot.rows x) (row_of rows x) in
            Any-later Done slot slots
            (completes_by_then slots (t + 1) slot.decision.places (later_slots_by Moves n rounds t level places slot slots window keep)
            (InFirst-along Keeping (λ rows. HasHead rows level i)
            (λ rows keeps. (rest.0, ((keeps i i_in).multi level rest.0 rest.1 rest.2 rest.0).1 (rest.1, rest.2))) slots window.kept.0)
            (omega (arith, fewer)))
      ]

-- 2 * n slots are enough
pub completes_by : (Moves : Moving) (n rounds t level i : ℕ) (places : Places)
    (slots : List DecidedSlot) → KeepPointing Moves n level → PassHeads Moves n level → 0 < rounds → i < n → IsWindowBy Moves n rounds t level places slots
    → InFirst (λ rows. HasHead rows level i) slots
    → 2 * n ≤ length slots → Any (λ slot. HasHead slot.rows level i × Completes slot.rows slot.decision.matched level i) slots
completes_by Moves n rounds t level i places slots keep pass some i_in window waits long =
    let near = distance-lt n (shared_of places level) i window.pointing.shared in
    completes_by_then Moves n rounds level i keep pass some i_in slots t places window waits (omega (arith, near))

-- where pointers move as those of iSLIP do
pub completes_in_time : (n rounds t level i : ℕ) (places : Places) (slots : List DecidedSlot) → 0 < rounds → i < n → IsWindow n rounds t level places slots
    → InFirst (λ rows. HasHead rows level i) slots
    → 2 * n ≤ length slots → Any (λ slot. HasHead slot.rows level i × Completes slot.rows slot.decision.matched level i) slots
completes_in_time n rounds t level i places slots = completes_by AreMoved n rounds t level i places slots (AreMoved-keep n level) (AreMoved-pass n level)
