-- From all pointers at port 0 the slots of those postings go on for ever, and queue (1, 0) is never served.
use Rattle.std.proofs.Common.{◌≡◌, ℕ, zero, suc, ◌+◌, ◌-◌, ◌<◌, ◌≤◌, List, [], ◌∷◌, length, refl, ap, inl, arith}
use Rattle.std.proofs.lemmas.List.Elements.{All-nil, All-cons}
use Rattle.rotating_pick.specs.declared.kinds.Kind.TheVariants.{Uni}
use Rattle.rotating_pick.specs.declared.limits.TheConstants.{MAX_PORTS}
use Rattle.slot_match.specs.Rows.{Names, row_of, AreWithin}
use Rattle.slot_match.specs.Matches.{Serves}
use Rattle.pointer_state.specs.Places.{Places, places_at_first}
use Rattle.pointer_state.proofs.Moves.{AreAtPorts-at_first}
use Rattle.pointer_state.proofs.Tables.{place_of-at_first}
use Rattle.eslip_rounds.specs.Schedules.{DecidedSlot}
use Rattle.service_bound.specs.Windows.{IsClean, IsWithoutMulticast, AreKept, AreAtLineRate}
use Rattle.service_bound.proofs.Postings.{names, AreWithin-rows, IsClean-rows, IsWithoutMulticast-rows}
use Rattle.rrm_rounds.specs.Starving.{IsStarved}
use Rattle.rrm_rounds.proofs.StarvingSlots.{beside, slot_at, IsTurn, slot_decided, pointing, left, turn_after, keeps, gains_one}

-- so many slots, of which the first is of the posting of output b
run : ℕ → ℕ → ℕ → Places → ℕ → ℕ → List DecidedSlot
run n rounds t places b zero = []
run n rounds t places b (suc count) = slot_at n rounds t places b ∷ run n rounds (t + 1) (slot_at n rounds t places b).decision.places (3 - b) count

length-run : (n rounds t : ℕ) (places : Places) (b count : ℕ) → length (run n rounds t places b count) ≡ count
unfolding run
length-run n rounds t places b zero = refl
length-run n rounds t places b (suc count) = ap suc (length-run n rounds (t + 1) (slot_at n rounds t places b).decision.places (3 - b) count)

module _ (n rounds : ℕ) (some : 0 < rounds) (more : 2 < n) where
  kept : (t b count : ℕ) (places : Places) → IsTurn n places b → (later : ℕ) (rest : Places) → AreKept n (run n rounds later rest (3 - b) count)
      → AreKept n (slot_at n rounds t places b ∷ run n rounds later rest (3 - b) count)
  unfolding run
  kept t b zero places ready later rest on = (tt, on)
  kept t b (suc count) places ready later rest on = (keeps n rounds t b places some more ready (3 - b), on)

  paced : (t b count : ℕ) (places : Places) (later : ℕ) (rest : Places) → AreAtLineRate n 0 (run n rounds later rest (3 - b) count)
      → AreAtLineRate n 0 (slot_at n rounds t places b ∷ run n rounds later rest (3 - b) count)
  unfolding run
  paced t b zero places later rest on = (tt, on)
  paced t b (suc count) places later rest on = (gains_one n b (3 - b) more, on)

  starved : (count t b : ℕ) (places : Places) → IsTurn n places b → IsStarved n rounds t 1 0 0 places (run n rounds t places b count)
  unfolding run
  starved zero t b places ready = record {
    window = record {
      pointing = pointing n rounds t b places some more ready;
      schedule = tt;
      within = All-nil (λ slot. AreWithin n slot.rows);
      kept = tt;
      clean = All-nil (λ slot. IsClean n 0 slot.rows);
    };
    alone = All-nil (λ slot. IsWithoutMulticast n 0 slot.rows);
    paced = tt;
    posted = All-nil (λ slot. Names (row_of slot.rows 1) 0 Uni 0);
    never = All-nil (λ slot. Serves slot.decision.matched 1 0 0 Uni → ⊥);
  }
  starved (suc count) t b places ready =
      let slot = slot_at n rounds t places b in
      let slots = run n rounds (t + 1) slot.decision.places (3 - b) count in
      let rest = starved count (t + 1) (3 - b) slot.decision.places (turn_after n rounds t b places some more ready) in
      record {
        window = record {
          pointing = pointing n rounds t b places some more ready;
          schedule = (slot_decided n rounds t b places some more ready, rest.window.schedule);
          within = All-cons (λ x. AreWithin n x.rows) slot slots (AreWithin-rows n (beside b)) rest.window.within;
          kept = kept t b count places ready (t + 1) slot.decision.places rest.window.kept;
          clean = All-cons (λ x. IsClean n 0 x.rows) slot slots (IsClean-rows n (beside b)) rest.window.clean;
        };
        alone = All-cons (λ x. IsWithoutMulticast n 0 x.rows) slot slots (IsWithoutMulticast-rows n (beside b)) rest.alone;
        paced = paced t b count places (t + 1) slot.decision.places rest.paced;
        posted = All-cons (λ x. Names (row_of x.rows 1) 0 Uni 0) slot slots (names n (beside b) 1 0 (omega arith) (omega arith) (inl (refl, inl refl)))
            rest.posted;
        never = All-cons (λ x. Serves x.decision.matched 1 0 0 Uni → ⊥) slot slots (left n rounds t b places some more ready) rest.never;
      }

-- as many slots as one wants
pub starves : (n rounds t count : ℕ) → 3 ≤ n → n ≤ MAX_PORTS → 0 < rounds
    → (slots : List DecidedSlot) × IsStarved n rounds t 1 0 0 (places_at_first n) slots × (length slots ≡ count)
unfolding places_at_first
starves n rounds t count three size some =
    let ready : IsTurn n (places_at_first n) 1 = record {
      at_ports = AreAtPorts-at_first n (omega arith) size;
      ports = refl;
      turn = inl (refl, inl (place_of-at_first 0 0));
    } in (
      run n rounds t (places_at_first n) 1 count,
      starved n rounds some (omega arith) count t 1 (places_at_first n) ready,
      length-run n rounds t
          (places_at_first n) 1 count,
    )
