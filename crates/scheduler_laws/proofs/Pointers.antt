-- Where the pointers of queue (0, 0) are before each slot of a cycle, and that they come round.
use Rattle.std.proofs.Common.{◌≡◌, ℕ, ◌+◌, ◌%◌, ◌<◌, ◌≤◌, ◌∙◌, sym, ap, inl, inr, arith}
use Rattle.std.proofs.Math.Nat.{mod-eq_of_lt}
use Rattle.std.proofs.lemmas.Bool.{cases_eq}
use Rattle.std.proofs.lemmas.Nat.{mod_below}
use Rattle.slot_match.specs.Rows.{AreWithin}
use Rattle.pointer_state.specs.Places.{Places, ArePointing, grant_of, accept_of}
use Rattle.eslip_rounds.specs.Slots.{Moving, IsSlotBy}
use Rattle.eslip_rounds.specs.Schedules.{DecidedSlot}
use Rattle.scheduler_laws.specs.Growth.{cycle}
use Rattle.scheduler_laws.proofs.Counting.{next_place}
use Rattle.scheduler_laws.proofs.GrowingTurns.{IsPair, input_at, output_at, pair_at}
use Rattle.scheduler_laws.proofs.OneSlot.{MovePairs, AskFor, ArePointedAt, pointing_after, grant_moves, accept_moves, accept_stays}

-- In slots 1 to n - 1 of a cycle output 0 points at the input that the slot serves, and input 0 at output 1; in the slots
-- after them input 0 points at the output that the slot serves. In slot 0 all pointers will do.
pub record AreTurned (n s : ℕ) (places : Places) : Type 0 where
  pub pointing : ArePointing n 0 places
  pub low : 0 < s → s < n → (grant_of places 0 0 ≡ s) × (accept_of places 0 0 ≡ 1)
  pub high : n ≤ s → accept_of places 0 0 + n ≡ s + 1

-- so they point at the pair of the slot
pub pointed_at : (n s a b : ℕ) (places : Places) → 1 < n → s < cycle n → IsPair n s a b → AreTurned n s places → ArePointedAt n a b places
pointed_at n s a b places more s_in (inl low) turned =
    let is = low.1 in
    let none = low.2 in
    record {
      input_in = let below = low.0 in omega arith;
      output_in = omega arith;
      line = inl none;
      pointing = turned.pointing;
      grant = λ some. (turned.low (omega arith) low.0).0 ∙ sym is;
      accept = λ some. omega arith;
    }
pointed_at n s a b places more s_in (inr high) turned =
    let none = high.1 in
    let is = high.2 in
    record {
      input_in = omega arith;
      output_in = omega arith;
      line = inr none;
      pointing = turned.pointing;
      grant = λ some. omega arith;
      accept = λ some. let there = turned.high high.0 in omega arith;
    }

module _ (Moves : Moving) (pairs : MovePairs Moves) (n rounds t : ℕ) (places : Places) (slot : DecidedSlot) (more : 1 < n) (some : 0 < rounds)
    (turned : AreTurned n (t % cycle n) places) (within : AreWithin n slot.rows)
    (asks : AskFor n (input_at n (t % cycle n)) (output_at n (t % cycle n)) slot.rows)
    (decided : IsSlotBy Moves n rounds t slot.rows places slot.decision) where
  abbrev s : ℕ
  s = t % cycle n

  abbrev a : ℕ
  a = input_at n (t % cycle n)

  abbrev b : ℕ
  b = output_at n (t % cycle n)

  pub pair : IsPair n (t % cycle n) (input_at n (t % cycle n)) (output_at n (t % cycle n))
  pair = pair_at n (t % cycle n) (omega arith)

  pub pointed : ArePointedAt n (input_at n (t % cycle n)) (output_at n (t % cycle n)) places
  pointed = pointed_at n s a b places more (mod_below t (cycle n) (omega arith)) pair turned

  grant_after : grant_of slot.decision.places b 0 ≡ (a + 1) % n
  grant_after = grant_moves Moves pairs n rounds t a b places slot some pointed within asks decided

  accept_after : accept_of slot.decision.places a 0 ≡ (b + 1) % n
  accept_after = accept_moves Moves pairs n rounds t a b places slot some pointed within asks decided

  -- the pointers before the next slot
  pub turned_after : AreTurned n ((t + 1) % cycle n) slot.decision.places
  turned_after =
      let next = next_place (cycle n) t (omega arith) in
      let pointing = pointing_after Moves pairs n rounds t a b places slot some pointed within asks decided in
      elim pair [
        | inl low ↦
            let input : a ≡ s = low.1 in
            let output : b ≡ 0 = low.2 in
            let moved : (t + 1) % cycle n ≡ s + 1 = elim next [ inl on ↦ on.1 | inr round ↦ let e = round.0 in let below = low.0 in absurd (omega arith) ] in
            let grant : grant_of slot.decision.places 0 0 ≡ (s + 1) % n =
            ap (λ j. grant_of slot.decision.places j 0) (sym output) ∙ grant_after ∙ ap (λ i. (i + 1) % n) input in
            let accept : accept_of slot.decision.places 0 0 ≡ 1 = elim (cases_eq a 0) [
              | inl zero ↦ ap (λ i. accept_of slot.decision.places i 0) (sym zero) ∙ accept_after ∙ ap (λ j. (j + 1) % n) output ∙ mod-eq_of_lt (omega arith)
              | inr above ↦
                  accept_stays Moves pairs n rounds t a b places slot some pointed within asks decided (omega arith) ∙ (turned.low (omega arith) low.0).1
            ] in
            record {
              pointing = pointing;
              low = λ some below. (grant ∙ mod-eq_of_lt (omega arith) ∙ sym moved, accept);
              high = λ above. let below = low.0 in omega arith;
            }
        | inr high ↦
            let accept : accept_of slot.decision.places 0 0 ≡ (b + 1) % n =
            ap (λ i. accept_of slot.decision.places i 0) (sym high.1) ∙ accept_after in
            let late = high.0 in
            let is = high.2 in
            record {
              pointing = pointing;
              low = λ some below. elim next [ inl on ↦ let moved = on.1 in absurd (omega arith) | inr round ↦ let moved = round.1 in absurd (omega arith) ];
              high = λ above. elim next [
                | inl on ↦
                    let room = on.0 in
                    let moved = on.1 in
                    let one_on : (b + 1) % n ≡ b + 1 = mod-eq_of_lt (omega arith) in
                    omega arith
                | inr round ↦ let moved = round.1 in absurd (omega arith)
              ];
            }
      ]
