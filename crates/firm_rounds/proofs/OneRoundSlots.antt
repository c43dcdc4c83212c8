-- A slot of one round under FIRM, in which one input asks output 0 and one output beside it, and input 0
-- asks output 0: what it serves, and how pointers move.
use Rattle.std.proofs.Common.{◌≡◌, ℕ, ◌+◌, ◌%◌, ◌<◌, ◌⊎◌, ◌∙◌, List, Option, refl, sym, subst, inl, inr, arith}
use Rattle.rotating_pick.specs.declared.kinds.Kind.{Kind}
use Rattle.rotating_pick.specs.declared.kinds.Kind.TheVariants.{Uni}
use Rattle.slot_match.specs.declared.matching.Fed.{Fed}
use Rattle.slot_match.specs.Matches.{unmatched, Serves}
use Rattle.pointer_state.specs.Places.{Places, ArePointing, grant_of, accept_of}
use Rattle.eslip_rounds.specs.Slots.{Decision}
use Rattle.eslip_rounds.specs.Rounds.{Grants}
use Rattle.service_bound.proofs.FirstRound.{grants_first}
use Rattle.service_bound.proofs.Granting.{kind_is_first}
use Rattle.service_bound.proofs.LaterRounds.{first_of, BeginsWith, BeginsWith-slot}
use Rattle.service_bound.proofs.OneRound.{one_is_first}
use Rattle.service_bound.proofs.Postings.{Posting, rows_of, posted, names, AreWithin-rows, IsClean-rows, IsWithoutMulticast-rows}
use Rattle.service_bound.proofs.PostedSlots.{Suits, IsOutcome, outcome}
use Rattle.service_bound.proofs.PostedRuns.{IsSwitch, IsServing}
use Rattle.service_bound.proofs.Descents.{lowers}
use Rattle.firm_rounds.specs.Slots.{AreMovedByFirm, IsFirmSlot}
use Rattle.firm_rounds.specs.Decisions.{firm_decision}
use Rattle.firm_rounds.proofs.Computed.{IsFirmSlot-firm_decision, AreAtPorts-firm_decision}

-- what the slot of a posting decides
abbrev pub decided : ℕ → ℕ → Places → Posting → Decision
decided n t places p = firm_decision n 1 t (rows_of n p) places

-- a slot of the posting, whatever it is
now : (n t : ℕ) (places : Places) (p : Posting) → IsSwitch n places → IsFirmSlot n 1 t (rows_of n p) places (decided n t places p)
now n t places p switch = IsFirmSlot-firm_decision n t (rows_of n p) places (AreWithin-rows n p) switch.at_ports switch.ports 1

pub slot_decided : (n t : ℕ) (places : Places) (p : Posting) → IsSwitch n places → IsFirmSlot n 1 t (rows_of n p) places (decided n t places p)
slot_decided = now

pub IsSwitch-after : (n t : ℕ) (places : Places) (p : Posting) → IsSwitch n places → IsSwitch n (decided n t places p).places
IsSwitch-after n t places p switch =
    let moved = (now n t places p switch).moved in
    record {
      at_ports = AreAtPorts-firm_decision n t (rows_of n p) places (AreWithin-rows n p) switch.at_ports switch.ports 1;
      ports = moved.ports ∙ switch.ports;
    }

module _ (n t : ℕ) (places : Places) (x y : ℕ) (switch : IsSwitch n places) (x_in : x < n) (y_in : y < n) (suits : Suits n places (lowers x y)) where
  slot : IsFirmSlot n 1 t (rows_of n (lowers x y)) places (decided n t places (lowers x y))
  slot = now n t places (lowers x y) switch

  First : List (Option Fed)
  First = first_of n slot.steps

  begins : BeginsWith n t (rows_of n (lowers x y)) places First (decided n t places (lowers x y)).matched
  unfolding First
  begins = BeginsWith-slot n t (rows_of n (lowers x y)) places AreMovedByFirm 1 (decided n t places (lowers x y)) (omega arith) slot

  moves : AreMovedByFirm n t (rows_of n (lowers x y)) First (decided n t places (lowers x y)).matched places (decided n t places (lowers x y)).places
  unfolding First
  moves = slot.moved

  first_is : First ≡ (decided n t places (lowers x y)).matched
  unfolding First
  first_is = one_is_first n slot.steps slot.count ∙ sym slot.result

  out : IsOutcome (lowers x y) First
  out = outcome n t (lowers x y) places switch.at_ports switch.ports x_in y_in (omega arith) (omega arith) (omega arith) suits First begins.opening

  -- the input takes the output beside, and no other pair is matched
  only : (i j level : ℕ) (kind : Kind) → Serves First i j level kind → (i ≡ x) × (j ≡ y)
  only i j level kind s = elim (out.only i j level kind s) [
    | inl pair ↦ pair
    | inr more ↦ elim more [ inl own ↦ let none = own.2 in absurd (omega arith) | inr other ↦ let none = other.2 in absurd (omega arith) ]
  ]

  pub serving : IsServing (lowers x y) (decided n t places (lowers x y)).matched
  serving = record {
    served = begins.stays x y 0 Uni out.served;
    also = λ own. absurd (omega arith);
    too = λ other. absurd (omega arith);
    none = λ other. refl;
  }

  pub left : (0 < y) ⊎ (0 < x) → Serves (decided n t places (lowers x y)).matched 0 0 0 Uni → ⊥
  left how s =
      let pair = only 0 0 0 Uni (subst (λ m. Serves m 0 0 0 Uni) (sym first_is) s) in
      let input = pair.0 in
      let output = pair.1 in
      elim how [ inl more ↦ omega arith | inr more ↦ omega arith ]

  -- output 0 grants the input
  granted : Grants n t (rows_of n (lowers x y)) places (unmatched n) x 0 0 Uni
  granted =
      let p = lowers x y in
      let pointing : ArePointing n 0 places = subst (λ m. ArePointing m 0 places) switch.ports (switch.at_ports.pointing 0 (omega arith)) in
      grants_first n t (rows_of n p) places 0 (omega arith) (IsClean-rows n p) Uni
      (kind_is_first n t 0 (rows_of n p) First places (omega arith) begins.opening pointing (IsClean-rows n p) (IsWithoutMulticast-rows n p)) x 0
      (omega arith)
      (record {
        below = x_in;
        member = names n p x 0 x_in (omega arith) (inl (refl, inl refl));
        least = λ z z_in named. suits.first z z_in (posted n p z 0 0 Uni z_in named).3;
      })

  -- where it is refused, its pointer stays at the input, and else it goes one beyond
  pub refused : 0 < y → grant_of (decided n t places (lowers x y)).places 0 0 ≡ x
  refused some = moves.held x 0 0 (
    granted,
    λ accepted. let pair = only x 0 0 Uni ((begins.opening.pairs x 0 0 Uni).1 (inr accepted)) in let output =
        pair.1 in omega arith,
  )

  pub passed : y ≡ 0 → grant_of (decided n t places (lowers x y)).places 0 0 ≡ (x + 1) % n
  passed none = subst (λ v. grant_of (decided n t places (lowers x y)).places v 0 ≡ (x + 1) % n) none (moves.granted x y 0 out.served)

  pub accepts : accept_of (decided n t places (lowers x y)).places x 0 ≡ (y + 1) % n
  accepts = moves.accepted x y 0 out.served

  pub accept_stays : (i : ℕ) → (i ≡ x → ⊥) → accept_of (decided n t places (lowers x y)).places i 0 ≡ accept_of places i 0
  accept_stays i other = moves.accept_stays i 0 (λ j s. other (only i j 0 Uni s).0)
