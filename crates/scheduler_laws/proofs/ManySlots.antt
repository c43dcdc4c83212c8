-- What a slot of a plan decides in some rounds: the first round serves the pairs of the plan, and moves the pointers; the
-- second may serve one pair more.
use Rattle.std.proofs.Common.{◌≡◌, ℕ, ◌+◌, ◌%◌, ◌<◌, ◌∙◌, List, Option, refl, sym, subst, arith}
use Rattle.rotating_pick.specs.declared.kinds.Kind.{Kind}
use Rattle.rotating_pick.specs.declared.kinds.Kind.TheVariants.{Uni}
use Rattle.slot_match.specs.declared.matching.Fed.{Fed}
use Rattle.slot_match.specs.Rows.{Names, row_of}
use Rattle.slot_match.specs.Matches.{Serves, IsMatch}
use Rattle.pointer_state.specs.Places.{Places, grant_of, accept_of}
use Rattle.eslip_rounds.specs.Slots.{Decision, AreMoved, IsSlot}
use Rattle.eslip_rounds.specs.Decisions.{decision_of}
use Rattle.eslip_rounds.proofs.Running.{once_unicast}
use Rattle.eslip_rounds.proofs.Settling.{IsSlot-decision_of, AreAtPorts-decision_of}
use Rattle.eslip_rounds.proofs.Unique.{IsMatch-slot, Serves-named_by}
use Rattle.service_bound.proofs.LaterRounds.{first_of, BeginsWith, BeginsWith-slot}
use Rattle.service_bound.proofs.PostedRuns.{IsSwitch}
use Rattle.scheduler_laws.proofs.Plans.{In, IsServing, IsServingOthers, Each, Plan, asked, rows_of, AreWithin-rows}
use Rattle.scheduler_laws.proofs.PlannedSlots.{Suits, served_it, only_it}
use Rattle.scheduler_laws.proofs.SecondRounds.{IsSettled, serving_settled, IsSecond, serves_second}

-- what the slot of a plan decides in some rounds
abbrev pub decided_in : ℕ → ℕ → ℕ → Places → Plan → Decision
decided_in rounds n t places p = decision_of n rounds t (rows_of n p) places

-- The slot serves the pairs of the plan, and no others where these leave nothing to serve; it moves their pointers alone.
pub record IsManyStep (rounds n t : ℕ) (places : Places) (p : Plan) : Type 0 where
  pub serves : (i j : ℕ) → In i j p.serves → Serves (decided_in rounds n t places p).matched i j 0 Uni
  pub serving : Each (IsSettled p) (asked p) → IsServing p (decided_in rounds n t places p).matched
  pub granted : (i j : ℕ) → In i j p.serves → grant_of (decided_in rounds n t places p).places j 0 ≡ (i + 1) % n
  pub accepted : (i j : ℕ) → In i j p.serves → accept_of (decided_in rounds n t places p).places i 0 ≡ (j + 1) % n
  pub grant_stays : (j : ℕ) → ((i : ℕ) → In i j p.serves → ⊥) → grant_of (decided_in rounds n t places p).places j 0 ≡ grant_of places j 0
  pub accept_stays : (i : ℕ) → ((j : ℕ) → In i j p.serves → ⊥) → accept_of (decided_in rounds n t places p).places i 0 ≡ accept_of places i 0

-- a slot of the plan, whatever it is
pub slot_decided_in : (rounds n t : ℕ) (places : Places) (p : Plan) → IsSwitch n places
    → IsSlot n rounds t (rows_of n p) places (decided_in rounds n t places p)
slot_decided_in rounds n t places p switch = IsSlot-decision_of n t (rows_of n p) places (AreWithin-rows n p) switch.at_ports switch.ports rounds

-- after the slot the pointers are at ports again
pub IsSwitch-after_in : (rounds n t : ℕ) (places : Places) (p : Plan) → IsSwitch n places → IsSwitch n (decided_in rounds n t places p).places
IsSwitch-after_in rounds n t places p switch =
    record {
      at_ports = AreAtPorts-decision_of n t (rows_of n p) places (AreWithin-rows n p) switch.at_ports switch.ports rounds;
      ports = (slot_decided_in rounds n t places p switch).moved.ports ∙ switch.ports;
    }

module _ (rounds n t : ℕ) (places : Places) (p : Plan) (some : 0 < n) (switch : IsSwitch n places) (suits : Suits n places p) (some_rounds : 0 < rounds) where
  -- the slot
  now : IsSlot n rounds t (rows_of n p) places (decided_in rounds n t places p)
  now = slot_decided_in rounds n t places p switch

  -- what its first round matches
  First : List (Option Fed)
  First = first_of n now.steps

  -- the slot begins with that round
  begins : BeginsWith n t (rows_of n p) places First (decided_in rounds n t places p).matched
  unfolding First
  begins = BeginsWith-slot n t (rows_of n p) places AreMoved rounds (decided_in rounds n t places p) some_rounds now

  -- how it moves the pointers
  moves : AreMoved n t (rows_of n p) First (decided_in rounds n t places p).matched places (decided_in rounds n t places p).places
  unfolding First
  moves = now.moved

  -- the first round serves the pairs of the plan
  served : (i j : ℕ) → In i j p.serves → Serves First i j 0 Uni
  served = served_it n t p places some switch suits First begins.opening

  -- and no others
  only : (i j level : ℕ) (kind : Kind) → Serves First i j level kind → In i j p.serves
  only = only_it n t p places some switch suits First begins.opening

  -- the match is one
  whole : IsMatch n (decided_in rounds n t places p).matched
  whole = IsMatch-slot n rounds t (rows_of n p) places (AreWithin-rows n p) switch.at_ports switch.ports (decided_in rounds n t places p) now

  -- it serves no others than the pairs of a plan of these rows, where it serves these and they leave nothing to serve
  pub serving_by : (q : Plan) → rows_of n q ≡ rows_of n p → ((i j : ℕ) → In i j q.serves → Serves (decided_in rounds n t places p).matched i j 0 Uni)
      → Each (IsSettled q) (asked q) → IsServing q (decided_in rounds n t places p).matched
  serving_by q same serves = serving_settled n q (decided_in rounds n t places p).matched whole
      (λ i j level kind s. subst (λ rows. Names (row_of rows i) level kind j) (sym same)
      (Serves-named_by AreMoved n rounds t (rows_of n p) places (decided_in rounds n t places p) now i j level kind s)) serves

  -- where the pointers suit the plan
  pub many_step_of : IsManyStep rounds n t places p
  many_step_of = record {
    serves = λ i j is. begins.stays i j 0 Uni (served i j is);
    serving = serving_by p refl (λ i j is. begins.stays i j 0 Uni (served i j is));
    granted = λ i j is. moves.granted i j 0 (served i j is);
    accepted = λ i j is. moves.accepted i j 0 (served i j is);
    grant_stays = λ j nobody. moves.grant_stays j 0 (λ i s. nobody i (only i j 0 Uni s));
    accept_stays = λ i nothing. moves.accept_stays i 0 (λ j s. nothing j (only i j 0 Uni s));
  }

  -- queue (0, 0) is not served where input 0 takes another output
  pub serving_others : (y : ℕ) → 0 < y → In 0 y p.serves → Each (IsSettled p) (asked p) → IsServingOthers p (decided_in rounds n t places p).matched
  serving_others y more is settled = record {
    serving = many_step_of.serving settled;
    left = λ s. let e = once_unicast n (decided_in rounds n t places p).matched whole 0 y 0 0 (begins.stays 0 y 0 Uni (served 0 y is)) s in omega arith;
  }

  -- the second round serves input w and output j
  pub served_second : 1 < rounds → (w j : ℕ) → IsSecond n places p w j → Serves (decided_in rounds n t places p).matched w j 0 Uni
  served_second more = serves_second AreMoved rounds n t places p (decided_in rounds n t places p) some switch suits more now
