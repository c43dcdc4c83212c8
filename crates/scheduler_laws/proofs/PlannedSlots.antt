-- What a slot of a plan decides in one round: the pairs of the plan, where the pointers suit it.
use Rattle.std.proofs.Common.{◌≡◌, ℕ, ◌+◌, ◌%◌, ◌<◌, ◌≤◌, ◌⊎◌, ◌∙◌, List, Option, refl, sym, subst, inl, inr, arith}
use Rattle.rotating_pick.specs.Rotation.{distance, IsFirstFrom}
use Rattle.rotating_pick.specs.declared.kinds.Kind.{Kind}
use Rattle.rotating_pick.specs.declared.kinds.Kind.TheVariants.{Uni}
use Rattle.rotating_pick.specs.declared.limits.TheConstants.{LEVELS}
use Rattle.rotating_pick.proofs.First.{IsFirstFrom-only}
use Rattle.slot_match.specs.declared.matching.Fed.{Fed}
use Rattle.slot_match.specs.Rows.{Names, row_of}
use Rattle.slot_match.specs.Matches.{unmatched, Serves, IsMatch}
use Rattle.slot_match.proofs.Kept.{nobody_at_first, IsMatch-unmatched}
use Rattle.slot_match.proofs.Pairs.{Serves-once}
use Rattle.pointer_state.specs.Places.{Places, ArePointing, grant_of, accept_of}
use Rattle.eslip_rounds.specs.Slots.{Decision, AreMoved, IsSlot}
use Rattle.eslip_rounds.specs.Rounds.{Grants, IsRound}
use Rattle.eslip_rounds.specs.Decisions.{decision_of}
use Rattle.eslip_rounds.proofs.Bests.{taken_from}
use Rattle.eslip_rounds.proofs.Matching.{IsMatch-round}
use Rattle.eslip_rounds.proofs.Running.{once_unicast}
use Rattle.eslip_rounds.proofs.Settling.{IsSlot-decision_of, AreAtPorts-decision_of}
use Rattle.service_bound.proofs.FirstRound.{grants_first, first_granted, asks_at_first}
use Rattle.service_bound.proofs.Granting.{kind_is_first, served_by_first}
use Rattle.service_bound.proofs.LaterRounds.{first_of, BeginsWith, BeginsWith-slot}
use Rattle.service_bound.proofs.OneRound.{one_is_first}
use Rattle.service_bound.proofs.PostedRuns.{IsSwitch}
use Rattle.scheduler_laws.proofs.Plans.{In, IsServing, Each, each, Plan, asked, rows_of, posted, names, AreWithin-rows, IsClean-rows, IsWithoutMulticast-rows}

-- input i and output j are of the switch, and the input asks it
abbrev pub IsPlaced : ℕ → Plan → ℕ → ℕ → Type 0
IsPlaced n p i j = (i < n) × (j < n) × In i j (asked p)

-- input i is no farther from output j's pointer than input z, where that asks it
abbrev pub IsNear : ℕ → Places → ℕ → ℕ → ℕ → ℕ → Type 0
IsNear n places i j z y = y ≡ j → distance n (grant_of places j 0) i ≤ distance n (grant_of places j 0) z

-- another input that asks output j is nearer to its pointer than input i
abbrev pub IsPassed : ℕ → Places → Plan → ℕ → ℕ → Type 0
IsPassed n places p i j = (w : ℕ) × (w < n) × In w j (asked p) × distance n (grant_of places j 0) w < distance n (grant_of places j 0) i

-- output j is no farther from input i's pointer than output y, where the input asks that and it does not grant another
abbrev pub IsTaken : ℕ → Places → Plan → ℕ → ℕ → ℕ → ℕ → Type 0
IsTaken n places p i j z y = z ≡ i → (distance n (accept_of places i 0) j ≤ distance n (accept_of places i 0) y) ⊎ IsPassed n places p i y

-- no input that asks output j is nearer to its pointer than input i
abbrev pub AreNear : ℕ → Places → Plan → ℕ → ℕ → Type 0
AreNear n places p i j = Each (IsNear n places i j) (asked p)

-- no output that grants input i is nearer to its pointer than output j
abbrev pub AreTaken : ℕ → Places → Plan → ℕ → ℕ → Type 0
AreTaken n places p i j = Each (IsTaken n places p i j) (asked p)

-- input i or output j is served, or the output grants another
abbrev pub IsDone : ℕ → Places → Plan → ℕ → ℕ → Type 0
IsDone n places p i j = ((y : ℕ) × In i y p.serves) ⊎ (((z : ℕ) × In z j p.serves) ⊎ IsPassed n places p i j)

-- The pointers suit the plan: each of its pairs is asked for, granted and accepted, and no other request can be served.
pub record Suits (n : ℕ) (places : Places) (p : Plan) : Type 0 where
  pub placed : Each (IsPlaced n p) p.serves
  pub near : Each (AreNear n places p) p.serves
  pub taken : Each (AreTaken n places p) p.serves
  pub done : Each (IsDone n places p) (asked p)

module _ (n t : ℕ) (p : Plan) (places : Places) (some : 0 < n) (switch : IsSwitch n places) (suits : Suits n places p) (first : List (Option Fed))
    (opening : IsRound n t (rows_of n p) places (unmatched n) first) where
  -- level 0 is a level
  level_in : 0 < LEVELS
  level_in = omega arith

  -- its pointers are at ports
  pointing : ArePointing n 0 places
  pointing = subst (λ m. ArePointing m 0 places) switch.ports (switch.at_ports.pointing 0 level_in)

  -- the output grants the input in the first round
  Granted : ℕ → ℕ → Type 0
  Granted i j = Grants n t (rows_of n p) places (unmatched n) i j 0 Uni

  -- the input asks the output
  Asked : ℕ → ℕ → Type 0
  Asked j x = Names (row_of (rows_of n p) x) 0 Uni j

  -- an output grants the first input from its pointer on that asks it
  grants_it : (i j : ℕ) → j < n → IsFirstFrom n (grant_of places j 0) (Asked j) i → Granted i j
  unfolding Granted Asked
  grants_it i j j_in nearest =
      grants_first n t (rows_of n p) places 0 level_in (IsClean-rows n p) Uni
      (kind_is_first n t 0 (rows_of n p) first places level_in opening pointing (IsClean-rows n p) (IsWithoutMulticast-rows n p)) i j j_in nearest

  -- and no other
  is_first : (i j : ℕ) → Granted i j → IsFirstFrom n (grant_of places j 0) (Asked j) i
  unfolding Granted Asked
  is_first i j granted = first_granted n t (rows_of n p) places 0 level_in (IsClean-rows n p) Uni
      (kind_is_first n t 0 (rows_of n p) first places level_in opening pointing (IsClean-rows n p) (IsWithoutMulticast-rows n p)) i j granted

  -- what the plan has is asked
  asks_it : (j i : ℕ) → i < n → j < n → In i j (asked p) → Asked j i
  unfolding Asked
  asks_it j i i_in j_in is = names n p i j i_in j_in is

  -- and nothing else is
  asked_is : (j i : ℕ) → i < n → Asked j i → In i j (asked p)
  unfolding Asked
  asked_is j i i_in named = (posted n p i j 0 Uni i_in named).3

  -- an input that is granted is served by the first such output
  serves_first : (h j : ℕ) → Granted h j → (y : ℕ) × IsFirstFrom n (accept_of places h 0) (Granted h) y × Serves first h y 0 Uni
  unfolding Granted
  serves_first h j granted =
      served_by_first n t 0 (rows_of n p) first places level_in opening pointing (IsClean-rows n p)
      (IsWithoutMulticast-rows n p) h j granted.first.below granted

  -- an output that grants is one of the switch
  output_is : (i j : ℕ) → Granted i j → j < n
  unfolding Granted
  output_is i j granted = granted.output_in

  -- what is served was granted
  serves_granted : (i j : ℕ) → Serves first i j 0 Uni → Granted i j
  unfolding Granted
  serves_granted i j served = elim ((opening.pairs i j 0 Uni).0 served) [
    | inl old ↦ absurd (nobody_at_first n i j 0 Uni old)
    | inr accepted ↦ accepted.taken.member
  ]

  -- an output does not grant an input where another that asks it is nearer
  not_passed : (i j : ℕ) → Granted i j → IsPassed n places p i j → ⊥
  not_passed i j granted passed =
      let least = (is_first i j granted).least passed.0 passed.1 (asks_it j passed.0 passed.1 (output_is i j granted) passed.2) in
      let less = passed.3 in
      omega arith

  -- an input that is no farther from the pointer of an output that it asks than the others that ask it is granted
  nearest_granted : (i j : ℕ) → IsPlaced n p i j → AreNear n places p i j → Granted i j
  nearest_granted i j at nearest =
      grants_it i j at.1 (record {
        below = at.0;
        member = asks_it j i at.0 at.1 at.2;
        least = λ z z_in named. each (IsNear n places i j) (asked p) nearest z j (asked_is j z z_in named) refl;
      })

  -- the same by its definition
  pub grants_nearest : (i j : ℕ) → IsPlaced n p i j → AreNear n places p i j → Grants n t (rows_of n p) places (unmatched n) i j 0 Uni
  unfolding Granted
  grants_nearest i j at nearest = nearest_granted i j at nearest

  -- a pair of the plan is granted
  granted_it : (i j : ℕ) → In i j p.serves → Granted i j
  granted_it i j is = nearest_granted i j (each (IsPlaced n p) p.serves suits.placed i j is) (each (AreNear n places p) p.serves suits.near i j is)

  -- and accepted
  takes_it : (i j : ℕ) → In i j p.serves → IsFirstFrom n (accept_of places i 0) (Granted i) j
  takes_it i j is =
      let at = each (IsPlaced n p) p.serves suits.placed i j is in
      let taken = each (AreTaken n places p) p.serves suits.taken i j is in
      record {
        below = at.1;
        member = granted_it i j is;
        least = λ y y_in granted. elim (each (IsTaken n places p i j) (asked p) taken i y (asked_is y i at.0 (is_first i y granted).member) refl) [
          | inl near ↦ near
          | inr passed ↦ absurd (not_passed i y granted passed)
        ];
      }

  -- and served
  pub served_it : (i j : ℕ) → In i j p.serves → Serves first i j 0 Uni
  served_it i j is =
      let at = each (IsPlaced n p) p.serves suits.placed i j is in
      let met = serves_first i j (granted_it i j is) in
      let same : met.0 ≡ j = IsFirstFrom-only n (accept_of places i 0) (Granted i) met.0 j (pointing.accept i at.0) met.1 (takes_it i j is) in
      subst (λ y. Serves first i y 0 Uni) same met.2

  -- the match is one
  whole : IsMatch n first
  whole = IsMatch-round n t (rows_of n p) places switch.at_ports switch.ports (unmatched n) first (IsMatch-unmatched n) opening

  -- what is served was asked
  named_first : (i j level : ℕ) (kind : Kind) → Serves first i j level kind → Names (row_of (rows_of n p) i) level kind j
  named_first i j level kind s = elim ((opening.pairs i j level kind).0 s) [
    | inl old ↦ absurd (nobody_at_first n i j level kind old)
    | inr accepted ↦ (asks_at_first n (rows_of n p) i j level kind
        (taken_from kind n (accept_of places i level) (λ y. Grants n t (rows_of n p) places (unmatched n) i y level kind) j accepted.taken).first.member).named
  ]

  -- no other pair is served
  pub only_it : (i j level : ℕ) (kind : Kind) → Serves first i j level kind → In i j p.serves
  only_it i j level kind s =
      let is = posted n p i j level kind (whole.input_in i j level kind s) (named_first i j level kind s) in
      let served : Serves first i j 0 Uni = subst (λ k. Serves first i j 0 k) is.1 (subst (λ l. Serves first i j l kind) is.0 s) in
      elim (each (IsDone n places p) (asked p) suits.done i j is.3) [
        | inl mine ↦ subst (λ y. In i y p.serves) (sym (once_unicast n first whole i j mine.0 0 served (served_it i mine.0 mine.1))) mine.1
        | inr other ↦ elim other [
          | inl its ↦ subst (λ x. In x j p.serves) (sym (Serves-once first j i its.0 0 0 Uni Uni served (served_it its.0 j its.1)).0) its.1
          | inr passed ↦ absurd (not_passed i j (serves_granted i j served) passed)
        ]
      ]

-- what the slot of a plan decides
abbrev pub decided : ℕ → ℕ → Places → Plan → Decision
decided n t places p = decision_of n 1 t (rows_of n p) places

-- the slot of a plan serves its pairs and no others, and moves their pointers alone
pub record IsStep (n t : ℕ) (places : Places) (p : Plan) : Type 0 where
  pub serving : IsServing p (decided n t places p).matched
  pub granted : (i j : ℕ) → In i j p.serves → grant_of (decided n t places p).places j 0 ≡ (i + 1) % n
  pub accepted : (i j : ℕ) → In i j p.serves → accept_of (decided n t places p).places i 0 ≡ (j + 1) % n
  pub grant_stays : (j : ℕ) → ((i : ℕ) → In i j p.serves → ⊥) → grant_of (decided n t places p).places j 0 ≡ grant_of places j 0
  pub accept_stays : (i : ℕ) → ((j : ℕ) → In i j p.serves → ⊥) → accept_of (decided n t places p).places i 0 ≡ accept_of places i 0

-- a slot of the plan, whatever it is
pub slot_decided : (n t : ℕ) (places : Places) (p : Plan) → IsSwitch n places → IsSlot n 1 t (rows_of n p) places (decided n t places p)
slot_decided n t places p switch = IsSlot-decision_of n t (rows_of n p) places (AreWithin-rows n p) switch.at_ports switch.ports 1

-- after the slot the pointers are at ports again
pub IsSwitch-after : (n t : ℕ) (places : Places) (p : Plan) → IsSwitch n places → IsSwitch n (decided n t places p).places
IsSwitch-after n t places p switch =
    record {
      at_ports = AreAtPorts-decision_of n t (rows_of n p) places (AreWithin-rows n p) switch.at_ports switch.ports 1;
      ports = (slot_decided n t places p switch).moved.ports ∙ switch.ports;
    }

module _ (n t : ℕ) (places : Places) (p : Plan) (some : 0 < n) (switch : IsSwitch n places) (suits : Suits n places p) where
  -- the slot
  now : IsSlot n 1 t (rows_of n p) places (decided n t places p)
  now = slot_decided n t places p switch

  -- what its first round matches
  First : List (Option Fed)
  First = first_of n now.steps

  -- the slot begins with that round
  begins : BeginsWith n t (rows_of n p) places First (decided n t places p).matched
  unfolding First
  begins = BeginsWith-slot n t (rows_of n p) places AreMoved 1 (decided n t places p) (omega arith) now

  -- how it moves the pointers
  moves : AreMoved n t (rows_of n p) First (decided n t places p).matched places (decided n t places p).places
  unfolding First
  moves = now.moved

  -- with one round that is all of the match
  first_is : First ≡ (decided n t places p).matched
  unfolding First
  first_is = one_is_first n now.steps now.count ∙ sym now.result

  -- the first round serves the pairs of the plan
  served : (i j : ℕ) → In i j p.serves → Serves First i j 0 Uni
  served = served_it n t p places some switch suits First begins.opening

  -- and no others
  only : (i j level : ℕ) (kind : Kind) → Serves First i j level kind → In i j p.serves
  only = only_it n t p places some switch suits First begins.opening

  -- where the pointers suit the plan
  pub step_of : IsStep n t places p
  step_of = record {
    serving = record {
      serves = λ i j is. subst (λ m. Serves m i j 0 Uni) first_is (served i j is);
      only = λ i j level kind s. only i j level kind (subst (λ m. Serves m i j level kind) (sym first_is) s);
      asking = λ i j is. let at = each (IsPlaced n p) p.serves suits.placed i j is in at.2;
    };
    granted = λ i j is. moves.granted i j 0 (served i j is);
    accepted = λ i j is. moves.accepted i j 0 (served i j is);
    grant_stays = λ j nobody. moves.grant_stays j 0 (λ i s. nobody i (only i j 0 Uni s));
    accept_stays = λ i nothing. moves.accept_stays i 0 (λ j s. nothing j (only i j 0 Uni s));
  }
