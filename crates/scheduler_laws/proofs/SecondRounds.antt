-- What the rounds of a slot after the first serve, where the first serves the pairs of a plan, however pointers move: what
-- the second serves, and that they serve nothing where the pairs leave nothing to serve.
use Rattle.std.proofs.Common.{◌≡◌, ℕ, ◌<◌, ◌≤◌, ◌⊎◌, List, Option, None, Some, refl, sym, subst, inl, inr, arith}
use Rattle.rotating_pick.specs.Rotation.{distance, IsFirstFrom}
use Rattle.rotating_pick.specs.declared.kinds.Kind.{Kind}
use Rattle.rotating_pick.specs.declared.kinds.Kind.TheVariants.{Uni, Multi}
use Rattle.slot_match.specs.declared.matching.Fed.{Fed}
use Rattle.slot_match.specs.Rows.{Names, row_of}
use Rattle.slot_match.specs.Matches.{fed_of, Serves, IsMatch, IsFreeInput, IsFreeOutput}
use Rattle.slot_match.proofs.Pairs.{Serves-from, Serves-once}
use Rattle.pointer_state.specs.Places.{Places, grant_of, accept_of}
use Rattle.eslip_rounds.specs.Rounds.{Requests, Grants, Accepts, preferred}
use Rattle.eslip_rounds.specs.Slots.{Decision, Moving, IsSlotBy}
use Rattle.eslip_rounds.proofs.Running.{once_unicast}
use Rattle.service_bound.proofs.LaterRounds.{first_of, second_of, BeginsWith, BeginsWith-slot}
use Rattle.service_bound.proofs.PostedRuns.{IsSwitch}
use Rattle.scheduler_laws.proofs.Plans.{In, IsServing, Each, each, Plan, asked, rows_of, posted, names}
use Rattle.scheduler_laws.proofs.PlannedSlots.{Suits, served_it, only_it}

-- ---- where nothing is left
-- input i or output j is served
abbrev pub IsSettled : Plan → ℕ → ℕ → Type 0
IsSettled p i j = ((y : ℕ) × In i y p.serves) ⊎ ((z : ℕ) × In z j p.serves)

-- A match of the rows of a plan serves no others than its pairs, where it serves these and they leave nothing to serve.
pub serving_settled : (n : ℕ) (q : Plan) (matched : List (Option Fed)) → IsMatch n matched
    → ((i j level : ℕ) (kind : Kind) → Serves matched i j level kind → Names (row_of (rows_of n q) i) level kind j)
    → ((i j : ℕ) → In i j q.serves → Serves matched i j 0 Uni) → Each (IsSettled q) (asked q) → IsServing q matched
serving_settled n q matched whole named serves settled =
    let asked_it = λ (i j level : ℕ) (kind : Kind) (s : Serves matched i j level kind).
    posted n q i j level kind (whole.input_in i j level kind s) (named i j level kind s) in
    record {
      serves = serves;
      asking = λ i j is. (asked_it i j 0 Uni (serves i j is)).3;
      only = λ i j level kind s.
          let is = asked_it i j level kind s in
          let it : Serves matched i j 0 Uni = subst (λ k. Serves matched i j 0 k) is.1 (subst (λ l. Serves matched i j l kind) is.0 s) in
          elim (each (IsSettled q) (asked q) settled i j is.3) [
            | inl mine ↦ subst (λ y. In i y q.serves) (sym (once_unicast n matched whole i j mine.0 0 it (serves i mine.0 mine.1))) mine.1
            | inr its ↦ subst (λ x. In x j q.serves) (sym (Serves-once matched j i its.0 0 0 Uni Uni it (serves its.0 j its.1)).0) its.1
          ];
    }

-- ---- what the second round serves
-- an input that asks output j is served in the first round, or no nearer to its pointer than input w
abbrev pub IsNext : ℕ → Places → Plan → ℕ → ℕ → ℕ → ℕ → Type 0
IsNext n places p w j z y = y ≡ j → ((v : ℕ) × In z v p.serves) ⊎ (distance n (grant_of places j 0) w ≤ distance n (grant_of places j 0) z)

-- an output that input w asks is no nearer to its pointer than output j
abbrev pub IsAtHand : ℕ → Places → ℕ → ℕ → ℕ → ℕ → Type 0
IsAtHand n places w j z y = z ≡ w → distance n (accept_of places w 0) j ≤ distance n (accept_of places w 0) y

-- Input w asks output j, and neither is served in the first round. Of the inputs that are free after it and ask output j
-- none is nearer to its pointer, and of the outputs that input w asks none is nearer to its own.
pub record IsSecond (n : ℕ) (places : Places) (p : Plan) (w j : ℕ) : Type 0 where
  pub input_in : w < n
  pub output_in : j < n
  pub asks : In w j (asked p)
  pub input_free : (y : ℕ) → In w y p.serves → ⊥
  pub output_free : (i : ℕ) → In i j p.serves → ⊥
  pub next : Each (IsNext n places p w j) (asked p)
  pub at_hand : Each (IsAtHand n places w j) (asked p)

module _ (Moves : Moving) (rounds n t : ℕ) (places : Places) (p : Plan) (decision : Decision) (some : 0 < n) (switch : IsSwitch n places)
    (suits : Suits n places p) (more : 1 < rounds) (now : IsSlotBy Moves n rounds t (rows_of n p) places decision) where
  -- what the first round matches
  First : List (Option Fed)
  First = first_of n now.steps

  -- the slot begins with that round
  begins : BeginsWith n t (rows_of n p) places First decision.matched
  unfolding First
  begins = BeginsWith-slot n t (rows_of n p) places Moves rounds decision (omega arith) now

  -- it serves the pairs of the plan
  served : (i j : ℕ) → In i j p.serves → Serves First i j 0 Uni
  served = served_it n t p places some switch suits First begins.opening

  -- and no others
  only : (i j level : ℕ) (kind : Kind) → Serves First i j level kind → In i j p.serves
  only = only_it n t p places some switch suits First begins.opening

  -- a request of the second round is one of the plan, of a free input
  request_named : (x j level : ℕ) (kind : Kind) → Requests (rows_of n p) First x j level kind → x < n → IsFreeInput First x × (kind ≡ Uni) × In x j (asked p)
  request_named x j level kind r x_in = elim r [
    | inl free ↦ let named = posted n p x j level kind x_in free.1.named in (free.0, named.1, named.3)
    | inr on ↦ let kind = (posted n p x j level Multi x_in on.named).1 in absurd (cc)
  ]

  module _ (w j : ℕ) (second : IsSecond n places p w j) where
    Asking : ℕ → Type 0
    Asking x = Requests (rows_of n p) First x j 0 Uni

    free_output : IsFreeOutput First j
    free_output = go (fed_of First j) refl where
      go : (o : Option Fed) → fed_of First j ≡ o → fed_of First j ≡ None
      go None e = e
      go (Some f) e = absurd (second.output_free f.input (only f.input j f.level f.kind (Serves-from First j f e)))

    free_input : IsFreeInput First w
    free_input y level kind s = second.input_free y (only w y level kind s)

    asking_it : Asking w
    unfolding Asking
    asking_it = inl (
      free_input,
      record {
        level_in = omega arith;
        named = names n p w j second.input_in second.output_in second.asks;
        best = λ better other less there. absurd (omega arith);
      },
    )

    nearest_it : IsFirstFrom n (grant_of places j 0) Asking w
    unfolding Asking
    nearest_it = record {
      below = second.input_in;
      member = asking_it;
      least = λ y y_in asks.
          let is = request_named y j 0 Uni asks y_in in
          elim (each (IsNext n places p w j) (asked p) second.next y j is.2 refl) [
            | inl matched ↦ absurd (is.0 matched.0 0 Uni (served y matched.0 matched.1))
            | inr near ↦ near
          ];
    }

    granted_it : Grants n t (rows_of n p) places First w j 0 Uni
    unfolding Asking
    granted_it = record {
      output_in = second.output_in;
      output_free = free_output;
      best = record {
        there = (w, second.input_in, asking_it);
        least = λ other kind asks. omega arith;
        preferred_first = λ asks. sym (request_named asks.0 j 0 (preferred t) asks.2 asks.1).1;
      };
      first = nearest_it;
    }

    accepted_it : Accepts n t (rows_of n p) places First w j 0 Uni
    accepted_it = record {
      best = record {
        there = (j, granted_it);
        least = λ other kind grants. omega arith;
        preferred_first = λ grants. sym (request_named w grants.0 0 (preferred t) grants.1.first.member second.input_in).1;
      };
      taken = record {
        below = second.output_in;
        member = granted_it;
        least = λ y y_in granted.
            each (IsAtHand n places w j) (asked p) second.at_hand w y (request_named w y 0 Uni granted.first.member second.input_in).2 refl;
      };
    }

    -- with two rounds or more the second serves the pair, which stays
    pub serves_second : Serves decision.matched w j 0 Uni
    unfolding First
    serves_second =
        let two = second_of n t (rows_of n p) places now.steps (let count = now.count in omega arith) now.chain in
        subst (λ m. Serves m w j 0 Uni) (sym now.result) (two.2 w j 0 Uni ((two.1.pairs w j 0 Uni).1 (inr accepted_it)))
