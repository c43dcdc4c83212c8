-- A round of unicast of level 0 is a round of the definition, and rounds one after the other.
use Rattle.std.proofs.Common.{◌≡◌, ℕ, ◌+◌, ◌%◌, ◌<◌, ◌↔◌, ◌⊎◌, ◌∙◌, List, [], ◌∷◌, Option, length, refl, sym, ap, subst, inl, inr, arith, slice_index}
use Rattle.rotating_pick.specs.PortSets.{Has}
use Rattle.rotating_pick.specs.declared.kinds.Kind.{Kind}
use Rattle.rotating_pick.specs.declared.kinds.Kind.TheVariants.{Uni, Multi}
use Rattle.rotating_pick.proofs.First.{IsFirstFrom-along}
use Rattle.slot_match.specs.declared.rows.Row.{Row}
use Rattle.slot_match.specs.declared.matching.Fed.{Fed}
use Rattle.slot_match.specs.Rows.{Names, row_of}
use Rattle.slot_match.specs.Matches.{IsFreeInput, Serves, unmatched}
use Rattle.slot_match.proofs.Kept.{nobody_at_first}
use Rattle.pointer_state.specs.Places.{Places, accept_of, grant_of}
use Rattle.islip_rounds.specs.Numbers.{last_of}
use Rattle.eslip_rounds.specs.OneLevel.{AreUnicastOf}
use Rattle.eslip_rounds.specs.Rounds.{Accepts, AreRounds, Grants, IsBest, IsRound, Requests, Takes, preferred}
use Rattle.eslip_rounds.specs.Slots.{AreMoved}
use Rattle.eslip_rounds.specs.Steps.{AreMet, AreOffers, IsTaken}
use Rattle.eslip_rounds.proofs.Bests.{taken_from}
use Rattle.unicast_slots.specs.declared.grants.Offers.{Offers}
use Rattle.unicast_slots.specs.RoundSteps.{GrantsUnicast, offers_of}

-- unicast of level 0
abbrev IsUnicast : ℕ → Kind → Type 0
IsUnicast level kind = (level ≡ 0) × (kind ≡ Uni)

module _ (n t : ℕ) (rows : List Row) (places : Places) (unicast : AreUnicastOf 0 rows) (before : List (Option Fed)) where
  requests : (i j : ℕ) → (IsFreeInput before i × Names (row_of rows i) 0 Uni j) ↔ Requests rows before i j 0 Uni
  requests i j = (
    λ p. inl (p.0, record { level_in = omega arith; named = p.1; best = λ better other below. absurd (omega (arith, below)) }),
    λ r. elim r [ inl p ↦ (p.0, p.1.named) | inr on ↦ let never = on.multicast in absurd (cc) ],
  )

  requests_only : (i j m : ℕ) (k : Kind) → Requests rows before i j m k → IsUnicast m k
  requests_only i j m k r = elim r [
    | inl p ↦ unicast i j m k p.1.named
    | inr on ↦ let never = (unicast i j m Multi on.named).1 in absurd (cc)
  ]

  best_of : (P : ℕ → Kind → Type 0) → ((m : ℕ) (k : Kind) → P m k → IsUnicast m k) → P 0 Uni → IsBest t P 0 Uni
  best_of P only there = record { there = there; least = λ m k p. omega arith; preferred_first = λ p. sym ((only 0 (preferred t) p).1) }

  grants : (i j : ℕ) → GrantsUnicast n rows places before i j ↔ Grants n t rows places before i j 0 Uni
  grants i j =
      let P : ℕ → Type 0 = λ x. IsFreeInput before x × Names (row_of rows x) 0 Uni j in
      let Q : ℕ → Type 0 = λ x. Requests rows before x j 0 Uni in (
        λ g. record {
          output_in = g.output_in;
          output_free = g.output_free;
          best = best_of (λ m k. (x : ℕ) × (x < n) × Requests rows before x j m k) (λ m k p. requests_only p.0 j m k p.2)
              (i, g.first.below, (requests i j).0 g.first.member);
          first = IsFirstFrom-along n (grant_of places j 0) P Q i (λ x x_in. requests x j) g.first;
        },
        λ g. record {
          output_in = g.output_in;
          output_free = g.output_free;
          first = IsFirstFrom-along n (grant_of places j 0) Q P i (λ x x_in. ((requests x j).1, (requests x j).0)) g.first;
        },
      )

  grants_only : (i j m : ℕ) (k : Kind) → Grants n t rows places before i j m k → IsUnicast m k
  grants_only i j m k g = requests_only i j m k g.first.member

  accepts_only : (i j m : ℕ) (k : Kind) → Accepts n t rows places before i j m k → IsUnicast m k
  accepts_only i j m k a = grants_only i j m k (taken_from k n (accept_of places i m) (λ y. Grants n t rows places before i y m k) j a.taken)

  module _ (offers : Offers) (o : AreOffers (λ i j rank. GrantsUnicast n rows places before i j × (rank ≡ 0)) (offers_of offers)) where
    listed : (i : ℕ) → Has offers.granted i → (y : ℕ) → Has (slice_index offers.outputs i) y ↔ Grants n t rows places before i y 0 Uni
    listed i has y =
        let l = o.listed i y has in
        (λ h. (grants i y).0 (l.0 h).0, λ g. l.1 ((grants i y).1 g, refl))

    accepts_one : (i j : ℕ) → (Has offers.granted i × Takes Uni n (accept_of places i 0) (Has (slice_index offers.outputs i)) j)
        ↔ Accepts n t rows places before i j 0 Uni
    accepts_one i j =
        let P = Has (slice_index offers.outputs i) in
        let Q : ℕ → Type 0 = λ y. Grants n t rows places before i y 0 Uni in (
          λ p. record {
            best = best_of (λ m k. (y : ℕ) × Grants n t rows places before i y m k) (λ m k q. grants_only i q.0 m k q.1) (j, (listed i p.0 j).0 p.1.member);
            taken = IsFirstFrom-along n (accept_of places i 0) P Q j (λ y y_in. listed i p.0 y) p.1;
          },
          λ a.
              let has = (o.least i j 0 ((grants i j).1 a.taken.member, refl)).0 in
              (has, IsFirstFrom-along n (accept_of places i 0) Q P j (λ y y_in. ((listed i has y).1, (listed i has y).0)) a.taken),
        )

    accepts : (i j l : ℕ) (k : Kind) → IsTaken n Uni places (offers_of offers) i j l k ↔ Accepts n t rows places before i j l k
    accepts i j l k =
        let T : ℕ → Kind → Type 0 = λ m q. Takes q n (accept_of places i m) (Has (slice_index offers.outputs i)) j in
        let A : ℕ → Kind → Type 0 = λ m q. Accepts n t rows places before i j m q in (
          λ taken.
              let here : T 0 Uni = subst (T 0) taken.kind_is (subst (λ m. T m k) taken.level_is taken.taken) in
              subst (λ m. A m k) (sym taken.level_is) (subst (A 0) (sym taken.kind_is) ((accepts_one i j).0 (taken.granted, here))),
          λ a.
              let only = accepts_only i j l k a in
              let p = (accepts_one i j).1 (subst (A 0) only.1 (subst (λ m. A m k) only.0 a)) in
              record {
                granted = p.0;
                level_is = only.0;
                kind_is = only.1;
                taken = subst (λ m. T m k) (sym only.0) (subst (T 0) (sym only.1) p.1);
              },
        )

    pub IsRound-taken : (after : List (Option Fed)) → length after ≡ n
        → ((i j l : ℕ) (k : Kind) → Serves after i j l k ↔ (Serves before i j l k ⊎ IsTaken n Uni places (offers_of offers) i j l k))
        → IsRound n t rows places before after
    IsRound-taken after count pairs =
        record {
          count = count;
          pairs = λ i j l k. (
            λ s. elim ((pairs i j l k).0 s) [ inl old ↦ inl old | inr taken ↦ inr ((accepts i j l k).0 taken) ],
            λ s. (pairs i j l k).1 (elim s [ inl old ↦ inl old | inr a ↦ inr ((accepts i j l k).1 a) ]),
          );
        }

module _ (n t : ℕ) (rows : List Row) (places : Places) where
  module _ (unicast : AreUnicastOf 0 rows) where
    pairs-rounds : (before : List (Option Fed)) (steps : List (List (Option Fed))) → ((i j l : ℕ) (k : Kind) → Serves before i j l k → IsUnicast l k)
        → AreRounds n t rows places before steps → (i j l : ℕ) (k : Kind) → Serves (last_of before steps) i j l k → IsUnicast l k
    pairs-rounds before [] are chain = are
    pairs-rounds before (step ∷ steps) are chain =
        pairs-rounds step steps
        (λ i j l k s. elim ((chain.0.pairs i j l k).0 s) [
          | inl old ↦ are i j l k old
          | inr a ↦ accepts_only n t rows places unicast before i j l k a
        ]) chain.1

    -- the match of some rounds has pairs of unicast of level 0 alone
    pub pairs-unicast : (now : List (Option Fed)) (steps : List (List (Option Fed))) → now ≡ last_of (unmatched n) steps
        → AreRounds n t rows places (unmatched n) steps → (i j l : ℕ) (k : Kind) → Serves now i j l k → (l ≡ 0) × (k ≡ Uni)
    pairs-unicast now steps result chain i j l k s =
        pairs-rounds (unmatched n) steps (λ i j l k s. absurd (nobody_at_first n i j l k s)) chain i j l k (subst (λ m. Serves m i j l k) result s)

    -- no head is posted, so no shared pointer moves
    pub AreMoved-met : (first_match now : List (Option Fed)) (after : Places) → places.ports ≡ n
        → AreMet (λ i j level. Serves first_match i j level Uni) places after → AreMoved n t rows first_match now places after
    AreMoved-met first_match now after ports moved =
        let around = λ (x : ℕ). ap (λ m. (x + 1) % m) ports in
        record {
          ports = moved.ports;
          granted = λ i j level s. moved.granted i j level s ∙ around i;
          accepted = λ i j level s. moved.accepted i j level s ∙ around j;
          grant_stays = moved.grant_stays;
          accept_stays = moved.accept_stays;
          passed = λ i level f done. let never = (unicast i f.member.0 level Multi f.member.1).1 in absurd (cc);
          shared_stays = λ level none. moved.shared level;
        }
