-- What inputs are offered, output after output.
use Rattle.std.proofs.Common.{◌≡◌, ℕ, ◌<◌, ◌≤◌, ◌↔◌, ◌⊎◌, List, Option, refl, sym, ap, subst, inl, inr, arith, slice_index}
use Rattle.std.proofs.lemmas.Bool.{cases_eq, cases_lt}
use Rattle.rotating_pick.specs.PortSets.{Has}
use Rattle.rotating_pick.specs.declared.kinds.Kind.{Kind}
use Rattle.slot_match.specs.declared.rows.Row.{Row}
use Rattle.slot_match.specs.declared.matching.Fed.{Fed}
use Rattle.slot_match.specs.Matches.{IsFreeOutput}
use Rattle.slot_match.proofs.Sets.{Has-or}
use Rattle.pointer_state.specs.Places.{Places, AreAtPorts}
use Rattle.eslip_rounds.specs.declared.asks.Asks.{Asks}
use Rattle.eslip_rounds.specs.declared.grants.Choice.{Choice}
use Rattle.eslip_rounds.specs.declared.grants.Offers.{Offers}
use Rattle.eslip_rounds.specs.declared.grants.Ready.{Ready}
use Rattle.eslip_rounds.specs.RankSteps.{level_at, kind_at}
use Rattle.eslip_rounds.specs.Steps.{AreAsks, AreNamed, AreReady, KeepsToPorts, IsChosen, AreOffers, IsOffered, AreOpen}
use Rattle.eslip_rounds.proofs.RankLemmas.{level_at-lt}
use Rattle.eslip_rounds.proofs.Choosing.{IsChosen-only, from_of-lt}

pub AreOffers-along : (P Q : ℕ → ℕ → ℕ → Type 0) (offers : Offers) → ((i j rank : ℕ) → P i j rank ↔ Q i j rank) → AreOffers P offers → AreOffers Q offers
AreOffers-along P Q offers same o =
    record {
      some = λ i has. let s = o.some i has in (s.0, (same i s.0 _).0 s.1);
      listed = λ i j has. let l = o.listed i j has in (λ h. (same i j _).0 (l.0 h), λ q. l.1 ((same i j _).1 q));
      least = λ i j rank q. o.least i j rank ((same i j rank).1 q);
    }

module _ (P Q : ℕ → ℕ → ℕ → Type 0) (old new : Offers) (input output rank : ℕ) (o : AreOffers P old) (step : IsOffered old new input output rank)
    (more : (i j r : ℕ) → Q i j r ↔ (P i j r ⊎ ((i ≡ input) × (j ≡ output) × (r ≡ rank)))) where
  here : Q input output rank
  here = (more input output rank).1 (inr (refl, refl, refl))

  has_new : Has new.granted input
  has_new = (step.granted input).1 (inl refl)

  -- the offers of the input itself
  record IsRight : Type 0 where
    pub some : (j : ℕ) × Q input j (slice_index new.ranks input)
    pub listed : (j : ℕ) → Has (slice_index new.outputs input) j ↔ Q input j (slice_index new.ranks input)
    pub least : (j r : ℕ) → Q input j r → slice_index new.ranks input ≤ r

  at_rank : (ρ : ℕ) → slice_index new.ranks input ≡ ρ → (j : ℕ) → Q input j ρ → Q input j (slice_index new.ranks input)
  at_rank ρ e j q = subst (Q input j) (sym e) q

  better : ((Has old.granted input → ⊥) ⊎ (rank < slice_index old.ranks input)) → IsRight
  better why =
      let b = step.better why in
      let none : (j r : ℕ) → r ≤ rank → P input j r → ⊥ = λ j r low p. let l = o.least input j r p in
      elim why [ inl fresh ↦ fresh l.0 | inr lower ↦ let at = l.1 in absurd (omega arith) ] in
      record {
        some = (output, at_rank rank b.0 output here);
        listed = λ j. (
          λ h. at_rank rank b.0 j (subst (λ y. Q input y rank) (sym ((b.1 j).0 h)) here),
          λ q. (b.1 j).1 (elim ((more input j rank).0 (subst (Q input j) b.0 q)) [ inl p ↦ absurd (none j rank (omega arith) p) | inr s ↦ s.1 ]),
        );
        least = λ j r q. elim ((more input j r).0 q) [
          | inl p ↦ elim (cases_lt r rank) [ inl low ↦ absurd (none j r (omega arith) p) | inr high ↦ let e = b.0 in omega arith ]
          | inr s ↦ let e = b.0 in let f = s.2 in omega arith
        ];
      }

  equal : Has old.granted input → slice_index old.ranks input ≡ rank → IsRight
  equal has same =
      let b = step.equal has same in record {
        some = (output, at_rank rank b.0 output here);
        listed = λ j. (
          λ h. at_rank rank b.0 j (elim ((b.1 j).0 h) [
            | inl e ↦ subst (λ y. Q input y rank) (sym e) here
            | inr there ↦ (more input j rank).1 (inl (subst (P input j) same ((o.listed input j has).0 there)))
          ]),
          λ q. (b.1 j).1 (elim ((more input j rank).0 (subst (Q input j) b.0 q)) [
            | inl p ↦ inr
                ((o.listed input j has).1 (subst (P input j) (sym same) p))
            | inr s ↦ inl s.1
          ]),
        );
        least = λ j r q. elim ((more input j r).0 q) [
          | inl p ↦ let l = (o.least input j r p).1 in let e = b.0 in omega arith
          | inr s ↦ let e = b.0 in let f = s.2 in omega arith
        ];
      }

  worse : Has old.granted input → slice_index old.ranks input < rank → IsRight
  worse has lower =
      let b = step.worse has lower in
      let some = o.some input has in
      let up : (j : ℕ) → P input j (slice_index old.ranks input) → Q input j (slice_index new.ranks input) =
      λ j p. at_rank (slice_index old.ranks input) b.0 j ((more input j _).1 (inl p)) in
      record {
        some = (some.0, up some.0 some.1);
        listed = λ j. (
          λ h. up j ((o.listed input j has).0 (subst (λ set. Has set j) b.1 h)),
          λ q. subst (λ set. Has set j) (sym b.1)
              ((o.listed input j has).1 (elim ((more input j _).0 (subst (Q input j) b.0 q)) [ inl p ↦ p | inr s ↦ absurd (let e = s.2 in omega arith) ])),
        );
        least = λ j r q. elim ((more input j r).0 q) [
          | inl p ↦ let l = (o.least input j r p).1 in let e = b.0 in omega arith
          | inr s ↦ let e = b.0 in let f = s.2 in omega arith
        ];
      }

  right : IsRight
  right = elim (Has-or old.granted input) [
    | inr fresh ↦ better (inl fresh)
    | inl has ↦ elim (cases_lt rank (slice_index old.ranks input)) [
      | inl lower ↦ better (inr lower)
      | inr at_least ↦ elim (cases_eq (slice_index old.ranks input) rank) [ inl same ↦ equal has same | inr apart ↦ worse has (omega arith) ]
    ]
  ]

  pub AreOffers-more : AreOffers Q new
  AreOffers-more =
      record {
        some = λ i has. elim (cases_eq i input) [
          | inl same ↦ let R : ℕ → Type 0 = λ x. (j : ℕ) × Q x j (slice_index new.ranks x) in subst R (sym same) right.some
          | inr apart ↦ elim ((step.granted i).0 has) [
            | inl same ↦ absurd (apart same)
            | inr before ↦ let s = o.some i before in (s.0, subst (Q i s.0) (sym (step.others i apart).0) ((more i s.0 _).1 (inl s.1)))
          ]
        ];
        listed = λ i j has. elim (cases_eq i input) [
          | inl same ↦ let R : ℕ → Type 0 = λ x. Has (slice_index new.outputs x) j ↔ Q x j (slice_index new.ranks x) in subst R (sym same) (right.listed j)
          | inr apart ↦ elim ((step.granted i).0 has) [
            | inl same ↦ absurd (apart same)
            | inr before ↦
                let kept = step.others i apart in
                let l = o.listed i j before in (
                  λ h. subst (Q i j) (sym kept.0) ((more i j _).1 (inl (l.0 (subst (λ set. Has set j) kept.1 h)))),
                  λ q. subst (λ set. Has set j) (sym kept.1) (l.1 (elim ((more i j _).0 (subst (Q i j) kept.0 q)) [ inl p ↦ p | inr s ↦ absurd (apart s.0) ])),
                )
          ]
        ];
        least = λ i j r q. elim (cases_eq i input) [
          | inl same ↦
              let R : ℕ → Type 0 = λ x. Q x j r in
              let T : ℕ → Type 0 = λ x. Has new.granted x × (slice_index new.ranks x ≤ r) in
              subst T (sym same) (has_new, right.least j r (subst R same q))
          | inr apart ↦ elim ((more i j r).0 q) [
            | inr s ↦ absurd (apart s.0)
            | inl p ↦ let l = o.least i j r p in ((step.granted i).1 (inr l.0), subst (λ ρ. ρ ≤ r) (sym (step.others i apart).0) l.1)
          ]
        ];
      }

-- the columns of rows name inputs only where the outputs are named
pub AreNamed-asks : (n : ℕ) (rows : List Row) (asks : Asks) → AreAsks n rows asks → AreNamed n asks
AreNamed-asks n rows asks are set i j set_in used j_in has =
    let named = (are.columns set i j set_in used j_in).0 has in are.outputs set i j set_in named.0 named.1

-- what is ready is of the switch
pub KeepsToPorts-ready : (n : ℕ) (first_kind : Kind) (asks : Asks) (before : List (Option Fed)) (ready : Ready) → AreReady n first_kind asks before ready
    → KeepsToPorts n ready
KeepsToPorts-ready n first_kind asks before ready readies =
    record { ranks = λ rank has. ((readies.ranks rank).0 has).0; inputs = λ rank i has may. ((readies.inputs rank i has).0 may).0 }

-- where what is offered is named, the free outputs that are named offer all that the free outputs offer
pub AreOffers-asked : (C : ℕ → ℕ → ℕ → Type 0) (Free Named : ℕ → Type 0) (asked : ℕ) (offers : Offers) → ((j : ℕ) → Has asked j ↔ (Free j × Named j))
    → ((i j rank : ℕ) → Free j → C i j rank → Named j) → AreOffers (λ i j rank. Has asked j × C i j rank) offers
    → AreOffers (λ i j rank. Free j × C i j rank) offers
AreOffers-asked C Free Named asked offers both named =
    AreOffers-along (λ i j rank. Has asked j × C i j rank) (λ i j rank. Free j × C i j rank) offers
    (λ i j rank. (λ p. (((both j).0 p.0).0, p.1), λ q. ((both j).1 (q.0, named i j rank q.0 q.1), q.1)))

-- what the free outputs offer to the inputs that may ask
pub record IsOffering (n : ℕ) (first_kind : Kind) (asks : Asks) (places : Places) (before : List (Option Fed)) (offers : Offers) : Type 0 where
  pub ready : Ready
  pub readies : AreReady n first_kind asks before ready
  pub offered : AreOffers (λ i j rank. ((j < n) × IsFreeOutput before j) × IsChosen n first_kind asks ready places j (record { rank = rank; input = i })) offers

-- may be taken
pub AreOpen-from_offers : (n : ℕ) (first_kind : Kind) (asks : Asks) (places : Places) (before : List (Option Fed)) (offers : Offers) → AreAtPorts places
    → places.ports ≡ n → IsOffering n first_kind asks places before offers → AreOpen n first_kind before offers
AreOpen-from_offers n first_kind asks places before offers at_ports ports made =
    let o = made.offered in
    record {
      each = λ i has.
          let s = o.some i has in
          let c = s.1.1 in record {
            input_in = c.picked.below;
            rank_in = c.rank_in;
            some = (s.0, (o.listed i s.0 has).1 s.1);
            free = λ j h. ((o.listed i j has).0 h).0;
            ready = ((made.readies.inputs (slice_index offers.ranks i) i c.picked.member.0.0).0 c.picked.member.1).1;
          };
      apart = λ i k j i_has k_has a b.
          let p = (o.listed i j i_has).0 a in
          let q = (o.listed k j k_has).0 b in
          let f : Choice = record { rank = slice_index offers.ranks i; input = i } in
          let g : Choice = record { rank = slice_index offers.ranks k; input = k } in
          let j_in = p.0.0 in
          let from_in = from_of-lt places at_ports j (level_at f.rank) (kind_at first_kind f.rank) (omega arith) (level_at-lt f.rank p.1.rank_in) in
          ap (λ (c : Choice). c.input) (IsChosen-only n first_kind asks made.ready places j f g (omega arith) p.1 q.1);
    }

-- the outputs that have chosen are those that no longer wait
module _ (free rest later j : ℕ) (C : ℕ → ℕ → ℕ → Type 0) (has : Has rest j) (left : Has free j)
    (fewer : (y : ℕ) → Has later y ↔ ((y ≡ j → ⊥) × Has rest y)) where
  pub chosen_more : (a b : ℕ) → C a j b → ((i r : ℕ) → C i j r → (i ≡ a) × (r ≡ b)) → (i y r : ℕ) → ((Has free y × (Has later y → ⊥)) × C i y r)
      ↔ (((Has free y × (Has rest y → ⊥)) × C i y r) ⊎ ((i ≡ a) × (y ≡ j) × (r ≡ b)))
  chosen_more a b made only i y r = (
    λ q. elim (cases_eq y j) [
      | inl same ↦ let one = only i r (subst (λ x. C i x r) same q.1) in inr (one.0, same, one.1)
      | inr apart ↦ inl ((q.0.0, λ h. q.0.1 ((fewer y).1 (apart, h))), q.1)
    ],
    λ s. elim s [
      | inl p ↦ ((p.0.0, λ h. p.0.1 ((fewer y).0 h).1), p.1)
      | inr e ↦ (
        (subst (Has free) (sym e.1) left, λ h. ((fewer y).0 h).0 e.1),
        subst (λ x. C i x r) (sym e.1) (subst (λ k. C i j k) (sym e.2) (subst (λ x. C x j b) (sym e.0) made)),
      )
    ],
  )

  pub chosen_same : ((i r : ℕ) → C i j r → ⊥) → (i y r : ℕ) → ((Has free y × (Has rest y → ⊥)) × C i y r) ↔ ((Has free y × (Has later y → ⊥)) × C i y r)
  chosen_same none i y r = (
    λ p. ((p.0.0, λ h. p.0.1 ((fewer y).0 h).1), p.1),
    λ q. elim (cases_eq y j) [
      | inl same ↦ absurd (none i r (subst (λ x. C i x r) same q.1))
      | inr apart ↦ ((q.0.0, λ h. q.0.1 ((fewer y).1 (apart, h))), q.1)
    ],
  )
