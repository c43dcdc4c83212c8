-- The refused grants that are told are those of the first round.
use Rattle.std.proofs.Common.{◌≡◌, ℕ, ◌<◌, ◌↔◌, ◌∙◌, List, [], ◌∷◌, Option, None, Some, length, slice_index, slice_index_or, refl, sym, ap, subst}
use Rattle.std.proofs.Common.{inl, inr, arith}
use Rattle.std.proofs.lemmas.Option.{none-some}
use Rattle.rotating_pick.specs.PortSets.{Has}
use Rattle.rotating_pick.specs.declared.kinds.Kind.{Kind}
use Rattle.rotating_pick.specs.declared.kinds.Kind.TheVariants.{Uni, Multi}
use Rattle.rotating_pick.specs.declared.limits.TheConstants.{LEVELS}
use Rattle.slot_match.specs.declared.rows.Row.{Row}
use Rattle.slot_match.specs.declared.matching.Fed.{Fed}
use Rattle.slot_match.specs.Rows.{Names, row_of}
use Rattle.slot_match.specs.Matches.{unmatched, fed_of, IsFreeOutput}
use Rattle.slot_match.proofs.Kept.{fed_of-unmatched, nobody_at_first}
use Rattle.slot_match.proofs.Pairs.{Serves-from}
use Rattle.pointer_state.specs.Places.{Places, AreAtPorts, accept_of}
use Rattle.eslip_rounds.specs.declared.asks.Asks.{Asks}
use Rattle.eslip_rounds.specs.declared.grants.Choice.{Choice}
use Rattle.eslip_rounds.specs.declared.refusals.Refused.{Refused}
use Rattle.eslip_rounds.specs.RankSteps.{level_at, kind_at, rank_of}
use Rattle.eslip_rounds.specs.Rounds.{preferred, from_of, Grants, Accepts, IsRound, AreRounds}
use Rattle.eslip_rounds.specs.Slots.{IsRefused}
use Rattle.eslip_rounds.specs.Steps.{IsNamed, AreAsks, GrantsUnicast, AreToldOf}
use Rattle.eslip_rounds.specs.Refusals.{AreRefused, AreToldWithin}
use Rattle.eslip_rounds.proofs.RankLemmas.{kind_at-rank_of, level_at-rank_of, rank_of-lt, Names-rank_of}
use Rattle.eslip_rounds.proofs.Bests.{taken_from}
use Rattle.eslip_rounds.proofs.Choosing.{from_of-lt, level_asked, IsChosen-only, Grants-from_chosen, chosen_from_grants}

-- what is told is of the first round of a slot, of the outputs that it did not match
pub record AreToldFirst (n t : ℕ) (rows : List Row) (places : Places) (asks : Asks) (refused : Refused) : Type 0 where
  pub asked : AreAsks n rows asks
  pub first_match : List (Option Fed)
  pub round : IsRound n t rows places (unmatched n) first_match
  pub first_outputs : ℕ
  pub firsts : (j : ℕ) → Has first_outputs j ↔ ((j < n) × (IsFreeOutput first_match j → ⊥))
  pub are_told : AreToldOf n (preferred t) asks places (λ j. ((j < n) × (Has first_outputs j → ⊥)) × IsNamed asks j) refused

module _ (n t : ℕ) (rows : List Row) (places : Places) (asks : Asks) (refused : Refused) (at_ports : AreAtPorts places) (ports : places.ports ≡ n)
    (first : AreToldFirst n t rows places asks refused) where
  granted : (i j level : ℕ) → j < n → GrantsUnicast n (preferred t) asks first.are_told.ready places i j level
      → Grants n t rows places (unmatched n) i j level Uni
  granted i j level j_in chosen =
      let told = first.are_told in
      let g = Grants-from_chosen n t rows asks told.ready (unmatched n) first.asked told.readies j j_in places (fed_of-unmatched n j) chosen.0 i chosen.1 in
      let P : ℕ → Type 0 = λ m. Grants n t rows places (unmatched n) i j m (kind_at (preferred t) chosen.0) in
      let Q : Kind → Type 0 = λ k. Grants n t rows places (unmatched n) i j level k in
      subst Q chosen.2 (subst P (sym chosen.3) g)

  -- what output j grants is one
  grants_once : (i j m x l : ℕ) (k q : Kind) → Grants n t rows places (unmatched n) i j m k → Grants n t rows places (unmatched n) x j l q → (i ≡ x) × (m ≡ l)
      × (k ≡ q)
  grants_once i j m x l k q g h =
      let first_kind = preferred t in
      let told = first.are_told in
      let a = chosen_from_grants n t rows asks told.ready (unmatched n) first.asked told.readies j g.output_in places (fed_of-unmatched n j) i m k g in
      let b = chosen_from_grants n t rows asks told.ready (unmatched n) first.asked told.readies j h.output_in places (fed_of-unmatched n j) x l q h in
      let level_is = level_at-rank_of first_kind m k in
      let kind_is = kind_at-rank_of first_kind m k in
      let j_in : j < places.ports = let below = g.output_in in omega arith in
      let picks : from_of places j m k < n = let below = from_of-lt places at_ports j m k j_in (level_asked rows (unmatched n) i j m k g.first.member) in
      omega arith in
      let P : ℕ → Type 0 = λ z. from_of places j z k < n in
      let Q : Kind → Type 0 = λ z. from_of places j (level_at (rank_of first_kind m k)) z < n in
      let same = IsChosen-only n first_kind asks first.are_told.ready places j (record { rank = rank_of first_kind m k; input = i })
      (record { rank = rank_of first_kind l q; input = x }) (subst Q (sym kind_is) (subst P (sym level_is) picks)) a b in
      let ranks : rank_of first_kind m k ≡ rank_of first_kind l q = ap (λ (f : Choice). f.rank) same in (
        ap (λ (f : Choice). f.input) same,
        sym level_is ∙ (ap level_at ranks ∙ level_at-rank_of first_kind l q),
        sym kind_is ∙ (ap (kind_at first_kind) ranks ∙ kind_at-rank_of first_kind l q),
      )

  -- an output whose grant is refused is matched with nobody
  left_free : (i j level : ℕ) → IsRefused n t rows places i j level → IsFreeOutput first.first_match j
  left_free i j level r = go (fed_of first.first_match j) refl where
    go : (o : Option Fed) → fed_of first.first_match j ≡ o → fed_of first.first_match j ≡ None
    go None e = e
    go (Some f) e =
        elim ((first.round.pairs f.input j f.level f.kind).0 (Serves-from first.first_match j f e)) [
          | inl old ↦ absurd (nobody_at_first n f.input j f.level f.kind old)
          | inr accepts ↦
              let taken : Grants n t rows places (unmatched n) f.input j f.level f.kind =
              taken_from f.kind n (accept_of places f.input f.level) (λ y. Grants n t rows places (unmatched n) f.input y f.level f.kind) j accepts.taken in
              let same = grants_once f.input j f.level i level f.kind Uni taken r.0 in
              let P : ℕ → Type 0 = λ x. Accepts n t rows places (unmatched n) x j f.level f.kind in
              let Q : ℕ → Type 0 = λ m. Accepts n t rows places (unmatched n) i j m f.kind in
              let R : Kind → Type 0 = λ k. Accepts n t rows places (unmatched n) i j level k in
              absurd (r.1 (subst R same.2 (subst Q same.1 (subst P same.0 accepts))))
        ]

  -- what some row names is named
  named_in : (i j level : ℕ) (kind : Kind) → i < n → level < LEVELS → Names (row_of rows i) level kind j → IsNamed asks j
  named_in i j level kind i_in level_in named =
      let set = rank_of Uni level kind in
      let set_in = rank_of-lt Uni level kind level_in in
      (set, set_in, first.asked.outputs set i j set_in i_in ((Names-rank_of (row_of rows i) level kind j).0 named))

  -- so is that output
  asked : (i j level : ℕ) → Grants n t rows places (unmatched n) i j level Uni → IsNamed asks j
  asked i j level g = elim g.first.member [
    | inl free ↦ named_in i j level Uni g.first.below free.1.level_in free.1.named
    | inr on ↦ named_in i j level Multi g.first.below on.level_in on.named
  ]

  pub AreRefused-told : AreRefused n t rows places refused
  AreRefused-told i j level = (
    λ tells.
        let told = (first.are_told.told i j level).0 tells in
        let j_in = told.0.0.0 in (
          granted i j level j_in told.1,
          λ accepts. told.0.0.1 ((first.firsts j).1
              (j_in, λ free. none-some (record { input = i; level = level; kind = Uni }) (sym free ∙ (first.round.pairs i j level Uni).1 (inr accepts)))),
        ),
    λ r.
        let first_kind = preferred t in
        let g = r.0 in
        let chosen : GrantsUnicast n (preferred t) asks first.are_told.ready places i j level = (
          rank_of first_kind level Uni,
          chosen_from_grants n t rows asks first.are_told.ready (unmatched n) first.asked first.are_told.readies j g.output_in places (fed_of-unmatched n j)
              i level Uni g,
          kind_at-rank_of first_kind level Uni,
          sym (level_at-rank_of first_kind level Uni),
        ) in
        (first.are_told.told i j level).1 (((g.output_in, λ has. ((first.firsts j).0 has).1 (left_free i j level r)), asked i j level g), chosen),
  )

-- the first of some rounds
pub first_round : (n t : ℕ) (rows : List Row) (places : Places) (steps : List (List (Option Fed))) → 0 < length steps
    → AreRounds n t rows places (unmatched n) steps → IsRound n t rows places (unmatched n) (slice_index_or steps 0 (unmatched n))
first_round n t rows places [] some chain = absurd (omega arith)
first_round n t rows places (step ∷ steps) some chain = chain.0

-- what is told of a slot is of its switch
pub AreToldWithin-refused : (n t : ℕ) (rows : List Row) (places : Places) (refused : Refused) → AreRefused n t rows places refused → AreToldWithin n refused
AreToldWithin-refused n t rows places refused are =
    let of = λ (j : ℕ) (has : Has refused.outputs j). (are (slice_index refused.inputs j) j (slice_index refused.levels j)).0 (has, refl, refl) in
    record {
      outputs = λ j has. (of j has).0.output_in;
      inputs = λ j has. (of j has).0.first.below;
      levels = λ j has. level_asked rows (unmatched n) (slice_index refused.inputs j) j (slice_index refused.levels j) Uni (of j has).0.first.member;
    }
