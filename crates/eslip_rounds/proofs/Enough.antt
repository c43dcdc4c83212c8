-- A round that adds nothing began with a maximal match, and n rounds are enough.
use Rattle.std.proofs.Common.{◌≡◌, ℕ, suc, ◌+◌, ◌-◌, ◌<◌, ◌≤◌, ◌⊎◌, ◌∙◌, true, cond, ltb, List, [], ◌∷◌, Option, None, Some, length, map, refl, sym, ap}
use Rattle.std.proofs.Common.{subst, inl, inr, arith, tests}
use Rattle.std.proofs.lemmas.List.{ext_get_or, get_or_past}
use Rattle.std.proofs.lemmas.List.Sums.{sum_by-cons}
use Rattle.std.proofs.lemmas.Option.{none-some}
use Rattle.std_lemmas.proofs.Options.{kept_or_new}
use Rattle.rotating_pick.specs.declared.kinds.Kind.{Kind}
use Rattle.rotating_pick.specs.declared.kinds.Kind.TheVariants.{Multi}
use Rattle.slot_match.specs.declared.rows.Row.{Row}
use Rattle.slot_match.specs.declared.matching.Fed.{Fed}
use Rattle.slot_match.specs.Rows.{row_of, AreWithin}
use Rattle.slot_match.specs.Matches.{fed_of, IsFreeOutput, IsMatch, IsMaximal}
use Rattle.slot_match.proofs.Pairs.{Serves-from}
use Rattle.pointer_state.specs.Places.{Places, AreAtPorts, accept_of}
use Rattle.islip_rounds.proofs.Counting.{count_fewer, more_or_same}
use Rattle.islip_rounds.specs.Numbers.{last_of, matched_count, added_from, rounds_used}
use Rattle.eslip_rounds.specs.Rounds.{Requests, Grants, IsRound, AreRounds}
use Rattle.eslip_rounds.proofs.Bests.{taken_from}
use Rattle.eslip_rounds.proofs.Matching.{IsMatch-round, IsMatch-rounds}
use Rattle.eslip_rounds.proofs.Deciding.{Grants-some, Accepts-some, asks_some}

-- a round that adds counts as used
used_more : (a : ℕ) (rest : List ℕ) (k : ℕ) → 0 < a → rounds_used rest ≡ k → rounds_used (a ∷ rest) ≡ suc k
used_more a rest k some e =
    let cons = sum_by-cons (λ (x : ℕ). cond {A = ℕ} (ltb 0 x) 1 0) a rest in
    let here : ltb 0 a ≡ true = grind (arith, tests, some) in
    let one : cond {A = ℕ} (ltb 0 a) 1 0 ≡ 1 = ap (λ b. cond {A = ℕ} b 1 0) here in
    omega arith

module _ (n t : ℕ) (rows : List Row) (places : Places) (a b : List (Option Fed)) (r : IsRound n t rows places a b) where
  round_keeps : (j : ℕ) (f : Fed) → fed_of a j ≡ Some f → fed_of b j ≡ Some f
  round_keeps j f e = (r.pairs f.input j f.level f.kind).1 (inl e)

  -- a round adds to the match, or leaves it
  adds : length a ≡ n → (matched_count a < matched_count b) ⊎ (a ≡ b)
  adds long = more_or_same a b (long ∙ sym r.count) round_keeps

  -- and then a further one leaves it too
  pub settles : length a ≡ n → matched_count b ≤ matched_count a → IsRound n t rows places b b
  settles long few = elim (adds long) [ inl more ↦ absurd (omega arith) | inr same ↦ subst (λ m. IsRound n t rows places m b) same r ]

module _ (n t : ℕ) (rows : List Row) (places : Places) (at_ports : AreAtPorts places) (ports : places.ports ≡ n) where
  none_asks : (before : List (Option Fed)) → IsMatch n before → IsRound n t rows places before before → (i j level : ℕ) (kind : Kind) → i < n → j < n
      → IsFreeOutput before j → Requests rows before i j level kind → ⊥
  none_asks before whole round i j level kind i_in j_in vacant r =
      let g = Grants-some n t rows places before whole at_ports ports i j level kind i_in j_in vacant r in
      let z = Accepts-some n t rows places before whole at_ports ports g.0 j g.1 g.2 g.3 in
      let added = (round.pairs g.0 z.0 z.1 z.2).1 (inr z.3) in
      let offer : Grants n t rows places before g.0 z.0 z.1 z.2 =
      taken_from z.2 n (accept_of places g.0 z.1) (λ y. Grants n t rows places before g.0 y z.1 z.2) z.0 z.3.taken in
      none-some (record { input = g.0; level = z.1; kind = z.2 }) (sym offer.output_free ∙ added)

  -- a round that adds nothing began with a maximal match
  pub IsMaximal-from_round : (before : List (Option Fed)) → IsMatch n before → IsRound n t rows places before before → AreWithin n rows
      → IsMaximal n rows before
  IsMaximal-from_round before whole round within =
      record {
        free = λ i j level kind i_in j_in free vacant named.
            let a = asks_some t (row_of rows i) j level kind (within.levels i i_in level j kind named) named in
            none_asks before whole round i j a.0 a.1 i_in j_in vacant (inl (free, a.2));
        going_on = λ i j level i_in j_in on vacant named.
            none_asks before whole round i j level Multi i_in j_in vacant
            (inr (record { level_in = within.levels i i_in level j Multi named; going_on = on; multicast = refl; named = named }));
      }

  maximal_step : (before after : List (Option Fed)) → IsMatch n before → IsRound n t rows places before after → before ≡ after → AreWithin n rows
      → IsMaximal n rows before
  maximal_step before after whole round same within = IsMaximal-from_round before whole (subst (IsRound n t rows places before) (sym same) round) within

  -- a round leaves a maximal match
  left_alone : (a b : List (Option Fed)) → IsMatch n a → IsRound n t rows places a b → IsMaximal n rows a → a ≡ b
  left_alone a b whole r max =
      let lengths : length a ≡ length b = whole.count ∙ sym r.count in
      ext_get_or None a b lengths
      (λ j below. kept_or_new (fed_of a j) (fed_of b j) (round_keeps n t rows places a b r j)
      (λ y none e.
      elim ((r.pairs y.input j y.level y.kind).0 (Serves-from b j y e)) [
        | inl old ↦ none-some (record { input = y.input; level = y.level; kind = y.kind }) (sym none ∙ old)
        | inr acc ↦
            let g : Grants n t rows places a y.input j y.level y.kind =
            taken_from y.kind n (accept_of places y.input y.level) (λ z. Grants n t rows places a y.input z y.level y.kind) j acc.taken in
            elim g.first.member [
              | inl p ↦ max.free y.input j y.level y.kind g.first.below g.output_in p.0 none p.1.named
              | inr on ↦ max.going_on y.input j y.level g.first.below g.output_in on.going_on none on.named
            ]
      ]))

  pub still_maximal : (before : List (Option Fed)) (steps : List (List (Option Fed))) → IsMatch n before → AreRounds n t rows places before steps
      → IsMaximal n rows before → IsMaximal n rows (last_of before steps)
  still_maximal before [] whole chain max = max
  still_maximal before (step ∷ steps) whole chain max =
      let same = left_alone before step whole chain.0 max in
      still_maximal step steps (IsMatch-round n t rows places at_ports ports before step whole chain.0) chain.1 (subst (IsMaximal n rows) same max)

  -- every one of the rounds added a pair
  pub record AllAdd (before : List (Option Fed)) (steps : List (List (Option Fed))) : Type 0 where
    pub used : rounds_used (added_from (matched_count before) (map matched_count steps)) ≡ length steps
    pub many : matched_count before + length steps ≤ matched_count (last_of before steps)
    pub last : (d : ℕ) → 0 < d → 0 < last_of d (added_from (matched_count before) (map matched_count steps))

  -- after some rounds the match is maximal, or each of them added a pair
  pub maximal_or_more : (before : List (Option Fed)) (steps : List (List (Option Fed))) → IsMatch n before → AreRounds n t rows places before steps
      → AreWithin n rows → IsMaximal n rows (last_of before steps) ⊎ AllAdd before steps
  maximal_or_more before [] whole chain within = inr (record { used = refl; many = omega arith; last = λ d some. some })
  maximal_or_more before (step ∷ steps) whole chain within =
      let next = IsMatch-round n t rows places at_ports ports before step whole chain.0 in
      elim (adds n t rows places before step chain.0 whole.count) [
        | inr same ↦ inl (still_maximal before (step ∷ steps) whole chain (maximal_step before step whole chain.0 same within))
        | inl more ↦ elim (maximal_or_more step steps next chain.1 within) [
          | inl max ↦ inl max
          | inr all ↦ inr (record {
            used = used_more (matched_count step - matched_count before) (added_from (matched_count step) (map matched_count steps)) (length steps)
                (omega arith) all.used;
            many = let later = all.many in omega arith;
            last = λ d some. all.last (matched_count step - matched_count before) (omega arith);
          })
        ]
      ]

  -- n rounds are enough
  pub rounds_enough : (before : List (Option Fed)) (steps : List (List (Option Fed))) → IsMatch n before → AreRounds n t rows places before steps
      → AreWithin n rows → n ≤ length steps → IsMaximal n rows (last_of before steps)
  rounds_enough before steps whole chain within enough =
      elim (maximal_or_more before steps whole chain within) [
        | inl max ↦ max
        | inr all ↦
            let last = last_of before steps in
            let size : length last ≡ n = (IsMatch-rounds n t rows places at_ports ports before steps whole chain).count in
            let many = all.many in
            let beyond : (k : ℕ) → n ≤ k → fed_of last k ≡ None = λ k above. get_or_past last k None (omega arith) in
            record {
              free = λ i j level kind i_in j_in free vacant named. let fewer = count_fewer last n j beyond j_in vacant in absurd (omega arith);
              going_on = λ i j level i_in j_in on vacant named. let fewer = count_fewer last n j beyond j_in vacant in absurd (omega arith);
            }
      ]
