-- What the inputs accept, computed, is what the definition of an accept says, and so is the match after a round.
use Rattle.std.proofs.Common.{◌≡◌, ℕ, ◌<◌, ◌==◌, ◌↔◌, ◌⊎◌, ◌∙◌, ◌&&◌, ◌||◌, Bool, true, false, cond, List, [], ◌∷◌, Option, None, Some, map, filter}
use Rattle.std.proofs.Common.{refl, sym, ap, subst, inl, inr, arith}
use Rattle.std.specs.Bool.{Decides}
use Rattle.std.specs.List.{find, list_any}
use Rattle.std.specs.Option.{option_or, option_map_or, option_and_then, option_to_list}
use Rattle.std.proofs.lemmas.Bool.{eqb-true, eq-eqb, or_cases, or_left, cond-true}
use Rattle.std.proofs.lemmas.Bool.Decides.{Decides-eqb, Decides-and}
use Rattle.std.proofs.lemmas.List.FromFn.{length-map-range_with_len}
use Rattle.std.proofs.lemmas.Option.{same_Some, cond_some}
use Rattle.rotating_pick.specs.declared.kinds.Kind.{Kind}
use Rattle.rotating_pick.specs.declared.kinds.Kind.TheVariants.{Uni, Multi}
use Rattle.rotating_pick.specs.declared.limits.TheConstants.{LEVELS}
use Rattle.slot_match.specs.declared.rows.Row.{Row}
use Rattle.slot_match.specs.declared.matching.Fed.{Fed}
use Rattle.slot_match.specs.Matches.{fed_of, Serves, IsMatch}
use Rattle.slot_match.proofs.Pairs.{fed_of-lt, Serves-from, Serves-once}
use Rattle.pointer_state.specs.Places.{Places, AreAtPorts, accept_of}
use Rattle.eslip_rounds.specs.Rounds.{Takes, IsAccepted, Grants, Accepts, IsRound}
use Rattle.eslip_rounds.specs.Decisions.{Rank, ranks, ports, ports_from, is_fed, granted, taken, accepted, added, round_of}
use Rattle.eslip_rounds.proofs.Bests.{taken_from, IsAccepted-along}
use Rattle.eslip_rounds.proofs.Choosing.{level_asked}
use Rattle.eslip_rounds.proofs.Deciding.{accept_in}
use Rattle.eslip_rounds.proofs.Testing.{any_port, Decides-fed, Decides-paired}
use Rattle.eslip_rounds.proofs.Finding.{first_found, finds_first}
use Rattle.eslip_rounds.proofs.Ranking.{found_rank, finds_rank}
use Rattle.eslip_rounds.proofs.Granting.{fed_of-ports, fed_of-ports_some, option_and_then_from, Serves-granted}

-- whether port j is among some
abbrev pub is_in : ℕ → List ℕ → Bool
is_in j xs = list_any (λ y. y == j) xs

in_option : (j : ℕ) (o : Option ℕ) → Decides (is_in j (option_to_list o)) (o ≡ Some j)
in_option j None = (λ e. absurd (cc), λ e. absurd (cc))
in_option j (Some x) = (
  λ e. elim (or_cases (x == j) false e) [ inl same ↦ ap Some (eqb-true x j same) | inr never ↦ absurd (cc) ],
  λ e. or_left (x == j) false (eq-eqb x j (same_Some x j e)),
)

any-filter : (p q : ℕ → Bool) (xs : List ℕ) → list_any q (filter p xs) ≡ list_any (λ x. p x && q x) xs
any-filter p q [] = refl
any-filter p q (x ∷ xs) =
    let rest = any-filter p q xs in
    elim (p x) as (λ b. list_any q (cond b (x ∷ filter p xs) (filter p xs)) ≡ ((b && q x) || list_any (λ y. p y && q y) xs)) [
      | true ↦ ap
          (λ r. q x || r) rest
      | false ↦ rest
    ]

option_map_or_from : {A : Type 0} (g : A → List ℕ) (o : Option A) (j : ℕ) → is_in j (option_map_or g o []) ≡ true → (x : A) × (o ≡ Some x)
    × (is_in j (g x) ≡ true)
option_map_or_from g None j e = absurd (cc)
option_map_or_from g (Some x) j e = (x, refl, e)

option_or_from : (o p : Option Fed) (f : Fed) → option_or o p ≡ Some f → (o ≡ Some f) ⊎ (p ≡ Some f)
option_or_from None p f e = inr e
option_or_from (Some x) p f e = inl e

-- what an input takes of what it is offered
in_taken : (kind : Kind) (n from : ℕ) (test : ℕ → Bool) (P : ℕ → Type 0) → ((y : ℕ) → Decides (test y) (P y)) → from < n → (j : ℕ) → j < n
    → Decides (is_in j (taken kind n from test)) (Takes kind n from P j)
in_taken Uni n from test P each from_in j j_in =
    let found = in_option j (find test (ports_from n from)) in (
      λ e. first_found n from test P each from_in j (found.0 e),
      λ first. found.1 (finds_first n from test P each from_in j first),
    )
in_taken Multi n from test P each from_in j j_in =
    let both = any_port (λ y. test y && y == j) (λ y. P y × (y ≡ j)) (λ y. Decides-and (test y) (y == j) (each y) (Decides-eqb y j)) n in
    let along = any-filter test (λ y. y == j) (ports n) in (
      λ e. let f = both.0 (sym along ∙ e) in subst P f.2.1 f.2.0,
      λ p. along ∙ both.1 (j, j_in, (p, refl)),
    )

module _ (n t : ℕ) (places : Places) (grants : List (Option Fed)) (size : (j : ℕ) (f : Fed) → fed_of grants j ≡ Some f → j < n)
    (level_in : (i j level : ℕ) (kind : Kind) → Serves grants i j level kind → level < LEVELS)
    (from_in : (i j level : ℕ) (kind : Kind) → Serves grants i j level kind → accept_of places i level < n) where
  -- an output grants input i at the level with the kind
  abbrev Granted : ℕ → ℕ → Kind → Type 0
  Granted i m k = (y : ℕ) × Serves grants i y m k

  granted_level : (i m : ℕ) (k : Kind) → Granted i m k → m < LEVELS
  granted_level i m k p = level_in i p.0 m k p.1

  accepted_rank : ℕ → Option Rank
  accepted_rank i = find (λ rank. list_any (is_fed i rank.level rank.kind) grants) (ranks t)

  abbrev outputs_at : ℕ → Rank → List ℕ
  outputs_at i rank = taken rank.kind n (accept_of places i rank.level) (λ y. is_fed i rank.level rank.kind (fed_of grants y))

  takes : (i j level : ℕ) (kind : Kind) → Granted i level kind → j < n
      → Decides (is_in j (outputs_at i (record { level = level; kind = kind }))) (Takes kind n (accept_of places i level) (λ y. Serves grants i y level kind) j)
  takes i j level kind g j_in =
      in_taken kind n (accept_of places i level) (λ y. is_fed i level kind (fed_of grants y)) (λ y. Serves grants i y level kind)
      (λ y. Decides-fed i level kind (fed_of grants y)) (from_in i g.0 level kind g.1) j j_in

  accepted_from : (i j : ℕ) → j < n → is_in j (accepted n t places grants i) ≡ true → (level : ℕ) × (kind : Kind)
      × IsAccepted n t places (Serves grants) i j level kind
  unfolding accepted accepted_rank
  accepted_from i j j_in e =
      let at = option_map_or_from (outputs_at i) (accepted_rank i) j e in
      let rank : Rank = at.0 in
      let best = found_rank t (λ m k. list_any (is_fed i m k) grants) (Granted i) (granted_level i) (λ m k m_in. Decides-paired grants i m k) rank at.1 in
      (rank.level, rank.kind, record { best = best; taken = (takes i j rank.level rank.kind best.there j_in).0 at.2 })

  in_accepted : (i j level : ℕ) (kind : Kind) → j < n → IsAccepted n t places (Serves grants) i j level kind → is_in j (accepted n t places grants i) ≡ true
  unfolding accepted accepted_rank
  in_accepted i j level kind j_in a =
      let rank = finds_rank t (λ m k. list_any (is_fed i m k) grants) (Granted i) (granted_level i)
      (λ m k m_in. Decides-paired grants i m k) level kind a.best in
      ap (λ o. is_in j (option_map_or (outputs_at i) o [])) rank ∙ (takes i j level kind a.best.there j_in).1 a.taken

  pub IsAccepted-from_added : (j : ℕ) (f : Fed) → added n t places grants j ≡ Some f → IsAccepted n t places (Serves grants) f.input j f.level f.kind
  IsAccepted-from_added j f e =
      let at = option_and_then_from (λ g. cond (is_in j (accepted n t places grants g.input)) (Some g) None) (fed_of grants j) f e in
      let g : Fed = at.0 in
      let kept = cond_some (is_in j (accepted n t places grants g.input)) g f at.2 in
      let a = accepted_from g.input j (size j g at.1) kept.0 in
      let mine = taken_from a.1 n (accept_of places g.input a.0) (λ y. Serves grants g.input y a.0 a.1) j a.2.taken in
      let once = Serves-once grants j g.input g.input a.0 g.level a.1 g.kind mine (Serves-from grants j g at.1) in
      let P : ℕ → Type 0 = λ l. IsAccepted n t places (Serves grants) g.input j l a.1 in
      let Q : Kind → Type 0 = λ k. IsAccepted n t places (Serves grants) g.input j g.level k in
      let R : Fed → Type 0 = λ h. IsAccepted n t places (Serves grants) h.input j h.level h.kind in
      subst R kept.1 (subst Q once.2 (subst P once.1 a.2))

  pub added_from_IsAccepted : (i j level : ℕ) (kind : Kind) → IsAccepted n t places (Serves grants) i j level kind
      → added n t places grants j ≡ Some (record { input = i; level = level; kind = kind })
  added_from_IsAccepted i j level kind a =
      let f : Fed = record { input = i; level = level; kind = kind } in
      let mine = taken_from kind n (accept_of places i level) (λ y. Serves grants i y level kind) j a.taken in
      ap (option_and_then (λ g. cond (is_in j (accepted n t places grants g.input)) (Some g) None)) mine
      ∙ cond-true (is_in j (accepted n t places grants i)) (Some f) None (in_accepted i j level kind (size j f mine) a)

module _ (n t : ℕ) (rows : List Row) (places : Places) (before : List (Option Fed)) (whole : IsMatch n before) (at_ports : AreAtPorts places)
    (ports_are : places.ports ≡ n) where
  grants : List (Option Fed)
  grants = map (granted n t rows places before) (ports n)

  grants_are : (i j level : ℕ) (kind : Kind) → Serves grants i j level kind ↔ Grants n t rows places before i j level kind
  unfolding grants
  grants_are = Serves-granted n t rows places before whole at_ports ports_are

  grants_size : (j : ℕ) (f : Fed) → fed_of grants j ≡ Some f → j < n
  unfolding grants
  grants_size j f e = (fed_of-ports_some (granted n t rows places before) n j f e).0

  grants_level : (i j level : ℕ) (kind : Kind) → Serves grants i j level kind → level < LEVELS
  grants_level i j level kind s = let g = (grants_are i j level kind).0 s in level_asked rows before i j level kind g.first.member

  grants_from : (i j level : ℕ) (kind : Kind) → Serves grants i j level kind → accept_of places i level < n
  grants_from i j level kind s = let g = (grants_are i j level kind).0 s in
      accept_in n t rows places before whole at_ports ports_are i level g.first.below (grants_level i j level kind s)

  Accepts-along : (i j level : ℕ) (kind : Kind) → IsAccepted n t places (Serves grants) i j level kind ↔ Accepts n t rows places before i j level kind
  Accepts-along i j level kind = (
    IsAccepted-along n t places (Serves grants) (Grants n t rows places before) grants_are i j level kind,
    IsAccepted-along n t places (Grants n t rows places before) (Serves grants) (λ x y m k. ((grants_are x y m k).1, (grants_are x y m k).0)) i j level kind,
  )

  -- the round that is computed is the round of the definition
  pub IsRound-round_of : IsRound n t rows places before (round_of n t rows places before)
  unfolding round_of grants
  IsRound-round_of =
      let after : ℕ → Option Fed = λ j. option_or (fed_of before j) (added n t places grants j) in
      record {
        count = length-map-range_with_len after 0 n;
        pairs = λ i j level kind.
            let f : Fed = record { input = i; level = level; kind = kind } in (
              λ s.
                  let at = fed_of-ports_some after n j f s in
                  elim (option_or_from (fed_of before j) (added n t places grants j) f at.1) [
                    | inl old ↦ inl old
                    | inr new ↦ inr ((Accepts-along i j level kind).0 (IsAccepted-from_added n t places grants grants_size grants_level grants_from j f new))
                  ],
              λ s. elim s [
                | inl old ↦
                    let lt = fed_of-lt before j f old in
                    let j_in : j < n = let size = whole.count in omega arith in
                    fed_of-ports after n j j_in ∙ ap (λ o. option_or o (added n t places grants j)) old
                | inr new ↦
                    let g : Grants n t rows places before i j level kind =
                    taken_from kind n (accept_of places i level) (λ y. Grants n t rows places before i y level kind) j new.taken in
                    let here = added_from_IsAccepted n t places grants grants_size grants_level grants_from i j level kind
                    ((Accepts-along i j level kind).1 new) in
                    fed_of-ports after n j g.output_in ∙ (ap (λ o. option_or o (added n t places grants j)) g.output_free ∙ here)
              ],
            );
      }
