-- A slot leaves no choice: one match, one list of numbers, one place for each pointer.
use Rattle.std.proofs.Common.{◌≡◌, ℕ, ◌+◌, ◌%◌, ◌<◌, ◌⊎◌, ◌∙◌, List, [], ◌∷◌, Option, None, Some, length, slice_index_or, refl, sym, ap, subst, inl, inr, arith}
use Rattle.std.proofs.lemmas.Bool.{cases_lt}
use Rattle.std.proofs.lemmas.List.{ext_get_or}
use Rattle.std.proofs.lemmas.Nat.{mod_below}
use Rattle.std.proofs.lemmas.Option.{same_Some, none-some}
use Rattle.rotating_pick.specs.Rotation.{IsFirstFrom}
use Rattle.rotating_pick.specs.declared.kinds.Kind.TheVariants.{Uni, Multi}
use Rattle.rotating_pick.specs.declared.limits.TheConstants.{LEVELS}
use Rattle.rotating_pick.proofs.First.{IsFirstFrom-only}
use Rattle.rotating_pick.proofs.Picking.{Decides, least, IsFirstFrom-some}
use Rattle.slot_match.specs.declared.rows.Row.{Row}
use Rattle.slot_match.specs.declared.matching.Fed.{Fed}
use Rattle.slot_match.specs.Rows.{Names, row_of, AreWithin, HasHead}
use Rattle.slot_match.specs.Matches.{unmatched, fed_of, Serves, IsMatch, Completes}
use Rattle.slot_match.proofs.Pairs.{Serves-decides, fed_of-lt}
use Rattle.slot_match.proofs.Kept.{IsMatch-unmatched, nobody_at_first}
use Rattle.pointer_state.specs.Places.{Places, AreAtPorts, ArePointing, grant_of, accept_of, shared_of}
use Rattle.pointer_state.proofs.Same.{AreAlike, Places-same}
use Rattle.islip_rounds.specs.Numbers.{last_of, slot_numbers}
use Rattle.eslip_rounds.specs.Rounds.{Grants, IsRound, AreRounds}
use Rattle.eslip_rounds.specs.Slots.{Decision, Moving, AreMoved, IsSlotBy, IsSlot}
use Rattle.eslip_rounds.proofs.Bests.{AreAmong, taken_from}
use Rattle.eslip_rounds.proofs.Deciding.{some_below, Completes-or, HasHead-decides}
use Rattle.eslip_rounds.proofs.Matching.{IsMatch-rounds}

same_option : (o p : Option Fed) → ((f : Fed) → o ≡ Some f → p ≡ Some f) → ((f : Fed) → p ≡ Some f → o ≡ Some f) → o ≡ p
same_option None None f g = refl
same_option None (Some x) f g = g x refl
same_option (Some x) p f g = sym (f x refl)

module _ (n t : ℕ) (rows : List Row) (places : Places) where
  carried : (before x y : List (Option Fed)) → IsRound n t rows places before x → IsRound n t rows places before y → (j : ℕ) (f : Fed) → fed_of x j ≡ Some f
      → fed_of y j ≡ Some f
  carried before x y r s j f e = (s.pairs f.input j f.level f.kind).1 ((r.pairs f.input j f.level f.kind).0 e)

  -- one match after a round
  pub IsRound-only : (before x y : List (Option Fed)) → IsRound n t rows places before x → IsRound n t rows places before y → x ≡ y
  IsRound-only before x y r s =
      ext_get_or None x y (r.count ∙ sym s.count) (λ j below. same_option (fed_of x j) (fed_of y j) (carried before x y r s j) (carried before y x s r j))

  pub AreRounds-only : (before : List (Option Fed)) (xs ys : List (List (Option Fed))) → length xs ≡ length ys → AreRounds n t rows places before xs
      → AreRounds n t rows places before ys → xs ≡ ys
  AreRounds-only before [] [] long a b = refl
  AreRounds-only before [] (y ∷ ys) long a b = absurd (omega arith)
  AreRounds-only before (x ∷ xs) [] long a b = absurd (omega arith)
  AreRounds-only before (x ∷ xs) (y ∷ ys) long a b =
      let here : x ≡ y = IsRound-only before x y a.0 b.0 in
      let rest : xs ≡ ys = AreRounds-only x xs ys (omega arith) a.1 (subst (λ m. AreRounds n t rows places m ys) (sym here) b.1) in
      λ i. here i ∷ rest i

-- what feeds output j as unicast of the level, if anything does
pub fed_by : (matched : List (Option Fed)) (j level : ℕ) → ((i : ℕ) × Serves matched i j level Uni) ⊎ ((i : ℕ) → Serves matched i j level Uni → ⊥)
fed_by matched j level = go (fed_of matched j) refl where
  go : (o : Option Fed) → fed_of matched j ≡ o → ((i : ℕ) × Serves matched i j level Uni) ⊎ ((i : ℕ) → Serves matched i j level Uni → ⊥)
  go None e = inr (λ i s. none-some (record { input = i; level = level; kind = Uni }) (sym e ∙ s))
  go (Some f) e = elim (Serves-decides matched f.input j level Uni) [
    | inl s ↦ inl (f.input, s)
    | inr other ↦ inr (λ i s.
        let g : Fed = record { input = i; level = level; kind = Uni } in
        let same : f ≡ g = same_Some f g (sym e ∙ s) in
        let input : f.input ≡ i = ap (λ h. h.input) same in
        other (subst (λ x. Serves matched x j level Uni) (sym input) s))
  ]

module _ (n t : ℕ) (rows : List Row) (first_match matched : List (Option Fed)) (before : Places) (within : AreWithin n rows) (size : length first_match ≡ n)
    (at_ports : AreAtPorts before) (ports : before.ports ≡ n) (some : 0 < n) where
  -- what input i feeds as unicast of the level, if anything
  feeds : (i level : ℕ) → ((j : ℕ) × Serves first_match i j level Uni) ⊎ ((j : ℕ) → Serves first_match i j level Uni → ⊥)
  feeds i level = elim (some_below (λ j. Serves first_match i j level Uni) (λ j. Serves-decides first_match i j level Uni) n) [
    | inl found ↦ inl (found.0, found.2)
    | inr none ↦ inr (λ j s. let below : j < n = let lt = fed_of-lt first_match j (record { input = i; level = level; kind = Uni }) s in omega arith in
        none (j, below, s))
  ]

  -- the head that a level's shared pointer passes, if it passes one
  passes : (level : ℕ) → ((i : ℕ) × IsFirstFrom n (shared_of before level) (HasHead rows level) i × Completes rows matched level i)
      ⊎ ((i : ℕ) → IsFirstFrom n (shared_of before level) (HasHead rows level) i → Completes rows matched level i → ⊥)
  passes level = elim (cases_lt level LEVELS) [
    | inr above ↦ inr (λ i f done. let below = within.levels i f.below level f.member.0 Multi f.member.1 in absurd (omega arith))
    | inl level_in ↦
        let from_in : shared_of before level < n = let lt = (at_ports.pointing level level_in).shared in omega arith in
        let Head : ℕ → Type 0 = λ i. (i < n) × HasHead rows level i in
        let dec : (i : ℕ) → Decides (Head i) = λ i. elim (cases_lt i n) [
          | inl i_in ↦ elim (HasHead-decides n rows level i within i_in) [ inl has ↦ inl (i_in, has) | inr none ↦ inr (λ p. none p.1) ]
          | inr out ↦ inr (λ p. absurd (let below = p.0 in omega arith))
        ] in
        elim (least Head dec n) [
          | inr none ↦ inr (λ i f done. none i f.below (f.below, f.member))
          | inl found ↦
              let f = IsFirstFrom-some n (shared_of before level) Head dec from_in found.0 found.1 found.2 in
              let head : IsFirstFrom n (shared_of before level) (HasHead rows level) f.0 =
              record { below = f.1.below; member = f.1.member.1; least = λ y y_in has. f.1.least y y_in (y_in, has) } in
              elim (Completes-or n rows matched level f.0 within f.1.below) [
                | inl done ↦ inl (f.0, head, done)
                | inr left ↦ inr (λ i g done.
                    let same : f.0 ≡ i = IsFirstFrom-only n (shared_of before level) (HasHead rows level) f.0 i from_in head g in
                    left.2 (subst (Completes rows matched level) (sym same) done left.0 left.1))
              ]
        ]
  ]

  -- one place for each pointer
  pub AreMoved-alike : (a b : Places) → AreMoved n t rows first_match matched before a → AreMoved n t rows first_match matched before b → AreAlike a b
  AreMoved-alike a b r s =
      record {
        ports = r.ports ∙ sym s.ports;
        grant = λ j level. elim (fed_by first_match j level) [
          | inl h ↦ r.granted h.0 j level h.1
              ∙ sym (s.granted h.0 j level h.1)
          | inr none ↦ r.grant_stays j level none ∙ sym (s.grant_stays j level none)
        ];
        accept = λ i level. elim (feeds i level) [
          | inl h ↦ r.accepted i h.0 level h.1
              ∙ sym (s.accepted i h.0 level h.1)
          | inr none ↦ r.accept_stays i level none ∙ sym (s.accept_stays i level none)
        ];
        shared = λ level. elim (passes level) [
          | inl h ↦ r.passed h.0 level h.1 h.2 ∙ sym (s.passed h.0 level h.1 h.2)
          | inr none ↦ r.shared_stays level none
              ∙ sym (s.shared_stays level none)
        ];
      }

  pub AreMoved-only : (a b : Places) → AreAtPorts a → AreAtPorts b → AreMoved n t rows first_match matched before a
      → AreMoved n t rows first_match matched before b → a ≡ b
  AreMoved-only a b x y r s = Places-same a b x y (AreMoved-alike a b r s)

  -- after a slot the pointers are at ports again
  pub ArePointing-moved : (after : Places) → AreMoved n t rows first_match matched before after → (level : ℕ) → level < LEVELS → ArePointing n level after
  ArePointing-moved after r level level_in =
      let pointing = at_ports.pointing level level_in in
      let by : (x y : ℕ) → x ≡ y → y < n → x < n = λ x y e h. omega arith in
      record {
        grant = λ j j_in. elim (fed_by first_match j level) [
          | inl h ↦ by (grant_of after j level) ((h.0 + 1) % n) (r.granted h.0 j level h.1) (mod_below (h.0 + 1) n some)
          | inr none ↦ by (grant_of after j level) (grant_of before j level) (r.grant_stays j level none)
              (let lt = pointing.grant j (omega arith) in omega arith)
        ];
        accept = λ i i_in. elim (feeds i level) [
          | inl h ↦ by (accept_of after i level) ((h.0 + 1) % n) (r.accepted i h.0 level h.1) (mod_below (h.0 + 1) n some)
          | inr none ↦ by (accept_of after i level) (accept_of before i level) (r.accept_stays i level none)
              (let lt = pointing.accept i (omega arith) in omega arith)
        ];
        shared = elim (passes level) [
          | inl h ↦ by (shared_of after level) ((h.0 + 1) % n) (r.passed h.0 level h.1 h.2) (mod_below (h.0 + 1) n some)
          | inr none ↦ by (shared_of after level) (shared_of before level) (r.shared_stays level none) (let lt = pointing.shared in omega arith)
        ];
      }

first_size : (n t : ℕ) (rows : List Row) (places : Places) (steps : List (List (Option Fed))) → AreRounds n t rows places (unmatched n) steps
    → length (slice_index_or steps 0 (unmatched n)) ≡ n
first_size n t rows places [] chain = (IsMatch-unmatched n).count
first_size n t rows places (step ∷ steps) chain = chain.0.count

module _ (n rounds t : ℕ) (rows : List Row) (places : Places) (within : AreWithin n rows) (at_ports : AreAtPorts places) (ports : places.ports ≡ n) where
  some_ports : 0 < n
  some_ports = let some = at_ports.some in omega arith

  first_of_slot : (steps : List (List (Option Fed))) → AreRounds n t rows places (unmatched n) steps → length (slice_index_or steps 0 (unmatched n)) ≡ n
  first_of_slot = first_size n t rows places

  module _ (Moves : Moving) where
    -- two decisions of one slot are one, where there is one place for each pointer
    pub IsSlotBy-only : ((first_match matched : List (Option Fed)) → length first_match ≡ n → (a b : Places) → AreAtPorts a → AreAtPorts b
        → Moves n t rows first_match matched places a → Moves n t rows first_match matched places b → a ≡ b)
        → (a b : Decision) → AreAtPorts a.places → AreAtPorts b.places → IsSlotBy Moves n rounds t rows places a → IsSlotBy Moves n rounds t rows places b
        → a ≡ b
    IsSlotBy-only moves_only a b x y r s =
        let steps : r.steps ≡ s.steps = AreRounds-only n t rows places (unmatched n) r.steps s.steps (r.count ∙ sym s.count) r.chain s.chain in
        let matches : a.matched ≡ b.matched = r.result ∙ (ap (last_of (unmatched n)) steps ∙ sym s.result) in
        let numbers : a.numbers ≡ b.numbers = r.numbered ∙ (ap slot_numbers steps ∙ sym s.numbered) in
        let firsts : slice_index_or s.steps 0 (unmatched n) ≡ slice_index_or r.steps 0 (unmatched n) = ap (λ m. slice_index_or m 0 (unmatched n)) (sym steps) in
        let First = slice_index_or r.steps 0 (unmatched n) in
        let moved : Moves n t rows First a.matched places b.places =
        subst (λ m. Moves n t rows First m places b.places) (sym matches) (subst (λ f. Moves n t rows f b.matched places b.places) firsts s.moved) in
        let after = moves_only First a.matched (first_of_slot r.steps r.chain) a.places b.places x y r.moved moved in
        λ i. record { matched = matches i; numbers = numbers i; places = after i }

    -- the match of a slot is a match
    pub IsMatch-slot_by : (a : Decision) → IsSlotBy Moves n rounds t rows places a → IsMatch n a.matched
    IsMatch-slot_by a r = subst (IsMatch n) (sym r.result) (IsMatch-rounds n t rows places at_ports ports (unmatched n) r.steps (IsMatch-unmatched n) r.chain)

  pub IsSlot-only : (a b : Decision) → AreAtPorts a.places → AreAtPorts b.places → IsSlot n rounds t rows places a → IsSlot n rounds t rows places b → a ≡ b
  IsSlot-only = IsSlotBy-only AreMoved (λ first_match matched size. AreMoved-only n t rows first_match matched places within size at_ports ports some_ports)

  pub IsMatch-slot : (a : Decision) → IsSlot n rounds t rows places a → IsMatch n a.matched
  IsMatch-slot = IsMatch-slot_by AreMoved

  -- and the pointers after it are at ports
  pub ArePointing-slot : (a : Decision) → IsSlot n rounds t rows places a → (level : ℕ) → level < LEVELS → ArePointing n level a.places
  ArePointing-slot a r = ArePointing-moved n t rows (slice_index_or r.steps 0 (unmatched n)) a.matched places within
      (first_of_slot r.steps r.chain) at_ports ports some_ports a.places r.moved

-- what is matched is named
abbrev pub AreAllNamed : List Row → List (Option Fed) → Type 0
AreAllNamed rows matched = AreAmong (Serves matched) (λ i j level kind. Names (row_of rows i) level kind j)

named_rounds : (n t : ℕ) (rows : List Row) (places : Places) (before : List (Option Fed)) (steps : List (List (Option Fed)))
    → AreRounds n t rows places before steps → AreAllNamed rows before → AreAllNamed rows (last_of before steps)
named_rounds n t rows places before [] chain known = known
named_rounds n t rows places before (step ∷ steps) chain known =
    named_rounds n t rows places step steps chain.1
    (λ i j level kind s. elim ((chain.0.pairs i j level kind).0 s) [
      | inl old ↦ known i j level kind old
      | inr a ↦
          let g : Grants n t rows places before i j level kind =
          taken_from kind n (accept_of places i level) (λ y. Grants n t rows places before i y level kind) j a.taken in
          elim g.first.member [ inl p ↦ p.1.named | inr on ↦ subst (λ k. Names (row_of rows i) level k j) (sym on.multicast) on.named ]
    ])

pub Serves-named_by : (Moves : Moving) (n rounds t : ℕ) (rows : List Row) (places : Places) (a : Decision) → IsSlotBy Moves n rounds t rows places a
    → AreAllNamed rows a.matched
Serves-named_by Moves n rounds t rows places a r =
    subst (AreAllNamed rows) (sym r.result)
    (named_rounds n t rows places (unmatched n) r.steps r.chain (λ i j level kind s. absurd (nobody_at_first n i j level kind s)))

pub Serves-named : (n rounds t : ℕ) (rows : List Row) (places : Places) (a : Decision) → IsSlot n rounds t rows places a → AreAllNamed rows a.matched
Serves-named = Serves-named_by AreMoved
