-- A round keeps a match a match: no input or output is matched twice except for one multicast head.
use Rattle.std.proofs.Common.{◌≡◌, ℕ, ◌<◌, ◌⊎◌, ◌∙◌, List, [], ◌∷◌, Option, refl, sym, subst, inl, inr, arith}
use Rattle.rotating_pick.specs.declared.kinds.Kind.{Kind}
use Rattle.rotating_pick.specs.declared.kinds.Kind.TheVariants.{Uni, Multi}
use Rattle.rotating_pick.specs.declared.limits.TheConstants.{LEVELS}
use Rattle.rotating_pick.proofs.First.{IsFirstFrom-only}
use Rattle.slot_match.specs.declared.rows.Row.{Row}
use Rattle.slot_match.specs.declared.matching.Fed.{Fed}
use Rattle.slot_match.specs.Matches.{Serves, IsMatch}
use Rattle.pointer_state.specs.Places.{Places, AreAtPorts, accept_of}
use Rattle.islip_rounds.specs.Numbers.{last_of}
use Rattle.eslip_rounds.specs.Rounds.{Takes, Grants, Accepts, IsRound, AreRounds}
use Rattle.eslip_rounds.proofs.Bests.{IsBest-only, taken_from}
use Rattle.eslip_rounds.proofs.Choosing.{level_asked}

module _ (n t : ℕ) (rows : List Row) (places : Places) (at_ports : AreAtPorts places) (ports : places.ports ≡ n) where
  accept_in : (i level : ℕ) → i < n → level < LEVELS → accept_of places i level < n
  accept_in i level i_in level_in = let lt = (at_ports.pointing level level_in).accept i (omega arith) in omega arith

  takes_once : (kind : Kind) (before : List (Option Fed)) (i j y level : ℕ) → i < n → level < LEVELS
      → Takes kind n (accept_of places i level) (λ z. Grants n t rows places before i z level kind) j
      → Takes kind n (accept_of places i level) (λ z. Grants n t rows places before i z level kind) y → (j ≡ y) ⊎ (kind ≡ Multi)
  takes_once Multi before i j y level i_in level_in a b = inr refl
  takes_once Uni before i j y level i_in level_in a b =
      inl (IsFirstFrom-only n (accept_of places i level) (λ z. Grants n t rows places before i z level Uni) j y (accept_in i level i_in level_in) a b)

  accepted_level : (before : List (Option Fed)) (i j level : ℕ) (kind : Kind) → Accepts n t rows places before i j level kind → (i < n) × (level < LEVELS)
  accepted_level before i j level kind a = let g = a.best.there.1 in (g.first.below, level_asked rows before i a.best.there.0 level kind g.first.member)

  -- two outputs that an input accepts at once
  accepts_once : (before : List (Option Fed)) (i j l : ℕ) (k : Kind) (y m : ℕ) (q : Kind) → Accepts n t rows places before i j l k
      → Accepts n t rows places before i y m q → (j ≡ y) ⊎ ((l ≡ m) × (k ≡ Multi) × (q ≡ Multi))
  accepts_once before i j l k y m q a b =
      let one = IsBest-only t (λ r s. (z : ℕ) × Grants n t rows places before i z r s) l m k q a.best b.best in
      let P : ℕ → Type 0 = λ r. Takes q n (accept_of places i r) (λ z. Grants n t rows places before i z r q) y in
      let Q : Kind → Type 0 = λ s. Takes s n (accept_of places i l) (λ z. Grants n t rows places before i z l s) y in
      let there = subst Q (sym one.1) (subst P (sym one.0) b.taken) in
      let ins = accepted_level before i j l k a in
      elim (takes_once k before i j y l ins.0 ins.1 a.taken there) [ inl same ↦ inl same | inr multi ↦ inr (one.0, multi, sym one.1 ∙ multi) ]

  -- an input that had a pair and accepts more goes on with its head
  goes_on : (before : List (Option Fed)) (i j l : ℕ) (k : Kind) (y m : ℕ) (q : Kind) → Serves before i j l k → Accepts n t rows places before i y m q
      → (l ≡ m) × (k ≡ Multi) × (q ≡ Multi)
  goes_on before i j l k y m q s a =
      let g : Grants n t rows places before i y m q = taken_from q n (accept_of places i m) (λ z. Grants n t rows places before i z m q) y a.taken in
      elim g.first.member [
        | inl p ↦ absurd (p.0 j l k s)
        | inr on ↦ let only = on.going_on.only j l k s in (only.0, only.1, on.multicast)
      ]

  pub IsMatch-round : (before after : List (Option Fed)) → IsMatch n before → IsRound n t rows places before after → IsMatch n after
  IsMatch-round before after whole round =
      record {
        count = round.count;
        input_in = λ i j l k s. elim ((round.pairs i j l k).0 s) [ inl old ↦ whole.input_in i j l k old | inr a ↦ (accepted_level before i j l k a).0 ];
        level_in = λ i j l k s. elim ((round.pairs i j l k).0 s) [ inl old ↦ whole.level_in i j l k old | inr a ↦ (accepted_level before i j l k a).1 ];
        once = λ i j l k y m q s r. elim ((round.pairs i j l k).0 s) [
          | inl old ↦ elim ((round.pairs i y m q).0 r) [ inl also ↦ whole.once i j l k y m q old also | inr b ↦ inr (goes_on before i j l k y m q old b) ]
          | inr a ↦ elim ((round.pairs i y m q).0 r) [
            | inl also ↦ let on = goes_on before i y m q j l k also a in inr (sym on.0, on.2, on.1)
            | inr b ↦ accepts_once before i j l k y m q a b
          ]
        ];
      }

  pub IsMatch-rounds : (before : List (Option Fed)) (steps : List (List (Option Fed))) → IsMatch n before → AreRounds n t rows places before steps
      → IsMatch n (last_of before steps)
  IsMatch-rounds before [] whole chain = whole
  IsMatch-rounds before (step ∷ steps) whole chain = IsMatch-rounds step steps (IsMatch-round before step whole chain.0) chain.1
