-- What some rounds of a slot match, more rounds match too.
use Rattle.std.proofs.Common.{◌≡◌, ℕ, ◌≤◌, ◌∙◌, List, [], ◌∷◌, Option, length, sym, ap, subst, arith}
use Rattle.rotating_pick.specs.declared.kinds.Kind.{Kind}
use Rattle.slot_match.specs.declared.rows.Row.{Row}
use Rattle.slot_match.specs.declared.matching.Fed.{Fed}
use Rattle.slot_match.specs.Matches.{unmatched, Serves}
use Rattle.slot_match.proofs.Kept.{IsMatch-unmatched}
use Rattle.slot_match.proofs.Pairs.{Serves-from}
use Rattle.pointer_state.specs.Places.{Places}
use Rattle.islip_rounds.specs.Numbers.{last_of, matched_count}
use Rattle.islip_rounds.proofs.Counting.{grown}
use Rattle.eslip_rounds.specs.Rounds.{AreRounds}
use Rattle.eslip_rounds.specs.Slots.{Decision, Moving, IsSlotBy}
use Rattle.eslip_rounds.proofs.Running.{AreRounds-keep}
use Rattle.eslip_rounds.proofs.Unique.{IsRound-only}

-- every pair of the one match is one of the other
abbrev pub AreIn : List (Option Fed) → List (Option Fed) → Type 0
AreIn some more = (i j level : ℕ) (kind : Kind) → Serves some i j level kind → Serves more i j level kind

module _ (n t : ℕ) (rows : List Row) (places : Places) where
  kept_by_more : (before : List (Option Fed)) (xs ys : List (List (Option Fed))) → length xs ≤ length ys → AreRounds n t rows places before xs
      → AreRounds n t rows places before ys → AreIn (last_of before xs) (last_of before ys)
  kept_by_more before [] ys long a b i j level kind s = AreRounds-keep n t rows places before ys b i j level kind s
  kept_by_more before (x ∷ xs) [] long a b i j level kind s = absurd (omega arith)
  kept_by_more before (x ∷ xs) (y ∷ ys) long a b i j level kind s =
      let here : x ≡ y = IsRound-only n t rows places before x y a.0 b.0 in
      let rest : AreRounds n t rows places x ys = subst (λ m. AreRounds n t rows places m ys) (sym here) b.1 in
      let there : Serves (last_of x ys) i j level kind = kept_by_more x xs ys (omega arith) a.1 rest i j level kind s in
      subst (λ m. Serves (last_of m ys) i j level kind) here there

  length-last : (before : List (Option Fed)) (steps : List (List (Option Fed))) → length before ≡ n → AreRounds n t rows places before steps
      → length (last_of before steps) ≡ n
  length-last before [] long chain = long
  length-last before (step ∷ steps) long chain = length-last step steps chain.0.count chain.1

  length-slot : (Moves : Moving) (rounds : ℕ) (a : Decision) → IsSlotBy Moves n rounds t rows places a → length a.matched ≡ n
  length-slot Moves rounds a slot = ap length slot.result ∙ length-last (unmatched n) slot.steps (IsMatch-unmatched n).count slot.chain

  pub Serves-more : (Moves Others : Moving) (rounds more : ℕ) (a b : Decision) → rounds ≤ more → IsSlotBy Moves n rounds t rows places a
      → IsSlotBy Others n more t rows places b → AreIn a.matched b.matched
  Serves-more Moves Others rounds more a b at_most x y i j level kind s =
      let fewer = x.count in
      let most = y.count in
      let there : Serves (last_of (unmatched n) x.steps) i j level kind = subst (λ m. Serves m i j level kind) x.result s in
      subst (λ m. Serves m i j level kind) (sym y.result)
      (kept_by_more (unmatched n) x.steps y.steps (omega arith) x.chain y.chain i j level kind there)

  -- so at least as many outputs are matched
  pub count-more : (Moves Others : Moving) (rounds more : ℕ) (a b : Decision) → rounds ≤ more → IsSlotBy Moves n rounds t rows places a
      → IsSlotBy Others n more t rows places b → matched_count a.matched ≤ matched_count b.matched
  count-more Moves Others rounds more a b at_most x y =
      let long : length a.matched ≡ length b.matched = length-slot Moves rounds a x ∙ sym (length-slot Others more b y) in
      grown a.matched b.matched long (λ j f e. Serves-more Moves Others rounds more a b at_most x y f.input j f.level f.kind (Serves-from a.matched j f e))
