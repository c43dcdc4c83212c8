-- What the later rounds of a slot leave: the pairs of the first round stay, and its unicast inputs get no others.
use Rattle.std.proofs.Common.{◌≡◌, ℕ, ◌<◌, List, [], ◌∷◌, Option, length, slice_index_or, sym, subst, inl, inr, arith}
use Rattle.rotating_pick.specs.declared.kinds.Kind.{Kind}
use Rattle.rotating_pick.specs.declared.kinds.Kind.TheVariants.{Uni}
use Rattle.rotating_pick.specs.declared.limits.TheConstants.{LEVELS}
use Rattle.slot_match.specs.declared.rows.Row.{Row}
use Rattle.slot_match.specs.declared.matching.Fed.{Fed}
use Rattle.slot_match.specs.Matches.{unmatched, Serves}
use Rattle.slot_match.proofs.Kept.{IsMatch-unmatched}
use Rattle.pointer_state.specs.Places.{Places, ArePointing, accept_of}
use Rattle.islip_rounds.specs.Numbers.{last_of}
use Rattle.eslip_rounds.specs.Rounds.{Grants, IsRound, AreRounds}
use Rattle.eslip_rounds.specs.Slots.{Decision, Moving, AreMoved, IsSlotBy}
use Rattle.eslip_rounds.proofs.Bests.{taken_from}
use Rattle.eslip_rounds.proofs.Running.{AreRounds-keep}

-- the match after the first of some rounds
abbrev pub first_of : ℕ → List (List (Option Fed)) → List (Option Fed)
first_of n steps = slice_index_or steps 0 (unmatched n)

-- it has an entry for each output
pub length-first_of : (n t : ℕ) (rows : List Row) (places : Places) (steps : List (List (Option Fed))) → AreRounds n t rows places (unmatched n) steps
    → length (first_of n steps) ≡ n
length-first_of n t rows places [] chain = (IsMatch-unmatched n).count
length-first_of n t rows places (step ∷ steps) chain = chain.0.count

-- a second round of some rounds, of which the pairs stay
pub second_of : (n t : ℕ) (rows : List Row) (places : Places) (steps : List (List (Option Fed))) → 1 < length steps
    → AreRounds n t rows places (unmatched n) steps
    → (second : List (Option Fed)) × IsRound n t rows places (first_of n steps) second
    × ((i j level : ℕ) (kind : Kind) → Serves second i j level kind → Serves (last_of (unmatched n) steps) i j level kind)
second_of n t rows places [] more chain = absurd (omega arith)
second_of n t rows places (step ∷ []) more chain = absurd (omega arith)
second_of n t rows places (step ∷ second ∷ steps) more chain =
    let later : AreRounds n t rows places step (second ∷ steps) = chain.1 in
    (second, later.0, AreRounds-keep n t rows places second steps later.1)

-- inputs that one match has as unicast have no pairs in the other that the one has not
abbrev pub GetNoMore : List (Option Fed) → List (Option Fed) → Type 0
GetNoMore first matched = (i j y level other : ℕ) (kind : Kind) → Serves first i j level Uni → Serves matched i y other kind → Serves first i y other kind

-- The slot begins with a first round, of which the pairs stay and the unicast inputs get no other pairs.
pub record BeginsWith (n t : ℕ) (rows : List Row) (places : Places) (first matched : List (Option Fed)) : Type 0 where
  pub opening : IsRound n t rows places (unmatched n) first
  pub stays : (i j level : ℕ) (kind : Kind) → Serves first i j level kind → Serves matched i j level kind
  pub no_more : GetNoMore first matched

module _ (n t : ℕ) (rows : List Row) (places : Places) where
  -- an input that is matched as unicast is free in no later round, and does not go on
  AreRounds-no_more : (before : List (Option Fed)) (steps : List (List (Option Fed))) → AreRounds n t rows places before steps
      → GetNoMore before (last_of before steps)
  AreRounds-no_more before [] chain i j y level other kind served later = later
  AreRounds-no_more before (step ∷ steps) chain i j y level other kind served later =
      let stays : Serves step i j level Uni = (chain.0.pairs i j level Uni).1 (inl served) in
      elim ((chain.0.pairs i y other kind).0 (AreRounds-no_more step steps chain.1 i j y level other kind stays later)) [
        | inl old ↦ old
        | inr accepted ↦
            let granted : Grants n t rows places before i y other kind =
            taken_from kind n (accept_of places i other) (λ z. Grants n t rows places before i z other kind) y accepted.taken in
            elim granted.first.member [
              | inl free ↦ absurd (free.0 j level Uni served)
              | inr on ↦ let multicast = (on.going_on.only j level Uni served).1 in absurd (cc)
            ]
      ]

  begins : (steps : List (List (Option Fed))) → 0 < length steps → AreRounds n t rows places (unmatched n) steps
      → BeginsWith n t rows places (first_of n steps) (last_of (unmatched n) steps)
  begins [] some chain = absurd (omega arith)
  begins (step ∷ steps) some chain =
      record {
        opening = chain.0;
        stays = AreRounds-keep n t rows places step steps chain.1;
        no_more = AreRounds-no_more step steps chain.1;
      }

  -- every slot of one round or more begins so, however its pointers move
  pub BeginsWith-slot : (Moves : Moving) (rounds : ℕ) (decision : Decision)
      → 0 < rounds → (slot : IsSlotBy Moves n rounds t rows places decision) → BeginsWith n t rows places (first_of n slot.steps) decision.matched
  BeginsWith-slot Moves rounds decision some slot =
      let count = slot.count in
      subst (BeginsWith n t rows places (first_of n slot.steps)) (sym slot.result) (begins slot.steps (omega arith) slot.chain)

-- A slot of a switch of n ports, as a level has it: its rows, the matches after its first round and after all, and the
-- pointers before it, which are at ports, and after it.
pub record Turn (n level : ℕ) : Type 0 where
  pub t : ℕ
  pub rows : List Row
  pub first : List (Option Fed)
  pub matched : List (Option Fed)
  pub before : Places
  pub after : Places
  pub level_in : level < LEVELS
  pub begins : BeginsWith n t rows before first matched
  pub moved : AreMoved n t rows first matched before after
  pub pointing : ArePointing n level before
