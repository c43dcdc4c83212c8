-- One slot, in which queue (0, 0) asks, and the pair that the pointers point at: that pair is served and no other.
use Rattle.std.proofs.Common.{◌≡◌, ℕ, ◌+◌, ◌%◌, ◌<◌, ◌≤◌, ◌⊎◌, ◌↔◌, ◌∙◌, List, Option, None, Some, refl, sym, ap, subst, inl, inr, arith}
use Rattle.std.proofs.lemmas.Bool.{cases_eq, eq-eqb, ne_eqb}
use Rattle.rotating_pick.specs.Rotation.{distance}
use Rattle.rotating_pick.specs.declared.kinds.Kind.{Kind}
use Rattle.rotating_pick.specs.declared.kinds.Kind.TheVariants.{Uni, Multi}
use Rattle.rotating_pick.proofs.First.{IsFirstFrom-only}
use Rattle.slot_match.specs.declared.rows.Row.{Row}
use Rattle.slot_match.specs.declared.matching.Fed.{Fed}
use Rattle.slot_match.specs.Rows.{Names, row_of, AreWithin}
use Rattle.slot_match.specs.Matches.{unmatched, fed_of, Serves}
use Rattle.slot_match.proofs.Pairs.{Serves-once, Serves-from, Serves-along}
use Rattle.pointer_state.specs.Places.{Places, ArePointing, grant_of, accept_of}
use Rattle.eslip_rounds.specs.Rounds.{Grants}
use Rattle.eslip_rounds.specs.Slots.{Moving, IsSlotBy}
use Rattle.eslip_rounds.specs.Schedules.{DecidedSlot}
use Rattle.eslip_rounds.proofs.FirstRounds.{AreAccepted, AreAccepted-round}
use Rattle.eslip_rounds.proofs.Unique.{Serves-named_by}
use Rattle.service_bound.specs.Windows.{IsClean, IsWithoutMulticast}
use Rattle.service_bound.proofs.Distances.{distance-own, distance-below}
use Rattle.service_bound.proofs.FirstRound.{IsFirstKind, grants_first, first_granted}
use Rattle.service_bound.proofs.Granting.{kind_is_first, served_by_first}
use Rattle.service_bound.proofs.InWindows.{KeepPointing, pointing_by}
use Rattle.service_bound.proofs.LaterRounds.{first_of, BeginsWith, BeginsWith-slot}
use Rattle.scheduler_laws.specs.FedSlots.{taken_by}

-- who asks: queue (0, 0), and input a for output b
abbrev pub IsAsked : ℕ → ℕ → ℕ → ℕ → Type 0
IsAsked a b i j = ((i ≡ 0) × (j ≡ 0)) ⊎ ((i ≡ a) × (j ≡ b))

-- the rows ask for that alone
abbrev pub AskFor : ℕ → ℕ → ℕ → List Row → Type 0
AskFor n a b rows = (i j level : ℕ) (kind : Kind) → i < n → j < n → Names (row_of rows i) level kind j ↔ ((level ≡ 0) × (kind ≡ Uni) × IsAsked a b i j)

-- Input a and output b have one line of queue (0, 0). Where they share the output it points at the input, and where they
-- share the input that points at the output.
pub record ArePointedAt (n a b : ℕ) (places : Places) : Type 0 where
  pub input_in : a < n
  pub output_in : b < n
  pub line : (b ≡ 0) ⊎ (a ≡ 0)
  pub pointing : ArePointing n 0 places
  pub grant : 0 < a → grant_of places 0 0 ≡ a
  pub accept : 0 < b → accept_of places 0 0 ≡ b

-- Where pointers move so: those of the pairs that were accepted in the first round move one beyond each other, the accept
-- pointer of an input that took nothing in it stays, and pointers stay at ports.
pub record MovePairs (Moves : Moving) : Type 0 where
  pub keep : (n : ℕ) → KeepPointing Moves n 0
  pub granted : (n t : ℕ) (rows : List Row) (first matched : List (Option Fed)) (before after : Places) → Moves n t rows first matched before after
      → AreAccepted n t rows before first → (i j : ℕ) → Serves first i j 0 Uni → grant_of after j 0 ≡ (i + 1) % n
  pub accepted : (n t : ℕ) (rows : List Row) (first matched : List (Option Fed)) (before after : Places) → Moves n t rows first matched before after
      → (i j : ℕ) → Serves first i j 0 Uni → accept_of after i 0 ≡ (j + 1) % n
  pub accept_stays : (n t : ℕ) (rows : List Row) (first matched : List (Option Fed)) (before after : Places) → Moves n t rows first matched before after
      → (i : ℕ) → ((j : ℕ) → Serves first i j 0 Uni → ⊥) → accept_of after i 0 ≡ accept_of before i 0

module _ (Moves : Moving) (pairs : MovePairs Moves) (n rounds t a b : ℕ) (places : Places) (slot : DecidedSlot) (some : 0 < rounds)
    (at : ArePointedAt n a b places) (within : AreWithin n slot.rows) (asks : AskFor n a b slot.rows)
    (decided : IsSlotBy Moves n rounds t slot.rows places slot.decision) where
  named : (i j level : ℕ) (kind : Kind) → i < n → Names (row_of slot.rows i) level kind j → (level ≡ 0) × (kind ≡ Uni) × IsAsked a b i j
  named i j level kind i_in there = (asks i j level kind i_in (within.ports i i_in level j kind there)).0 there

  clean : IsClean n 0 slot.rows
  clean i better j kind i_in less there = absurd (omega arith)

  alone : IsWithoutMulticast n 0 slot.rows
  alone i j i_in there = let kind = (named i j 0 Multi i_in there).1 in absurd (cc)

  abbrev first : List (Option Fed)
  first = first_of n decided.steps

  begins : BeginsWith n t slot.rows places first slot.decision.matched
  begins = BeginsWith-slot n t slot.rows places Moves rounds slot.decision some decided

  all_accepted : AreAccepted n t slot.rows places first
  all_accepted = AreAccepted-round n t slot.rows places first begins.opening

  unicast_first : IsFirstKind n t slot.rows 0 Uni
  unicast_first = kind_is_first n t 0 slot.rows first places (omega arith) begins.opening at.pointing clean alone

  abbrev Granted : ℕ → ℕ → Type 0
  Granted i j = Grants n t slot.rows places (unmatched n) i j 0 Uni

  -- no input that asks output b is nearer to its pointer
  nearest : (z : ℕ) → z < n → Names (row_of slot.rows z) 0 Uni b → distance n (grant_of places b 0) a ≤ distance n (grant_of places b 0) z
  nearest z z_in there = elim (cases_eq a 0) [
    | inl first_input ↦
        let same : z ≡ a = elim (named z b 0 Uni z_in there).2 [ inl both ↦ both.0 ∙ sym first_input | inr it ↦ it.0 ] in
        let e = ap (distance n (grant_of places b 0)) same in
        omega arith
    | inr later ↦
        let first_output : b ≡ 0 = elim at.line [ inl is ↦ is | inr is ↦ absurd (later is) ] in
        let here : grant_of places b 0 ≡ a = ap (λ j. grant_of places j 0) first_output ∙ at.grant (omega arith) in
        let none : distance n (grant_of places b 0) a ≡ 0 = subst (λ g. distance n g a ≡ 0) (sym here) (distance-own n a at.input_in) in
        omega arith
  ]

  granted : Granted a b
  granted =
      grants_first n t slot.rows places 0 (omega arith) clean Uni unicast_first a b at.output_in
      (record { below = at.input_in; member = (asks a b 0 Uni at.input_in at.output_in).1 (refl, refl, inr (refl, refl)); least = nearest })

  -- input a takes it
  served_first : Serves first a b 0 Uni
  served_first =
      let met = served_by_first n t 0 slot.rows first places (omega arith) begins.opening at.pointing clean alone a b at.input_in granted in
      let y : ℕ = met.0 in
      let asked = first_granted n t slot.rows places 0 (omega arith) clean Uni unicast_first a y met.1.member in
      let same : y ≡ b = elim (named a y 0 Uni at.input_in asked.member).2 [
        | inr it ↦ it.1
        | inl zero ↦ elim (cases_eq b 0) [
          | inl none ↦ zero.1 ∙ sym none
          | inr more ↦
              let here : accept_of places a 0 ≡ b = ap (λ i. accept_of places i 0) zero.0 ∙ at.accept (omega arith) in
              let none : distance n (accept_of places a 0) b ≡ 0 = subst (λ g. distance n g b ≡ 0) (sym here) (distance-own n b at.output_in) in
              let near : distance n (accept_of places a 0) y ≤ distance n (accept_of places a 0) b = met.1.least b at.output_in granted in
              let far : distance n b 0 + b ≡ 0 + n = distance-below n b 0 at.output_in (omega arith) (omega arith) in
              let there : distance n (accept_of places a 0) y ≡ distance n b y = ap (λ g. distance n g y) here in
              let place : distance n b y ≡ distance n b 0 = ap (distance n b) zero.1 in
              let room = at.output_in in
              absurd (omega (arith, none, near, far, there, place, room))
        ]
      ] in
      subst (λ x. Serves first a x 0 Uni) same met.2

  pub served : Serves slot.decision.matched a b 0 Uni
  served = begins.stays a b 0 Uni served_first

  -- an input takes one output in the first round
  once : (j : ℕ) → Serves first a j 0 Uni → j ≡ b
  once j s =
      let one = all_accepted a j 0 Uni s in
      let other = all_accepted a b 0 Uni served_first in
      IsFirstFrom-only n (accept_of places a 0) (λ y. Granted a y) j b (at.pointing.accept a at.input_in) one.taken other.taken

  -- nothing else is served
  pub only : (i j level : ℕ) (kind : Kind) → i < n → Serves slot.decision.matched i j level kind → (i ≡ a) × (j ≡ b)
  only i j level kind i_in s =
      let there = Serves-named_by Moves n rounds t slot.rows places slot.decision decided i j level kind s in
      let is = named i j level kind i_in there in
      elim is.2 [
        | inr it ↦ it
        | inl zero ↦ elim at.line [
          | inl first_output ↦
              let place : j ≡ b = zero.1 ∙ sym first_output in
              let P : ℕ → Type 0 = λ x. Serves slot.decision.matched i x level kind in
              let here : Serves slot.decision.matched i b level kind = subst P place s in
              ((Serves-once slot.decision.matched b i a level 0 kind Uni here served).0, place)
          | inr first_input ↦
              let place : i ≡ a = zero.0 ∙ sym first_input in
              let P : ℕ → Type 0 = λ x. Serves slot.decision.matched x j level kind in
              let here : Serves slot.decision.matched a j level kind = subst P place s in
              let early : Serves first a j level kind = begins.no_more a b j 0 level kind served_first here in
              (place, once j (Serves-along first a j level 0 kind Uni is.0 is.1 early))
        ]
      ]

  only_first : (i j : ℕ) → Serves first i j 0 Uni → (i ≡ a) × (j ≡ b)
  only_first i j s =
      let accepted = all_accepted i j 0 Uni s in
      only i j 0 Uni accepted.taken.member.first.below (begins.stays i j 0 Uni s)

  -- one cell leaves the queue of the pair
  pub one_leaves : taken_by a (fed_of slot.decision.matched b) ≡ 1
  one_leaves = ap (taken_by a) served ∙ rw (eq-eqb a a refl) refl

  -- and none another queue
  pub none_leaves : (i j : ℕ) → i < n → ((i ≡ a) × (j ≡ b) → ⊥) → taken_by i (fed_of slot.decision.matched j) ≡ 0
  none_leaves i j i_in other = go (fed_of slot.decision.matched j) refl where
    go : (o : Option Fed) → fed_of slot.decision.matched j ≡ o → taken_by i o ≡ 0
    go None e = refl
    go (Some f) e = elim (cases_eq f.input i) [
      | inr apart ↦ rw (ne_eqb f.input i apart) refl
      | inl same ↦
          let P : ℕ → Type 0 = λ x. Serves slot.decision.matched x j f.level f.kind in
          absurd (other (only i j f.level f.kind i_in (subst P same (Serves-from slot.decision.matched j f e))))
    ]

  -- the pointers after the slot
  pub pointing_after : ArePointing n 0 slot.decision.places
  pointing_after = pointing_by Moves n rounds t 0 places slot (pairs.keep n) at.pointing within decided

  pub grant_moves : grant_of slot.decision.places b 0 ≡ (a + 1) % n
  grant_moves = pairs.granted n t slot.rows first slot.decision.matched places slot.decision.places decided.moved all_accepted a b served_first

  pub accept_moves : accept_of slot.decision.places a 0 ≡ (b + 1) % n
  accept_moves = pairs.accepted n t slot.rows first slot.decision.matched places slot.decision.places decided.moved a b served_first

  pub accept_stays : 0 < a → accept_of slot.decision.places 0 0 ≡ accept_of places 0 0
  accept_stays more =
      pairs.accept_stays n t slot.rows first slot.decision.matched places slot.decision.places decided.moved 0
      (λ j s. let e = (only_first 0 j s).0 in omega arith)
