-- Slots in which input 0 asks output 0, and input 1 asks output 0 and one beside it, by turns 1 and 2: whenever output 0
-- grants input 1, input 1 takes output 2, and output 0 goes on to others.
use Rattle.std.proofs.Common.{◌≡◌, ℕ, ◌+◌, ◌-◌, ◌<◌, ◌≤◌, ◌⊎◌, ◌∙◌, List, Option, refl, ap, sym, subst, inl, inr, arith}
use Rattle.std.proofs.Math.Nat.{mod-eq_of_lt}
use Rattle.rotating_pick.specs.Rotation.{distance}
use Rattle.rotating_pick.specs.declared.kinds.Kind.TheVariants.{Uni, Multi}
use Rattle.slot_match.specs.declared.matching.Fed.{Fed}
use Rattle.slot_match.specs.Rows.{Names, row_of}
use Rattle.slot_match.specs.Matches.{unmatched, Serves}
use Rattle.slot_match.specs.Keeping.{Keeps}
use Rattle.slot_match.proofs.Kept.{IsMatch-unmatched}
use Rattle.pointer_state.specs.Places.{Places, AreAtPorts, ArePointing, grant_of, accept_of}
use Rattle.eslip_rounds.specs.Schedules.{DecidedSlot}
use Rattle.eslip_rounds.proofs.FirstRounds.{grants_once}
use Rattle.eslip_rounds.proofs.Matching.{IsMatch-round}
use Rattle.service_bound.specs.Windows.{GainAtMostOne}
use Rattle.service_bound.proofs.Distances.{distance-own}
use Rattle.service_bound.proofs.FirstRound.{IsFirstKind, grants_first, first_granted}
use Rattle.service_bound.proofs.Granting.{kind_is_first, served_by_first}
use Rattle.service_bound.proofs.LaterRounds.{first_of, BeginsWith, BeginsWith-slot}
use Rattle.service_bound.proofs.Postings.{Posting, IsPosted, rows_of, posted, names, AreWithin-rows, IsClean-rows, IsWithoutMulticast-rows}
use Rattle.rrm_rounds.specs.Slots.{IsGrantedFirst, AreMovedByRrm, IsRrmSlot}
use Rattle.rrm_rounds.specs.Decisions.{rrm_decision}
use Rattle.rrm_rounds.proofs.Computed.{IsRrmSlot-rrm_decision, AreAtPorts-rrm_decision}

-- input 0 asks output 0, and input 1 output 0 and output b
abbrev pub beside : ℕ → Posting
beside b = record { input = 1; beside = b; own = 0; other = 0; output = 0 }

-- who asks what
asked_by : (b i j : ℕ) → IsPosted (beside b) i j → ((i ≡ 1) × ((j ≡ 0) ⊎ (j ≡ b))) ⊎ ((i ≡ 0) × (j ≡ 0))
asked_by b i j is = elim is [
  | inl one ↦ inl one
  | inr more ↦ elim more [
    | inl zero ↦ elim zero.1 [ inl e ↦ inr (zero.0, e) | inr e ↦ inr (zero.0, e) ]
    | inr other ↦ inr other
  ]
]

one_asks : (b : ℕ) → IsPosted (beside b) 1 0
one_asks b = inl (refl, inl refl)

zero_asks : (b : ℕ) → IsPosted (beside b) 0 0
zero_asks b = inr (inl (refl, inl refl))

-- the slot of such a posting
abbrev pub slot_at : ℕ → ℕ → ℕ → Places → ℕ → DecidedSlot
slot_at n rounds t places b = record { rows = rows_of n (beside b); decision = rrm_decision n rounds t (rows_of n (beside b)) places }

-- The pointers suit the posting of output 1, from which output 0 grants input 0; or that of output 2, from which output 0
-- grants input 1, which points at output 2.
pub record IsTurn (n : ℕ) (places : Places) (b : ℕ) : Type 0 where
  pub at_ports : AreAtPorts places
  pub ports : places.ports ≡ n
  pub turn : ((b ≡ 1) × ((grant_of places 0 0 ≡ 0) ⊎ (grant_of places 0 0 ≡ 2))) ⊎ ((b ≡ 2) × (grant_of places 0 0 ≡ 1) × (accept_of places 1 0 ≡ 2))

-- from port 2 on port 0 comes before port 1
zero_before_one : (n from : ℕ) → 2 < n → (from ≡ 0) ⊎ (from ≡ 2) → distance n from 0 ≤ distance n from 1
zero_before_one n from more at = elim at [
  | inl zero ↦ let none = distance-own n 0 (omega arith) in let e : distance n from 0 ≡ 0 = rw zero none in omega arith
  | inr two ↦
      let low : distance n 2 0 ≡ 0 + (n - 2) = mod-eq_of_lt (omega arith) in
      let high : distance n 2 1 ≡ 1 + (n - 2) = mod-eq_of_lt (omega arith) in
      rw two (omega arith)
]

module _ (n rounds t b : ℕ) (places : Places) (some : 0 < rounds) (more : 2 < n) (ready : IsTurn n places b) where
  pub slot_decided : IsRrmSlot n rounds t (rows_of n (beside b)) places (rrm_decision n rounds t (rows_of n (beside b)) places)
  slot_decided = IsRrmSlot-rrm_decision n t (rows_of n (beside b)) places (AreWithin-rows n (beside b)) ready.at_ports ready.ports rounds

  abbrev first : List (Option Fed)
  first = first_of n slot_decided.steps

  begins : BeginsWith n t (rows_of n (beside b)) places first (rrm_decision n rounds t (rows_of n (beside b)) places).matched
  begins = BeginsWith-slot n t (rows_of n (beside b)) places AreMovedByRrm rounds (rrm_decision n rounds t (rows_of n (beside b)) places) some slot_decided

  pub pointing : ArePointing n 0 places
  pointing = subst (λ m. ArePointing m 0 places) ready.ports (ready.at_ports.pointing 0 (omega arith))

  unicast_first : IsFirstKind n t (rows_of n (beside b)) 0 Uni
  unicast_first = kind_is_first n t 0 (rows_of n (beside b)) first places (omega arith) begins.opening pointing (IsClean-rows n (beside b))
      (IsWithoutMulticast-rows n (beside b))

  abbrev Granted : ℕ → ℕ → Type 0
  Granted i j = IsGrantedFirst n t (rows_of n (beside b)) places i j 0

  -- what is named at the level
  named_by : (i j : ℕ) → i < n → Names (row_of (rows_of n (beside b)) i) 0 Uni j → ((i ≡ 1) × ((j ≡ 0) ⊎ (j ≡ b))) ⊎ ((i ≡ 0) × (j ≡ 0))
  named_by i j i_in named = asked_by b i j (posted n (beside b) i j 0 Uni i_in named).3

  grants_it : (i j : ℕ) → i < n → j < n → IsPosted (beside b) i j
      → ((z : ℕ) → z < n → Names (row_of (rows_of n (beside b)) z) 0 Uni j → distance n (grant_of places j 0) i ≤ distance n (grant_of places j 0) z)
      → Granted i j
  grants_it i j i_in j_in is least =
      grants_first n t (rows_of n (beside b)) places 0 (omega arith) (IsClean-rows n (beside b)) Uni unicast_first i j j_in
      (record { below = i_in; member = names n (beside b) i j i_in j_in is; least = least })

  beside_some : (0 < b) × (b < n)
  beside_some = elim ready.turn [ inl low ↦ let e = low.0 in (omega arith, omega arith) | inr high ↦ let e = high.0 in (omega arith, omega arith) ]

  -- the output beside is asked by input 1 alone
  beside_grants : Granted 1 b
  beside_grants =
      grants_it 1 b (omega arith) beside_some.1 (inl (refl, inr refl))
      (λ z z_in named. let apart = beside_some.0 in elim (named_by z b z_in named) [
        | inl one ↦ let same = ap (distance n (grant_of places b 0)) one.0 in omega arith
        | inr zero ↦ let none = zero.1 in absurd (omega arith)
      ])

  -- whom output 0 grants
  zero_grants_zero : (grant_of places 0 0 ≡ 0) ⊎ (grant_of places 0 0 ≡ 2) → Granted 0 0
  zero_grants_zero at =
      grants_it 0 0 (omega arith) (omega arith) (zero_asks b)
      (λ z z_in named. elim (named_by z 0 z_in named) [
        | inl one ↦ let same = ap (distance n (grant_of places 0 0)) one.0 in let before = zero_before_one n (grant_of places 0 0) more at in omega arith
        | inr zero ↦ let same = ap (distance n (grant_of places 0 0)) zero.0 in omega arith
      ])

  not_both : (grant_of places 0 0 ≡ 0) ⊎ (grant_of places 0 0 ≡ 2) → Granted 1 0 → ⊥
  not_both at granted =
      let once : (x y : ℕ) → Granted x 0 → Granted y 0 → x ≡ y = λ x y. grants_once n t (rows_of n (beside b)) places
      ready.at_ports ready.ports x y 0 0 in
      let same = once 1 0 granted (zero_grants_zero at) in
      omega (arith, same)

  zero_grants_one : grant_of places 0 0 ≡ 1 → Granted 1 0
  zero_grants_one at =
      let own : distance n (grant_of places 0 0) 1 ≡ 0 = subst (λ g. distance n g 1 ≡ 0) (sym at) (distance-own n 1 (omega arith)) in
      grants_it 1 0 (omega arith) (omega arith) (one_asks b) (λ z z_in named. omega (arith, own))

  -- input 1 takes the output beside
  takes : Serves first 1 b 0 Uni
  takes =
      let met = served_by_first n t 0 (rows_of n (beside b)) first places (omega arith) begins.opening pointing (IsClean-rows n (beside b))
      (IsWithoutMulticast-rows n (beside b)) 1 b (omega arith) beside_grants in
      let y : ℕ = met.0 in
      let granted : Granted 1 y = met.1.member in
      let asks = first_granted n t (rows_of n (beside b)) places 0 (omega arith) (IsClean-rows n (beside b)) Uni unicast_first 1 y granted in
      let not_zero : y ≡ 0 → ⊥ = λ e. elim ready.turn [
        | inl low ↦ not_both low.1 (subst (Granted 1) e granted)
        | inr high ↦
            let at_two : accept_of places 1 0 ≡ b = high.2 ∙ sym high.0 in
            let none : distance n (accept_of places 1 0) b ≡ 0 = subst (λ a. distance n a b ≡ 0) (sym at_two) (distance-own n b beside_some.1) in
            let near : distance n (accept_of places 1 0) y ≤ distance n (accept_of places 1 0) b = met.1.least b beside_some.1 beside_grants in
            let far : distance n (accept_of places 1 0) 0 ≡ 0 + (n - 2) = ap (λ a. distance n a 0) high.2 ∙ mod-eq_of_lt (omega arith) in
            let here : distance n (accept_of places 1 0) y ≡ distance n (accept_of places 1 0) 0 = ap (distance n (accept_of places 1 0)) e in
            omega (arith, none, near, far, here)
      ] in
      let same : y ≡ b = elim (named_by 1 y asks.below asks.member) [
        | inl one ↦ elim one.1 [ inl e ↦ absurd (not_zero e) | inr e ↦ e ]
        | inr zero ↦ let none = zero.0 in absurd (omega arith)
      ] in
      subst (λ x. Serves first 1 x 0 Uni) same met.2

  pub takes_at_last : Serves (rrm_decision n rounds t (rows_of n (beside b)) places).matched 1 b 0 Uni
  takes_at_last = begins.stays 1 b 0 Uni takes

  -- and so it does not get output 0
  pub left : Serves (rrm_decision n rounds t (rows_of n (beside b)) places).matched 1 0 0 Uni → ⊥
  left served =
      let there : Serves first 1 0 0 Uni = begins.no_more 1 b 0 0 0 Uni takes served in
      let whole = IsMatch-round n t (rows_of n (beside b)) places ready.at_ports ready.ports (unmatched n) first (IsMatch-unmatched n) begins.opening in
      let apart = beside_some.0 in
      elim (whole.once 1 b 0 Uni 0 0 Uni takes there) [ inl same ↦ omega arith | inr multi ↦ let never = multi.1 in absurd (cc) ]

  -- the pointers suit the other posting after it
  pub turn_after : IsTurn n (rrm_decision n rounds t (rows_of n (beside b)) places).places (3 - b)
  turn_after =
      let after : Places = (rrm_decision n rounds t (rows_of n (beside b)) places).places in
      let moved = slot_decided.moved in
      record {
        at_ports = AreAtPorts-rrm_decision n t (rows_of n (beside b)) places (AreWithin-rows n (beside b)) ready.at_ports ready.ports rounds;
        ports = moved.ports ∙ ready.ports;
        turn = elim ready.turn [
          | inl low ↦
              let e : b ≡ 1 = low.0 in
              let grant : grant_of after 0 0 ≡ 0 + 1 = moved.granted 0 0 0 (zero_grants_zero low.1) ∙ mod-eq_of_lt (omega arith) in
              let accept : accept_of after 1 0 ≡ b + 1 = moved.accepted 1 b 0 takes ∙ mod-eq_of_lt (omega arith) in
              inr (omega arith, grant, omega arith)
          | inr high ↦
              let e : b ≡ 2 = high.0 in
              let grant : grant_of after 0 0 ≡ 1 + 1 = moved.granted 1 0 0 (zero_grants_one high.1) ∙ mod-eq_of_lt (omega arith) in
              inl (omega arith, inr grant)
        ];
      }

  -- what is not served is posted again
  pub keeps : (c i : ℕ) → i < n
      → Keeps (rrm_decision n rounds t (rows_of n (beside b)) places).matched i (row_of (rows_of n (beside b)) i) (row_of (rows_of n (beside c)) i)
  keeps c i i_in = record {
    uni = λ level j named none.
        let is = posted n (beside b) i j level Uni i_in named in
        let at_zero : level ≡ 0 = is.0 in
        let again : IsPosted (beside c) i j = elim (asked_by b i j is.3) [
          | inl one ↦ elim one.1 [
            | inl e ↦ inl (one.0, inl e)
            | inr e ↦ absurd (none (rw (one.0, e, at_zero) takes_at_last))
          ]
          | inr zero ↦ inr (inl (zero.0, inl zero.1))
        ] in
        subst (λ l. Names (row_of (rows_of n (beside c)) i) l Uni j) (sym at_zero) (names n (beside c) i j i_in is.2 again);
    multi = λ level j named none. let kind = (posted n (beside b) i j level Multi i_in named).1 in absurd (cc);
  }

-- from one posting to the next each input gains one output at most
pub gains_one : (n b c : ℕ) → 2 < n → GainAtMostOne n 0 (rows_of n (beside b)) (rows_of n (beside c))
gains_one n b c more i i_in j k named also new too =
    let gained : (y : ℕ) → Names (row_of (rows_of n (beside c)) i) 0 Uni y → (Names (row_of (rows_of n (beside b)) i) 0 Uni y → ⊥) → y ≡ c = λ y has fresh.
    elim (asked_by c i y (posted n (beside c) i y 0 Uni i_in has).3) [
      | inl one ↦ elim one.1 [
        | inl e ↦ absurd (fresh (names n (beside b) i y i_in (posted n (beside c) i y 0 Uni i_in has).2 (inl (one.0, inl e))))
        | inr e ↦ e
      ]
      | inr zero ↦ absurd (fresh (names n (beside b) i y i_in (posted n (beside c) i y 0 Uni i_in has).2 (inr (inl (zero.0, inl zero.1)))))
    ] in
    gained j named new ∙ sym (gained k also too)
