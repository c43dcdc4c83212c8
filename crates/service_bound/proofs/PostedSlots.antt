-- What a slot of a posting decides: in its first round, and where output 0 serves another input in its second.
use Rattle.std.proofs.Common.{◌≡◌, ℕ, ◌<◌, ◌≤◌, ◌⊎◌, ◌∙◌, List, Option, None, Some, refl, ap, sym, subst, inl, inr, arith}
use Rattle.std.proofs.lemmas.Bool.{cases_eq, cases_lt}
use Rattle.rotating_pick.specs.Rotation.{distance, IsFirstFrom}
use Rattle.rotating_pick.specs.declared.kinds.Kind.{Kind}
use Rattle.service_bound.proofs.Distances.{distance-own}
use Rattle.rotating_pick.specs.declared.kinds.Kind.TheVariants.{Uni, Multi}
use Rattle.rotating_pick.specs.declared.limits.TheConstants.{LEVELS}
use Rattle.rotating_pick.proofs.First.{IsFirstFrom-only}
use Rattle.slot_match.specs.declared.matching.Fed.{Fed}
use Rattle.slot_match.specs.Rows.{Names, row_of}
use Rattle.slot_match.specs.Matches.{unmatched, fed_of, Serves, IsMatch, IsFreeInput, IsFreeOutput}
use Rattle.slot_match.proofs.Kept.{nobody_at_first, IsMatch-unmatched}
use Rattle.slot_match.proofs.Pairs.{Serves-from}
use Rattle.pointer_state.specs.Places.{Places, AreAtPorts, ArePointing, grant_of, accept_of}
use Rattle.eslip_rounds.specs.Rounds.{Requests, Grants, Accepts, IsRound, preferred}
use Rattle.eslip_rounds.proofs.Bests.{taken_from}
use Rattle.eslip_rounds.proofs.Matching.{IsMatch-round}
use Rattle.service_bound.proofs.FirstRound.{grants_first, first_granted, asks_at_first}
use Rattle.service_bound.proofs.Granting.{kind_is_first, served_by_first}
use Rattle.service_bound.proofs.Postings.{Posting, IsPosted, rows_of, posted, names, IsClean-rows, IsWithoutMulticast-rows}

-- where there is no other
first_alone : (n from x : ℕ) (P : ℕ → Type 0) → x < n → P x → ((y : ℕ) → y < n → P y → y ≡ x) → IsFirstFrom n from P x
first_alone n from x P x_in there alone =
    record { below = x_in; member = there; least = λ y y_in also. let e = ap (distance n from) (alone y y_in also) in omega arith }

-- where the pointer stands
first_at : (n from x : ℕ) (P : ℕ → Type 0) → x < n → P x → from ≡ x → IsFirstFrom n from P x
first_at n from x P x_in there at =
    record { below = x_in; member = there; least = λ y y_in also. let none : distance n from x ≡ 0 = rw at (distance-own n x x_in) in omega arith }

-- The pointers suit the posting: its input is the first that asks output 0, and points at the output beside, if
-- there is one. Where input 0 asks an output of its own, it is another input than the first, and the output
-- another. The other input is not the first one; it asks output 0, or alone of all output 1.
pub record Suits (n : ℕ) (places : Places) (p : Posting) : Type 0 where
  pub first : (z : ℕ) → z < n → IsPosted p z 0 → distance n (grant_of places 0 0) p.input ≤ distance n (grant_of places 0 0) z
  pub pointer : (p.beside ≡ 0) ⊎ (accept_of places p.input 0 ≡ p.beside)
  pub own : (p.own ≡ 0) ⊎ ((0 < p.input) × (p.beside ≡ p.own → ⊥))
  pub low : (p.output ≡ 0) ⊎ ((p.output ≡ 1) × (0 < p.other) × (1 < p.beside) × (p.own ≡ 0))
  pub apart : 0 < p.other → p.other ≡ p.input → ⊥

-- what the first round matches
pub record IsOutcome (p : Posting) (first : List (Option Fed)) : Type 0 where
  pub served : Serves first p.input p.beside 0 Uni
  pub also : 0 < p.own → Serves first 0 p.own 0 Uni
  pub too : 0 < p.output → Serves first p.other p.output 0 Uni
  pub only : (i j level : ℕ) (kind : Kind) → Serves first i j level kind → ((i ≡ p.input) × (j ≡ p.beside))
      ⊎ (((i ≡ 0) × (j ≡ p.own) × (0 < p.own)) ⊎ ((i ≡ p.other) × (j ≡ p.output) × (0 < p.output)))

module _ (n t : ℕ) (p : Posting) (places : Places) (at_ports : AreAtPorts places) (ports : places.ports ≡ n) (input_in : p.input < n)
    (beside_in : p.beside < n) (own_in : p.own < n) (other_in : p.other < n) (output_in : p.output < n) (suits : Suits n places p)
    (first : List (Option Fed)) (opening : IsRound n t (rows_of n p) places (unmatched n) first) where
  level_in : 0 < LEVELS
  level_in = omega arith

  zero_in : 0 < n
  zero_in = omega arith

  pointing : ArePointing n 0 places
  pointing = subst (λ m. ArePointing m 0 places) ports (at_ports.pointing 0 level_in)

  Granted : ℕ → ℕ → Type 0
  Granted i j = Grants n t (rows_of n p) places (unmatched n) i j 0 Uni

  Asked : ℕ → ℕ → Type 0
  Asked j x = Names (row_of (rows_of n p) x) 0 Uni j

  grants_it : (i j : ℕ) → j < n → IsFirstFrom n (grant_of places j 0) (Asked j) i → Granted i j
  unfolding Granted Asked
  grants_it i j j_in nearest =
      grants_first n t (rows_of n p) places 0 level_in (IsClean-rows n p) Uni
      (kind_is_first n t 0 (rows_of n p) first places level_in opening pointing (IsClean-rows n p) (IsWithoutMulticast-rows n p)) i j j_in nearest

  is_first : (i j : ℕ) → Granted i j → IsFirstFrom n (grant_of places j 0) (Asked j) i
  unfolding Granted Asked
  is_first i j granted = first_granted n t (rows_of n p) places 0 level_in (IsClean-rows n p) Uni
      (kind_is_first n t 0 (rows_of n p) first places level_in opening pointing (IsClean-rows n p) (IsWithoutMulticast-rows n p)) i j granted

  is_asked : (i j : ℕ) → Granted i j → IsPosted p i j
  unfolding Asked
  is_asked i j granted = let nearest = is_first i j granted in (posted n p i j 0 Uni nearest.below nearest.member).3

  asked : (j i : ℕ) → i < n → j < n → IsPosted p i j → Asked j i
  unfolding Asked
  asked j i i_in j_in is = names n p i j i_in j_in is

  asked_is : (j i : ℕ) → i < n → Asked j i → IsPosted p i j
  unfolding Asked
  asked_is j i i_in named = (posted n p i j 0 Uni i_in named).3

  serves_first : (h j : ℕ) → Granted h j → (y : ℕ) × IsFirstFrom n (accept_of places h 0) (Granted h) y × Serves first h y 0 Uni
  unfolding Granted
  serves_first h j granted =
      served_by_first n t 0 (rows_of n p) first places level_in opening pointing (IsClean-rows n p)
      (IsWithoutMulticast-rows n p) h j granted.first.below granted

  serves_granted : (i j : ℕ) → Serves first i j 0 Uni → Granted i j
  unfolding Granted
  serves_granted i j served = elim ((opening.pairs i j 0 Uni).0 served) [
    | inl old ↦ absurd (nobody_at_first n i j 0 Uni old)
    | inr accepted ↦ accepted.taken.member
  ]

  -- an output that is asked by one input alone grants that one
  granted_alone : (i j : ℕ) → i < n → j < n → IsPosted p i j → ((y : ℕ) → IsPosted p y j → y ≡ i) → Granted i j
  granted_alone i j i_in j_in is alone =
      grants_it i j j_in (first_alone n (grant_of places j 0) i (Asked j) i_in (asked j i i_in j_in is) (λ y y_in named. alone y (asked_is j y y_in named)))

  -- output 0 grants the input
  granted_zero : Granted p.input 0
  granted_zero = grants_it p.input 0 zero_in
      (record {
        below = input_in;
        member = asked 0 p.input input_in zero_in (inl (refl, inl refl));
        least = λ y y_in named. suits.first y y_in (asked_is 0 y y_in named);
      })

  -- and no other
  granted_once : (i : ℕ) → Granted i 0 → i ≡ p.input
  granted_once i granted = IsFirstFrom-only n (grant_of places 0 0) (Asked 0) i p.input (pointing.grant 0 zero_in) (is_first i 0 granted)
      (is_first p.input 0 granted_zero)

  -- the output beside grants it too
  granted_beside : 0 < p.beside → Granted p.input p.beside
  granted_beside some = granted_alone p.input p.beside input_in beside_in (inl (refl, inr refl)) (λ y is. elim is [
    | inl a ↦ a.0
    | inr more ↦ elim more [
      | inl b ↦ elim b.1 [
        | inl e ↦ absurd (omega arith)
        | inr e ↦ elim suits.own [ inl none ↦ absurd (omega arith) | inr q ↦ absurd (q.1 e) ]
      ]
      | inr c ↦ let e = c.1 in elim suits.low [ inl none ↦ absurd (omega arith) | inr q ↦ let one = q.0 in let two = q.2 in absurd (omega arith) ]
    ]
  ])

  takes : IsFirstFrom n (accept_of places p.input 0) (Granted p.input) p.beside
  takes = elim (cases_lt 0 p.beside) [
    | inl some ↦ elim suits.pointer [
      | inl none ↦ absurd (omega arith)
      | inr at ↦ first_at n (accept_of places p.input 0) p.beside (Granted p.input) beside_in (granted_beside some) at
    ]
    | inr none ↦
        let e : 0 ≡ p.beside = omega arith in
        first_alone n (accept_of places p.input 0) p.beside (Granted p.input) beside_in (subst (Granted p.input) e granted_zero)
        (λ k k_in granted. elim (is_asked p.input k granted) [
          | inl a ↦ elim a.1 [ inl z ↦ omega arith | inr b ↦ b ]
          | inr more ↦ elim more [
            | inl b ↦ elim b.1 [
              | inl z ↦ omega arith
              | inr o ↦ elim suits.own [
                | inl z ↦ omega arith
                | inr q ↦ let x = q.0 in let y = b.0 in
                    absurd (omega arith)
              ]
            ]
            | inr c ↦ let o = c.1 in elim suits.low [ inl z ↦ omega arith | inr q ↦ let two = q.2 in absurd (omega arith) ]
          ]
        ])
  ]

  served : Serves first p.input p.beside 0 Uni
  served =
      let met = serves_first p.input 0 granted_zero in
      let same : met.0 ≡ p.beside =
      IsFirstFrom-only n (accept_of places p.input 0) (Granted p.input) met.0 p.beside (pointing.accept p.input input_in) met.1 takes in
      subst (λ y. Serves first p.input y 0 Uni) same met.2

  granted_own : 0 < p.own → Granted 0 p.own
  granted_own some = granted_alone 0 p.own zero_in own_in (inr (inl (refl, inr refl))) (λ y is. elim is [
    | inl a ↦ elim a.1 [
      | inl e ↦ absurd (omega arith)
      | inr e ↦ elim suits.own [ inl none ↦ absurd (omega arith) | inr q ↦ absurd (q.1 (sym e)) ]
    ]
    | inr more ↦ elim more [
      | inl b ↦ b.0
      | inr c ↦ let e = c.1 in elim suits.low [ inl none ↦ absurd (omega arith) | inr q ↦ let none = q.3 in absurd (omega arith) ]
    ]
  ])

  also : 0 < p.own → Serves first 0 p.own 0 Uni
  also some =
      let met = serves_first 0 p.own (granted_own some) in
      let beyond : 0 < p.input = elim suits.own [ inl none ↦ absurd (omega arith) | inr q ↦ q.0 ] in
      let not_zero : met.0 ≡ 0 → ⊥ = λ z. let e = granted_once 0 (subst (Granted 0) z met.1.member) in omega arith in
      let same : met.0 ≡ p.own = elim (is_asked 0 met.0 met.1.member) [
        | inl a ↦ let e = a.0 in absurd (omega arith)
        | inr more ↦ elim more [
          | inl b ↦ elim b.1 [ inl z ↦ absurd (not_zero z) | inr o ↦ o ]
          | inr c ↦ elim suits.low [ inl none ↦ absurd (not_zero (c.1 ∙ none)) | inr q ↦ let e = c.0 in let w = q.1 in absurd (omega arith) ]
        ]
      ] in
      subst (λ y. Serves first 0 y 0 Uni) same met.2

  granted_other : 0 < p.output → Granted p.other p.output
  granted_other some = granted_alone p.other p.output other_in output_in (inr (inr (refl, refl))) (λ y is. elim suits.low [
    | inl none ↦ absurd (omega arith)
    | inr q ↦
        let one = q.0 in
        let two = q.2 in
        let none = q.3 in
        elim is [
          | inl a ↦ elim a.1 [ inl e ↦ absurd (omega arith) | inr e ↦ absurd (omega arith) ]
          | inr more ↦ elim more [
            | inl b ↦ elim b.1 [ inl e ↦ absurd (omega arith) | inr e ↦ absurd (omega arith) ]
            | inr c ↦ c.0
          ]
        ]
  ])

  too : 0 < p.output → Serves first p.other p.output 0 Uni
  too some =
      let met = serves_first p.other p.output (granted_other some) in
      let beyond : 0 < p.other = elim suits.low [ inl none ↦ absurd (omega arith) | inr q ↦ q.1 ] in
      let same : met.0 ≡ p.output = elim (is_asked p.other met.0 met.1.member) [
        | inl a ↦ absurd (suits.apart beyond a.0)
        | inr more ↦ elim more [ inl b ↦ let e = b.0 in absurd (omega arith) | inr c ↦ c.1 ]
      ] in
      subst (λ y. Serves first p.other y 0 Uni) same met.2

  whole : IsMatch n first
  whole = IsMatch-round n t (rows_of n p) places at_ports ports (unmatched n) first (IsMatch-unmatched n) opening

  named_first : (i j level : ℕ) (kind : Kind) → Serves first i j level kind → Names (row_of (rows_of n p) i) level kind j
  named_first i j level kind s = elim ((opening.pairs i j level kind).0 s) [
    | inl old ↦ absurd (nobody_at_first n i j level kind old)
    | inr accepted ↦ (asks_at_first n (rows_of n p) i j level kind
        (taken_from kind n (accept_of places i level) (λ y. Grants n t (rows_of n p) places (unmatched n) i y level kind) j accepted.taken).first.member).named
  ]

  only_input : (i j level : ℕ) (kind : Kind) → i ≡ p.input → Serves first i j level kind → kind ≡ Uni → j ≡ p.beside
  only_input i j level kind same s uni = elim (whole.once p.input j level kind p.beside 0 Uni (subst (λ x. Serves first x j level kind) same s) served) [
    | inl e ↦ e
    | inr q ↦ let multi = q.1 in absurd (cc)
  ]

  only : (i j level : ℕ) (kind : Kind) → Serves first i j level kind → ((i ≡ p.input) × (j ≡ p.beside))
      ⊎ (((i ≡ 0) × (j ≡ p.own) × (0 < p.own)) ⊎ ((i ≡ p.other) × (j ≡ p.output) × (0 < p.output)))
  only i j level kind s =
      let is = posted n p i j level kind (whole.input_in i j level kind s) (named_first i j level kind s) in
      elim (cases_eq i p.input) [
        | inl same ↦ inl (same, only_input i j level kind same s is.1)
        | inr differs ↦
            let plain : Serves first i j 0 Uni = subst (λ k. Serves first i j 0 k) is.1 (subst (λ l. Serves first i j l kind) is.0 s) in
            let not_zero : j ≡ 0 → ⊥ = λ z. differs (granted_once i (subst (Granted i) z (serves_granted i j plain))) in
            elim is.3 [
              | inl a ↦ absurd (differs a.0)
              | inr more ↦ elim more [
                | inl b ↦ elim b.1 [
                  | inl z ↦ absurd (not_zero z)
                  | inr o ↦ elim (cases_lt 0 p.own) [ inl some ↦ inr (inl (b.0, o, some)) | inr none ↦ absurd (not_zero (omega arith)) ]
                ]
                | inr c ↦ let o = c.1 in elim (cases_lt 0 p.output) [ inl some ↦ inr (inr (c.0, o, some)) | inr none ↦ absurd (not_zero (omega arith)) ]
              ]
            ]
      ]

  pub outcome : IsOutcome p first
  outcome = record { served = served; also = also; too = too; only = only }

  -- Where the other input asks output 0 too and nobody is beside the first, the second round serves it.
  module _ (second : List (Option Fed)) (round : IsRound n t (rows_of n p) places first second) (some : 0 < p.other) (zero_asked : p.output ≡ 0)
      (refusing : 0 < p.beside) (alone : p.own ≡ 0) (next : distance n (grant_of places 0 0) p.other ≤ distance n (grant_of places 0 0) 0) where
    Asking : ℕ → Type 0
    Asking x = Requests (rows_of n p) first x 0 0 Uni

    request_named : (x j level : ℕ) (kind : Kind) → Requests (rows_of n p) first x j level kind → x < n → IsFreeInput first x × (kind ≡ Uni) × IsPosted p x j
    request_named x j level kind r x_in = elim r [
      | inl free ↦ let named = posted n p x j level kind x_in free.1.named in (free.0, named.1, named.3)
      | inr on ↦ let kind = (posted n p x j level Multi x_in on.named).1 in absurd (cc)
    ]

    free_output : IsFreeOutput first 0
    free_output = go (fed_of first 0) refl where
      go : (o : Option Fed) → fed_of first 0 ≡ o → fed_of first 0 ≡ None
      go None e = e
      go (Some f) e = elim (only f.input 0 f.level f.kind (Serves-from first 0 f e)) [
        | inl a ↦ let z = a.1 in absurd (omega arith)
        | inr more ↦ elim more [ inl b ↦ let z = b.1 in let o = b.2 in absurd (omega arith) | inr c ↦ let z = c.1 in let o = c.2 in absurd (omega arith) ]
      ]

    free_other : IsFreeInput first p.other
    free_other j level kind s = elim (only p.other j level kind s) [
      | inl a ↦ suits.apart some a.0
      | inr more ↦ elim more [ inl b ↦ let e = b.0 in omega arith | inr c ↦ let o = c.2 in omega arith ]
    ]

    asking_other : Asking p.other
    unfolding Asking
    asking_other = inl (
      free_other,
      record {
        level_in = level_in;
        named = names n p p.other 0 other_in zero_in (inr (inr (refl, sym zero_asked)));
        best = λ better other less there. absurd (omega arith);
      },
    )

    nearest_other : IsFirstFrom n (grant_of places 0 0) Asking p.other
    unfolding Asking
    nearest_other = record {
      below = other_in;
      member = asking_other;
      least = λ y y_in asks.
          let is = request_named y 0 0 Uni asks y_in in
          elim is.2 [
            | inl a ↦ absurd (is.0 p.beside 0 Uni (subst (λ x. Serves first x p.beside 0 Uni) (sym a.0) served))
            | inr more ↦ elim more [
              | inl b ↦ let e = ap (distance n (grant_of places 0 0)) b.0 in omega arith
              | inr c ↦ let e = ap (distance n (grant_of places 0 0)) c.0 in omega arith
            ]
          ];
    }

    granted_second : Grants n t (rows_of n p) places first p.other 0 0 Uni
    unfolding Asking
    granted_second = record {
      output_in = zero_in;
      output_free = free_output;
      best = record {
        there = (p.other, other_in, asking_other);
        least = λ other kind asks. omega arith;
        preferred_first = λ asks. sym (request_named asks.0 0 0 (preferred t) asks.2 asks.1).1;
      };
      first = nearest_other;
    }

    accepted_second : Accepts n t (rows_of n p) places first p.other 0 0 Uni
    accepted_second = record {
      best = record {
        there = (0, granted_second);
        least = λ other kind grants. omega arith;
        preferred_first = λ grants. sym (request_named p.other grants.0 0 (preferred t) grants.1.first.member other_in).1;
      };
      taken = first_alone n (accept_of places p.other 0) 0 (λ y. Grants n t (rows_of n p) places first p.other y 0 Uni) zero_in granted_second
          (λ y y_in granted. elim (request_named p.other y 0 Uni granted.first.member other_in).2 [
            | inl a ↦ absurd (suits.apart some a.0)
            | inr more ↦ elim more [ inl b ↦ let e = b.0 in absurd (omega arith) | inr c ↦ c.1 ∙ zero_asked ]
          ]);
    }

    pub served_second : Serves second p.other 0 0 Uni
    served_second = (round.pairs p.other 0 0 Uni).1 (inr accepted_second)
