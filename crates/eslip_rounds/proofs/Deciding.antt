-- What a round asks, grants and accepts can be told.
use Rattle.std.proofs.Common.{◌≡◌, ℕ, ◌<◌, ◌≤◌, ◌⊎◌, ◌∙◌, List, Option, None, Some, refl, sym, ap, inl, inr, arith}
use Rattle.std.proofs.lemmas.Bool.{cases_eq, cases_lt}
use Rattle.std.proofs.lemmas.Option.{same_Some, none-some}
use Rattle.rotating_pick.specs.declared.kinds.Kind.{Kind}
use Rattle.rotating_pick.specs.declared.kinds.Kind.TheVariants.{Uni, Multi}
use Rattle.rotating_pick.specs.declared.limits.TheConstants.{LEVELS}
use Rattle.rotating_pick.proofs.Picking.{Decides, least, IsFirstFrom-some, IsFirstFrom-decides}
use Rattle.slot_match.specs.declared.rows.Row.{Row}
use Rattle.slot_match.specs.declared.matching.Fed.{Fed}
use Rattle.slot_match.specs.Rows.{Names, row_of, HasHead, AreWithin}
use Rattle.slot_match.specs.Matches.{Serves, fed_of, IsFreeInput, IsFreeOutput, IsMulticasting, IsMatch, Completes}
use Rattle.slot_match.proofs.Sets.{Has-or}
use Rattle.slot_match.proofs.Pairs.{kinds_decide, same_fed, Serves-decides, Serves-alike, fed_of-lt}
use Rattle.pointer_state.specs.Places.{Places, AreAtPorts, accept_of}
use Rattle.eslip_rounds.specs.Rounds.{preferred, from_of, Asks, GoesOn, Requests, IsBest, Takes, Grants, Accepts}
use Rattle.eslip_rounds.proofs.Choosing.{level_asked, from_of-lt}

pub both : (A B : Type 0) → Decides A → Decides B → Decides (A × B)
both A B a b = elim a [
  | inl p ↦ elim b [ inl q ↦ inl (p, q) | inr q ↦ inr (λ r. q r.1) ]
  | inr p ↦ inr (λ r. p r.0)
]

pub either : (A B : Type 0) → Decides A → Decides B → Decides (A ⊎ B)
either A B a b = elim a [
  | inl p ↦ inl (inl p)
  | inr p ↦ elim b [ inl q ↦ inl (inr q) | inr q ↦ inr (λ r. elim r [ inl x ↦ p x | inr y ↦ q y ]) ]
]

pub some_below : (P : ℕ → Type 0) → ((k : ℕ) → Decides (P k)) → (n : ℕ) → Decides ((k : ℕ) × (k < n) × P k)
some_below P dec n = elim (least P dec n) [ inl f ↦ inl (f.0, f.1, f.2) | inr none ↦ inr (λ p. none p.0 p.1 p.2) ]

pub Names-decides : (row : Row) (level : ℕ) (kind : Kind) (j : ℕ) → Decides (Names row level kind j)
Names-decides row level Uni j = Has-or _ j
Names-decides row level Multi j = Has-or _ j

-- of either kind
abbrev Any_kind : (ℕ → Kind → Type 0) → ℕ → Type 0
Any_kind P m = P m Uni ⊎ P m Multi

any_kind : (P : ℕ → Kind → Type 0) (m : ℕ) (k : Kind) → P m k → Any_kind P m
any_kind P m Uni p = inl p
any_kind P m Multi p = inr p

module _ (t : ℕ) (P : ℕ → Kind → Type 0) (dec : (m : ℕ) (k : Kind) → Decides (P m k)) where
  dec_any : (m : ℕ) → Decides (Any_kind P m)
  dec_any m = either (P m Uni) (P m Multi) (dec m Uni) (dec m Multi)

  -- where there is one, there is a best
  pub IsBest-some : (bound m : ℕ) (k : Kind) → m < bound → P m k → (l : ℕ) × (q : Kind) × IsBest t P l q
  IsBest-some bound m k lt p =
      elim (least (Any_kind P) dec_any bound) [
        | inr none ↦ absurd (none m lt (any_kind P m k p))
        | inl f ↦
            let l = f.0 in
            let lowest : (other : ℕ) (q : Kind) → P other q
            → l ≤ other = λ other q h. elim (cases_lt other l) [ inl under ↦ absurd (f.3 other under (any_kind P other q h)) | inr at ↦ at ] in
            elim (dec l (preferred t)) [
              | inl has ↦ (l, preferred t, record { there = has; least = lowest; preferred_first = λ h. refl })
              | inr lacks ↦ elim f.2 [
                | inl u ↦ (l, Uni, record { there = u; least = lowest; preferred_first = λ h. absurd (lacks h) })
                | inr v ↦ (l, Multi, record { there = v; least = lowest; preferred_first = λ h. absurd (lacks h) })
              ]
            ]
      ]

  pub IsBest-decides : (l : ℕ) (k : Kind) → Decides (IsBest t P l k)
  IsBest-decides l k =
      elim (dec l k) [
        | inr lacks ↦ inr (λ b. lacks b.there)
        | inl has ↦ elim (least (Any_kind P) dec_any l) [
          | inl f ↦ inr (λ b. elim f.2 [
            | inl u ↦ let h = b.least f.0 Uni u in let g = f.1 in absurd (omega arith)
            | inr v ↦ let h = b.least f.0 Multi v in
                let g = f.1 in absurd (omega arith)
          ])
          | inr none ↦
              let lowest : (other : ℕ) (q : Kind) → P other q
              → l ≤ other = λ other q h. elim (cases_lt other l) [ inl under ↦ absurd (none other under (any_kind P other q h)) | inr at ↦ at ] in
              elim (dec l (preferred t)) [
                | inr not_there ↦ inl (record { there = has; least = lowest; preferred_first = λ h. absurd (not_there h) })
                | inl here ↦ elim (kinds_decide k (preferred t)) [
                  | inl same ↦ inl (record { there = has; least = lowest; preferred_first = λ h. same })
                  | inr other ↦ inr (λ b. other (b.preferred_first here))
                ]
              ]
        ]
      ]

Asks-decides : (row : Row) (j level : ℕ) (kind : Kind) → Decides (Asks row j level kind)
Asks-decides row j level kind =
    let P : ℕ → Kind → Type 0 = λ m k. Names row m k j in
    elim (cases_lt level LEVELS) [
      | inr out ↦ inr (λ a. let b = a.level_in in absurd (omega arith))
      | inl level_in ↦ elim (Names-decides row level kind j) [
        | inr lacks ↦ inr (λ a. lacks a.named)
        | inl named ↦ elim (least (Any_kind P)
            (λ m. either (Names row m Uni j) (Names row m Multi j) (Names-decides row m Uni j) (Names-decides row m Multi j)) level) [
              | inl f ↦ inr (λ a. elim f.2 [ inl u ↦ a.best f.0 Uni f.1 u | inr v ↦ a.best f.0 Multi f.1 v ])
              | inr none ↦ inl (record { level_in = level_in; named = named; best = λ better other lt h. none better lt (any_kind P better other h) })
            ]
      ]
    ]

feeds_input : (o : Option Fed) (i : ℕ) → Decides ((f : Fed) × (o ≡ Some f) × (f.input ≡ i))
feeds_input None i = inr (λ p. none-some p.0 p.1)
feeds_input (Some f) i = elim (cases_eq f.input i) [
  | inl same ↦ inl (f, refl, same)
  | inr other ↦ inr (λ p. other (ap (λ g. g.input) (same_Some f p.0 p.1) ∙ p.2))
]

mine : (matched : List (Option Fed)) (i j : ℕ) (f : Fed) → fed_of matched j ≡ Some f → f.input ≡ i → Serves matched i j f.level f.kind
mine matched i j f e same = e ∙ ap Some (same_fed f (record { input = i; level = f.level; kind = f.kind }) same refl refl)

IsFreeInput-decides : (n : ℕ) (matched : List (Option Fed)) → IsMatch n matched → (i : ℕ) → Decides (IsFreeInput matched i)
IsFreeInput-decides n matched whole i =
    elim (some_below (λ j. (f : Fed) × (fed_of matched j ≡ Some f) × (f.input ≡ i)) (λ j. feeds_input (fed_of matched j) i) n) [
      | inl found ↦ let f = found.2.0 in inr (λ free. free found.0 f.level f.kind (mine matched i found.0 f found.2.1 found.2.2))
      | inr none ↦ inl (λ j level kind s.
          let f : Fed = record { input = i; level = level; kind = kind } in
          let below : j < n = let lt = fed_of-lt matched j f s in let size = whole.count in omega arith in
          none (j, below, (f, s, refl)))
    ]

-- an input that has one multicast pair of the level goes on there
IsMulticasting-decides : (n : ℕ) (matched : List (Option Fed)) → IsMatch n matched → (i level : ℕ) → Decides (IsMulticasting matched i level)
IsMulticasting-decides n matched whole i level =
    elim (some_below (λ j. Serves matched i j level Multi) (λ j. Serves-decides matched i j level Multi) n) [
      | inr none ↦ inr (λ on.
          let f : Fed = record { input = i; level = level; kind = Multi } in
          let below : on.some.0 < n = let lt = fed_of-lt matched on.some.0 f on.some.1 in let size = whole.count in omega arith in
          none (on.some.0, below, on.some.1))
      | inl some ↦ inl (record {
        some = (some.0, some.2);
        only = Serves-alike n matched whole i some.0 level Multi some.2;
      })
    ]

GoesOn-decides : (n : ℕ) (rows : List Row) (matched : List (Option Fed)) → IsMatch n matched → (i j level : ℕ) (kind : Kind)
    → Decides (GoesOn rows matched i j level kind)
GoesOn-decides n rows matched whole i j level kind =
    elim (cases_lt level LEVELS) [
      | inr out ↦ inr (λ g. let b = g.level_in in absurd (omega arith))
      | inl level_in ↦ elim (IsMulticasting-decides n matched whole i level) [
        | inr shut ↦ inr (λ g. shut g.going_on)
        | inl going_on ↦ elim (kinds_decide kind Multi) [
          | inr other ↦ inr (λ g. other g.multicast)
          | inl multicast ↦ elim (Names-decides (row_of rows i) level Multi j) [
            | inr lacks ↦ inr (λ g. lacks g.named)
            | inl named ↦ inl (record { level_in = level_in; going_on = going_on; multicast = multicast; named = named })
          ]
        ]
      ]
    ]

is_none : (o : Option Fed) → Decides (o ≡ None)
is_none None = inl refl
is_none (Some f) = inr (λ e. none-some f (sym e))

module _ (n t : ℕ) (rows : List Row) (places : Places) (before : List (Option Fed)) (whole : IsMatch n before) (at_ports : AreAtPorts places)
    (ports : places.ports ≡ n) where
  requests : (i j level : ℕ) (kind : Kind) → Decides (Requests rows before i j level kind)
  requests i j level kind =
      either (IsFreeInput before i × Asks (row_of rows i) j level kind) (GoesOn rows before i j level kind)
      (both (IsFreeInput before i) (Asks (row_of rows i) j level kind) (IsFreeInput-decides n before whole i) (Asks-decides (row_of rows i) j level kind))
      (GoesOn-decides n rows before whole i j level kind)

  somebody : (j level : ℕ) (kind : Kind) → Decides ((x : ℕ) × (x < n) × Requests rows before x j level kind)
  somebody j level kind = some_below (λ x. Requests rows before x j level kind) (λ x. requests x j level kind) n

  pub from_in : (j level : ℕ) (kind : Kind) → j < n → level < LEVELS → from_of places j level kind < n
  from_in j level kind j_in level_in = let lt = from_of-lt places at_ports j level kind (omega arith) level_in in omega arith

  pub accept_in : (i level : ℕ) → i < n → level < LEVELS → accept_of places i level < n
  accept_in i level i_in level_in = let lt = (at_ports.pointing level level_in).accept i (omega arith) in omega arith

  pub Grants-decides : (i j level : ℕ) (kind : Kind) → Decides (Grants n t rows places before i j level kind)
  Grants-decides i j level kind = elim (cases_lt j n) [
    | inr out ↦ inr (λ g. let b = g.output_in in absurd (omega arith))
    | inl j_in ↦ elim (is_none (fed_of before j)) [
      | inr busy ↦ inr (λ g. busy g.output_free)
      | inl vacant ↦ elim (IsBest-decides t (λ m k. (x : ℕ) × (x < n) × Requests rows before x j m k) (somebody j) level kind) [
        | inr worse ↦ inr (λ g. worse g.best)
        | inl best ↦ elim (IsFirstFrom-decides n (from_of places j level kind) (λ x. Requests rows before x j level kind) (λ x. requests x j level kind)
            (from_in j level kind j_in (level_asked rows before best.there.0 j level kind best.there.2)) i) [
              | inr other ↦ inr (λ g. other g.first)
              | inl first ↦ inl (record { output_in = j_in; output_free = vacant; best = best; first = first })
            ]
      ]
    ]
  ]

  -- where a free output is asked, it grants somebody
  pub Grants-some : (i j level : ℕ) (kind : Kind) → i < n → j < n → IsFreeOutput before j → Requests rows before i j level kind → (h m : ℕ) × (k : Kind)
      × Grants n t rows places before h j m k
  Grants-some i j level kind i_in j_in vacant r =
      let b = IsBest-some t (λ m k. (x : ℕ) × (x < n) × Requests rows before x j m k) (somebody j) LEVELS level kind
      (level_asked rows before i j level kind r) (i, i_in, r) in
      let some = b.2.there in
      let first = IsFirstFrom-some n (from_of places j b.0 b.1) (λ x. Requests rows before x j b.0 b.1) (λ x. requests x j b.0 b.1)
      (from_in j b.0 b.1 j_in (level_asked rows before some.0 j b.0 b.1 some.2)) some.0 some.1 some.2 in
      (first.0, b.0, b.1, record { output_in = j_in; output_free = vacant; best = b.2; first = first.1 })

  takes_some : (k : Kind) (h m y : ℕ) → y < n → accept_of places h m < n → Grants n t rows places before h y m k → (z : ℕ)
      × Takes k n (accept_of places h m) (λ x. Grants n t rows places before h x m k) z
  takes_some Uni h m y y_in f g =
      IsFirstFrom-some n (accept_of places h m) (λ x. Grants n t rows places before h x m Uni) (λ x. Grants-decides h x m Uni) f y y_in g
  takes_some Multi h m y y_in f g = (y, g)

  -- where an input is granted, it accepts something
  pub Accepts-some : (h j level : ℕ) (kind : Kind) → Grants n t rows places before h j level kind → (z m : ℕ) × (k : Kind)
      × Accepts n t rows places before h z m k
  Accepts-some h j level kind g =
      let P : ℕ → Kind → Type 0 = λ m k. (y : ℕ) × Grants n t rows places before h y m k in
      let dec : (m : ℕ) (k : Kind) → Decides (P m k) = λ m k. elim (some_below (λ y. Grants n t rows places before h y m k) (λ y. Grants-decides h y m k) n) [
        | inl p ↦ inl (p.0, p.2)
        | inr none ↦ inr (λ p. none (p.0, p.1.output_in, p.1))
      ] in
      let b = IsBest-some t P dec LEVELS level kind (level_asked rows before h j level kind g.first.member) (j, g) in
      let first = b.2.there in
      let taken = takes_some b.1 h b.0 first.0 first.1.output_in
      (accept_in h b.0 first.1.first.below (level_asked rows before h first.0 b.0 b.1 first.1.first.member)) first.1 in
      (taken.0, b.0, b.1, record { best = b.2; taken = taken.1 })

-- the least level at which the row names the output
pub asks_some : (t : ℕ) (row : Row) (j level : ℕ) (kind : Kind) → level < LEVELS → Names row level kind j → (m : ℕ) × (k : Kind) × Asks row j m k
asks_some t row j level kind level_in named =
    let P : ℕ → Kind → Type 0 = λ m k. Names row m k j in
    let b = IsBest-some t P (λ m k. Names-decides row m k j) LEVELS level kind level_in named in
    let below = b.2.least level kind named in
    (b.0, b.1, record { level_in = omega arith; named = b.2.there; best = λ better other lt h. let at = b.2.least better other h in absurd (omega arith) })

-- all of a head is served, or an output of it is not
pub Completes-or : (n : ℕ) (rows : List Row) (matched : List (Option Fed)) (level i : ℕ) → AreWithin n rows → i < n → Completes rows matched level i
    ⊎ ((j : ℕ) × Names (row_of rows i) level Multi j × (Serves matched i j level Multi → ⊥))
Completes-or n rows matched level i within i_in =
    let Left : ℕ → Type 0 = λ j. Names (row_of rows i) level Multi j × (Serves matched i j level Multi → ⊥) in
    let dec : (j : ℕ) → Decides (Left j) = λ j. elim (Names-decides (row_of rows i) level Multi j) [
      | inl named ↦ elim (Serves-decides matched i j level Multi) [ inl served ↦ inr (λ p. p.1 served) | inr not_served ↦ inl (named, not_served) ]
      | inr not_named ↦ inr (λ p. not_named p.0)
    ] in
    elim (least Left dec n) [
      | inl found ↦ inr (found.0, found.2.0, found.2.1)
      | inr none ↦ inl (λ j named. elim (Serves-decides matched i j level Multi) [
        | inl served ↦ served
        | inr not_served ↦ absurd (none j (within.ports i i_in level j Multi named) (named, not_served))
      ])
    ]

pub HasHead-decides : (n : ℕ) (rows : List Row) (level i : ℕ) → AreWithin n rows → i < n → Decides (HasHead rows level i)
HasHead-decides n rows level i within i_in =
    elim (least (Names (row_of rows i) level Multi) (Names-decides (row_of rows i) level Multi) n) [
      | inl found ↦ inl (found.0, found.2)
      | inr none ↦ inr (λ h. none h.0 (within.ports i i_in level h.0 Multi h.1) h.1)
    ]
