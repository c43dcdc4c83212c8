-- Runs: the slots that some postings make, one after the other, and what each leaves to the next.
use Rattle.std.proofs.Common.{◌≡◌, ℕ, suc, ◌+◌, ◌%◌, ◌<◌, ◌≤◌, ◌⊎◌, ◌∙◌, List, [], ◌∷◌, Option, length, All, refl, ap, sym, subst, inl, inr, arith}
use Rattle.std.proofs.lemmas.Bool.{cases_lt}
use Rattle.std.proofs.lemmas.List.Elements.{All-nil, All-cons}
use Rattle.rotating_pick.specs.Rotation.{distance}
use Rattle.rotating_pick.specs.declared.kinds.Kind.TheVariants.{Uni, Multi}
use Rattle.slot_match.specs.declared.rows.Row.{Row}
use Rattle.slot_match.specs.declared.matching.Fed.{Fed}
use Rattle.slot_match.specs.Rows.{Names, row_of}
use Rattle.slot_match.specs.Matches.{Serves}
use Rattle.slot_match.specs.Keeping.{Keeps}
use Rattle.slot_match.proofs.Pairs.{Serves-once}
use Rattle.pointer_state.specs.Places.{Places, AreAtPorts, grant_of, accept_of}
use Rattle.eslip_rounds.specs.Slots.{Decision, AreMoved, IsSlot}
use Rattle.eslip_rounds.specs.Schedules.{DecidedSlot, IsSchedule}
use Rattle.eslip_rounds.specs.Decisions.{decision_of}
use Rattle.eslip_rounds.proofs.Running.{once_unicast}
use Rattle.eslip_rounds.proofs.Settling.{IsSlot-decision_of, AreAtPorts-decision_of}
use Rattle.eslip_rounds.proofs.Unique.{IsMatch-slot}
use Rattle.service_bound.specs.Windows.{AreKept}
use Rattle.service_bound.specs.Latest.{ServeLast}
use Rattle.service_bound.proofs.LaterRounds.{first_of, second_of, BeginsWith, BeginsWith-slot}
use Rattle.service_bound.proofs.OneRound.{one_is_first}
use Rattle.service_bound.proofs.Postings.{Posting, IsPosted, rows_of, posted, names, AreWithin-rows}
use Rattle.service_bound.proofs.PostedSlots.{Suits, IsOutcome, outcome, served_second}

-- what the slot of a posting decides
abbrev pub decided : ℕ → ℕ → ℕ → Places → Posting → Decision
decided n rounds t places p = decision_of n rounds t (rows_of n p) places

-- the slots of some postings
abbrev pub run : ℕ → ℕ → ℕ → Places → List Posting → List DecidedSlot
run n rounds t places [] = []
run n rounds t places (p ∷ ps) = record { rows = rows_of n p; decision = decided n rounds t places p }
    ∷ run n rounds (t + 1) (decided n rounds t places p).places ps

pub length-run : (n rounds t : ℕ) (places : Places) (ps : List Posting) → length (run n rounds t places ps) ≡ length ps
length-run n rounds t places [] = refl
length-run n rounds t places (p ∷ ps) = ap suc (length-run n rounds (t + 1) (decided n rounds t places p).places ps)

-- what all rows of postings have, all slots have
pub All-run : (n rounds t : ℕ) (places : Places) (P : List Row → Type 0) → ((p : Posting) → P (rows_of n p)) → (ps : List Posting)
    → All (λ slot. P slot.rows) (run n rounds t places ps)
All-run n rounds t places P each [] = All-nil (λ slot. P slot.rows)
All-run n rounds t places P each (p ∷ ps) =
    All-cons (λ slot. P slot.rows) (record { rows = rows_of n p; decision = decided n rounds t places p })
    (run n rounds (t + 1) (decided n rounds t places p).places ps) (each p) (All-run n rounds (t + 1) (decided n rounds t places p).places P each ps)

-- a switch of n ports, and its pointers at ports
pub record IsSwitch (n : ℕ) (places : Places) : Type 0 where
  pub at_ports : AreAtPorts places
  pub ports : places.ports ≡ n

pub IsSwitch-after : (n rounds t : ℕ) (places : Places) (p : Posting) → IsSwitch n places → IsSwitch n (decided n rounds t places p).places
IsSwitch-after n rounds t places p switch =
    record {
      at_ports = AreAtPorts-decision_of n t (rows_of n p) places (AreWithin-rows n p) switch.at_ports switch.ports rounds;
      ports = (IsSlot-decision_of n t (rows_of n p) places (AreWithin-rows n p) switch.at_ports switch.ports rounds).moved.ports ∙ switch.ports;
    }

pub IsSchedule-run : (n rounds t : ℕ) (places : Places) (ps : List Posting) → IsSwitch n places → IsSchedule n rounds t places (run n rounds t places ps)
IsSchedule-run n rounds t places [] switch = tt
IsSchedule-run n rounds t places (p ∷ ps) switch = (
  IsSlot-decision_of n t (rows_of n p) places (AreWithin-rows n p) switch.at_ports switch.ports rounds,
  IsSchedule-run n rounds (t + 1) (decided n rounds t places p).places ps (IsSwitch-after n rounds t places p switch),
)

-- the first posting, which there is, has P
abbrev pub Starts : (Posting → Type 0) → List Posting → Type 0
Starts P [] = ⊥
Starts P (p ∷ ps) = P p

-- requests stay in the run, and queue (0, 0) is served in its last slot alone
pub record IsLate (n rounds t : ℕ) (places : Places) (ps : List Posting) : Type 0 where
  pub kept : AreKept n (run n rounds t places ps)
  pub last : ServeLast 0 0 0 (run n rounds t places ps)

-- what a slot of the posting serves
pub record IsServing (p : Posting) (matched : List (Option Fed)) : Type 0 where
  pub served : Serves matched p.input p.beside 0 Uni
  pub also : 0 < p.own → Serves matched 0 p.own 0 Uni
  pub too : 0 < p.other → Serves matched p.other p.output 0 Uni
  pub none : p.other ≡ 0 → p.output ≡ 0

-- how it moves pointers
pub record IsMoving (n : ℕ) (p : Posting) (before after : Places) : Type 0 where
  pub granted : p.beside ≡ 0 → grant_of after 0 0 ≡ (p.input + 1) % n
  pub grant_stays : 0 < p.beside → grant_of after 0 0 ≡ grant_of before 0 0
  pub accepted : accept_of after p.input 0 ≡ (p.beside + 1) % n
  pub also : 0 < p.own → accept_of after 0 0 ≡ (p.own + 1) % n
  pub too : 0 < p.output → accept_of after p.other 0 ≡ (p.output + 1) % n
  pub accept_stays : (i : ℕ) → (i ≡ p.input → ⊥) → (0 < p.own → i ≡ 0 → ⊥) → (0 < p.output → i ≡ p.other → ⊥) → accept_of after i 0 ≡ accept_of before i 0

IsMoving-from : (n t : ℕ) (p : Posting) (first matched : List (Option Fed)) (before after : Places) → IsOutcome p first
    → AreMoved n t (rows_of n p) first matched before after → IsMoving n p before after
IsMoving-from n t p first matched before after out moved =
    record {
      granted = λ none. moved.granted p.input 0 0 (subst (λ y. Serves first p.input y 0 Uni) none out.served);
      grant_stays = λ some. moved.grant_stays 0 0 (λ i s. elim (out.only i 0 0 Uni s) [
        | inl a ↦ let e = a.1 in omega arith
        | inr more ↦ elim more [ inl b ↦ let e = b.1 in let o = b.2 in omega arith | inr c ↦ let e = c.1 in let o = c.2 in omega arith ]
      ]);
      accepted = moved.accepted p.input p.beside 0 out.served;
      also = λ some. moved.accepted 0 p.own 0 (out.also some);
      too = λ some. moved.accepted p.other p.output 0 (out.too some);
      accept_stays = λ i not_input not_zero not_other. moved.accept_stays i 0 (λ j s. elim (out.only i j 0 Uni s) [
        | inl a ↦ not_input a.0
        | inr more ↦ elim more [ inl b ↦ not_zero b.2 b.0 | inr c ↦ not_other c.2 c.0 ]
      ]);
    }

-- what the slot of a posting serves, and how pointers move
pub record IsStep (n rounds t : ℕ) (places : Places) (p : Posting) : Type 0 where
  pub serving : IsServing p (decided n rounds t places p).matched
  pub moving : IsMoving n p places (decided n rounds t places p).places

-- the posting is of ports of the switch
pub record IsIn (n : ℕ) (p : Posting) : Type 0 where
  pub input_in : p.input < n
  pub beside_in : p.beside < n
  pub own_in : p.own < n
  pub other_in : p.other < n
  pub output_in : p.output < n

module _ (n rounds t : ℕ) (places : Places) (p : Posting) (switch : IsSwitch n places) (ports_in : IsIn n p) (suits : Suits n places p)
    (some : 0 < rounds) where
  now : IsSlot n rounds t (rows_of n p) places (decided n rounds t places p)
  now = IsSlot-decision_of n t (rows_of n p) places (AreWithin-rows n p) switch.at_ports switch.ports rounds

  First : List (Option Fed)
  First = first_of n now.steps

  begins : BeginsWith n t (rows_of n p) places First (decided n rounds t places p).matched
  unfolding First
  begins = BeginsWith-slot n t (rows_of n p) places AreMoved rounds (decided n rounds t places p) some now

  out : IsOutcome p First
  out = outcome n t p places switch.at_ports switch.ports ports_in.input_in ports_in.beside_in ports_in.own_in ports_in.other_in ports_in.output_in suits
      First begins.opening

  IsStep-by : (0 < p.other → p.output ≡ 0 → Serves (decided n rounds t places p).matched p.other 0 0 Uni) → IsStep n rounds t places p
  unfolding First
  IsStep-by later =
      record {
        serving = record {
          served = begins.stays p.input p.beside 0 Uni out.served;
          also = λ own. begins.stays 0 p.own 0 Uni (out.also own);
          too = λ other. elim (cases_lt 0 p.output) [
            | inl output ↦ begins.stays p.other p.output 0 Uni (out.too output)
            | inr none ↦ let e : 0 ≡ p.output = omega arith in
                subst (λ v. Serves (decided n rounds t places p).matched p.other v 0 Uni) e (later other (omega arith))
          ];
          none = λ zero_other. elim suits.low [ inl z ↦ z | inr q ↦ let other = q.1 in absurd (omega arith) ];
        };
        moving = IsMoving-from n t p First (decided n rounds t places p).matched places (decided n rounds t places p).places out now.moved;
      }

  -- a slot in which no other input asks output 0
  pub step_alone : (p.other ≡ 0) ⊎ (0 < p.output) → IsStep n rounds t places p
  step_alone none = IsStep-by (λ other zero_asked. elim none [ inl e ↦ absurd (omega arith) | inr e ↦ absurd (omega arith) ])

  -- a slot of two rounds or more in which the second serves the other input
  pub step_second : 1 < rounds → p.output ≡ 0 → 0 < p.beside → p.own ≡ 0 → distance n (grant_of places 0 0) p.other ≤ distance n (grant_of places 0 0) 0
      → IsStep n rounds t places p
  unfolding First
  step_second more zero_asked refusing alone next = IsStep-by (λ other none.
      let two = second_of n t (rows_of n p) places now.steps (let count = now.count in omega arith) now.chain in
      let served = served_second n t p places switch.at_ports switch.ports ports_in.input_in ports_in.beside_in ports_in.own_in ports_in.other_in
      ports_in.output_in suits First begins.opening two.0 two.1 other zero_asked refusing alone next in
      subst (λ m. Serves m p.other 0 0 Uni) (sym now.result) (two.2 p.other 0 0 Uni served))

  -- Queue (0, 0) is not served where input 0 or output 0 is matched otherwise.
  pub left_alone : IsStep n rounds t places p → ((p.input ≡ 0) × (0 < p.beside)) ⊎ ((0 < p.own) ⊎ ((0 < p.other) × (p.output ≡ 0)))
      → Serves (decided n rounds t places p).matched 0 0 0 Uni → ⊥
  left_alone step how served =
      let matched = (decided n rounds t places p).matched in
      let whole = IsMatch-slot n rounds t (rows_of n p) places (AreWithin-rows n p) switch.at_ports switch.ports (decided n rounds t places p) now in
      elim how [
        | inl a ↦ let e = once_unicast n matched whole 0 p.beside 0 0 (subst (λ x. Serves matched x p.beside 0 Uni) a.0 step.serving.served) served in
            let refusing = a.1 in omega arith
        | inr more ↦ elim more [
          | inl own ↦ let e = once_unicast n matched whole 0 p.own 0 0 (step.serving.also own) served in omega arith
          | inr b ↦ let e = (Serves-once matched 0 p.other 0 0 0 Uni Uni (subst (λ v. Serves matched p.other v 0 Uni) b.1 (step.serving.too b.0)) served).0 in
              let other = b.0 in omega arith
        ]
      ]

-- Of one round, it is not served where another input is granted or takes another output.
pub left_in_one : (n t : ℕ) (places : Places) (p : Posting) → IsSwitch n places → IsIn n p → Suits n places p → (0 < p.beside) ⊎ (0 < p.input)
    → Serves (decided n 1 t places p).matched 0 0 0 Uni → ⊥
left_in_one n t places p switch ports_in suits how served =
    let step = now n 1 t places p switch ports_in suits (omega arith) in
    let same : first_of n step.steps ≡ (decided n 1 t places p).matched = one_is_first n step.steps step.count ∙ sym step.result in
    let begin = BeginsWith-slot n t (rows_of n p) places AreMoved 1 (decided n 1 t places p) (omega arith) step in
    let result = outcome n t p places switch.at_ports switch.ports ports_in.input_in ports_in.beside_in ports_in.own_in ports_in.other_in ports_in.output_in
    suits (first_of n step.steps) begin.opening in
    elim (result.only 0 0 0 Uni (subst (λ m. Serves m 0 0 0 Uni) (sym same) served)) [
      | inl a ↦ let e = a.0 in let d = a.1 in elim how [ inl more ↦ omega arith | inr more ↦ omega arith ]
      | inr rest ↦ elim rest [ inl b ↦ let e = b.1 in let o = b.2 in omega arith | inr c ↦ let e = c.1 in let o = c.2 in omega arith ]
    ]

module _ (n : ℕ) (p next : Posting) (matched : List (Option Fed)) (serving : IsServing p matched) (follows : (p.beside ≡ 0) ⊎ IsPosted next p.input 0) where
  -- what is posted and not served is posted again
  posted_on : (i j : ℕ) → IsPosted p i j → (Serves matched i j 0 Uni → ⊥) → IsPosted next i j
  posted_on i j is left = elim is [
    | inl a ↦
        let not_beside : j ≡ p.beside
        → ⊥ = λ e. left (subst (λ x. Serves matched x j 0 Uni) (sym a.0) (subst (λ y. Serves matched p.input y 0 Uni) (sym e) serving.served)) in
        elim a.1 [
          | inr e ↦ absurd (not_beside e)
          | inl z ↦ elim follows [
            | inl none ↦ absurd (not_beside (omega arith))
            | inr f ↦ subst (λ x. IsPosted next x j) (sym a.0)
                (subst (IsPosted next p.input) (sym z) f)
          ]
        ]
    | inr more ↦ elim more [
      | inl b ↦ elim b.1 [
        | inl z ↦ inr (inl (b.0, inl z))
        | inr e ↦ elim (cases_lt 0 p.own) [
          | inr none ↦ inr (inl (b.0, inl (omega arith)))
          | inl some ↦ absurd (left (subst (λ x. Serves matched x j 0 Uni) (sym b.0) (subst (λ y. Serves matched 0 y 0 Uni) (sym e) (serving.also some))))
        ]
      ]
      | inr c ↦ elim (cases_lt 0 p.other) [
        | inl some ↦ absurd (left (subst (λ x. Serves matched x j 0 Uni) (sym c.0) (subst (λ y. Serves matched p.other y 0 Uni) (sym c.1) (serving.too some))))
        | inr none ↦ let e = c.0 in inr (inl (omega arith, inl (c.1 ∙ serving.none (omega arith))))
      ]
    ]
  ]

  named_on : (i j level : ℕ) → i < n → Names (row_of (rows_of n p) i) level Uni j → (Serves matched i j level Uni → ⊥)
      → Names (row_of (rows_of n next) i) level Uni j
  named_on i j level i_in named left =
      let is = posted n p i j level Uni i_in named in
      subst (λ l. Names (row_of (rows_of n next) i) l Uni j) (sym is.0)
      (names n next i j i_in is.2 (posted_on i j is.3 (subst (λ l. Serves matched i j l Uni → ⊥) is.0 left)))

  pub keeps_on : (i : ℕ) → i < n → Keeps matched i (row_of (rows_of n p) i) (row_of (rows_of n next) i)
  keeps_on i i_in =
      record {
        uni = λ level j named left. named_on i j level i_in named left;
        multi = λ level j named left. let kind = (posted n p i j level Multi i_in named).1 in absurd (cc);
      }

-- requests stay over one slot more in front, in which output 0 takes an input that asks for nothing else
pub AreKept-before : (n rounds t : ℕ) (places : Places) (p : Posting) (ps : List Posting) → IsServing p (decided n rounds t places p).matched → p.beside ≡ 0
    → AreKept n (run n rounds (t + 1) (decided n rounds t places p).places ps) → AreKept n (run n rounds t places (p ∷ ps))
AreKept-before n rounds t places p [] serving none kept = (tt, tt)
AreKept-before n rounds t places p (next ∷ ps) serving none kept = (keeps_on n p next (decided n rounds t places p).matched serving (inl none), kept)

-- one slot more in front
pub IsLate-before : (n rounds t : ℕ) (places : Places) (p : Posting) (ps : List Posting) → IsServing p (decided n rounds t places p).matched
    → (Serves (decided n rounds t places p).matched 0 0 0 Uni → ⊥) → Starts (λ next. (p.beside ≡ 0) ⊎ IsPosted next p.input 0) ps
    → IsLate n rounds (t + 1) (decided n rounds t places p).places ps → IsLate n rounds t places (p ∷ ps)
IsLate-before n rounds t places p [] serving left starts late = absurd starts
IsLate-before n rounds t places p (next ∷ ps) serving left starts late =
    record { kept = (keeps_on n p next (decided n rounds t places p).matched serving starts, late.kept); last = (left, late.last) }

-- the last slot
pub IsLate-last : (n rounds t : ℕ) (places : Places) (p : Posting) → Serves (decided n rounds t places p).matched 0 0 0 Uni → IsLate n rounds t places (p ∷ [])
IsLate-last n rounds t places p served = record { kept = (tt, tt); last = served }
