-- What a slot of a plan decides in some rounds under FIRM, and the runs of such slots.
use Rattle.std.proofs.Common.{◌≡◌, ℕ, ◌+◌, ◌%◌, ◌<◌, ◌⊎◌, ◌∙◌, List, [], ◌∷◌, Option, length, drop, refl, ap, sym, subst, inl, inr, arith}
use Rattle.rotating_pick.specs.declared.kinds.Kind.{Kind}
use Rattle.rotating_pick.specs.declared.kinds.Kind.TheVariants.{Uni}
use Rattle.slot_match.specs.declared.matching.Fed.{Fed}
use Rattle.slot_match.specs.Rows.{Names, row_of, AreWithin}
use Rattle.slot_match.specs.Matches.{Serves, IsMatch}
use Rattle.slot_match.proofs.Pairs.{Serves-once}
use Rattle.pointer_state.specs.Places.{Places, ArePointing, places_at_first, grant_of, accept_of}
use Rattle.eslip_rounds.specs.Slots.{Decision}
use Rattle.eslip_rounds.specs.Schedules.{DecidedSlot, IsScheduleBy}
use Rattle.eslip_rounds.proofs.Running.{once_unicast}
use Rattle.eslip_rounds.proofs.Unique.{IsMatch-slot_by, Serves-named_by}
use Rattle.service_bound.specs.Windows.{IsClean, IsWithoutMulticast}
use Rattle.service_bound.proofs.LaterRounds.{first_of, BeginsWith, BeginsWith-slot}
use Rattle.service_bound.proofs.OneRound.{one_is_first}
use Rattle.service_bound.proofs.PostedRuns.{IsSwitch}
use Rattle.firm_rounds.specs.Slots.{AreMovedByFirm, IsFirmSlot}
use Rattle.firm_rounds.specs.Latest.{IsServedLastByFirm}
use Rattle.firm_rounds.specs.Decisions.{firm_decision}
use Rattle.firm_rounds.proofs.Computed.{IsFirmSlot-firm_decision, AreAtPorts-firm_decision}
use Rattle.scheduler_laws.specs.Reached.{AreFedAtLineRate}
use Rattle.scheduler_laws.specs.ReachedByFirm.{ComesLastByFirmAtLineRate}
use Rattle.scheduler_laws.proofs.Plans.{pair, In, IsServing, Each, each, Plan, asked, rows_of, names, AreWithin-rows, IsClean-rows}
use Rattle.scheduler_laws.proofs.Plans.{IsWithoutMulticast-rows}
use Rattle.scheduler_laws.proofs.PlannedSlots.{Suits, IsPlaced, AreNear, served_it, only_it, grants_nearest}
use Rattle.scheduler_laws.proofs.Shapes.{nothing}
use Rattle.scheduler_laws.proofs.NextPlans.{Follows, Starts}
use Rattle.scheduler_laws.proofs.FedRuns.{fed_at_line_rate}
use Rattle.scheduler_laws.proofs.PlannedRuns.{run, length-run, All-run, IsLateBy, IsLateBy-before, IsLateBy-last}
use Rattle.scheduler_laws.proofs.PlannedRuns.{opens_run, IsOpening, led, kept_all}
use Rattle.scheduler_laws.proofs.SecondRounds.{IsSettled, serving_settled, IsSecond, serves_second}

-- what the slot of a plan decides in some rounds
abbrev pub firm_decided : ℕ → ℕ → ℕ → Places → Plan → Decision
firm_decided rounds n t places p = firm_decision n rounds t (rows_of n p) places

-- The slot of a plan serves its pairs, and no others where these leave nothing to serve; it moves their pointers. An output
-- that grants an input which does not take it points at that input after it.
pub record IsFirmStep (rounds n t : ℕ) (places : Places) (p : Plan) : Type 0 where
  pub serves : (i j : ℕ) → In i j p.serves → Serves (firm_decided rounds n t places p).matched i j 0 Uni
  pub serving : Each (IsSettled p) (asked p) → IsServing p (firm_decided rounds n t places p).matched
  pub granted : (i j : ℕ) → In i j p.serves → grant_of (firm_decided rounds n t places p).places j 0 ≡ (i + 1) % n
  pub accepted : (i j : ℕ) → In i j p.serves → accept_of (firm_decided rounds n t places p).places i 0 ≡ (j + 1) % n
  pub held : (i j : ℕ) → IsPlaced n p i j → AreNear n places p i j → (In i j p.serves → ⊥) → grant_of (firm_decided rounds n t places p).places j 0 ≡ i
  pub accept_stays : (i : ℕ) → ((j : ℕ) → In i j p.serves → ⊥) → accept_of (firm_decided rounds n t places p).places i 0 ≡ accept_of places i 0

-- a slot of the plan, whatever it is
slot_in : (rounds n t : ℕ) (places : Places) (p : Plan) → IsSwitch n places → IsFirmSlot n rounds t (rows_of n p) places (firm_decided rounds n t places p)
slot_in rounds n t places p switch = IsFirmSlot-firm_decision n t (rows_of n p) places (AreWithin-rows n p) switch.at_ports switch.ports rounds

-- after the slot the pointers are at ports again
pub IsSwitch-after_firm : (rounds n t : ℕ) (places : Places) (p : Plan) → IsSwitch n places → IsSwitch n (firm_decided rounds n t places p).places
IsSwitch-after_firm rounds n t places p switch =
    let moved = (slot_in rounds n t places p switch).moved in
    record {
      at_ports = AreAtPorts-firm_decision n t (rows_of n p) places (AreWithin-rows n p) switch.at_ports switch.ports rounds;
      ports = moved.ports ∙ switch.ports;
    }

-- input 0 is served at another output, or output 0 serves another input
abbrev pub IsAside : ℕ → ℕ → Type 0
IsAside i j = ((i ≡ 0) × (0 < j)) ⊎ ((0 < i) × (j ≡ 0))

-- the plan whose second round serves input w and output j too
abbrev pub also : Plan → ℕ → ℕ → Plan
also p w j = record { asks = p.asks; serves = pair w j ∷ p.serves; twice = p.twice }

-- requests stay in the run, which is at line rate, and queue (0, 0) is served in its last slot alone
abbrev pub IsFirmLate : ℕ → ℕ → ℕ → Places → List Plan → Type 0
IsFirmLate rounds n = IsLateBy n (firm_decided rounds n)

-- so it is from any slot on, and from all pointers of which P holds
abbrev pub AreFirmLate : ℕ → ℕ → (Places → Type 0) → List Plan → Type 0
AreFirmLate rounds n P ps = (t : ℕ) (places : Places) → P places → IsFirmLate rounds n t places ps

module _ (rounds n t : ℕ) (places : Places) (p : Plan) (some : 0 < n) (some_rounds : 0 < rounds) (switch : IsSwitch n places) (suits : Suits n places p) where
  -- the slot
  now : IsFirmSlot n rounds t (rows_of n p) places (firm_decided rounds n t places p)
  now = slot_in rounds n t places p switch

  -- what its first round matches
  First : List (Option Fed)
  First = first_of n now.steps

  -- the slot begins with that round
  begins : BeginsWith n t (rows_of n p) places First (firm_decided rounds n t places p).matched
  unfolding First
  begins = BeginsWith-slot n t (rows_of n p) places AreMovedByFirm rounds (firm_decided rounds n t places p) some_rounds now

  -- how it moves the pointers
  moves : AreMovedByFirm n t (rows_of n p) First (firm_decided rounds n t places p).matched places (firm_decided rounds n t places p).places
  unfolding First
  moves = now.moved

  -- the first round serves the pairs of the plan
  served : (i j : ℕ) → In i j p.serves → Serves First i j 0 Uni
  served = served_it n t p places some switch suits First begins.opening

  -- and no others
  only : (i j level : ℕ) (kind : Kind) → Serves First i j level kind → In i j p.serves
  only = only_it n t p places some switch suits First begins.opening

  -- the match is one
  whole : IsMatch n (firm_decided rounds n t places p).matched
  whole = IsMatch-slot_by n rounds t (rows_of n p) places (AreWithin-rows n p) switch.at_ports switch.ports AreMovedByFirm
      (firm_decided rounds n t places p) now

  -- it serves the pairs of a plan of these rows, where it serves these and they leave nothing to serve
  serving_by : (q : Plan) → rows_of n q ≡ rows_of n p → ((i j : ℕ) → In i j q.serves → Serves (firm_decided rounds n t places p).matched i j 0 Uni)
      → Each (IsSettled q) (asked q) → IsServing q (firm_decided rounds n t places p).matched
  serving_by q same serves = serving_settled n q (firm_decided rounds n t places p).matched whole
      (λ i j level kind s. subst (λ rows. Names (row_of rows i) level kind j) (sym same)
      (Serves-named_by AreMovedByFirm n rounds t (rows_of n p) places (firm_decided rounds n t places p) now i j level kind s)) serves

  -- where the pointers suit the plan
  pub firm_step_of : IsFirmStep rounds n t places p
  firm_step_of = record {
    serves = λ i j is. begins.stays i j 0 Uni (served i j is);
    serving = serving_by p refl (λ i j is. begins.stays i j 0 Uni (served i j is));
    granted = λ i j is. moves.granted i j 0 (served i j is);
    accepted = λ i j is. moves.accepted i j 0 (served i j is);
    held = λ i j at near left. moves.held i j 0 (
      grants_nearest n t p places some switch suits First begins.opening i j at near,
      λ accepted. left (only i j 0 Uni ((begins.opening.pairs i j 0 Uni).1 (inr accepted))),
    );
    accept_stays = λ i nothing. moves.accept_stays i 0 (λ j s. nothing j (only i j 0 Uni s));
  }

  -- queue (0, 0) is not served where input 0 or output 0 is matched otherwise
  left_aside : (i j : ℕ) → IsAside i j → Serves (firm_decided rounds n t places p).matched i j 0 Uni
      → Serves (firm_decided rounds n t places p).matched 0 0 0 Uni → ⊥
  left_aside i j aside served zero =
      let matched = (firm_decided rounds n t places p).matched in
      elim aside [
        | inl input ↦
            let here : Serves matched 0 j 0 Uni = subst (λ v. Serves matched v j 0 Uni) input.0 served in
            let e = once_unicast n matched whole 0 j 0 0 here zero in
            let more = input.1 in
            omega arith
        | inr output ↦
            let here : Serves matched i 0 0 Uni = subst (λ v. Serves matched i v 0 Uni) output.1 served in
            let e = (Serves-once matched 0 i 0 0 0 Uni Uni here zero).0 in
            let more = output.0 in
            omega arith
      ]

  -- one slot more in front, whose first round keeps queue (0, 0) from being served
  pub late_first : (rest : List Plan) (i j : ℕ) → Each (IsSettled p) (asked p) → In i j p.serves → IsAside i j → Starts (Follows p) rest
      → IsFirmLate rounds n (t + 1) (firm_decided rounds n t places p).places rest → IsFirmLate rounds n t places (p ∷ rest)
  late_first rest i j settled is aside follows late =
      let step = firm_step_of in
      IsLateBy-before n (firm_decided rounds n) t places p rest follows
      (record { serving = step.serving settled; left = left_aside i j aside (step.serves i j is) }) late

  -- one slot more in front, whose second round does
  pub late_second : (rest : List Plan) (w j : ℕ) → 1 < rounds → IsSecond n places p w j → Each (IsSettled (also p w j)) (asked p) → IsAside w j
      → Starts (Follows (also p w j)) rest
      → IsFirmLate rounds n (t + 1) (firm_decided rounds n t places p).places rest → IsFirmLate rounds n t places (also p w j ∷ rest)
  late_second rest w j two second settled aside follows late =
      let step = firm_step_of in
      let matched = (firm_decided rounds n t places p).matched in
      let last : Serves matched w j 0 Uni = serves_second AreMovedByFirm rounds n t places p (firm_decided rounds n t places p) some switch suits two now
      w j second in
      let serves : (x y : ℕ) → In x y (also p w j).serves → Serves matched x y 0 Uni = λ x y is. elim is [
        | inl s ↦ subst (λ v. Serves matched v y 0 Uni) (sym s.0) (subst (λ v. Serves matched w v 0 Uni) (sym s.1) last)
        | inr earlier ↦ step.serves x y earlier
      ] in
      IsLateBy-before n (firm_decided rounds n) t places (also p w j) rest follows
      (record { serving = serving_by (also p w j) refl serves settled; left = left_aside w j aside last }) late

  -- one slot more in front, of one round, which does not serve the queue
  pub late_alone : (rest : List Plan) → rounds ≡ 1 → (In 0 0 p.serves → ⊥) → Starts (Follows p) rest
      → IsFirmLate rounds n (t + 1) (firm_decided rounds n t places p).places rest → IsFirmLate rounds n t places (p ∷ rest)
  unfolding First
  late_alone rest one left follows late =
      let first_is : First ≡ (firm_decided rounds n t places p).matched = one_is_first n now.steps (now.count ∙ one) ∙ sym now.result in
      let serving : IsServing p (firm_decided rounds n t places p).matched = record {
        serves = λ i j is. begins.stays i j 0 Uni (served i j is);
        only = λ i j level kind s. only i j level kind (subst (λ m. Serves m i j level kind) (sym first_is) s);
        asking = λ i j is. let at = each (IsPlaced n p) p.serves suits.placed i j is in at.2;
      } in
      IsLateBy-before n (firm_decided rounds n) t places p rest follows
      (record { serving = serving; left = λ s. left (serving.only 0 0 0 Uni s) }) late

  -- the last slot, which serves queue (0, 0)
  pub late_last : Each (IsSettled p) (asked p) → In 0 0 p.serves → IsFirmLate rounds n t places (p ∷ [])
  late_last settled served = IsLateBy-last n (firm_decided rounds n) t places p (firm_step_of.serving settled) served

-- ---- runs
-- the run is a schedule
IsSchedule-run : (rounds n t : ℕ) (places : Places) (ps : List Plan) → IsSwitch n places
    → IsScheduleBy AreMovedByFirm n rounds t places (run n (firm_decided rounds n) t places ps)
IsSchedule-run rounds n t places [] switch = tt
IsSchedule-run rounds n t places (p ∷ ps) switch = (
  slot_in rounds n t places p switch,
  IsSchedule-run rounds n (t + 1) (firm_decided rounds n t places p).places ps (IsSwitch-after_firm rounds n t places p switch),
)

-- What is late from pointers of a switch is a window in which queue (0, 0) is served in the last slot alone.
IsServedLast-run : (rounds n t : ℕ) (places : Places) (ps : List Plan) → IsSwitch n places → IsFirmLate rounds n t places ps
    → IsServedLastByFirm n rounds t 0 0 0 places (run n (firm_decided rounds n) t places ps)
IsServedLast-run rounds n t places ps switch late =
    let some : 0 < n = subst (λ m. 0 < m) switch.ports switch.at_ports.some in
    let rule = firm_decided rounds n in
    record {
      at_ports = switch.at_ports;
      ports = switch.ports;
      window = record {
        pointing = subst (λ m. ArePointing m 0 places) switch.ports (switch.at_ports.pointing 0 (omega arith));
        schedule = IsSchedule-run rounds n t places ps switch;
        within = All-run n rule t places (AreWithin n) (AreWithin-rows n) ps;
        kept = late.run_kept.kept;
        clean = All-run n rule t places (IsClean n 0) (IsClean-rows n) ps;
      };
      alone = All-run n rule t places (IsWithoutMulticast n 0) (IsWithoutMulticast-rows n) ps;
      posted = All-run n rule t places (λ rows. Names (row_of rows 0) 0 Uni 0) (λ p. names n p 0 0 some some (inl (refl, refl))) ps;
      last = late.last;
    }

-- what is late from where the first slots lead comes in a schedule at line rate, from all pointers at port 0 on
pub firm_comes : (rounds n : ℕ) (ps rest : List Plan) (opening : IsOpening n (firm_decided rounds n) ps rest)
    → IsFirmLate rounds n opening.leads.count opening.leads.after rest
    → (slots : List DecidedSlot) × AreFedAtLineRate n slots × ComesLastByFirmAtLineRate n rounds opening.leads.count slots
    × (length (drop opening.leads.count slots) ≡ length rest)
firm_comes rounds n ps rest opening late =
    let leads = opening.leads in
    let count = leads.count in
    let after = leads.after in
    let from = places_at_first n in
    let rule = firm_decided rounds n in
    let slots = run n rule 0 from ps in
    let dropped : drop count slots ≡ run n rule count after rest = led n rule from ps rest leads in
    let all = kept_all n rule from ps rest leads late.run_kept in
    let served : IsServedLastByFirm n rounds count 0 0 0 after (run n rule count after rest) =
    IsServedLast-run rounds n count after rest opening.later late in (
      slots,
      fed_at_line_rate n ps slots (all.fed nothing opening.first),
      record {
        schedule = IsSchedule-run rounds n 0 from ps opening.switch;
        within = All-run n rule 0 from (AreWithin n) (AreWithin-rows n) ps;
        kept = all.kept;
        last = subst (λ f. IsServedLastByFirm n rounds count 0 0 0 f (drop count slots)) (sym leads.left)
            (subst (λ s. IsServedLastByFirm n rounds count 0 0 0 after s) (sym dropped) served);
        line_rate = all.line;
        opens = opens_run n rule 0 from ps opening.one;
      },
      ap length dropped ∙ length-run n rule count after rest,
    )
