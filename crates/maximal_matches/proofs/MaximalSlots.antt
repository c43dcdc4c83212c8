-- A slot with as many rounds as ports has a maximal match, and so has one whose last round added nothing.
use Rattle.std.proofs.Common.{◌≡◌, ℕ, ◌+◌, ◌<◌, ◌≤◌, ◌↔◌, ◌∙◌, List, [], ◌∷◌, Option, None, Some, All, true, is_some, length, refl, sym}
use Rattle.std.proofs.Common.{subst, arith}
use Rattle.std.proofs.lemmas.List.Elements.{All-nil, All-cons, All-head, All-tail}
use Rattle.std.proofs.lemmas.Option.{none-some}
use Rattle.rotating_pick.specs.PortSets.{Has}
use Rattle.rotating_pick.specs.declared.limits.TheConstants.{MAX_PORTS}
use Rattle.slot_match.specs.declared.rows.Row.{Row}
use Rattle.slot_match.specs.declared.matching.Fed.{Fed}
use Rattle.slot_match.specs.Rows.{AreWithin}
use Rattle.slot_match.specs.Matches.{unmatched, fed_of, IsFreeOutput, IsMaximal}
use Rattle.slot_match.specs.Parts.{set_of}
use Rattle.slot_match.proofs.Sets.{Has-set_of}
use Rattle.pointer_state.specs.Places.{Places, AreAtPorts, ArePointing}
use Rattle.eslip_rounds.specs.Slots.{Decision, Moving, IsSlotBy}
use Rattle.eslip_rounds.specs.Steps.{AreMade}
use Rattle.eslip_rounds.specs.Schedules.{DecidedSlot, IsScheduleBy}
use Rattle.eslip_rounds.specs.Schedulers.{StayAtPorts}
use Rattle.eslip_rounds.proofs.Decided.{enough_rounds, nothing_added}
use Rattle.service_bound.proofs.LaterRounds.{first_of, length-first_of}
use Rattle.service_bound.proofs.InWindows.{KeepPointing}
use Rattle.maximal_matches.proofs.SamePointers.{AreAllPointing, in_tables, AreSame-in_tables, AreAtPorts-in_tables, AreRounds-same}

some-iff : (o : Option Fed) → (is_some o ≡ true) ↔ (o ≡ None → ⊥)
some-iff None = (λ e. absurd (cc), λ some. absurd (some refl))
some-iff (Some f) = (λ e none. none-some f (sym none), λ some. refl)

module _ (Moves : Moving) (n rounds t : ℕ) (rows : List Row) (places : Places) (a : Decision) (some : 0 < n) (size : n ≤ MAX_PORTS)
    (within : AreWithin n rows) (pointing : AreAllPointing n places) (slot : IsSlotBy Moves n rounds t rows places a) where
  -- the outputs that its first round matched
  outputs : ℕ
  outputs = set_of n (λ j. is_some (fed_of (first_of n slot.steps) j))

  firsts : (j : ℕ) → Has outputs j ↔ ((j < n) × (IsFreeOutput (first_of n slot.steps) j → ⊥))
  unfolding outputs
  firsts j =
      let has = Has-set_of n (λ y. is_some (fed_of (first_of n slot.steps) y)) j in
      let fed = some-iff (fed_of (first_of n slot.steps) j) in
      (λ h. let p = has.0 h in (p.0, fed.0 p.1), λ p. has.1 (p.0, fed.1 p.1))

  -- what is told of its rounds
  are : AreMade n rounds t rows (in_tables n places) a.matched (record { numbers = a.numbers; first_outputs = outputs })
  are =
      record {
        steps = slot.steps;
        count = slot.count;
        chain = AreRounds-same n t rows places (in_tables n places) (AreSame-in_tables n places some size) (unmatched n) slot.steps slot.chain;
        result = slot.result;
        numbered = slot.numbered;
        firsts = firsts;
      }

  pub IsMaximal-enough : n ≤ rounds → IsMaximal n rows a.matched
  IsMaximal-enough enough =
      enough_rounds n rounds t rows (in_tables n places) a.matched (record { numbers = a.numbers; first_outputs = outputs }) (omega arith) are
      (AreAtPorts-in_tables n places some size pointing) refl within enough

  pub IsMaximal-unused : 0 < rounds → a.numbers.last_added ≡ 0 → IsMaximal n rows a.matched
  IsMaximal-unused round none =
      nothing_added n rounds t rows (in_tables n places) a.matched (record { numbers = a.numbers; first_outputs = outputs }) round are
      (AreAtPorts-in_tables n places some size pointing) refl within none

-- What pointers fit that are at ports: they do before each slot, where they do before the first and no slot ends it.
pub record AreFitting (Moves : Moving) (n : ℕ) (Fit : Places → Type 0) : Type 0 where
  pub pointing : (places : Places) → Fit places → AreAllPointing n places
  pub stay : (t : ℕ) (rows : List Row) (first matched : List (Option Fed)) (before after : Places) → length first ≡ n → AreWithin n rows → Fit before
      → Moves n t rows first matched before after → Fit after

pub AreFitting-kept : (Moves : Moving) (n : ℕ) → ((level : ℕ) → KeepPointing Moves n level) → AreFitting Moves n (AreAllPointing n)
AreFitting-kept Moves n keep =
    record {
      pointing = λ places fit. fit;
      stay = λ t rows first matched before after long within fit moved level level_in.
          keep level t rows first matched before after long within (fit level level_in) moved;
    }

-- the pointers of a switch of n ports, at ports
abbrev pub AreOfPorts : ℕ → Places → Type 0
AreOfPorts n places = AreAtPorts places × (places.ports ≡ n)

pub pointing_of : (n : ℕ) (places : Places) → AreOfPorts n places → AreAllPointing n places
pointing_of n places fit level level_in = subst (λ k. ArePointing k level places) fit.1 (fit.0.pointing level level_in)

pub AreFitting-stay : (n : ℕ) → AreFitting StayAtPorts n (AreOfPorts n)
AreFitting-stay n =
    record {
      pointing = pointing_of n;
      stay = λ t rows first matched before after long within fit moved. (moved.0, moved.1 ∙ fit.1);
    }

module _ (Moves : Moving) (n rounds : ℕ) (Fit : Places → Type 0) (fitting : AreFitting Moves n Fit) where
  -- what each slot has from such pointers, all slots of a schedule have
  pub All-schedule : (P : DecidedSlot → Type 0)
      → ((t : ℕ) (places : Places) (slot : DecidedSlot) → Fit places → AreWithin n slot.rows → IsSlotBy Moves n rounds t slot.rows places slot.decision
      → P slot) → (slots : List DecidedSlot) (t : ℕ) (places : Places) → Fit places → IsScheduleBy Moves n rounds t places slots
      → All (λ slot. AreWithin n slot.rows) slots → All P slots
  All-schedule P each [] t places fit schedule within = All-nil P
  All-schedule P each (slot ∷ slots) t places fit schedule within =
      let here = All-head (λ s. AreWithin n s.rows) slot slots within in
      let decided = schedule.0 in
      let next = fitting.stay t slot.rows (first_of n decided.steps) slot.decision.matched places slot.decision.places
      (length-first_of n t slot.rows places decided.steps decided.chain) here fit decided.moved in
      All-cons P slot slots (each t places slot fit here decided)
      (All-schedule P each slots (t + 1) slot.decision.places next schedule.1 (All-tail (λ s. AreWithin n s.rows) slot slots within))

  module _ (some : 0 < n) (size : n ≤ MAX_PORTS) (slots : List DecidedSlot) (t : ℕ) (places : Places) (fit : Fit places)
      (schedule : IsScheduleBy Moves n rounds t places slots) (within : All (λ slot. AreWithin n slot.rows) slots) where
    pub All-enough : n ≤ rounds → All (λ slot. IsMaximal n slot.rows slot.decision.matched) slots
    All-enough enough =
        All-schedule (λ slot. IsMaximal n slot.rows slot.decision.matched)
        (λ u from slot fits here decided. IsMaximal-enough Moves n rounds u slot.rows from slot.decision some size here (fitting.pointing from fits) decided
        enough) slots t places fit schedule within

    pub All-unused : 0 < rounds → All (λ slot. slot.decision.numbers.last_added ≡ 0 → IsMaximal n slot.rows slot.decision.matched) slots
    All-unused round =
        All-schedule (λ slot. slot.decision.numbers.last_added ≡ 0 → IsMaximal n slot.rows slot.decision.matched)
        (λ u from slot fits here decided. IsMaximal-unused Moves n rounds u slot.rows from slot.decision some size here (fitting.pointing from fits) decided
        round) slots t places fit schedule within

module _ (n rounds t : ℕ) (places : Places) (slots : List DecidedSlot) (at_ports : AreAtPorts places) (ports : places.ports ≡ n) where
  some_ports : 0 < n
  some_ports = let some = at_ports.some in omega arith

  few_ports : n ≤ MAX_PORTS
  few_ports = let size = at_ports.size in omega arith

  -- where pointers move so that those of each level are at ports again
  module _ (Moves : Moving) (keep : (level : ℕ) → KeepPointing Moves n level) (schedule : IsScheduleBy Moves n rounds t places slots)
      (within : All (λ slot. AreWithin n slot.rows) slots) where
    pub all_maximal : n ≤ rounds → All (λ slot. IsMaximal n slot.rows slot.decision.matched) slots
    all_maximal = All-enough Moves n rounds (AreAllPointing n) (AreFitting-kept Moves n keep) some_ports few_ports slots t places
        (pointing_of n places (at_ports, ports)) schedule within

    pub all_unused : 0 < rounds → All (λ slot. slot.decision.numbers.last_added ≡ 0 → IsMaximal n slot.rows slot.decision.matched) slots
    all_unused = All-unused Moves n rounds (AreAllPointing n) (AreFitting-kept Moves n keep) some_ports few_ports slots t places
        (pointing_of n places (at_ports, ports)) schedule within

  -- where all pointers stay at ports
  module _ (schedule : IsScheduleBy StayAtPorts n rounds t places slots) (within : All (λ slot. AreWithin n slot.rows) slots) where
    pub all_maximal_by_any : n ≤ rounds → All (λ slot. IsMaximal n slot.rows slot.decision.matched) slots
    all_maximal_by_any =
        All-enough StayAtPorts n rounds (AreOfPorts n) (AreFitting-stay n) some_ports few_ports slots t places (at_ports, ports) schedule within

    pub all_unused_by_any : 0 < rounds → All (λ slot. slot.decision.numbers.last_added ≡ 0 → IsMaximal n slot.rows slot.decision.matched) slots
    all_unused_by_any = All-unused StayAtPorts n rounds (AreOfPorts n) (AreFitting-stay n) some_ports few_ports slots t places (at_ports, ports) schedule within

-- one slot, by its switch
module _ (Moves : Moving) (n rounds t : ℕ) (rows : List Row) (places : Places) (a : Decision) (within : AreWithin n rows) (at_ports : AreAtPorts places)
    (ports : places.ports ≡ n) (slot : IsSlotBy Moves n rounds t rows places a) where
  some_of : 0 < n
  some_of = let some = at_ports.some in omega arith

  few_of : n ≤ MAX_PORTS
  few_of = let size = at_ports.size in omega arith

  pub slot_maximal : n ≤ rounds → IsMaximal n rows a.matched
  slot_maximal = IsMaximal-enough Moves n rounds t rows places a some_of few_of within (pointing_of n places (at_ports, ports)) slot

  pub slot_unused : 0 < rounds → a.numbers.last_added ≡ 0 → IsMaximal n rows a.matched
  slot_unused = IsMaximal-unused Moves n rounds t rows places a some_of few_of within (pointing_of n places (at_ports, ports)) slot
