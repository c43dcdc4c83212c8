-- Slots of unicast of one level alone, renumbered and decided anew at another level: they are a schedule again, of which all is
-- the same except for the names of the ports and the level.
use Rattle.std.proofs.Common.{◌≡◌, ℕ, suc, ◌+◌, ◌<◌, ◌∙◌, List, [], ◌∷◌, All, length, map, replicate, slice_index, slice_set, refl, ap, sym, subst, inl}
use Rattle.std.proofs.Common.{inr, arith}
use Rattle.std.specs.List.{range_with_len}
use Rattle.std.proofs.lemmas.Bool.{cases_eq}
use Rattle.std.proofs.lemmas.List.{length-replicate, get_or-set_same, get_or-set_other}
use Rattle.std.proofs.lemmas.List.Elements.{All-nil, All-cons, All-head, All-tail}
use Rattle.std.proofs.lemmas.List.FromFn.{length-map-range_with_len, get_or-map-range_with_len}
use Rattle.rotating_pick.proofs.Tables.{no_members}
use Rattle.rotating_pick.specs.PortSets.{Has}
use Rattle.rotating_pick.specs.declared.kinds.Kind.{Kind}
use Rattle.rotating_pick.specs.declared.kinds.Kind.TheVariants.{Uni, Multi}
use Rattle.rotating_pick.specs.declared.limits.TheConstants.{LEVELS}
use Rattle.slot_match.specs.declared.rows.Row.{Row}
use Rattle.slot_match.specs.Rows.{Names, row_of, no_row, AreWithin}
use Rattle.slot_match.specs.Matches.{unmatched, Serves}
use Rattle.slot_match.specs.Keeping.{Keeps}
use Rattle.slot_match.specs.Parts.{set_of}
use Rattle.slot_match.proofs.Sets.{Has-set_of}
use Rattle.pointer_state.specs.Places.{Places, grant_of, accept_of}
use Rattle.islip_rounds.specs.Numbers.{last_of}
use Rattle.eslip_rounds.specs.Slots.{Decision, IsSlot}
use Rattle.eslip_rounds.specs.Schedules.{DecidedSlot, IsSchedule}
use Rattle.eslip_rounds.specs.Decisions.{is_named, decision_of}
use Rattle.eslip_rounds.proofs.Settling.{IsSlot-decision_of, AreAtPorts-decision_of}
use Rattle.eslip_rounds.proofs.Testing.{Decides-named}
use Rattle.service_bound.specs.Windows.{IsClean, IsWithoutMulticast, InFirst, AreKept, IsWindow}
use Rattle.service_bound.specs.Latest.{ServeLast}
use Rattle.service_bound.proofs.LaterRounds.{first_of, length-first_of}
use Rattle.service_bound.proofs.InWindows.{IsWindowSlot, first_slot, later_slots}
use Rattle.service_bound.proofs.PostedRuns.{IsSwitch}
use Rattle.service_bound.proofs.Renumbering.{Renumbers}
use Rattle.service_bound.proofs.RenumberedSlots.{Carries, Posts, Side, PointAlike, AreAlike, MatchAlike, slots_alike, firsts_alike, pointers_alike}

-- the rows name nothing but unicast of the level
abbrev pub OnlyAt : ℕ → ℕ → List Row → Type 0
OnlyAt n l rows = (x y level : ℕ) (kind : Kind) → Posts n rows x y level kind → (x < n) × (y < n) × (level ≡ l) × (kind ≡ Uni)

module _ (n : ℕ) (ins_back outs_back : ℕ → ℕ) (l m : ℕ) where
  set_for : List Row → ℕ → ℕ
  set_for rows x = set_of n (λ y. is_named (row_of rows (ins_back x)) l Uni (outs_back y))

  row_for : List Row → ℕ → Row
  row_for rows x = record { uni = slice_set (replicate LEVELS 0) m (set_for rows x); multi = replicate LEVELS 0 }

  -- the rows renumbered, at level m
  pub rows_for : List Row → List Row
  rows_for rows = map (row_for rows) (range_with_len 0 n)

  row_is : (rows : List Row) (x : ℕ) → x < n → row_of (rows_for rows) x ≡ row_for rows x
  unfolding rows_for
  row_is rows x x_in = get_or-map-range_with_len (row_for rows) 0 n x x no_row x_in (omega arith)

  module _ (m_in : m < LEVELS) where
    names_in : (rows : List Row) (x y : ℕ) → y < n → Names (row_of rows (ins_back x)) l Uni (outs_back y) → Names (row_for rows x) m Uni y
    unfolding row_for set_for
    names_in rows x y y_in named =
        let there : m < length (replicate {A = ℕ} LEVELS 0) = let long = length-replicate {A = ℕ} LEVELS 0 in omega arith in
        let has : Has (set_for rows x) y =
        (Has-set_of n (λ v. is_named (row_of rows (ins_back x)) l Uni (outs_back v)) y).1
        (y_in, (Decides-named (row_of rows (ins_back x)) l Uni (outs_back y)).1 named) in
        subst (λ s. Has s y) (sym (get_or-set_same (replicate LEVELS 0) m (set_for rows x) 0 there)) has

    named_in : (rows : List Row) (x y level : ℕ) (kind : Kind) → Names (row_for rows x) level kind y → (level ≡ m) × (kind ≡ Uni) × (y < n)
        × Names (row_of rows (ins_back x)) l Uni (outs_back y)
    unfolding row_for set_for
    named_in rows x y level Multi named = absurd (no_members LEVELS level y named)
    named_in rows x y level Uni named = elim (cases_eq level m) [
      | inl same ↦
          let there : m < length (replicate {A = ℕ} LEVELS 0) = let long = length-replicate {A = ℕ} LEVELS 0 in omega arith in
          let here : Has (slice_index (slice_set (replicate LEVELS 0) m (set_for rows x)) m) y =
          subst (λ v. Has (slice_index (slice_set (replicate LEVELS 0) m (set_for rows x)) v) y) same named in
          let has = (Has-set_of n (λ v. is_named (row_of rows (ins_back x)) l Uni (outs_back v)) y).0
          (subst (λ s. Has s y) (get_or-set_same (replicate LEVELS 0) m (set_for rows x) 0 there) here) in
          (same, refl, has.0, (Decides-named (row_of rows (ins_back x)) l Uni (outs_back y)).0 has.1)
      | inr other ↦ absurd (no_members LEVELS level y (subst (λ s. Has s y) (get_or-set_other (replicate LEVELS 0) m level (set_for rows x) 0 other) named))
    ]

    -- what the renumbered rows name
    pub names_for : (rows : List Row) (x y : ℕ) → x < n → y < n → Names (row_of rows (ins_back x)) l Uni (outs_back y)
        → Names (row_of (rows_for rows) x) m Uni y
    names_for rows x y x_in y_in named = subst (λ row. Names row m Uni y) (sym (row_is rows x x_in)) (names_in rows x y y_in named)

    pub named_for : (rows : List Row) (x y level : ℕ) (kind : Kind) → x < n → Names (row_of (rows_for rows) x) level kind y → (level ≡ m) × (kind ≡ Uni)
        × (y < n) × Names (row_of rows (ins_back x)) l Uni (outs_back y)
    named_for rows x y level kind x_in named = named_in rows x y level kind (subst (λ row. Names row level kind y) (row_is rows x x_in) named)

    pub AreWithin-for : (rows : List Row) → AreWithin n (rows_for rows)
    unfolding rows_for
    AreWithin-for rows = record {
      count = length-map-range_with_len (row_for rows) 0 n;
      ports = λ x x_in level y kind named. (named_for rows x y level kind x_in named).2;
      levels = λ x x_in level y kind named. let at = (named_for rows x y level kind x_in named).0 in omega arith;
    }

    pub IsClean-for : (rows : List Row) → IsClean n m (rows_for rows)
    IsClean-for rows x better y kind x_in less named = let at = (named_for rows x y better kind x_in named).0 in omega arith

    pub IsWithoutMulticast-for : (rows : List Row) → IsWithoutMulticast n m (rows_for rows)
    IsWithoutMulticast-for rows x y x_in named = let kind = (named_for rows x y m Multi x_in named).1 in absurd (cc)

module _ (n rounds : ℕ) (ins ins_back outs outs_back : ℕ → ℕ) (inputs : Renumbers n ins ins_back) (outputs : Renumbers n outs outs_back) (l m : ℕ)
    (l_in : l < LEVELS) (m_in : m < LEVELS) where
  abbrev New : List Row → List Row
  New rows = rows_for n ins_back outs_back l m rows

  -- what the slot of the renumbered rows decides
  abbrev pub redecision : ℕ → Places → List Row → Decision
  redecision t places rows = decision_of n rounds t (rows_for n ins_back outs_back l m rows) places

  -- the slots decided anew
  abbrev pub redecided : ℕ → Places → List DecidedSlot → List DecidedSlot
  redecided t places [] = []
  redecided t places (slot ∷ slots) = record { rows = rows_for n ins_back outs_back l m slot.rows; decision = redecision t places slot.rows }
      ∷ redecided (t + 1) (redecision t places slot.rows).places slots

  pub length-redecided : (t : ℕ) (places : Places) (slots : List DecidedSlot) → length (redecided t places slots) ≡ length slots
  length-redecided t places [] = refl
  length-redecided t places (slot ∷ slots) = ap suc (length-redecided (t + 1) (redecision t places slot.rows).places slots)

  -- what all renumbered rows have, all slots have
  pub All-redecided : (P Q : List Row → Type 0) → ((rows : List Row) → P rows → Q (New rows)) → (t : ℕ) (places : Places) (slots : List DecidedSlot)
      → All (λ slot. P slot.rows) slots → All (λ slot. Q slot.rows) (redecided t places slots)
  All-redecided P Q each t places [] all = All-nil (λ slot. Q slot.rows)
  All-redecided P Q each t places (slot ∷ slots) all =
      All-cons (λ slot. Q slot.rows) (record { rows = New slot.rows; decision = redecision t places slot.rows })
      (redecided (t + 1) (redecision t places slot.rows).places slots)
      (each slot.rows (All-head (λ s. P s.rows) slot slots all))
      (All-redecided P Q each (t + 1) (redecision t places slot.rows).places slots (All-tail (λ s. P s.rows) slot slots all))

  rows_to : (rows : List Row) → OnlyAt n l rows → Carries n ins outs l m (Posts n rows) (Posts n (New rows))
  rows_to rows alone = record {
    carried = λ x y there.
        let at = alone x y l Uni there in
        let in_back = inputs.back_to x there.0 in
        let out_back = outputs.back_to y at.1 in
        let named : Names (row_of rows (ins_back (ins x))) l Uni (outs_back (outs y)) =
        subst (λ v. Names (row_of rows v) l Uni (outs_back (outs y))) (sym in_back) (subst (λ v. Names (row_of rows x) l Uni v) (sym out_back) there.1) in
        (inputs.to_in x there.0, names_for n ins_back outs_back l m m_in rows (ins x) (outs y) (inputs.to_in x there.0) (outputs.to_in y at.1) named);
    only = alone;
  }

  rows_back : (rows : List Row) → Carries n ins_back outs_back m l (Posts n (New rows)) (Posts n rows)
  rows_back rows = record {
    carried = λ x y there. (inputs.back_in x there.0, (named_for n ins_back outs_back l m m_in rows x y m Uni there.0 there.1).3);
    only = λ x y level kind there. let at = named_for n ins_back outs_back l m m_in rows x y level kind there.0 there.1 in (there.0, at.2, at.0, at.1);
  }

  module _ (t : ℕ) (places later : Places) (slot : DecidedSlot) (now : IsWindowSlot n rounds t l places slot) (alone : OnlyAt n l slot.rows)
      (switch : IsSwitch n later) (pointers : PointAlike n ins outs l m places later) where
    anew : IsSlot n rounds t (New slot.rows) later (redecision t later slot.rows)
    anew = IsSlot-decision_of n t (New slot.rows) later (AreWithin-for n ins_back outs_back l m m_in slot.rows) switch.at_ports switch.ports rounds

    IsSwitch-anew : IsSwitch n (redecision t later slot.rows).places
    IsSwitch-anew = record {
      at_ports = AreAtPorts-decision_of n t (New slot.rows) later (AreWithin-for n ins_back outs_back l m m_in slot.rows) switch.at_ports switch.ports rounds;
      ports = anew.moved.ports ∙ switch.ports;
    }

    before : Side
    before = record { level = l; rows = slot.rows; places = places }

    after : Side
    after = record { level = m; rows = New slot.rows; places = later }

    alike : AreAlike n ins ins_back outs outs_back before after
    unfolding before after
    alike = record {
      inputs = inputs;
      outputs = outputs;
      level_in = l_in;
      new_level_in = m_in;
      rows_to = rows_to slot.rows alone;
      rows_back = rows_back slot.rows;
      pointers = pointers;
    }

    matched_alike : MatchAlike n ins ins_back outs outs_back l m slot.decision.matched (redecision t later slot.rows).matched
    unfolding before after
    matched_alike =
        let same = slots_alike n t ins ins_back outs outs_back before after alike now.decided.steps anew.steps now.decided.chain anew.chain
        (now.decided.count ∙ sym anew.count) in
        subst (λ f. MatchAlike n ins ins_back outs outs_back l m f (redecision t later slot.rows).matched) (sym now.decided.result)
        (subst (λ g. MatchAlike n ins ins_back outs outs_back l m (last_of (unmatched n) now.decided.steps) g) (sym anew.result) same)

    pointers_after : ((y : ℕ) → y < n → grant_of slot.decision.places y l < n) → ((x : ℕ) → x < n → accept_of slot.decision.places x l < n)
        → PointAlike n ins outs l m slot.decision.places (redecision t later slot.rows).places
    unfolding before after
    pointers_after grant_in accept_in =
        pointers_alike n t ins ins_back outs outs_back before after alike (first_of n now.decided.steps) (first_of n anew.steps) slot.decision.matched
        (redecision t later slot.rows).matched slot.decision.places (redecision t later slot.rows).places
        (firsts_alike n t ins ins_back outs outs_back before after alike now.decided.steps anew.steps now.decided.chain anew.chain
        (now.decided.count ∙ sym anew.count))
        (length-first_of n t slot.rows places now.decided.steps now.decided.chain) now.decided.moved anew.moved grant_in accept_in

    -- what is not served is posted again
    keeps_anew : (next : List Row) → ((x : ℕ) → x < n → Keeps slot.decision.matched x (row_of slot.rows x) (row_of next x)) → (x : ℕ) → x < n
        → Keeps (redecision t later slot.rows).matched x (row_of (New slot.rows) x) (row_of (New next) x)
    keeps_anew next keeps x x_in = record {
      uni = λ level y named left.
          let at = named_for n ins_back outs_back l m m_in slot.rows x y level Uni x_in named in
          let Left : ℕ → ℕ → ℕ → Type 0 = λ u v k. Serves (redecision t later slot.rows).matched u v k Uni in
          let again = (keeps (ins_back x) (inputs.back_in x x_in)).uni l (outs_back y) at.3
          (λ s. left (subst (λ k. Left x y k) (sym at.0)
          (subst (λ v. Left x v m) (outputs.to_back y at.2)
          (subst (λ u. Left u (outs (outs_back y)) m) (inputs.to_back x x_in) (matched_alike.to.carried (ins_back x) (outs_back y) s))))) in
          subst (λ k. Names (row_of (New next) x) k Uni y) (sym at.0) (names_for n ins_back outs_back l m m_in next x y x_in at.2 again);
      multi = λ level y named left. let kind = (named_for n ins_back outs_back l m m_in slot.rows x y level Multi x_in named).1 in absurd (cc);
    }

    served_anew : (i j : ℕ) → Serves slot.decision.matched i j l Uni → Serves (redecision t later slot.rows).matched (ins i) (outs j) m Uni
    served_anew i j s = matched_alike.to.carried i j s

    left_anew : (i j : ℕ) → i < n → j < n → (Serves slot.decision.matched i j l Uni → ⊥)
        → Serves (redecision t later slot.rows).matched (ins i) (outs j) m Uni → ⊥
    left_anew i j i_in j_in left s =
        left (subst (λ u. Serves slot.decision.matched u j l Uni) (inputs.back_to i i_in)
        (subst (λ v. Serves slot.decision.matched (ins_back (ins i)) v l Uni) (outputs.back_to j j_in) (matched_alike.back.carried (ins i) (outs j) s)))

  -- the slots decided anew are a schedule, keep what the slots keep, and serve last what they serve last
  pub record IsAnew (t : ℕ) (later : Places) (i j : ℕ) (slots : List DecidedSlot) : Type 0 where
    pub schedule : IsSchedule n rounds t later (redecided t later slots)
    pub kept : AreKept n (redecided t later slots)
    pub last : ServeLast i j l slots → ServeLast (ins i) (outs j) m (redecided t later slots)

  pub slots_anew : (slots : List DecidedSlot) (t : ℕ) (places later : Places) → IsWindow n rounds t l places slots → All (λ slot. OnlyAt n l slot.rows) slots
      → IsSwitch n later → PointAlike n ins outs l m places later → (i j : ℕ) → i < n → j < n → IsAnew t later i j slots
  slots_anew [] t places later window alone switch pointers i j i_in j_in = record { schedule = tt; kept = tt; last = λ none. none }
  slots_anew (slot ∷ slots) t places later window alone switch pointers i j i_in j_in =
      let now = first_slot n rounds t l places slot slots window in
      let rest = later_slots n rounds t l places slot slots window (omega arith) in
      let alone_here = All-head (λ s. OnlyAt n l s.rows) slot slots alone in
      let next = slots_anew slots (t + 1) slot.decision.places (redecision t later slot.rows).places rest (All-tail (λ s. OnlyAt n l s.rows) slot slots alone)
      (IsSwitch-anew t places later slot now alone_here switch pointers)
      (pointers_after t places later slot now alone_here switch pointers rest.pointing.grant rest.pointing.accept) i j i_in j_in in
      record {
        schedule = (anew t places later slot now alone_here switch pointers, next.schedule);
        kept = (kept_anew slots window.kept.0, next.kept);
        last = last_anew slots next.last;
      } where
        here : IsWindowSlot n rounds t l places slot
        here = first_slot n rounds t l places slot slots window

        only_here : OnlyAt n l slot.rows
        only_here = All-head (λ s. OnlyAt n l s.rows) slot slots alone

        kept_anew : (rest : List DecidedSlot) → InFirst (λ rows. (x : ℕ) → x < n → Keeps slot.decision.matched x (row_of slot.rows x) (row_of rows x)) rest
            → InFirst (λ rows. (x : ℕ) → x < n → Keeps (redecision t later slot.rows).matched x (row_of (New slot.rows) x) (row_of rows x))
            (redecided (t + 1) (redecision t later slot.rows).places rest)
        kept_anew [] kept = tt
        kept_anew (follows ∷ rest) kept = keeps_anew t places later slot here only_here switch pointers follows.rows kept

        last_anew : (rest : List DecidedSlot)
            → (ServeLast i j l rest → ServeLast (ins i) (outs j) m (redecided (t + 1) (redecision t later slot.rows).places rest))
            → ServeLast i j l (slot ∷ rest) → ServeLast (ins i) (outs j) m (redecided t later (slot ∷ rest))
        last_anew [] on last = served_anew t places later slot here only_here switch pointers i j last
        last_anew (follows ∷ rest) on last = (left_anew t places later slot here only_here switch pointers i j i_in j_in last.0, on last.1)
